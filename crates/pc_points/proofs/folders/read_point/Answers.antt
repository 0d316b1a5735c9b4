use Rattle.std.proofs.Common.{inl, inr, refl}
use Rattle.pc_points.proofs.PointSteps.{memory_or, state_refused}
use Rattle.pc_points.proofs.folders.read_point.Goals as goal

pub returns-clause-cause : goal.returns-clause-cause
returns-clause-cause g c = inr (
  c.in-Err-state_of.why,
  refl,
  c.in-Ok.ensures.opened,
  elim (memory_or c.in-Err-state_of.why) [
    | inl memory ↦ inl memory
    | inr other ↦ inr (
      state_refused c.args.point _ _ _ c.in-Err-state_of.why (c.in-Err-state_of.ensures.rules other),
      λ base names parts log holds.
          let held = c.in-Ok.ensures.held base names parts log holds in
          rw (← held.0, ← held.2, ← held.3) (c.in-Err-state_of.ensures.rules other),
    )
  ],
)
