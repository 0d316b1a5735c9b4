use Rattle.std.proofs.Common.{◌≡◌, ℕ, Bool, All, List, Some, length, map}
use Rattle.pc_merge.specs.Standings.{AreWithin}
use Rattle.pc_merge.specs.Coming.{Coming}
use Rattle.pc_merge.specs.Drawing.{AreFirstsDrawn}
use Rattle.pc_merge.specs.Inputs.{all_known}
use Rattle.pc_merge.proofs.newest.draw_firsts.Given as goal

abbrev pub invariant-loop-place : goal.invariant-loop-place
invariant-loop-place g l = record {
  size : length l.inputs ≡ length l.firsts;
  stand : map g.E.Entries.standing l.inputs ≡ map g.E.Entries.standing l.fn.inputs;
  within : (points : ℕ → Bool) → All (λ input. g.E.Entries.within input points) l.fn.inputs → AreWithin g.E.Entries.within points l.inputs l.firsts;
  opened : (was : List Coming) → all_known (map g.E.Entries.coming l.fn.inputs) ≡ Some was → AreFirstsDrawn (map g.E.Entries.coming l.inputs) l.firsts l.place was;
}
