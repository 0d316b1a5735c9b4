use Rattle.std.proofs.Common.{◌+◌, ◌≤◌, subst, sym, List, Option, ℕ, length}
use Rattle.pc_engine.proofs.FirstClosed.{first_key}
use Rattle.pc_engine.proofs.Gathered.{length_put}
use Rattle.pc_engine.proofs.Within.{taken_within}
use Rattle.pc_engine.proofs.world.World.take_key.Goals as goal

pub invariant_of-self-2 : goal.invariant_of-self-2
invariant_of-self-2 c =
    let was = c.self.inside.sessions in
    let found = first_key was.kept.rows was.closed_set c.in-Some.first.now _ c.in-Some.ensures in
    let few = subst (λ (ts : List (List ℕ × Option (List ℕ))). length ts ≤ length c.self.inside.taken + 1) (sym c.in-Ok-put.ensures.put) (length_put _ _ c.self.inside.taken) in
    rw (c.take.ensures c.in-Some.first.now found.0 found.1) (taken_within _ _ _ _ _ c.self.invariant c.in-Some.first.now found.0 _ found.1 few)
