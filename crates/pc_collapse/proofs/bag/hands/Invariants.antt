use Rattle.std.proofs.Common.{◌≡◌, ◌+◌, ◌≤◌, []}
use Rattle.std.specs.Prelude.{All, vec_len, vec_capacity}
use Rattle.crossbeam_queue.specs.Passes.{view, IsPassOf}
use Rattle.pc_collapse.specs.Bags.{IsReady, all_parts}
use Rattle.pc_collapse.proofs.bag.hands.Given as goal

abbrev pub invariant-loop-number : goal.invariant-loop-number
invariant-loop-number g l =
    IsPassOf l.bag l.pass × ((view l.pass).held ≡ []) × ((view l.pass).parts + l.number ≡ all_parts) × (vec_len l.all ≡ l.number) × (l.workers ≤ vec_capacity l.all) × All (IsReady l.bag) l.all.items
