use Rattle.std.proofs.Common.{◌≡◌, replicate, None}
use Rattle.pc_merge.proofs.tournament.empty_places.Given as goal

abbrev pub invariant-loop : goal.invariant-loop
invariant-loop l = l.all.items ≡ replicate l.counter None
