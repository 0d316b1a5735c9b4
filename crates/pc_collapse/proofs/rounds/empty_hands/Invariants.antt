use Rattle.std.proofs.Common.{◌≡◌, []}
use Rattle.std.specs.Prelude.{vec_len}
use Rattle.pc_collapse.specs.Rounds.{dealt_files}
use Rattle.pc_collapse.proofs.rounds.empty_hands.Given as goal

abbrev pub invariant-loop-number : goal.invariant-loop-number
invariant-loop-number g l = (vec_len l.all ≡ l.number) × (dealt_files l.all.items ≡ [])
