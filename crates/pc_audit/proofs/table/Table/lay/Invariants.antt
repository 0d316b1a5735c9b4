use Rattle.std.proofs.Common.{◌≡◌, drop}
use Rattle.pc_replay.specs.Laying.{laid_in_turn}
use Rattle.pc_audit.proofs.table.Table.lay.Given as goal

abbrev pub invariant-loop-triple : goal.invariant-loop-triple
invariant-loop-triple l = laid_in_turn l.self l.fn.point (drop l.triple-index l.triples) ≡ laid_in_turn l.fn.self l.fn.point l.triples
