use Rattle.std.proofs.Common.{◌≡◌, drop}
use Rattle.pc_replay.specs.Laying.{laid_in_turn}
use Rattle.pc_replay.proofs.laying.lay_in_turn.Given as goal

abbrev pub invariant-loop-triple : goal.invariant-loop-triple
invariant-loop-triple l = laid_in_turn l.pairs l.point (drop l.triple-index l.triples) ≡ laid_in_turn l.base l.point l.triples
