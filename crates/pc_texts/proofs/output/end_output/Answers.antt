use Rattle.std.proofs.Common.{inl}
use Rattle.pc_texts.proofs.OutputLaws.{flush_counts}
use Rattle.pc_texts.proofs.output.end_output.Goals as goal

pub returns-in-Err-clause-unprinted : goal.returns-in-Err-clause-unprinted
returns-in-Err-clause-unprinted g c = inl (let is = c.in-Err.is in cc, flush_counts c.flush-flushed.result _ _ c.flush-flushed.ensures.counts)
