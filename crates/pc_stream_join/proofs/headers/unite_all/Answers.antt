use Rattle.std.proofs.Common.{add-one, sym, ap, ◌∙◌, arith}
use Rattle.std.specs.Prelude.{take}
use Rattle.pc_model.specs.Sets as set
use Rattle.pc_part.specs.Parts.{points_of}
use Rattle.pc_streams.specs.Readers.{ranges_read}
use Rattle.pc_stream_join.specs.Headers.{points_read}
use Rattle.pc_stream_join.proofs.UnionLaws.{read_more, some_long}
use Rattle.pc_stream_join.proofs.headers.unite_all.Goals as goal

pub loop-input-preserved : goal.loop-input-preserved
loop-input-preserved g c = record {
  none = λ bad. absurd (omega (arith, bad));
  apart = λ some. c.in_ok-all.ensures.apart;
  points = c.in_ok-all.ensures.points ∙ rw (c.deref.ensures.value, c.ranges-in-loop-input.ensures, c.loop-input.invariant.points, add-one) (sym (read_more c.args.inputs.now c.loop-input.input-index c.input-item.result (omega arith) ∙ ap (λ input. set.union (points_read (take c.loop-input.input-index c.args.inputs.now)) (points_of (ranges_read input))) (sym c.input-item.is)));
}

pub returns-clause-apart : goal.returns-clause-apart
returns-clause-apart g c = λ some. c.loop-input.invariant.apart (let many = some_long c.args.inputs.now some in omega arith)
