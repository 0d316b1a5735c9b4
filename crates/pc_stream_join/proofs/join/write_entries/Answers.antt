use Rattle.std.proofs.Common.{◌≡◌, Bool, true, false, Ok, subst, arith}
use Rattle.pc_stream_join.specs.Steps.{StepsOn}
use Rattle.pc_stream_join.proofs.StepLaws.{finished}
use Rattle.pc_stream_join.proofs.join.write_entries.Goals as goal

pub returns-then-not-branch : goal.returns-then-not-branch
returns-then-not-branch g c = λ begun joining.
    let so = (c.loop.invariant.joining begun joining).0 in
    let steps = c.in_ok-write_next.ensures.steps begun so in
    let is : c.in_ok-write_next.field-0 ≡ false = c.if-not-branch.true in
    let all = subst (λ (b : Bool). StepsOn g.R.Read.remaining g.W.Write.contents begun c.loop.writer.count c.write_next.new.inputs c.write_next.new.merge c.write_next.new.writer c.write_next.new.out (Ok b)) is steps in
    finished g.R.Read.remaining g.W.Write.contents begun c.write_next.new.inputs c.write_next.new.writer c.write_next.new.out c.end.new.out c.end.result all c.end.ensures

pub loop-preserved : goal.loop-preserved
loop-preserved g c = record {
  together = c.in_ok-write_next.ensures.together;
  joining = λ begun joining.
      let so = c.loop.invariant.joining begun joining in
      let steps = c.in_ok-write_next.ensures.steps begun so.0 in
      let is : c.in_ok-write_next.field-0 ≡ true = c.if-not-branch.false in
      let next = subst (λ (b : Bool). StepsOn g.R.Read.remaining g.W.Write.contents begun c.loop.writer.count c.write_next.new.inputs c.write_next.new.merge c.write_next.new.writer c.write_next.new.out (Ok b)) is steps in
      (next.0, (let one = next.1 in let before = so.1 in omega arith));
}

pub returns : goal.returns
returns g c = λ begun joining.
    let so = c.loop.invariant.joining begun joining in
    let many = so.0.so_far.many in let few = so.0.so_far.few in let all = so.1 in absurd (omega arith)
