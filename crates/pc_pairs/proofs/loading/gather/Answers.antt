use Rattle.std.proofs.lemmas.Result.{err_from_is_err_and}
use Rattle.pc_pairs.proofs.LoadLaws.{line_added, line_faulty}
use Rattle.pc_pairs.proofs.loading.gather.Goals as goal

pub loop-i-preserved : goal.loop-i-preserved
loop-i-preserved c = line_added c.args.form c.args.lines.now c.loop-i.i _ c.loop-i-test.true c.loop-i.gathered c.add_line.new.gathered _ c.in_ok-add_line.ensures.added c.loop-i.invariant

pub returns-in_err-add_line-clause-ungathered : goal.returns-in_err-add_line-clause-ungathered
returns-in_err-add_line-clause-ungathered c =
    let p = err_from_is_err_and c.from_residual.result c.from_residual.ensures.1 in
    rw (p.1, p.2) (line_faulty c.args.form c.args.lines.now c.loop-i.i _ c.loop-i-test.true c.loop-i.gathered c.in_err-add_line.field-0.0 _ c.in_err-add_line.ensures.fault c.loop-i.invariant)
