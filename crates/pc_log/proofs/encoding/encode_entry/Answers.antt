use Rattle.std.proofs.lemmas.Result.{err_from_is_err_and}
use Rattle.pc_log.proofs.CommitTexts.{commit_then, commit_stops}
use Rattle.pc_log.proofs.encoding.encode_entry.Goals as goal

pub returns-in_err-put_commit_head-in-Commit : goal.returns-in_err-put_commit_head-in-Commit
returns-in_err-put_commit_head-in-Commit g c =
    let p = err_from_is_err_and c.from_residual.result c.from_residual.ensures.1 in
    rw (p.1, p.2) (commit_stops g.W.Write.contents c.args.entry.now c.in-Commit.session c.in-Commit.writes c.as_slice-writes.result.now c.in-Commit.is c.as_slice-writes.ensures c.args.out.now c.put_commit_head.new.out c.in_err-put_commit_head-in-Commit.field-0.0 c.in_err-put_commit_head-in-Commit.ensures)

pub returns-in_ok-put_commit_head-in-Commit : goal.returns-in_ok-put_commit_head-in-Commit
returns-in_ok-put_commit_head-in-Commit g c =
    commit_then g.W.Write.contents c.args.entry.now c.in-Commit.session c.in-Commit.writes c.as_slice-writes.result.now c.in-Commit.is c.as_slice-writes.ensures c.args.out.now c.put_commit_head.new.out c.put_writes.new.out c.put_writes.result c.in_ok-put_commit_head-in-Commit.ensures c.put_writes.ensures
