use Rattle.std.proofs.lemmas.Result.{err_from_is_err_and}
use Rattle.pc_kept_log.specs.Logs.{entries_of}
use Rattle.pc_turn.proofs.TurnLaws.{put_and_cut, put_and_kept}
use Rattle.pc_turn.proofs.turn.put_log.Goals as goal

pub returns-in_err-safe-clause-out : goal.returns-in_err-safe-clause-out
returns-in_err-safe-clause-out g c =
    let p = err_from_is_err_and c.from_residual-in_err-safe.result c.from_residual-in_err-safe.ensures.1 in
    rw (p.1)
    (put_and_cut g.L.LogDevice.written g.L.LogDevice.kept c.args.log.now c.put_behind.new.log c.keep_due.new.log (entries_of c.args.kept.now) c.args.lag c.len-all.result c.args.marks.now c.len-all.ensures c.in_ok-put_behind.ensures.appended c.in_err-safe.ensures.0 c.in_err-safe.ensures.1
    c.in_err-safe.ensures.2)

pub returns-clause-out : goal.returns-clause-out
returns-clause-out g c =
    put_and_kept g.L.LogDevice.written g.L.LogDevice.kept c.args.log.now c.put_behind.new.log c.keep_due.new.log (entries_of c.args.kept.now) c.args.lag c.len-all.result c.args.marks.now c.in_ok-safe.safe c.len-all.ensures c.in_ok-put_behind.ensures.appended
    (λ none. (c.in_ok-put_behind.ensures.none none).1) c.in_ok-safe.ensures.0 c.in_ok-safe.ensures.1 c.in_ok-safe.ensures.2
