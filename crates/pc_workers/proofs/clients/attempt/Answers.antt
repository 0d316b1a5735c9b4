use Rattle.pc_workers.proofs.AttemptLaws.{aborted_at, not_committed}
use Rattle.pc_workers.proofs.BeginLaws.{attempt_begins, course_begins}
use Rattle.pc_workers.proofs.clients.attempt.Goals as goal

pub returns-in-Refused-clause-attempt : goal.returns-in-Refused-clause-attempt
returns-in-Refused-clause-attempt g c = λ idle.
    aborted_at g.N.StoreName.name.setting c.args.session.now.number c.args.ops.now c.transact-ended.result c.args.session.now.seen c.transact-ended.new.session.seen c.abort_open-in-Refused.new.session.seen
    c.transact-ended.new.session.number c.transact-ended.ensures.receipts.number (not_committed c.transact-ended.result c.in-Refused.is) c.transact-ended.ensures.course idle c.abort_open-in-Refused.ensures.open
    c.abort_open-in-Refused.ensures.idle

pub returns-in-Committed-clause-begins : goal.returns-in-Committed-clause-begins
returns-in-Committed-clause-begins g c = course_begins g.N.StoreName.name.setting c.args.session.now.number c.args.ops.now c.transact-ended.result c.args.session.now.seen c.transact-ended.new.session.seen c.transact-ended.ensures.course

pub returns-in-Died-clause-begins : goal.returns-in-Died-clause-begins
returns-in-Died-clause-begins g c =
    attempt_begins g.N.StoreName.name.setting c.args.session.now.number c.transact-ended.new.session.number c.args.ops.now c.transact-ended.result c.args.session.now.seen c.transact-ended.new.session.seen c.abort_open.new.session.seen c.transact-ended.ensures.course
    c.abort_open.ensures.open c.abort_open.ensures.idle

pub returns-in-Refused-clause-begins : goal.returns-in-Refused-clause-begins
returns-in-Refused-clause-begins g c =
    attempt_begins g.N.StoreName.name.setting c.args.session.now.number c.transact-ended.new.session.number c.args.ops.now c.transact-ended.result c.args.session.now.seen c.transact-ended.new.session.seen c.abort_open-in-Refused.new.session.seen c.transact-ended.ensures.course
    c.abort_open-in-Refused.ensures.open c.abort_open-in-Refused.ensures.idle
