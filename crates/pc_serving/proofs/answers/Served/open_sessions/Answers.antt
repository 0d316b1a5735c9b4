use Rattle.std.proofs.Common.{◌≡◌, ap, ◌∙◌, arith}
use Rattle.pc_types.specs.declared.limits.TheConstants.{MOST_SESSIONS}
use Rattle.pc_serving.specs.OpenSessions.{counted_to, opens_now}
use Rattle.pc_serving.proofs.OpenLaws.{open_told}
use Rattle.pc_serving.proofs.answers.Served.open_sessions.Goals as goal

pub returns-clause-told : goal.returns-clause-told
returns-clause-told c = λ st history serves.
    let all : c.loop-place.place ≡ MOST_SESSIONS = omega (arith, c.loop-place-test.false, c.loop-place.auto.place-end) in
    (c.loop-place.invariant.counted ∙ ap (counted_to (opens_now c.args.self.now.world)) all) ∙ open_told st c.args.self.now.world c.args.self.now.waiting history serves
