use Rattle.std.proofs.Common.{◌≤◌, length, ap, subst, arith}
use Rattle.pc_model.specs.History.{History, log_of}
use Rattle.pc_model.specs.Calls.{IsBeginning}
use Rattle.pc_tie.specs.Seats.{KeeperView}
use Rattle.pc_latch.proofs.Passing.{still_within}
use Rattle.pc_latch.proofs.latched.Latched.log_len_since.Goals as goal

pub returns-clause-seen : goal.returns-clause-seen
returns-clause-seen g c =
    let hist = c.self.inside.keeper.history in
    let seen = c.args.checkpointer.now in
    let all : length (log_of seen) ≤ length (log_of seen) = omega arith in
    let grown = still_within (length (log_of seen)) seen hist c.compare_own.ensures.knew.0 all in
    omega (arith, grown, c.log_len.ensures.len, ap (λ (k : KeeperView). length (log_of k.history)) c.compare_own.ensures.same.0)

pub returns-clause-had_seen : goal.returns-clause-had_seen
returns-clause-had_seen g c = subst (λ (h : History). IsBeginning c.args.checkpointer.now h) c.self.view_is c.compare_own.ensures.knew.0
