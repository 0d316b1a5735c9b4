use Rattle.std.proofs.Common.{◌≤◌, arith, length, rules}
use Rattle.pc_types.specs.declared.limits.TheConstants.{MOST_WRITES}
use Rattle.pc_records.specs.NewKeys.{new_keys}
use Rattle.pc_records.proofs.NewKeyLaws.{no_more_new}
use Rattle.pc_transactions.specs.Ongoing.{own_transaction}
use Rattle.pc_transactions.specs.Sessions.{writes_in}
use Rattle.pc_engine.proofs.Causes.{commit_refused}
use Rattle.pc_engine.proofs.Within.{committed_within}
use Rattle.pc_engine.proofs.world.World.commit_transaction.Goals as goal

pub returns-in-Some : goal.returns-in-Some
returns-in-Some c = commit_refused c.args.self.now c.args.session c.in-Some.why c.in-Some.ensures

pub append_commit-number-requires-clause-room : goal.append_commit-number-requires-clause-room
append_commit-number-requires-clause-room c =
    let room : c.commit_size.result ≤ c.reserve.new.self.open.room = search rules in
    rw (← c.commit_size.ensures c.args.session) room

pub invariant_of-self-2 : goal.invariant_of-self-2
invariant_of-self-2 c =
    let was = c.self.inside.sessions in
    let few : length (writes_in (own_transaction was c.args.session)) ≤ MOST_WRITES = rw c.writes-writes.ensures.writes at c.writes-writes.ensures.few in
    rw c.commit.ensures (committed_within _ _ _ _ _ c.self.invariant _ _ (new_keys was.kept.rows (writes_in (own_transaction was c.args.session))) _ few (omega (arith, few, no_more_new was.kept.rows (writes_in (own_transaction was c.args.session)))) (rw (c.reserve.ensures.entries, c.writes-writes.ensures.writes) at c.append_commit-number.ensures.entries))
