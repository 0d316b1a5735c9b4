use Rattle.std.proofs.Common.{◌≡◌, ◌≤◌, ◌-◌, List, length, subst, sym, arith}
use Rattle.std.proofs.lemmas.Grind.{common_steps}
use Rattle.pc_types.specs.declared.Write.{Write}
use Rattle.pc_types.specs.declared.limits.TheConstants.{MOST_WRITES}
use Rattle.pc_transactions.specs.Sessions.{actives_of, writes_in}
use Rattle.pc_transactions.specs.Actives.{active_in}
use Rattle.pc_transactions.proofs.sessions.Sessions.writes.Goals as goal

pub returns-in-Some-clause-few : goal.returns-in-Some-clause-few
returns-in-Some-clause-few c =
    let mine : c.as_slice.result.now ≡ writes_in (active_in (actives_of c.self.inside.lanes.items) c.args.session) = grind (arith, common_steps) in
    subst (λ (ws : List Write). length ws ≤ MOST_WRITES) (sym mine) (c.self.invariant.few (c.args.session - 1))
