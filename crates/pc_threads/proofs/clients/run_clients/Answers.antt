use Rattle.std.proofs.Common.{◌+◌, ◌++◌, List, [], ◌∷◌, sym, subst}
use Rattle.std.specs.Prelude.{is_some}
use Rattle.std.proofs.lemmas.Result.{err_from_is_err_and}
use Rattle.pc_shared.specs.Sitters.{Sitter}
use Rattle.pc_threads.specs.Clients.{HaveWorked}
use Rattle.pc_threads.proofs.ClientLaws.{over_one, worked_more}
use Rattle.pc_threads.proofs.StopLaws.{at_most, client_stops, clients_at_most, clients_count}
use Rattle.pc_threads.proofs.clients.run_clients.Goals as goal

pub loop-seated-preserved : goal.loop-seated-preserved
loop-seated-preserved g c =
    let st = g.N.StoreName.name.setting in
    let old = c.loop-seated in
    let was = old.invariant in
    let client = c.in-Some.seated.client in
    let clients = was.0 ++ client ∷ [] in (
      clients,
      over_one _ was.0 c.in-Some.seated c.next.new.self.rest.items old.seated-iterator.rest.items _ c.in-Some.ensures.steps.0 was.1,
      subst (λ n. HaveWorked st clients n c.push.new.self.items) (sym c.in_ok-given_up.ensures.sum)
          (subst (λ (sessions : List Sitter). HaveWorked st clients (old.given_up + c.in_ok-session.more) sessions) (sym c.in_ok-push.ensures.items)
          (worked_more st was.0 old.given_up old.sessions.items client c.in_ok-session.more c.in_ok-session.session was.2 c.in_ok-session.ensures.worked)),
    )

pub returns-in_err-session-clause-stopped : goal.returns-in_err-session-clause-stopped
returns-in_err-session-clause-stopped g c =
    let old = c.loop-seated in
    let p = err_from_is_err_and c.from_residual-in_err-session.result c.from_residual-in_err-session.ensures.1 in
    rw (p.1, p.2)
    (client_stops (is_some c.args.room.now.lag) _ old.invariant.0 c.in-Some.seated c.next.new.self.rest.items old.seated-iterator.rest.items _ c.in-Some.ensures.steps.0 old.invariant.1 c.in_err-session.field-0.0
    c.in_err-session.ensures.stopped)

pub returns-in_err-given_up-clause-stopped : goal.returns-in_err-given_up-clause-stopped
returns-in_err-given_up-clause-stopped g c =
    let old = c.loop-seated in
    let p = err_from_is_err_and c.from_residual-in_err-given_up.result c.from_residual-in_err-given_up.ensures.1 in
    rw (p.1, p.2)
    (clients_count (is_some c.args.room.now.lag) _ old.invariant.0 c.in-Some.seated c.next.new.self.rest.items old.seated-iterator.rest.items _ c.in-Some.ensures.steps.0 old.invariant.1 old.given_up
    c.in_ok-session.more c.in_err-given_up.field-0.0 (clients_at_most _ _ _ _ old.invariant.2) (at_most _ _ _ _ _ c.in_ok-session.ensures.worked) c.in_err-given_up.ensures.full)
