use Rattle.std.proofs.Common.{◌≡◌, ◌++◌, All, Bool, List, inr, subst, arith}
use Rattle.std.proofs.lemmas.List.Elements.{All-head, All-tail}
use Rattle.std.proofs.lemmas.Result.{err_from_is_err_and}
use Rattle.pc_jobs.specs.declared.works.Client.{Client}
use Rattle.pc_threads.specs.Clients.{HaveStopped, transactions_in}
use Rattle.pc_threads.proofs.ClientLaws.{over_some}
use Rattle.pc_threads.proofs.StopLaws.{both_stop, clients_at_most, of_worker, stopped_ends, wider_workers}
use Rattle.pc_threads.proofs.threads.join_workers.Goals as goal

pub loop-handle-preserved : goal.loop-handle-preserved
loop-handle-preserved g c =
    let was = c.loop-handle.invariant in
    let first = c.in-Some.handle in
    let others = c.next.new.self.rest.items in
    let clients = first.promise.0.value in (
      was.0 ++ clients,
      over_some _ was.0 first others c.loop-handle.handle-iterator.rest.items _ c.in-Some.ensures.steps.0 was.1,
      c.in_ok-all.ensures.worked was.0 clients was.2 c.in_ok-ran.ensures.0,
      (λ has_log promised. All-tail (λ handle. handle.promise.1 ≡ has_log) first others (subst (All (λ handle. handle.promise.1 ≡ has_log)) c.in-Some.ensures.steps.0 (was.3 has_log promised))),
    )

pub returns-in_err-ran-clause-ended : goal.returns-in_err-ran-clause-ended
returns-in_err-ran-clause-ended g c has_log promised =
    let p = err_from_is_err_and c.from_residual.result c.from_residual.ensures.1 in
    let was = c.loop-handle.invariant in
    let first = c.in-Some.handle in
    let others = c.next.new.self.rest.items in
    let why = c.in_err-ran.field-0.0 in
    let clients : List Client = first.promise.0.value in
    let its : first.promise.1 ≡ has_log = All-head (λ handle. handle.promise.1 ≡ has_log) first others (subst (All (λ handle. handle.promise.1 ≡ has_log)) c.in-Some.ensures.steps.0 (was.3 has_log promised)) in
    let part = of_worker _ was.0 first others c.loop-handle.handle-iterator.rest.items _ c.in-Some.ensures.steps.0 was.1 in
    rw (p.1, p.2)
    (wider_workers has_log (transactions_in clients) _ why (omega (arith, part))
    (stopped_ends has_log clients why (subst (λ (b : Bool). HaveStopped b clients why) its c.in_err-ran.ensures.1)))

pub returns-in_err-all-clause-ended : goal.returns-in_err-all-clause-ended
returns-in_err-all-clause-ended g c has_log promised =
    let p = err_from_is_err_and c.from_residual-in_err-all.result c.from_residual-in_err-all.ensures.1 in
    let st = g.N.StoreName.name.setting in
    let was = c.loop-handle.invariant in
    let first = c.in-Some.handle in
    let all = c.loop-handle.all in
    let ran = c.in_ok-ran.ran in
    let part = of_worker _ was.0 first c.next.new.self.rest.items c.loop-handle.handle-iterator.rest.items _ c.in-Some.ensures.steps.0 was.1 in
    let before = clients_at_most st was.0 all.given_up all.sessions.items was.2 in
    let own = clients_at_most st first.promise.0.value ran.given_up ran.sessions.items c.in_ok-ran.ensures.0 in
    rw (p.1, p.2) (inr (both_stop _ all.given_up ran.given_up _ (omega (arith, part, before, own)) c.in_err-all.ensures.stopped))
