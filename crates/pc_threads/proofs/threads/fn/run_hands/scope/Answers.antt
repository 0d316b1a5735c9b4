use Rattle.std.proofs.Common.{◌≡◌, [], ◌∷◌, All, subst, sym, ap}
use Rattle.std.proofs.lemmas.Result.{err_from_is_err_and}
use Rattle.std.proofs.lemmas.List.Elements.{All-nil, All-cons, All-append}
use Rattle.pc_workers.specs.Covering.{HaveOnlyTo}
use Rattle.pc_threads.specs.Clients.{clients_in, transactions_in}
use Rattle.pc_threads.proofs.StopLaws.{memory_stops}
use Rattle.pc_threads.proofs.threads.fn.run_hands.scope.Goals as goal

pub loop-collapser-preserved : goal.loop-collapser-preserved
loop-collapser-preserved g c =
    let points = c.captures.points in
    let first = c.in-Ok.handle in
    let its : first.promise.0 ≡ points = ap (λ promise. promise.0) c.in-Ok.ensures.ok in
    let more = All-cons (λ handle. handle.promise.0 ≡ points) first [] its (All-nil (λ handle. handle.promise.0 ≡ points)) in (
      tt,
      tt,
      subst (All (λ handle. handle.promise.0 ≡ points)) (sym c.in-Ok-push.ensures.items)
          (All-append (λ handle. handle.promise.0 ≡ points) c.loop-collapser.handles.items (first ∷ []) c.loop-collapser.invariant.2 more),
    )

pub returns : goal.returns
returns g c =
    let only = c.in_ok-held.ensures.only c.captures.points c.loop-collapser.invariant.2 in
    record {
      left = record { worked = c.in_ok-worked.ensures.left; held = subst (λ n. HaveOnlyTo n c.in_ok-held.held.items) c.requires.points only };
      refusals = c.in_ok-worked.ensures.refusals;
      ended = λ fresh. tt;
    }

pub returns-in_err-worked : goal.returns-in_err-worked
returns-in_err-worked g c =
    let p = err_from_is_err_and c.from_residual.result c.from_residual.ensures.1 in
    rw (p.1, p.2) (record { left = tt; refusals = tt; ended = λ fresh. c.in_err-worked.ensures.ended fresh })

pub returns-in_err-held : goal.returns-in_err-held
returns-in_err-held g c =
    let p = err_from_is_err_and c.from_residual-in_err-held.result c.from_residual-in_err-held.ensures.1 in
    let n = transactions_in (clients_in c.captures.workers.items) in
    rw (p.1, p.2) (record { left = tt; refusals = tt; ended = λ fresh. memory_stops n c.captures.room.now.points c.in_err-held.field-0.0 c.in_err-held.ensures.ended })
