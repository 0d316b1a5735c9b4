use Rattle.std.proofs.Common.{◌≡◌, All, subst, sym}
use Rattle.std.proofs.lemmas.List.Elements.{All-head, All-tail}
use Rattle.std.proofs.lemmas.Result.{err_from_is_err_and}
use Rattle.pc_workers.specs.Covering.{HaveOnlyTo}
use Rattle.pc_workers.proofs.CoverLaws.{both_to}
use Rattle.pc_threads.proofs.threads.join_collapsers.Goals as goal

pub loop-handle-preserved : goal.loop-handle-preserved
loop-handle-preserved g c points promised =
    let was = c.loop-handle.invariant points promised in
    let first = c.in-Some.handle in
    let others = c.next.new.self.rest.items in
    let rest = subst (All (λ handle. handle.promise.0 ≡ points)) c.in-Some.ensures.steps.0 was.0 in
    let its : first.promise.0 ≡ points = All-head (λ handle. handle.promise.0 ≡ points) first others rest in (
      All-tail (λ handle. handle.promise.0 ≡ points) first others rest,
      subst (HaveOnlyTo points) (sym c.in_ok-append.ensures.items)
          (both_to points c.loop-handle.held.items c.in_ok-tickets.tickets.items was.1 (subst (λ most. HaveOnlyTo most c.in_ok-tickets.tickets.items) its c.in_ok-tickets.ensures.0)),
    )

pub returns-in_err-tickets-clause-ended : goal.returns-in_err-tickets-clause-ended
returns-in_err-tickets-clause-ended g c =
    let p = err_from_is_err_and c.from_residual.result c.from_residual.ensures.1 in
    rw (p.1, p.2) c.in_err-tickets.ensures.1
