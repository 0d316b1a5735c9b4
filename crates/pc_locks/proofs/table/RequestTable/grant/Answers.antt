use Rattle.std.proofs.Common.{◌≤◌, length, sym, ◌∙◌, ap, arith}
use Rattle.pc_locks.specs.Lines.{next_id, ids_of}
use Rattle.pc_locks.specs.Tables.{links_in}
use Rattle.pc_locks.proofs.Grants.{grant_step, grant_halt, grant_all, grant_end}
use Rattle.pc_locks.proofs.LineLemmas.{fits}
use Rattle.pc_locks.proofs.QueueLines.{next_listed}
use Rattle.pc_locks.proofs.table.RequestTable.grant.Goals as goal

pub returns-then-not-fits-clause-granted : goal.returns-then-not-fits-clause-granted
returns-then-not-fits-clause-granted c =
    grant_halt _ _ _ c.loop.is_first c.loop.are_shared c.stay_shared-are_shared.result c.loop.at c.loop.counter c.in-Some.id c.request-request.result c.loop.invariant.2 c.in-Some.is
    c.request-request.ensures c.stay_shared-are_shared.ensures (sym c.fits.ensures ∙ c.if-not-fits.true)

pub loop-preserved : goal.loop-preserved
loop-preserved c =
    let links = c.write.ensures.links ∙ c.loop.invariant.0 in (
      links,
      c.write.ensures.entries ∙ c.loop.invariant.1,
      grant_step _ _ _ _ c.loop.is_first c.loop.are_shared c.stay_shared-are_shared.result c.loop.at c.next-at.result c.loop.counter c.in-Some.id c.request-request.result c.loop.invariant.2 c.in-Some.is
          c.request-request.ensures c.stay_shared-are_shared.ensures (sym c.fits.ensures ∙ c.if-not-fits.false)
          c.write.ensures.written c.write.ensures.others
          (λ before rest e. c.next-at.ensures ∙ (ap (λ l. next_id l c.in-Some.id) links ∙ next_listed (links_in c.args.self.now.nodes.slots) c.args.queue c.in-Some.id before rest c.requires.line e)),
    )

pub returns-clause-granted : goal.returns-clause-granted
returns-clause-granted c =
    let links = links_in c.args.self.now.nodes.slots in
    let n = fits links c.args.queue (ids_of links c.args.queue) c.requires.line in
    let h : length (ids_of links c.args.queue) ≤ c.loop.counter = omega (arith, n, c.loop-test.false, c.most_ids-end.ensures) in
    grant_end _ _ _ _ _ _ _ c.loop.invariant.2 (grant_all _ _ _ _ _ _ _ c.loop.invariant.2 h)
