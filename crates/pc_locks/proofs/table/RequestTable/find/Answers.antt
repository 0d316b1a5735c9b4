use Rattle.std.proofs.Common.{◌∙◌, ◌≤◌, length, sym, ap, arith}
use Rattle.pc_locks.specs.Lines.{ids_of}
use Rattle.pc_locks.specs.Tables.{links_in, passes}
use Rattle.pc_locks.proofs.LineLemmas.{fits}
use Rattle.pc_locks.proofs.QueueLines.{next_listed}
use Rattle.pc_locks.proofs.Walks.{walk_on, walk_all, walk_end}
use Rattle.pc_locks.proofs.table.RequestTable.find.Goals as goal

pub loop-preserved : goal.loop-preserved
loop-preserved c = walk_on _ _ c.args.test _ _ _ _ c.in-Some.id c.loop.invariant c.in-Some.is (ap (passes c.args.test) (sym c.request.ensures) ∙ sym c.if-passes.ensures) (λ before rest e. c.next-at.ensures ∙ next_listed (links_in c.args.self.now.nodes.slots) c.args.queue c.in-Some.id before rest c.requires e)

pub returns-clause-none : goal.returns-clause-none
returns-clause-none c =
    let links = links_in c.args.self.now.nodes.slots in
    let n = fits links c.args.queue (ids_of links c.args.queue) c.requires in
    let h : length (ids_of links c.args.queue) ≤ c.loop.counter = omega (arith, n, c.loop-test.false, c.most_ids-end.ensures) in
    walk_end _ _ c.args.test _ _ _ c.loop.invariant (walk_all _ _ c.args.test _ _ _ c.loop.invariant h)
