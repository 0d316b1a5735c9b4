use Rattle.std.proofs.Common.{◌≡◌, ◌∙◌, sym, ap, true, not, ◌||◌}
use Rattle.pc_types.specs.declared.Request.{Request}
use Rattle.pc_model.specs.Locks.{is_exclusive}
use Rattle.pc_model.proofs.QueueLaws.{with_covered}
use Rattle.pc_locks.specs.Lines.{ids_of}
use Rattle.pc_locks.specs.Tables.{links_in, request_at, requests}
use Rattle.pc_locks.proofs.Upgrades.{own_is, is_upgrade, upgraded_queue}
use Rattle.pc_locks.proofs.table.RequestTable.again.Goals as goal

pub returns-then-covers-clause-queue : goal.returns-then-covers-clause-queue
returns-then-covers-clause-queue c =
    let nodes = c.args.self.now.nodes.slots in
    let ids = ids_of (links_in c.args.self.now.nodes.slots) c.args.queue in
    let own : Request = request_at nodes c.args.found.id in
    let n : Request = record { transaction = c.args.transaction; mode = c.args.mode; granted = true } in
    let e : (is_exclusive own.mode || not (is_exclusive c.args.mode)) ≡ true = ap (λ (r : Request). is_exclusive r.mode || not (is_exclusive c.args.mode)) (sym c.request-own.ensures) ∙ (sym c.covers.ensures ∙ c.if-covers.true) in
    sym (with_covered (requests nodes ids) n own (own_is nodes ids c.args.transaction c.args.found.previous c.args.found.id c.requires.own) e)

pub returns-in-Granted-clause-queue : goal.returns-in-Granted-clause-queue
returns-in-Granted-clause-queue c =
    let nodes = c.args.self.now.nodes.slots in
    let ids = ids_of (links_in c.args.self.now.nodes.slots) c.args.queue in
    upgraded_queue nodes _ ids c.args.transaction c.args.found.previous c.args.found.id c.request-own.result c.args.mode c.requires.own (c.requires.held c.args.found.id) c.requires.once
    c.request-own.ensures (is_upgrade c.request-own.result.mode c.args.mode (sym c.covers.ensures ∙ c.if-covers.false)) c.write.ensures.written c.write.ensures.others
