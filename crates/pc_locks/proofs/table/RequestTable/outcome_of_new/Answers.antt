use Rattle.std.proofs.Common.{sym, ◌∙◌}
use Rattle.pc_locks.specs.Lines.{ids_of}
use Rattle.pc_locks.specs.Tables.{links_in, requests}
use Rattle.pc_locks.proofs.Outcomes.{outcome_granted, outcome_queued, outcome_died}
use Rattle.pc_locks.proofs.table.RequestTable.outcome_of_new.Goals as goal

pub returns-then-not-has : goal.returns-then-not-has
returns-then-not-has c =
    outcome_granted (requests c.args.self.now.nodes.slots (ids_of (links_in c.args.self.now.nodes.slots) c.args.queue)) c.args.transaction c.args.mode (sym c.has.ensures ∙ c.if-not-has.true)

pub returns-then-not-has-2 : goal.returns-then-not-has-2
returns-then-not-has-2 c =
    outcome_queued (requests c.args.self.now.nodes.slots (ids_of (links_in c.args.self.now.nodes.slots) c.args.queue)) c.args.transaction c.args.mode (sym c.has.ensures ∙ c.if-not-has.false) (sym c.has-else-not-has.ensures ∙ c.if-not-has-2.true)

pub returns-else-not-has-2 : goal.returns-else-not-has-2
returns-else-not-has-2 c =
    outcome_died (requests c.args.self.now.nodes.slots (ids_of (links_in c.args.self.now.nodes.slots) c.args.queue)) c.args.transaction c.args.mode (sym c.has.ensures ∙ c.if-not-has.false) (sym c.has-else-not-has.ensures ∙ c.if-not-has-2.false)
