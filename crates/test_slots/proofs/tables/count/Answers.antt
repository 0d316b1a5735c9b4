use Rattle.test_slots.proofs.tables.count.Goals as goal

pub returns-clause-row : goal.returns-clause-row
returns-clause-row c = (c.in_ok-id.id, c.in_ok-id.ensures.changed (record { count = c.saturating_add-times.result }))
