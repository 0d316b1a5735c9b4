use Rattle.pc_records.proofs.records.Records.closed_len.Goals as goal

pub returns-clause-listed : goal.returns-clause-listed
returns-clause-listed c = rw (← c.self.view_is) (record { open_set = c.self.invariant.0.listed.open_set; closed_set = c.self.invariant.0.listed.closed_set })
