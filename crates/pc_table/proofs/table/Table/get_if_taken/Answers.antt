use Rattle.std.proofs.Common.{Some, option_copied, sym, ap, ◌∙◌}
use Rattle.pc_table.proofs.Keeping.{kept_slots, row_of, no_row_of}
use Rattle.pc_table.proofs.table.Table.get_if_taken.Goals as goal

pub returns-in-Some-clause-pair : goal.returns-in-Some-clause-pair
returns-in-Some-clause-pair g c = ap Some c.pair.ensures ∙ sym (row_of _ _ _ c.self.view_is c.self.invariant c.args.id c.in-Some.entry.now (sym c.get_if_taken.ensures ∙ ap option_copied c.in-Some.is))

pub returns-in-Some-clause-slots : goal.returns-in-Some-clause-slots
returns-in-Some-clause-slots g c = kept_slots _ _ _ c.self.view_is c.self.invariant

pub returns-in-None-clause-pair : goal.returns-in-None-clause-pair
returns-in-None-clause-pair g c = sym (no_row_of _ _ _ c.self.view_is c.self.invariant c.args.id (sym c.get_if_taken.ensures ∙ ap option_copied c.in-None.is))

pub returns-in-None-clause-slots : goal.returns-in-None-clause-slots
returns-in-None-clause-slots g c = kept_slots _ _ _ c.self.view_is c.self.invariant
