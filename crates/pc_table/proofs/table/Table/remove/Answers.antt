use Rattle.std.proofs.Common.{option_map, Some, ap, sym, ◌∙◌}
use Rattle.pc_table.specs.Entries.{contents_of}
use Rattle.pc_table.proofs.Seen.{in_slots}
use Rattle.pc_table.proofs.Keeping.{kept_slots, taken_of, row_of, kept_removed, seen_removed}
use Rattle.pc_table.proofs.table.Table.remove.Goals as goal

pub remove-requires-clause-taken : goal.remove-requires-clause-taken
remove-requires-clause-taken g c = taken_of _ _ _ c.self.view_is c.self.invariant c.args.id c.requires

pub returns-clause-given : goal.returns-clause-given
returns-clause-given g c = ap (option_map (λ pair. pair.1)) (row_of _ _ _ c.self.view_is c.self.invariant c.args.id c.remove.result c.remove.ensures.given) ∙ ap Some (sym c.into_item.ensures)

pub returns-clause-rows : goal.returns-clause-rows
returns-clause-rows g c = ap contents_of c.remove.ensures.items ∙ seen_removed _ _ _ c.self.view_is c.self.invariant c.args.id c.remove.result c.remove.ensures.given

pub returns-clause-before : goal.returns-clause-before
returns-clause-before g c = kept_slots _ _ _ c.self.view_is c.self.invariant

pub returns-clause-after : goal.returns-clause-after
returns-clause-after g c = in_slots _ _ (kept_removed _ _ _ c.self.view_is c.self.invariant c.args.id c.remove.new.slots c.remove.new.self c.remove.ensures.items c.remove.ensures.index)
