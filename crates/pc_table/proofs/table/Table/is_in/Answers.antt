use Rattle.std.proofs.Common.{option_map, sym, ap, ◌∙◌}
use Rattle.pc_table.specs.Rows.{pair_behind}
use Rattle.pc_table.proofs.Keeping.{own_slot}
use Rattle.pc_table.proofs.table.Table.is_in.Goals as goal

pub returns-in-Some-clause-own : goal.returns-in-Some-clause-own
returns-in-Some-clause-own g c = λ same. own_slot _ c.args.id c.args.key.now c.in-Some.found.now _ c.get_if_taken.ensures.slots (sym c.get_if_taken.ensures.pair ∙ ap (option_map (pair_behind {T = g.row.T.Denot})) c.in-Some.is) (sym c.is.ensures ∙ same)
