use Rattle.std.proofs.Common.{option_map, ap}
use Rattle.pc_table.proofs.Keeping.{kept_slots, taken_of, row_of}
use Rattle.pc_table.proofs.table.Table.get.Goals as goal

pub get-requires : goal.get-requires
get-requires g c = taken_of _ _ _ c.self.view_is c.self.invariant c.args.id c.requires

pub returns-clause-record_of : goal.returns-clause-record_of
returns-clause-record_of g c = ap (option_map (λ pair. pair.1)) (row_of _ _ _ c.self.view_is c.self.invariant c.args.id c.get.result.now c.get.ensures.value)

pub returns-clause-slots : goal.returns-clause-slots
returns-clause-slots g c = kept_slots _ _ _ c.self.view_is c.self.invariant
