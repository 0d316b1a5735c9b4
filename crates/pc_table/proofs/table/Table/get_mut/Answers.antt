use Rattle.std.proofs.Common.{option_map, refl, ap, Some, ◌∙◌}
use Rattle.pc_table.proofs.Keeping.{kept_slots, taken_of, row_of, kept_changed, seen_changed}
use Rattle.pc_table.proofs.table.Table.get_mut.Goals as goal

pub get_mut-requires : goal.get_mut-requires
get_mut-requires g c = taken_of _ _ _ c.self.view_is c.self.invariant c.args.id c.requires

pub invariant_of-self-lent : goal.invariant_of-self-lent
invariant_of-self-lent g c = λ left. kept_changed _ _ _ c.self.view_is c.self.invariant c.args.id c.get_mut.result.now left c.get_mut.ensures.value

pub returns : goal.returns
returns g c = (
  (refl, λ left. seen_changed _ _ _ c.self.view_is c.self.invariant c.args.id c.get_mut.result.now left c.get_mut.ensures.value),
  record {
    lends = tt;
    record_of = ap (option_map (λ pair. pair.1)) (row_of _ _ _ c.self.view_is c.self.invariant c.args.id c.get_mut.result.now c.get_mut.ensures.value) ∙ ap Some c.item_mut.ensures.value;
    slots = kept_slots _ _ _ c.self.view_is c.self.invariant;
  },
)
