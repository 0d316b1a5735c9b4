use Rattle.std.proofs.Common.{None, sym, ap, ◌∙◌}
use Rattle.std.specs.Int.{w64}
use Rattle.std.proofs.lemmas.Int.{to_z-of_z}
use Rattle.pc_types.specs.Changes.{number_text, merged, or_same, change_to}
use Rattle.pc_types.specs.declared.changes.Change.TheVariants.{Set, Add}
use Rattle.pc_types.proofs.SumLaws.{zero_with}
use Rattle.pc_types.proofs.changes.Change.add.Goals as goal

pub returns-in-Remove : goal.returns-in-Remove
returns-in-Remove c =
    ap Set (c.of_number-in-Remove.ensures ∙ ap number_text (to_z-of_z w64 c.args.delta c.ranges.delta))
    ∙ ap (λ sum. change_to (or_same None sum)) (zero_with c.args.delta c.ranges.delta)
    ∙ ap (λ before. merged before (Add c.args.delta)) (sym c.in-Remove.is)
