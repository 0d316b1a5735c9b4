use Rattle.std.proofs.Common.{◌≡◌, ap, sym, ◌∙◌, None, option_copied}
use Rattle.std.specs.Int.{w64}
use Rattle.std.proofs.lemmas.Int.{to_z-of_z}
use Rattle.pc_types.specs.Changes.{added}
use Rattle.pc_model.specs.Maps.{get}
use Rattle.pc_model.proofs.ChangeLaws.{nothing_done}
use Rattle.pc_audit.proofs.table.Table.add.Goals as goal

pub returns-in-None : goal.returns-in-None
returns-in-None c =
    let none : added c.args.delta (get c.args.self.now c.args.key) ≡ None =
    ap (added c.args.delta) (sym c.get.ensures) ∙ ap (λ z. added z (option_copied c.get.result)) (sym (to_z-of_z w64 c.args.delta c.ranges.delta)) ∙ sym c.sum.ensures ∙ c.in-None.is in
    sym (nothing_done c.args.self.now c.args.key c.args.delta none)
