use Rattle.std.proofs.Common.{◌∙◌, ap, sym, subst}
use Rattle.pc_border.specs.Handled.{IsOpenedBy}
use Rattle.pc_border.specs.declared.store.Store.{Store}
use Rattle.pc_c.proofs.HandleLaws.{unopened}
use Rattle.pc_c.specs.Handles.{store_of}
use Rattle.pc_c.proofs.pcalc_open.Goals as goal

pub returns-clause-opened : goal.returns-clause-opened
returns-clause-opened c =
    subst (λ (old : Store). IsOpenedBy old c.args.options.now c.open.result (store_of c.put.new.handle.value)) (sym (c.in-Some.ensures.some ∙ sym c.deref_mut.ensures.value))
    (subst (λ (new : Store). IsOpenedBy c.deref_mut.result.now c.args.options.now c.open.result new) (sym (ap store_of c.put.ensures)) c.open.ensures)

pub returns-in_default-clause-opened : goal.returns-in_default-clause-opened
returns-in_default-clause-opened c =
    unopened c.args.handle.now.value c.take_or_new.new.handle.value c.args.options.now c.refused.result (c.take_or_new.ensures.none c.in_default.is) c.take_or_new.ensures.left c.refused.ensures
