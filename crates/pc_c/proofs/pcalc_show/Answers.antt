use Rattle.std.proofs.Common.{◌∙◌, ap, sym, subst}
use Rattle.pc_border.specs.Handled.{IsTextShown}
use Rattle.pc_border.specs.declared.store.Store.{Store}
use Rattle.pc_c.specs.Handles.{store_of}
use Rattle.pc_c.proofs.pcalc_show.Goals as goal

pub returns-clause-shown : goal.returns-clause-shown
returns-clause-shown c =
    subst (λ (old : Store). IsTextShown old c.args.what c.args.number c.show.result (store_of c.put.new.handle.value)) (sym (ap store_of c.in-Some.ensures.some ∙ sym c.deref_mut.ensures.value))
    (subst (λ (new : Store). IsTextShown c.deref_mut.result.now c.args.what c.args.number c.show.result new) (sym (ap store_of c.put.ensures)) c.show.ensures)
