use Rattle.std.proofs.Common.{◌∙◌, ap, sym, subst}
use Rattle.pc_border.specs.Handled.{IsGivenTo}
use Rattle.pc_border.specs.declared.store.Store.{Store}
use Rattle.pc_c.specs.Handles.{store_of}
use Rattle.pc_c.proofs.pcalc_give.Goals as goal

pub returns-clause-given : goal.returns-clause-given
returns-clause-given c =
    subst (λ (old : Store). IsGivenTo old c.args.what c.args.bytes.now c.give.result (store_of c.put.new.handle.value)) (sym (c.in-Some.ensures.some ∙ sym c.deref_mut.ensures.value))
    (subst (λ (new : Store). IsGivenTo c.deref_mut.result.now c.args.what c.args.bytes.now c.give.result new) (sym (ap store_of c.put.ensures)) c.give.ensures)
