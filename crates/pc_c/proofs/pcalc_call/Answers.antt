use Rattle.std.proofs.Common.{◌∙◌, ap, sym, subst}
use Rattle.pc_border.specs.Handled.{IsCallAnswered}
use Rattle.pc_border.specs.declared.store.Store.{Store}
use Rattle.pc_c.specs.Handles.{store_of}
use Rattle.pc_c.proofs.pcalc_call.Goals as goal

pub returns-clause-answered : goal.returns-clause-answered
returns-clause-answered c =
    subst (λ (old : Store). IsCallAnswered old c.args.call.now c.args.key.now c.args.value.now c.call.result (store_of c.put.new.handle.value)) (sym (ap store_of c.in-Some.ensures.some ∙ sym c.deref_mut.ensures.value))
    (subst (λ (new : Store). IsCallAnswered c.deref_mut.result.now c.args.call.now c.args.key.now c.args.value.now c.call.result new) (sym (ap store_of c.put.ensures)) c.call.ensures)
