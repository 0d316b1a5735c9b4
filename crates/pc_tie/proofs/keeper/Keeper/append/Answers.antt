use Rattle.std.proofs.Common.{◌∷◌, length, List, ap, sym, ◌∙◌, arith, subst}
use Rattle.pc_model.specs.History.{History, log_of}
use Rattle.pc_model.specs.Replies.{Setting, IsLegalHistory}
use Rattle.pc_tie.specs.declared.sight.Sitting.{Sitting}
use Rattle.pc_tie.specs.Rules.{IsStepOfGuest}
use Rattle.pc_tie.proofs.Visits.{applies_at}
use Rattle.pc_tie.proofs.keeper.Keeper.append.Goals as goal

pub compare_exchange_with-found-requires : goal.compare_exchange_with-found-requires
compare_exchange_with-found-requires g c =
    let i = c.self.invariant in
    let t = c.args.tie.now in
    let r = c.requires in
    let step = c.args.step.now in
    let hist = ap (λ m. m.history) c.self.view_is in (
      i.0 ∙ sym t.named,
      omega (arith, t.one),
      applies_at _ _ _ _ _ _ step _ _ _ i.1 (subst (λ (ss : List Sitting). IsStepOfGuest step ss) (sym (ap (λ m. m.guests) c.self.view_is)) r.asked)
          (subst (λ (y : Setting × History). IsLegalHistory y.0 (step ∷ y.1)) (λ k. (sym t.key k, sym hist k)) r.legal)
          (r.before ∙ ap (λ h. length (log_of h)) (sym hist)) (r.after ∙ ap (λ h. length (log_of (step ∷ h))) (sym hist)),
    )
