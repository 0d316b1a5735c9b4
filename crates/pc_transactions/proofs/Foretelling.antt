-- How an add goes that was asked of what was found in the key's place.
use Rattle.std.proofs.Common.{◌≡◌, ℕ, List, Option, Some, None, Bool, false, ◌∷◌, sym, ap, ◌∙◌}
use Rattle.std.specs.Prelude.{ℤ}
use Rattle.pc_types.specs.declared.Change.{Change}
use Rattle.pc_types.specs.declared.Outcome.{Outcome}
use Rattle.pc_types.specs.declared.Outcome.TheVariants.{Granted}
use Rattle.pc_types.specs.declared.Refusal.{Refusal}
use Rattle.pc_types.specs.declared.Refusal.TheVariants as why
use Rattle.pc_types.specs.Changes.{added}
use Rattle.pc_model.specs.Replies.{first_refusal, is_granted}
use Rattle.pc_transactions.specs.Adds.{sum_causes, AddProceeds, IsRefusedFor}

module _ (full : Bool) (o p : Outcome) (found there : Option (List ℕ)) (own : Option Change) (delta : ℤ) (room : full ≡ false) (same : o ≡ p) (sees : o ≡ Granted → found ≡ there) where
  pub goes_over : (sum : Option ℤ) → AddProceeds false o found own delta sum → AddProceeds full p there own delta sum
  goes_over None g = (room, ap is_granted (sym same) ∙ g.1)
  goes_over (Some sum) g = (room, sym same ∙ g.1, ap (added delta) (sym (sees g.1)) ∙ g.2, g.3)

  pub refused_over : (r : Refusal) → (o ≡ Granted) × IsRefusedFor false Granted found own delta r → IsRefusedFor full p there own delta r
  refused_over r g =
      ap (λ b. first_refusal ((b, why.Full) ∷ sum_causes p there own delta)) room ∙ ap (λ q. first_refusal (sum_causes q there own delta)) (sym same ∙ g.0)
      ∙ ap (λ v. first_refusal (sum_causes Granted v own delta)) (sym (sees g.0)) ∙ g.1
