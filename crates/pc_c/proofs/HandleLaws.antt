-- A handle that has nothing, if an allocation failed for its store.
use Rattle.std.proofs.Common.{◌≡◌, inr, ℕ, Option, None, refl, sym, subst}
use Rattle.pc_types.specs.declared.refusal.Refusal.TheVariants.{OutOfMemory}
use Rattle.pc_wire.specs.Answers.{refusal_number, refusal_told}
use Rattle.pc_wire.specs.declared.answers.Answer.{Answer}
use Rattle.pc_border.specs.Handled.{IsOpenedBy}
use Rattle.pc_border.specs.declared.opening.Options.{Options}
use Rattle.pc_border.specs.declared.sources.RecoverySummary.{RecoverySummary}
use Rattle.pc_border.specs.declared.store.Store.{Store}
use Rattle.pc_c.specs.Handles.{store_of, IsSummaryReturned}

pub unopened : (old new : Option Store) (options : Options) (answer : Answer) → old ≡ None → new ≡ None → answer ≡ refusal_told OutOfMemory
    → IsOpenedBy (store_of old) options answer (store_of new)
unopened old new options answer none left refused =
    subst (λ (had : Option Store). IsOpenedBy (store_of had) options answer (store_of new)) (sym none)
    (subst (λ (has : Option Store). IsOpenedBy (store_of None) options answer (store_of has)) (sym left) (inr (OutOfMemory, refused, refl, inr (inr refl))))

pub untold : (store : Store) (status : ℕ) (summary : RecoverySummary) → status ≡ refusal_number OutOfMemory → IsSummaryReturned store status summary summary
untold store status summary refused = inr (OutOfMemory, refused, refl, inr refl)
