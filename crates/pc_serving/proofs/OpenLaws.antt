-- The number of sessions that have a transaction open, by the store and by the history.
use Rattle.std.proofs.Common.{◌≡◌, ℕ, zero, suc, ◌+◌, Bool, cond, refl, ap, ◌∙◌}
use Rattle.pc_types.specs.declared.limits.TheConstants.{MOST_SESSIONS}
use Rattle.pc_model.specs.History.{History}
use Rattle.pc_model.specs.Replies.{Setting}
use Rattle.pc_engine.specs.Store.{Store, setting_of}
use Rattle.pc_engine.specs.Waiting.{opens_after}
use Rattle.pc_engine.proofs.WaitingLaws.{opens_told}
use Rattle.pc_serving.specs.OpenSessions.{counted_to, open_after, open_now, opens_now}
use Rattle.pc_serving.specs.Serving.{Serves}

-- tests that agree count alike
counts_agree : (a b : ℕ → Bool) → ((s : ℕ) → a s ≡ b s) → (n : ℕ) → counted_to a n ≡ counted_to b n
counts_agree a b same zero = refl
counts_agree a b same (suc n) = ap (λ m. m + cond (a (suc n)) 1 0) (counts_agree a b same n) ∙ ap (λ t. counted_to b n + cond t 1 0) (same (suc n))

-- what the store says, the history says too
pub open_told : (st : Setting) (world : Store) (waiting : ℕ) (history : History) → Serves st world waiting history → open_now world ≡ open_after st history
open_told st world waiting history serves =
    counts_agree (opens_now world) (λ s. opens_after (setting_of world) s history) (λ s. opens_told world history s serves.stands) MOST_SESSIONS
    ∙ ap (λ (t : Setting). counted_to (λ s. opens_after t s history) MOST_SESSIONS) serves.setting
