-- In a sound queue granted requests don't conflict.
use Rattle.std.proofs.Common.{◌≡◌, ℕ, ◌==◌, [], ◌∷◌, ◌++◌, Bool, true, false, ◌&&◌, not, refl, sym, ◌∙◌, arith}
use Rattle.std.specs.Prelude.{MatchBool, IsTrue, All}
use Rattle.std.specs.List.{list_all}
use Rattle.std.proofs.lemmas.List.Elements.{All-nil, All-cons}
use Rattle.std.proofs.lemmas.List.Kept.{AllPairs-cons}
use Rattle.std.proofs.lemmas.List.Folds.{list_all-append}
use Rattle.std.proofs.lemmas.Bool.Decides.{nat_tests}
use Rattle.pc_types.specs.declared.Request.{Request}
use Rattle.pc_model.specs.Locks.{Queue, is_exclusive, are_compatible}
use Rattle.pc_model.specs.Queues.{Conflicts, IsLegalQueue, AllWait, IsSoundBehind}

abbrev MayStand : Request → Request → Type 0
MayStand r q = IsTrue r.granted → IsTrue q.granted → ¬ Conflicts r q

is_true : (b : Bool) → b ≡ true → IsTrue b
is_true true e = e
is_true false e = absurd cc

not_false : (b : Bool) → b ≡ false → ¬ IsTrue b
not_false true e = absurd cc
not_false false e = λ h. cc

eq_turned : (a b : ℕ) → (a == b) ≡ (b == a)
eq_turned a b = grind (arith, nat_tests)

and_turned : (a b : Bool) → (a && b) ≡ (b && a)
and_turned true true = refl
and_turned true false = refl
and_turned false true = refl
and_turned false false = refl

turned : (r q : Request) → are_compatible q r ≡ true → are_compatible r q ≡ true
turned r q e = rw (eq_turned r.transaction q.transaction, and_turned (not (is_exclusive r.mode)) (not (is_exclusive q.mode))) e

and_true : (a b : Bool) → (a && b) ≡ true → (a ≡ true) × (b ≡ true)
and_true true b e = (refl, e)
and_true false b e = absurd cc

at_end : (f : Request → Bool) (before : Queue) (r : Request) → list_all f (before ++ r ∷ []) ≡ true → f r ≡ true
at_end f before r e = (and_true (f r) true (and_true (list_all f before) (list_all f (r ∷ [])) (sym (list_all-append f before (r ∷ [])) ∙ e)).1).0

waiting : (r : Request) (rs : Queue) → AllWait rs → All (MayStand r) rs
waiting r [] w = All-nil (MayStand r)
waiting r (q ∷ qs) w = All-cons (MayStand r) q qs (λ a b. absurd (not_false q.granted w.0 b)) (waiting r qs w.1)

-- each after r is compatible with it
behind : (r : Request) (before rs : Queue) → ((f : Request → Bool) → list_all f before ≡ true → f r ≡ true) → IsSoundBehind before rs → All (MayStand r) rs
behind r before [] h s = All-nil (MayStand r)
behind r before (q ∷ qs) h s = by (λ k t. behind r (before ++ q ∷ []) qs k t) q.granted refl s
  where
    by : (((f : Request → Bool) → list_all f (before ++ q ∷ []) ≡ true → f r ≡ true) → IsSoundBehind (before ++ q ∷ []) qs → All (MayStand r) qs) →
        (b : Bool) → q.granted ≡ b → MatchBool b ((list_all (are_compatible q) before ≡ true) × IsSoundBehind (before ++ q ∷ []) qs) (AllWait qs) → All (MayStand r) (q ∷ qs)
    by ih true e t =
        All-cons (MayStand r) q qs (λ a b n. n (is_true (are_compatible r q) (turned r q (h (are_compatible q) t.0))))
        (ih (λ f g. h f (and_true (list_all f before) (list_all f (q ∷ [])) (sym (list_all-append f before (q ∷ [])) ∙ g)).0) t.1)
    by ih false e t = All-cons (MayStand r) q qs (λ a b. absurd (not_false q.granted e b)) (waiting r qs t)

all_wait_legal : (rs : Queue) → AllWait rs → IsLegalQueue rs
all_wait_legal [] w = λ i j d h k. absurd (omega (arith, h, k))
all_wait_legal (q ∷ qs) w = AllPairs-cons MayStand q qs (waiting q qs w.1) (all_wait_legal qs w.1)

pub sound_legal : (before rs : Queue) → IsSoundBehind before rs → IsLegalQueue rs
sound_legal before [] s = λ i j d h k. absurd (omega (arith, h, k))
sound_legal before (q ∷ qs) s = by (sound_legal (before ++ q ∷ []) qs) q.granted s
  where
    by : (IsSoundBehind (before ++ q ∷ []) qs → IsLegalQueue qs) → (b : Bool) → MatchBool b ((list_all (are_compatible q) before ≡ true) × IsSoundBehind (before ++ q ∷ []) qs) (AllWait qs) → IsLegalQueue (q ∷ qs)
    by ih true t = AllPairs-cons MayStand q qs (behind q (before ++ q ∷ []) qs (λ f. at_end f before q) t.1) (ih t.1)
    by ih false t = AllPairs-cons MayStand q qs (waiting q qs t) (all_wait_legal qs t)
