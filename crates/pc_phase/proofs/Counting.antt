-- A begin or an end of one session's transaction counts one more or one less of its class.
use Rattle.std.proofs.Common.{◌≡◌, ℕ, zero, suc, ◌+◌, ◌-◌, ◌<◌, ◌≤◌, ◌++◌, List, [], ◌∷◌, length, refl, sym, ap, ◌∙◌, arith, Bool, true, false, eqb, ◌&&◌, cond}
use Rattle.std.specs.Prelude.{filter}
use Rattle.std.proofs.lemmas.Bool.Decides.{nat_tests}
use Rattle.pc_types.specs.declared.Class.{Class}
use Rattle.pc_types.specs.declared.Class.TheVariants.{Before, During, After}
use Rattle.pc_types.specs.declared.Event.TheVariants as asked
use Rattle.pc_types.specs.declared.Reply.TheVariants as told
use Rattle.pc_model.specs.Files.{numbers_to}
use Rattle.pc_model.specs.History.{History, Effect, effect, is_open, open_by, class_of, class_by, class_in, phase_of, phase_by, point_of, point_by}
use Rattle.pc_model.specs.History.Effect.{Begins, Reads, Writes, Adds, Waits, Dies, Commits, Aborts, Moves, Takes, Shelves, Joins, Nothing}
use Rattle.pc_types.specs.declared.Phase.{Phase}
use Rattle.pc_types.specs.declared.Phase.TheVariants as phase
use Rattle.pc_model.specs.Replies.{Setting, active_in_class, no_session}
use Rattle.pc_types.specs.Phases.{same_class}
use Rattle.pc_phase.specs.Phases.{Phases, active_count, entered, left}
use Rattle.pc_phase.specs.Agreement.{AreOf, BeginsStayOf, EndsStayOf, StartsOf, OthersStayOf, is_other}
use Rattle.pc_phase.proofs.PhaseLaws.{phase_stays, point_stays}

-- how many of the sessions pass the test
abbrev count : (ℕ → Bool) → ℕ → ℕ
count test n = length (filter test (numbers_to n))

-- 1 if it is so, else 0
abbrev one_if : Bool → ℕ
one_if b = cond b 1 0

push_counts : (p : ℕ → Bool) (xs : List ℕ) (x : ℕ) → length (filter p (xs ++ x ∷ [])) ≡ length (filter p xs) + one_if (p x)
push_counts p [] x = elim (p x) as (λ b. length (cond b (x ∷ []) []) ≡ 0 + one_if b) [ true ↦ refl | false ↦ refl ]
push_counts p (y ∷ ys) x = by_test (p y) (push_counts p ys x)
  where
    by_test : (b : Bool) → length (filter p (ys ++ x ∷ [])) ≡ length (filter p ys) + one_if (p x) → length (cond b (y ∷ filter p (ys ++ x ∷ [])) (filter p (ys ++ x ∷ []))) ≡ length (cond b (y ∷ filter p ys) (filter p ys)) + one_if (p x)
    by_test true e = grind (arith, e)
    by_test false e = e

module _ (p q : ℕ → Bool) (s : ℕ) (others : (t : ℕ) → eqb s t ≡ false → q t ≡ p t) where
  -- below the session both count the same
  below : (n : ℕ) → n < s → count q n ≡ count p n
  below zero lt = refl
  below (suc n) lt =
      let less : n < s = omega (arith, lt) in
      let apart : eqb s (suc n) ≡ false = grind (arith, nat_tests, lt) in
      push_counts q (numbers_to n) (suc n) ∙ ap (λ m. m + one_if (q (suc n))) (below n less) ∙ ap (λ b. count p n + one_if b) (others (suc n) apart) ∙ sym (push_counts p (numbers_to n) (suc n))

  -- from the session on they differ by what each says of it
  one_differs : (n : ℕ) → 1 ≤ s → s ≤ n → count q n + one_if (p s) ≡ count p n + one_if (q s)
  one_differs zero one le = absurd (omega (arith, one, le))
  one_differs (suc n) one le = by_same (eqb s (suc n)) (one_differs n one) refl
    where
      at : s ≡ suc n → count q (suc n) + one_if (p s) ≡ count p (suc n) + one_if (q s)
      at e =
          let less : n < s = omega (arith, e) in
          let last_p : one_if (p (suc n)) ≡ one_if (p s) = ap (λ k. one_if (p k)) (sym e) in
          let last_q : one_if (q (suc n)) ≡ one_if (q s) = ap (λ k. one_if (q k)) (sym e) in
          omega (arith, below n less, push_counts q (numbers_to n) (suc n), push_counts p (numbers_to n) (suc n), last_p, last_q)

      by_same : (b : Bool) → (s ≤ n → count q n + one_if (p s) ≡ count p n + one_if (q s)) → eqb s (suc n) ≡ b → count q (suc n) + one_if (p s) ≡ count p (suc n) + one_if (q s)
      by_same true behind e = at (let same : s ≡ suc n = grind (arith, nat_tests, e) in same)
      by_same false behind e =
          let le : s ≤ n = grind (arith, nat_tests, e, le) in
          let last : one_if (q (suc n)) ≡ one_if (p (suc n)) = ap (λ b. one_if b) (others (suc n) e) in
          omega (arith, behind le, push_counts q (numbers_to n) (suc n), push_counts p (numbers_to n) (suc n), last)

entered_counts : (phases : Phases) (own class : Class) → active_count (entered phases own) class ≡ active_count phases class + one_if (same_class own class)
entered_counts phases Before Before = refl
entered_counts phases Before During = omega arith
entered_counts phases Before After = omega arith
entered_counts phases During Before = omega arith
entered_counts phases During During = refl
entered_counts phases During After = omega arith
entered_counts phases After Before = omega arith
entered_counts phases After During = omega arith
entered_counts phases After After = refl

left_counts : (phases : Phases) (own class : Class) → active_count (left phases own) class ≡ active_count phases class - one_if (same_class own class)
left_counts phases Before Before = refl
left_counts phases Before During = omega arith
left_counts phases Before After = omega arith
left_counts phases During Before = omega arith
left_counts phases During During = refl
left_counts phases During After = omega arith
left_counts phases After Before = omega arith
left_counts phases After During = omega arith
left_counts phases After After = refl

-- a session has a number from 1 up to theirs
in_range : (st : Setting) (s : ℕ) → no_session st s ≡ false → (1 ≤ s) × (s ≤ st.sessions)
in_range st s e = (grind (arith, nat_tests, e), grind (arith, nat_tests, e))

itself : (s : ℕ) → eqb s s ≡ true
itself s = grind (arith, nat_tests)

-- the session is open, and of the class
abbrev is_of : History → Class → ℕ → Bool
is_of history class t = is_open t history && same_class (class_of t history) class

-- once it began
abbrev begun_of : History → Class → ℕ → ℕ → Bool
begun_of history class s t = cond (eqb s t) true (is_open t history) && same_class (cond (eqb s t) (class_in (phase_of history)) (class_of t history)) class

-- once it ended
abbrev ended_of : History → Class → ℕ → ℕ → Bool
ended_of history class s t = cond (eqb s t) false (is_open t history) && same_class (class_of t history) class

pub begins_stay_of : BeginsStayOf
begins_stay_of st history phases s number are there closed = record { phase = phase_stays phases (class_in phases.phase) (active_count phases (class_in phases.phase) + 1) ∙ are.phase; point = point_stays phases (class_in phases.phase) (active_count phases (class_in phases.phase) + 1) ∙ are.point; active = active }
  where
    active : (class : Class) → active_count (entered phases (class_in phases.phase)) class ≡ active_in_class st class (record { event = asked.Begin s; reply = told.Begun number } ∷ history)
    active class =
        let range = in_range st s there in
        let own : class_in phases.phase ≡ class_in (phase_of history) = ap class_in are.phase in
        let was : is_of history class s ≡ false = ap (λ b. b && same_class (class_of s history) class) closed in
        let is : begun_of history class s s ≡ same_class (class_in (phase_of history)) class = ap (λ b. cond b true (is_open s history) && same_class (cond b (class_in (phase_of history)) (class_of s history)) class) (itself s) in
        let differs = one_differs (is_of history class) (begun_of history class s) s (λ t e. ap (λ b. cond b true (is_open t history) && same_class (cond b (class_in (phase_of history)) (class_of t history)) class) e) st.sessions range.0 range.1 in
        let old : one_if (is_of history class s) ≡ 0 = ap (λ b. one_if b) was in
        let new : one_if (begun_of history class s s) ≡ one_if (same_class (class_in phases.phase) class) = ap (λ b. one_if b) is ∙ ap (λ c. one_if (same_class c class)) (sym own) in
        omega (arith, entered_counts phases (class_in phases.phase) class, are.active class, differs, old, new)

-- the counts once a transaction ended
ended_counts : (st : Setting) (history : History) (phases : Phases) (s : ℕ) → AreOf st history phases → no_session st s ≡ false → is_open s history ≡ true →
    (class : Class) → active_count (left phases (class_of s history)) class ≡ count (ended_of history class s) st.sessions
ended_counts st history phases s are there opened class =
    let range = in_range st s there in
    let was : is_of history class s ≡ same_class (class_of s history) class = ap (λ b. b && same_class (class_of s history) class) opened in
    let is : ended_of history class s s ≡ false = ap (λ b. cond b false (is_open s history) && same_class (class_of s history) class) (itself s) in
    let differs = one_differs (is_of history class) (ended_of history class s) s (λ t e. ap (λ b. cond b false (is_open t history) && same_class (class_of t history) class) e) st.sessions range.0 range.1 in
    let old : one_if (is_of history class s) ≡ one_if (same_class (class_of s history) class) = ap (λ b. one_if b) was in
    let new : one_if (ended_of history class s s) ≡ 0 = ap (λ b. one_if b) is in
    omega (arith, left_counts phases (class_of s history) class, are.active class, differs, old, new)

pub ends_stay_of : EndsStayOf
ends_stay_of st history phases s lsn = (
  λ are there opened. record { phase = phase_stays phases (class_of s history) (active_count phases (class_of s history) - 1) ∙ are.phase; point = point_stays phases (class_of s history) (active_count phases (class_of s history) - 1) ∙ are.point; active = ended_counts st history phases s are there opened },
  λ are there opened. record { phase = phase_stays phases (class_of s history) (active_count phases (class_of s history) - 1) ∙ are.phase; point = point_stays phases (class_of s history) (active_count phases (class_of s history) - 1) ∙ are.point; active = ended_counts st history phases s are there opened },
)

-- tests that say the same count the same
same_count : (p q : ℕ → Bool) → ((t : ℕ) → p t ≡ q t) → (n : ℕ) → count p n ≡ count q n
same_count p q same zero = refl
same_count p q same (suc n) =
    push_counts p (numbers_to n) (suc n) ∙ ap (λ m. m + one_if (p (suc n))) (same_count p q same n) ∙ ap (λ b. count q n + one_if b) (same (suc n)) ∙ sym (push_counts q (numbers_to n) (suc n))

none_count : (n : ℕ) → count (λ t. false) n ≡ 0
none_count zero = refl
none_count (suc n) = push_counts (λ t. false) (numbers_to n) (suc n) ∙ ap (λ m. m + 0) (none_count n)

none_active : (class : Class) → 0 ≡ active_count (record { phase = phase.Rest; point = 0; before = 0; during = 0; after = 0 }) class
none_active Before = refl
none_active During = refl
none_active After = refl

pub starts_of : StartsOf
starts_of st = record { phase = refl; point = refl; active = λ class. sym (none_active class) ∙ sym (none_count st.sessions) }

-- what another effect leaves
record Leaves (e : Effect) : Type 0 where
  phase : (was : Phase) → phase_by e was ≡ was
  point : (was : ℕ) → point_by e was ≡ was
  opened : (s : ℕ) (was : Bool) → open_by s e was ≡ was
  class : (s : ℕ) (at : Phase) (was : Class) → class_by s e at was ≡ was

leaves : (e : Effect) → is_other e ≡ true → Leaves e
leaves (Begins s) is = absurd cc
leaves (Commits s) is = absurd cc
leaves (Aborts s) is = absurd cc
leaves (Moves phase point) is = absurd cc
leaves (Shelves point) is = absurd cc
leaves (Reads s key value) is = record { phase = λ _. refl; point = λ _. refl; opened = λ _ _. refl; class = λ _ _ _. refl }
leaves (Writes s key value) is = record { phase = λ _. refl; point = λ _. refl; opened = λ _ _. refl; class = λ _ _ _. refl }
leaves (Adds s key delta sum) is = record { phase = λ _. refl; point = λ _. refl; opened = λ _ _. refl; class = λ _ _ _. refl }
leaves (Waits s key exclusive) is = record { phase = λ _. refl; point = λ _. refl; opened = λ _ _. refl; class = λ _ _ _. refl }
leaves (Dies s key exclusive) is = record { phase = λ _. refl; point = λ _. refl; opened = λ _ _. refl; class = λ _ _ _. refl }
leaves (Takes key value) is = record { phase = λ _. refl; point = λ _. refl; opened = λ _ _. refl; class = λ _ _ _. refl }
leaves (Joins a b) is = record { phase = λ _. refl; point = λ _. refl; opened = λ _ _. refl; class = λ _ _ _. refl }
leaves Nothing is = record { phase = λ _. refl; point = λ _. refl; opened = λ _ _. refl; class = λ _ _ _. refl }

pub others_stay_of : OthersStayOf
others_stay_of st history phases step are is =
    let stays = leaves (effect step) is in
    let same : (class : Class) (t : ℕ) → is_of history class t ≡ is_of (step ∷ history) class t = λ class t.
    ap (λ b. b && same_class (class_of t history) class) (sym (stays.opened t (is_open t history)))
    ∙ ap (λ c. open_by t (effect step) (is_open t history) && same_class c class) (sym (stays.class t (phase_of history) (class_of t history))) in
    record {
      phase = are.phase ∙ sym (stays.phase (phase_of history));
      point = are.point ∙ sym (stays.point (point_of history));
      active = λ class. are.active class ∙ same_count (is_of history class) (is_of (step ∷ history) class) (same class) st.sessions;
    }
