-- What the sessions' open transactions are after an effect, and that a list of them says it.
use Rattle.std.proofs.Common.{◌≡◌, ℕ, zero, suc, ◌+◌, ◌-◌, ◌<◌, ◌≤◌, ◌++◌, List, [], ◌∷◌, length, take, get_or, set, Option, Some, None, refl, sym, ap, ◌∙◌, arith, Bool, true, false, eqb, nat_lt, ◌||◌, ◌&&◌, cond}
use Rattle.std.specs.Prelude.{filter}
use Rattle.std.proofs.lemmas.Bool.Decides.{nat_tests}
use Rattle.std.proofs.lemmas.List.{take_more, take_all, get_or-set_same, get_or-set_other}
use Rattle.pc_model.specs.Files.{numbers_to}
use Rattle.pc_model.specs.History.{History, Effect, class_of, class_by, phase_of, begun, is_open, open_by, transaction_number_of, transaction_number_by, has_died, died_by, writes_of, writes_by}
use Rattle.pc_types.specs.declared.Class.{Class}
use Rattle.pc_types.specs.Phases.{same_class}
use Rattle.pc_transactions.specs.Sessions.{with_session, is_of_class, class_count}
use Rattle.pc_transactions.specs.Actives.{active_in as session_at}
use Rattle.pc_transactions.specs.Actives.{Active}
use Rattle.pc_engine.specs.Stands.{active_now, active_after}

-- the number is no session's
abbrev pub is_past : List (Option Active) → ℕ → Bool
is_past sessions s = eqb s 0 || nat_lt (length sessions) s

-- the session's open transaction after this effect
abbrev pub active_by : ℕ → Effect → History → Option Active
active_by s e h = cond (open_by s e (is_open s h)) (Some (record { number = transaction_number_by s e (begun h) (transaction_number_of s h); class = class_by s e (phase_of h) (class_of s h); has_died = died_by s e (has_died s h); writes = writes_by s e (writes_of s h) })) None

-- the sessions say which transactions are open after the history, and after one more effect
abbrev pub AreSessions : List (Option Active) → History → Type 0
AreSessions sessions h = (t : ℕ) → is_past sessions t ≡ false → session_at sessions t ≡ active_after t h

abbrev pub AreSessionsBy : List (Option Active) → Effect → History → Type 0
AreSessionsBy sessions e h = (t : ℕ) → is_past sessions t ≡ false → session_at sessions t ≡ active_by t e h

pub same_number : (s : ℕ) → eqb s s ≡ true
same_number s = grind (arith, nat_tests)

-- one session is set
pub session_set : (ss : List (Option Active)) (s t : ℕ) (x : Option Active) → is_past ss s ≡ false → is_past ss t ≡ false → session_at (with_session ss s x) t ≡ cond (eqb s t) x (session_at ss t)
session_set ss s t x own other = by_same (eqb s t) refl
  where
    inside : s - 1 < length ss
    inside = grind (arith, nat_tests, own)

    by_same : (b : Bool) → eqb s t ≡ b → session_at (with_session ss s x) t ≡ cond b x (session_at ss t)
    by_same true e = ap (λ k. get_or (set ss (s - 1) x) (k - 1) None) (let one : t ≡ s = grind (arith, nat_tests, e) in one) ∙ get_or-set_same ss (s - 1) x None inside
    by_same false e = get_or-set_other ss (s - 1) (t - 1) x None (λ same. grind (arith, nat_tests, e, own, other, same))

-- an effect on one session
pub one_session : (ss : List (Option Active)) (s : ℕ) (x : Option Active) (e : Effect) (h : History) → is_past ss s ≡ false → x ≡ active_by s e h → ((t : ℕ) → eqb s t ≡ false → active_by t e h ≡ active_after t h) → AreSessions ss h →
    (t : ℕ) → is_past ss t ≡ false → session_at (with_session ss s x) t ≡ active_by t e h
one_session ss s x e h own is others before t there = session_set ss s t x own there ∙ by_same (eqb s t) refl
  where
    by_same : (b : Bool) → eqb s t ≡ b → cond b x (session_at ss t) ≡ active_by t e h
    by_same true same = is ∙ ap (λ k. active_by k e h) (let one : s ≡ t = grind (arith, nat_tests, same) in one)
    by_same false same = before t there ∙ sym (others t same)

-- the sessions determine how many are active of a class
of_in : (class : Class) (b : Bool) (a : Active) → is_of_class class (cond b (Some a) None) ≡ (b && same_class a.class class)
of_in class true a = refl
of_in class false a = refl

length-filter_push : {A : Type 0} (p : A → Bool) (xs : List A) (x : A) → length (filter p (xs ++ x ∷ [])) ≡ length (filter p xs) + cond (p x) 1 0
length-filter_push p [] x = elim (p x) as (λ b. length (cond b (x ∷ []) []) ≡ 0 + cond b 1 0) [ true ↦ refl | false ↦ refl ]
length-filter_push p (y ∷ ys) x = by_test (p y) (length-filter_push p ys x)
  where
    by_test : (b : Bool) → length (filter p (ys ++ x ∷ [])) ≡ length (filter p ys) + cond (p x) 1 0 → length (cond b (y ∷ filter p (ys ++ x ∷ [])) (filter p (ys ++ x ∷ []))) ≡ length (cond b (y ∷ filter p ys) (filter p ys)) + cond (p x) 1 0
    by_test true e = grind (arith, e)
    by_test false e = e

module _ (ss : List (Option Active)) (h : History) (class : Class) (are : AreSessions ss h) where
  abbrev open_of : ℕ → Bool
  open_of s = is_open s h && same_class (class_of s h) class

  count_to : (n : ℕ) → n ≤ length ss → class_count class (take n ss) ≡ length (filter open_of (numbers_to n))
  count_to zero le = refl
  count_to (suc n) le =
      let inside : n < length ss = omega (arith, le) in
      let there : is_past ss (n + 1) ≡ false = grind (arith, nat_tests, inside) in
      let less : n ≤ length ss = omega (arith, le) in
      let place : n ≡ n + 1 - 1 = omega arith in
      let found : is_of_class class (get_or ss n None) ≡ open_of (n + 1) = ap (λ k. is_of_class class (get_or ss k None)) place ∙ ap (is_of_class class) (are (n + 1) there) ∙ of_in class (is_open (n + 1) h) (active_now (n + 1) h) in
      let next : suc n ≡ n + 1 = omega arith in
      ap (λ k. class_count class (take k ss)) next
      ∙ ap (class_count class) (take_more ss n None inside) ∙ length-filter_push (is_of_class class) (take n ss) (get_or ss n None)
      ∙ ap (λ m. m + cond (is_of_class class (get_or ss n None)) 1 0) (count_to n less)
      ∙ ap (λ b. length (filter open_of (numbers_to n)) + cond b 1 0) found
      ∙ sym (length-filter_push open_of (numbers_to n) (n + 1))
      ∙ ap (λ k. length (filter open_of (numbers_to n ++ k ∷ []))) (sym next)

  pub count_now : class_count class ss ≡ length (filter open_of (numbers_to (length ss)))
  count_now = ap (class_count class) (sym (take_all (length ss) ss (let le : length ss ≤ length ss = omega arith in le))) ∙ count_to (length ss) (let le : length ss ≤ length ss = omega arith in le)
