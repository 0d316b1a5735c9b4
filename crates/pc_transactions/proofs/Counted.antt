-- That the phases count the open transactions of the sessions.
use Rattle.std.proofs.Common.{◌≡◌, ℕ, zero, suc, ◌+◌, ◌-◌, ◌<◌, ◌≤◌, List, [], ◌∷◌, length, set, replicate, Option, Some, None, is_some, is_none, refl, sym, ap, ◌∙◌, arith, Bool, true, false, cond}
use Rattle.std.specs.Prelude.{filter, Result, Ok, Err, IfOk, OnErr}
use Rattle.pc_types.specs.declared.Class.{Class}
use Rattle.pc_types.specs.declared.Class.TheVariants.{Before, During, After}
use Rattle.pc_types.specs.declared.Phase.TheVariants as phase
use Rattle.pc_types.specs.declared.Write.{Write}
use Rattle.pc_types.specs.declared.Outcome.{Outcome}
use Rattle.pc_types.specs.declared.Outcome.TheVariants.{Granted, Queued, Died}
use Rattle.pc_types.specs.Phases.{same_class}
use Rattle.pc_phase.specs.declared.change.Change.{Change}
use Rattle.pc_phase.specs.Phases.{Phases, active_count, with_active, entered, left, advanced}
use Rattle.pc_transactions.specs.Sessions.{class_at, is_of_class, class_count, after_writing, after_dying, if_died, if_granted}
use Rattle.pc_transactions.specs.Actives.{Active}
use Rattle.pc_transactions.specs.InPlace.{at_place}
use Rattle.pc_transactions.specs.Counts.{AreCounted}
use Rattle.pc_phase.proofs.PhaseLaws.{phase_stays, point_stays}

-- 1 if it is so, else 0
abbrev one_if : Bool → ℕ
one_if b = cond b 1 0

-- one more, or as many
head_counted : (class : Class) (a : Option Active) (rest : List (Option Active)) → class_count class (a ∷ rest) ≡ one_if (is_of_class class a) + class_count class rest
head_counted class a rest = by_test (is_of_class class a)
  where
    by_test : (b : Bool) → length (cond b (a ∷ filter (is_of_class class) rest) (filter (is_of_class class) rest)) ≡ one_if b + length (filter (is_of_class class) rest)
    by_test true = omega arith
    by_test false = omega arith

-- one session is set
set_counted : (class : Class) (ss : List (Option Active)) (j : ℕ) (x : Option Active) → j < length ss → class_count class (set ss j x) + one_if (is_of_class class (at_place ss j)) ≡ class_count class ss + one_if (is_of_class class x)
set_counted class [] j x inside = absurd (omega (arith, inside))
set_counted class (a ∷ rest) zero x inside = omega (arith, head_counted class x rest, head_counted class a rest)
set_counted class (a ∷ rest) (suc j) x inside =
    let less : j < length rest = omega (arith, inside) in
    omega (arith, head_counted class a (set rest j x), head_counted class a rest, set_counted class rest j x less)

-- it is set to one of the same class
same_counted : (class : Class) (ss : List (Option Active)) (j : ℕ) (x : Option Active) → is_of_class class x ≡ is_of_class class (at_place ss j) → class_count class (set ss j x) ≡ class_count class ss
same_counted class [] j x same = refl
same_counted class (a ∷ rest) zero x same = head_counted class x rest ∙ ap (λ b. one_if b + class_count class rest) same ∙ sym (head_counted class a rest)
same_counted class (a ∷ rest) (suc j) x same = head_counted class a (set rest j x) ∙ ap (λ n. one_if (is_of_class class a) + n) (same_counted class rest j x same) ∙ sym (head_counted class a rest)

-- no more are counted than there are sessions
few_counted : (class : Class) (ss : List (Option Active)) → class_count class ss ≤ length ss
few_counted class [] = omega arith
few_counted class (a ∷ rest) = by_test (is_of_class class a) (head_counted class a rest) (few_counted class rest)
  where
    by_test : (b : Bool) → class_count class (a ∷ rest) ≡ one_if b + class_count class rest → class_count class rest ≤ length rest → class_count class (a ∷ rest) ≤ suc (length rest)
    by_test true e few = omega (arith, e, few)
    by_test false e few = omega (arith, e, few)

-- a count that is set leaves the other counts
active_then : (phases : Phases) (class c : Class) (n : ℕ) → active_count (with_active phases class n) c ≡ cond (same_class class c) n (active_count phases c)
active_then phases Before Before n = refl
active_then phases Before During n = refl
active_then phases Before After n = refl
active_then phases During Before n = refl
active_then phases During During n = refl
active_then phases During After n = refl
active_then phases After Before n = refl
active_then phases After During n = refl
active_then phases After After n = refl

same_one : (a b : Class) → same_class a b ≡ true → a ≡ b
same_one Before Before e = refl
same_one During During e = refl
same_one After After e = refl
same_one Before During e = absurd (let no : false ≡ true = e in cc)
same_one Before After e = absurd (let no : false ≡ true = e in cc)
same_one During Before e = absurd (let no : false ≡ true = e in cc)
same_one During After e = absurd (let no : false ≡ true = e in cc)
same_one After Before e = absurd (let no : false ≡ true = e in cc)
same_one After During e = absurd (let no : false ≡ true = e in cc)

same_self : (a : Class) → same_class a a ≡ true
same_self Before = refl
same_self During = refl
same_self After = refl

-- entering and leaving keep the phase and the point
pub entered_phase : (phases now : Phases) (class : Class) → now ≡ entered phases class → now.phase ≡ phases.phase
entered_phase phases now class is = ap (λ (p : Phases). p.phase) is ∙ phase_stays phases class (active_count phases class + 1)

pub entered_point : (phases now : Phases) (class : Class) → now ≡ entered phases class → now.point ≡ phases.point
entered_point phases now class is = ap (λ (p : Phases). p.point) is ∙ point_stays phases class (active_count phases class + 1)

pub left_phase : (phases now : Phases) (class : Class) → now ≡ left phases class → now.phase ≡ phases.phase
left_phase phases now class is = ap (λ (p : Phases). p.phase) is ∙ phase_stays phases class (active_count phases class - 1)

pub left_point : (phases now : Phases) (class : Class) → now ≡ left phases class → now.point ≡ phases.point
left_point phases now class is = ap (λ (p : Phases). p.point) is ∙ point_stays phases class (active_count phases class - 1)

module _ (phases : Phases) (ss : List (Option Active)) (counted : AreCounted phases ss) where
  -- there is room to enter
  pub may_enter : (class : Class) → length ss ≤ 64 → active_count phases class < 4294967295
  may_enter class few = omega (arith, counted class, few_counted class ss, few)

  -- a transaction entered
  pub entered_counted : (now : Phases) (j : ℕ) (a : Active) (class : Class) → j < length ss → is_none (at_place ss j) ≡ true → a.class ≡ class → now ≡ entered phases class → AreCounted now (set ss j (Some a))
  entered_counted now j a class inside idle own is c =
      ap (λ (p : Phases). active_count p c) is ∙ active_then phases class c (active_count phases class + 1) ∙ by_same (same_class class c) refl (set_counted c ss j (Some a) inside)
    where
      none : (x : Option Active) → is_none x ≡ true → is_of_class c x ≡ false
      none None e = refl
      none (Some x) e = absurd (let no : false ≡ true = e in cc)

      by_same : (b : Bool) → same_class class c ≡ b → class_count c (set ss j (Some a)) + one_if (is_of_class c (at_place ss j)) ≡ class_count c ss + one_if (same_class a.class c) → cond b (active_count phases class + 1) (active_count phases c) ≡ class_count c (set ss j (Some a))
      by_same true same all =
          let one : active_count phases class ≡ class_count c ss = ap (active_count phases) (same_one class c same) ∙ counted c in
          omega (arith, one, all, ap one_if (none (at_place ss j) idle), ap one_if (ap (λ k. same_class k c) own ∙ same))
      by_same false same all = omega (arith, counted c, all, ap one_if (none (at_place ss j) idle), ap one_if (ap (λ k. same_class k c) own ∙ same))

  of_own : (x : Option Active) (c : Class) → is_some x ≡ true → is_of_class c x ≡ same_class (class_at x) c
  of_own None c e = absurd (let no : false ≡ true = e in cc)
  of_own (Some x) c e = refl

  -- an open transaction is counted
  pub may_leave : (j : ℕ) (class : Class) → j < length ss → is_some (at_place ss j) ≡ true → class ≡ class_at (at_place ss j) → 0 < active_count phases class
  may_leave j class inside there own =
      omega (arith, counted class, set_counted class ss j None inside, ap one_if (of_own (at_place ss j) class there ∙ ap (λ k. same_class k class) (sym own) ∙ same_self class))

  -- a transaction left
  pub left_counted : (now : Phases) (j : ℕ) (class : Class) → j < length ss → is_some (at_place ss j) ≡ true → class ≡ class_at (at_place ss j) → now ≡ left phases class → AreCounted now (set ss j None)
  left_counted now j class inside there own is c =
      ap (λ (p : Phases). active_count p c) is ∙ active_then phases class c (active_count phases class - 1) ∙ by_same (same_class class c) refl (set_counted c ss j None inside)
    where
      by_same : (b : Bool) → same_class class c ≡ b → class_count c (set ss j None) + one_if (is_of_class c (at_place ss j)) ≡ class_count c ss + 0 → cond b (active_count phases class - 1) (active_count phases c) ≡ class_count c (set ss j None)
      by_same true same all =
          let one : active_count phases class ≡ class_count c ss = ap (active_count phases) (same_one class c same) ∙ counted c in
          omega (arith, one, all, ap one_if (of_own (at_place ss j) c there ∙ ap (λ k. same_class k c) (sym own) ∙ same))
      by_same false same all = omega (arith, counted c, all, ap one_if (of_own (at_place ss j) c there ∙ ap (λ k. same_class k c) (sym own) ∙ same))

  died_of : (x : Option Active) (c : Class) → is_of_class c (after_dying x) ≡ is_of_class c x
  died_of None c = refl
  died_of (Some x) c = refl

  wrote_of : (x : Option Active) (write : Write) (c : Class) → is_of_class c (after_writing x write) ≡ is_of_class c x
  wrote_of None write c = refl
  wrote_of (Some x) write c = refl

  -- a request to read was answered, or an allocation failed
  pub read_counted : {A E : Type 0} (result : Result A E) (o : Outcome) (after : List (Option Active)) (j : ℕ) → IfOk result (λ r. after ≡ if_died o (set ss j (after_dying (at_place ss j))) ss) → OnErr result (after ≡ ss) → AreCounted phases after
  read_counted (Ok r) o after j is same c = counted c ∙ sym (ap (class_count c) is ∙ by_outcome o)
    where
      by_outcome : (o : Outcome) → class_count c (if_died o (set ss j (after_dying (at_place ss j))) ss) ≡ class_count c ss
      by_outcome Granted = refl
      by_outcome Queued = refl
      by_outcome Died = same_counted c ss j (after_dying (at_place ss j)) (died_of (at_place ss j) c)
  read_counted (Err e) o after j is same c = counted c ∙ sym (ap (class_count c) same)

  -- a request to write was
  pub request_counted : {A E : Type 0} (result : Result A E) (told : A → Outcome) (write : Write) (after : List (Option Active)) (j : ℕ) →
      IfOk result (λ r. after ≡ if_died (told r) (set ss j (after_dying (at_place ss j))) (if_granted (told r) (set ss j (after_writing (at_place ss j) write)) ss)) → OnErr result (after ≡ ss) → AreCounted phases after
  request_counted (Ok r) told write after j is same c = counted c ∙ sym (ap (class_count c) is ∙ by_outcome (told r))
    where
      by_outcome : (o : Outcome) → class_count c (if_died o (set ss j (after_dying (at_place ss j))) (if_granted o (set ss j (after_writing (at_place ss j) write)) ss)) ≡ class_count c ss
      by_outcome Granted = same_counted c ss j (after_writing (at_place ss j) write) (wrote_of (at_place ss j) write c)
      by_outcome Queued = refl
      by_outcome Died = same_counted c ss j (after_dying (at_place ss j)) (died_of (at_place ss j) c)
  request_counted (Err e) told write after j is same c = counted c ∙ sym (ap (class_count c) same)

-- none is counted if no transaction is open
pub first_counted : (phases : Phases) (ss : List (Option Active)) (n : ℕ) → phases ≡ (let first : Phases = record { phase = phase.Rest; point = 0; before = 0; during = 0; after = 0 } in first) → ss ≡ replicate n None → AreCounted phases ss
first_counted phases ss n is idle c = rw (is, idle) (by_class c ∙ sym (none n))
  where
    none : (n : ℕ) → class_count c (replicate n None) ≡ 0
    none zero = refl
    none (suc n) = none n

    by_class : (c : Class) → active_count (record { phase = phase.Rest; point = 0; before = 0; during = 0; after = 0 }) c ≡ 0
    by_class Before = refl
    by_class During = refl
    by_class After = refl

-- a change of the phase leaves the counts
pub advanced_counted : (phases now : Phases) (change : Change) (ss : List (Option Active)) → now ≡ advanced phases change → AreCounted phases ss → AreCounted now ss
advanced_counted phases now change ss is counted c = ap (λ (p : Phases). active_count p c) is ∙ stays c ∙ counted c
  where
    stays : (c : Class) → active_count (advanced phases change) c ≡ active_count phases c
    stays Before = refl
    stays During = refl
    stays After = refl
