-- What each moment of a slot keeps, and what becomes of its row.
use Rattle.std.proofs.Common.{◌≡◌, ℕ, ◌<◌, List, Option, Some, None, not, refl, sym, ap, ◌∙◌, arith, cond, Bool, true, false, eqb, ◌&&◌}
use Rattle.std.proofs.lemmas.Bool.Decides.{nat_tests}
use Rattle.pc_types.specs.declared.Class.{Class}
use Rattle.pc_types.specs.declared.Class.TheVariants.{Before, During, After}
use Rattle.pc_model.specs.Locks.{Queue}
use Rattle.pc_types.specs.Phases.{same_class}
use Rattle.pc_locks.specs.States.{Queues, queue_at}
use Rattle.pc_slots.specs.declared.versions.Stable.{Stable}
use Rattle.pc_slots.specs.declared.versions.Stable.TheVariants.{Empty, Held}
use Rattle.pc_slots.specs.declared.versions.Writer.{Writer}
use Rattle.pc_records.specs.Rows.{is_kept}
use Rattle.pc_records.specs.RowSteps.{closed_row}
use Rattle.pc_slots.specs.Slots.{Slot, committed, committed_by, version_or, pinned, pending_in, is_available, is_held, held_for, is_prepared, has_exclusive, is_locked, IsSlotSound, is_kept_slot, new_slot, held_or, saved, first_put, put_beside, put_slot, settled_class, settled_from, settled, undone_from, undone, closed_slot, taken_slot}
use Rattle.pc_records.specs.Slots.{row_of}

no : false ≡ true → ⊥
no e = cc

same_point : (n : ℕ) → eqb n n ≡ true
same_point n = grind (arith, nat_tests)

-- a slot that has nothing yet
pub sound_new : (point number : ℕ) (key : List ℕ) (queue : Queue) → IsSlotSound point queue (new_slot number key)
sound_new point number key queue = record { passed = omega arith; holds = λ e. absurd (no e); follows = λ e. refl; prepared = λ c e. refl; locked = refl }

-- a queue that still has the writer's lock
pub sound_queue : (point : ℕ) (queue new : Queue) (s : Slot) → (is_locked queue s.writer ≡ true → is_locked new s.writer ≡ true) → IsSlotSound point queue s → IsSlotSound point new s
sound_queue point queue new s still sound = record { passed = sound.passed; holds = sound.holds; follows = sound.follows; prepared = sound.prepared; locked = still sound.locked }

-- the first write
module _ (point t : ℕ) (value : Option (List ℕ)) (s : Slot) where
  first_pinned : (class : Class) (a m : Bool) (st : Stable) → s.is_in_closed_set ≡ a → eqb s.mark point ≡ m → s.stable ≡ st → (class ≡ Before → a ≡ false) → ((a && m) ≡ true → is_held st ≡ true) → ((a && m) ≡ false → st ≡ Empty) →
      pinned (first_put point t class s.live value s) ≡ pinned s
  first_pinned class a m st closed mark is outside holds follows = grind arith

  first_sound : (queue new : Queue) (class : Class) → s.writer ≡ None → (class ≡ Before → s.is_in_closed_set ≡ false) → has_exclusive new t ≡ true → IsSlotSound point queue s → IsSlotSound point new (first_put point t class s.live value s)
  first_sound queue new Before none outside has sound = record {
    passed = sound.passed;
    holds = sound.holds;
    follows = λ e. sound.follows e ∙ ap held_for none;
    prepared = λ c e. absurd (no (sym (outside refl) ∙ c));
    locked = has;
  }
  first_sound queue new During none outside has sound = record {
    passed = sound.passed;
    holds = λ e. held s.stable;
    follows = λ e. ap (λ st. held_or st s.live) (sound.follows e ∙ ap held_for none);
    prepared = λ c e. refl;
    locked = has;
  }
    where
      held : (st : Stable) → is_held (held_or st s.live) ≡ true
      held Empty = refl
      held (Held v) = refl
  first_sound queue new After none outside has sound = by_test (s.is_in_closed_set && not (eqb s.mark point)) refl
    where
      by_test : (b : Bool) → (s.is_in_closed_set && not (eqb s.mark point)) ≡ b →
          IsSlotSound point new (record (cond b (record s { stable = Held s.live; mark = point }) s) { live = value; writer = Some (record { transaction = t; class = After; before = s.live }) })
      by_test true is = record {
        passed = omega arith;
        holds = λ e. refl;
        follows = λ e. absurd (later s.is_in_closed_set (not (eqb s.mark point)) is e);
        prepared = λ c e. absurd (no (sym e ∙ same_point point));
        locked = has;
      }
        where
          later : (a b : Bool) → (a && b) ≡ true → (a && eqb point point) ≡ false → ⊥
          later true b e f = no (sym f ∙ same_point point)
          later false b e f = no e
      by_test false is = record {
        passed = sound.passed;
        holds = sound.holds;
        follows = λ e. sound.follows e ∙ ap held_for none;
        prepared = λ c e. absurd (no (sym is ∙ rw (c, e) refl));
        locked = has;
      }

  row_first : (queues : Queues) (class : Class) → pinned (first_put point t class s.live value s) ≡ pinned s → committed s ≡ s.live → row_of queues (first_put point t class s.live value s) ≡ row_of queues s
  row_first queues class same live = grind arith

-- any write
module _ (point t : ℕ) (class : Class) (value : Option (List ℕ)) (queue new : Queue) (s : Slot) (outside : class ≡ Before → s.is_in_closed_set ≡ false) (sound : IsSlotSound point queue s) where
  pub put_sound : has_exclusive new t ≡ true → is_locked new s.writer ≡ true → IsSlotSound point new (put_slot point t class s.live value s)
  put_sound has still = by_writer s.writer refl
    where
      by_writer : (o : Option Writer) → s.writer ≡ o → IsSlotSound point new (put_beside o point t class s.live value s)
      by_writer None is = first_sound point t value s queue new class is outside has sound
      by_writer (Some w) is = record { passed = sound.passed; holds = sound.holds; follows = sound.follows; prepared = sound.prepared; locked = still }

  -- a slot with a writer holds a version, if its key is in the closed set
  held_closed : (w : Writer) → s.writer ≡ Some w → s.is_in_closed_set ≡ true → is_held s.stable ≡ true
  held_closed w is closed = grind (arith, sound.holds, sound.follows, sound.prepared)

  pub put_row : (queues : Queues) → row_of queues (put_slot point t class s.live value s) ≡ row_of queues s
  put_row queues = grind (arith, row_first point t value s queues class, first_pinned point t value s class, held_closed)

-- what is the same in all slots that are written
saved_key : (point : ℕ) (class : Class) (copy : Option (List ℕ)) (s : Slot) → (saved point class copy s).key ≡ s.key
saved_key point class copy s = grind arith

pub put_key : (point t : ℕ) (class : Class) (copy value : Option (List ℕ)) (s : Slot) → (put_slot point t class copy value s).key ≡ s.key
put_key point t class copy value s = elim s.writer as (λ o. (put_beside o point t class copy value s).key ≡ s.key) [ None ↦ saved_key point class copy s | Some w ↦ refl ]

-- and the write that is there then
pub put_pending : (point t : ℕ) (class : Class) (copy value : Option (List ℕ)) (s : Slot) → ((w : Writer) → s.writer ≡ Some w → (w.transaction ≡ t) × (w.class ≡ class)) → pending_in (put_slot point t class copy value s) ≡ Some (record { by = t; class = class; value = value })
put_pending point t class copy value s own = grind arith

pub settled_writer : (point : ℕ) (s : Slot) → (settled point s).writer ≡ None
settled_writer point s = grind arith

pub settled_again : (point : ℕ) (s : Slot) → settled point (settled point s) ≡ settled point s
settled_again point s = ap (λ o. settled_from o point (settled point s)) (settled_writer point s)

key_class : (c : Class) (point : ℕ) (s : Slot) → (settled_class c point s).key ≡ s.key
key_class c point s = grind arith

pub settled_key : (point : ℕ) (s : Slot) → (settled point s).key ≡ s.key
settled_key point s = elim s.writer as (λ o. (settled_from o point s).key ≡ s.key) [ None ↦ refl | Some w ↦ key_class w.class point s ]

number_class : (c : Class) (point : ℕ) (s : Slot) → (settled_class c point s).number ≡ s.number
number_class c point s = grind arith

pub settled_number : (point : ℕ) (s : Slot) → (settled point s).number ≡ s.number
settled_number point s = elim s.writer as (λ o. (settled_from o point s).number ≡ s.number) [ None ↦ refl | Some w ↦ number_class w.class point s ]

pub settled_sound : (point : ℕ) (queue : Queue) (s : Slot) → IsSlotSound point queue s → IsSlotSound point queue (settled point s)
settled_sound point queue s sound = by_writer s.writer refl
  where
    during : (w : Writer) → s.writer ≡ Some w → w.class ≡ During → (b : Bool) → s.is_in_closed_set ≡ b → IsSlotSound point queue (cond b (record s { mark = point; writer = None; is_in_open_set = true }) (record s { stable = Empty; writer = None; is_in_open_set = true }))
    during w is class true closed = record {
      passed = omega arith;
      holds = λ e. by_test (is_available point s) refl;
      follows = λ e. absurd (no (sym e ∙ rw (closed, same_point point) refl));
      prepared = λ c e. refl;
      locked = refl;
    }
      where
        by_test : (b : Bool) → is_available point s ≡ b → is_held s.stable ≡ true
        by_test true e = sound.holds e
        by_test false e = ap is_held (sound.follows e ∙ ap held_for is ∙ ap (λ c. cond (same_class c During) (Held w.before) Empty) class)
    during w is class false closed = record {
      passed = sound.passed;
      holds = λ e. absurd (no (rw closed at e));
      follows = λ e. refl;
      prepared = λ c e. refl;
      locked = refl;
    }

    by_class : (w : Writer) (c : Class) → s.writer ≡ Some w → w.class ≡ c → IsSlotSound point queue (settled_class c point s)
    by_class w Before is class = record {
      passed = sound.passed;
      holds = sound.holds;
      follows = λ e. sound.follows e ∙ ap held_for is ∙ ap (λ c. cond (same_class c During) (Held w.before) Empty) class;
      prepared = λ c e. refl;
      locked = refl;
    }
    by_class w During is class = during w is class s.is_in_closed_set refl
    by_class w After is class = record {
      passed = sound.passed;
      holds = sound.holds;
      follows = λ e. sound.follows e ∙ ap held_for is ∙ ap (λ c. cond (same_class c During) (Held w.before) Empty) class;
      prepared = λ c e. refl;
      locked = refl;
    }

    by_writer : (o : Option Writer) → s.writer ≡ o → IsSlotSound point queue (settled_from o point s)
    by_writer None is = sound
    by_writer (Some w) is = by_class w w.class is refl

pub row_settled : (queues : Queues) (point : ℕ) (s : Slot) (w : Writer) → s.writer ≡ Some w → row_of queues (settled point s) ≡ (s.key, record (row_of queues s).1 { value = s.live; is_in_open_set = true })
row_settled queues point s w is = grind arith

-- an abort
pub undone_writer : (point : ℕ) (s : Slot) → (undone point s).writer ≡ None
undone_writer point s = grind arith

pub undone_again : (point : ℕ) (s : Slot) → undone point (undone point s) ≡ undone point s
undone_again point s = ap (λ o. undone_from o point (undone point s)) (undone_writer point s)

pub undone_key : (point : ℕ) (s : Slot) → (undone point s).key ≡ s.key
undone_key point s = elim s.writer as (λ o. (undone_from o point s).key ≡ s.key) [ None ↦ refl | Some w ↦ refl ]

pub undone_number : (point : ℕ) (s : Slot) → (undone point s).number ≡ s.number
undone_number point s = elim s.writer as (λ o. (undone_from o point s).number ≡ s.number) [ None ↦ refl | Some w ↦ refl ]

pub undone_sound : (point : ℕ) (queue : Queue) (s : Slot) → IsSlotSound point queue s → IsSlotSound point queue (undone point s)
undone_sound point queue s sound = by_writer s.writer refl
  where
    by_test : (w : Writer) → s.writer ≡ Some w → (c a : Bool) → same_class w.class During ≡ c → is_available point s ≡ a → IsSlotSound point queue (record s { live = w.before; writer = None; stable = cond (c && not a) Empty s.stable })
    by_test w is true true class avail = record { passed = sound.passed; holds = sound.holds; follows = λ e. absurd (no (sym e ∙ avail)); prepared = λ c e. refl; locked = refl }
    by_test w is true false class avail = record { passed = sound.passed; holds = λ e. absurd (no (sym avail ∙ e)); follows = λ e. refl; prepared = λ c e. refl; locked = refl }
    by_test w is false a class avail = record { passed = sound.passed; holds = sound.holds; follows = λ e. sound.follows e ∙ ap held_for is ∙ ap (λ b. cond b (Held w.before) Empty) class; prepared = λ c e. refl; locked = refl }

    by_writer : (o : Option Writer) → s.writer ≡ o → IsSlotSound point queue (undone_from o point s)
    by_writer None is = sound
    by_writer (Some w) is = by_test w is (same_class w.class During) (is_available point s) refl refl

pub row_undone : (queues : Queues) (point : ℕ) (queue : Queue) (s : Slot) → IsSlotSound point queue s → row_of queues (undone point s) ≡ row_of queues s
row_undone queues point queue s sound = grind (arith, sound.holds, sound.follows, sound.prepared)

-- a key is taken
pub taken_sound : (point : ℕ) (queue : Queue) (s : Slot) → ((w : Writer) → s.writer ≡ Some w → same_class w.class During ≡ false) → IsSlotSound point queue s → IsSlotSound point queue (taken_slot s)
taken_sound point queue s over sound = record { passed = omega arith; holds = λ e. grind arith; follows = λ e. grind (arith, over); prepared = λ c e. grind arith; locked = sound.locked }

-- the open set is closed
module _ (point later : ℕ) (queue : Queue) (s : Slot) (after : point < later) (none : s.is_in_closed_set ≡ false) (sound : IsSlotSound point queue s) where
  stable_is : s.stable ≡ held_for s.writer
  stable_is = sound.follows (ap (λ b. b && eqb s.mark point) none)

  pub closed_sound : is_prepared s.writer ≡ true → IsSlotSound later queue (closed_slot s)
  closed_sound during = record { passed = omega (arith, sound.passed); holds = λ e. grind (arith, nat_tests, sound.passed); follows = λ e. stable_is; prepared = λ c e. during; locked = sound.locked }

  pub row_closed : (queues : Queues) → is_prepared s.writer ≡ true → row_of queues (closed_slot s) ≡ closed_row (row_of queues s)
  row_closed queues during = ap (λ v. (s.key, record { value = committed s; is_in_open_set = false; is_in_closed_set = s.is_in_open_set; pinned = cond s.is_in_open_set v None; requests = queue_at queues s.number })) (ap (λ st. version_or st s.live) stable_is ∙ by_writer s.writer during)
    where
      by_writer : (o : Option Writer) → is_prepared o ≡ true → version_or (held_for o) s.live ≡ committed_by o s.live
      by_writer None e = refl
      by_writer (Some w) e = ap (λ b. version_or (cond b (Held w.before) Empty) s.live) e

-- what keeps a slot keeps its row
pub kept_row : (point : ℕ) (queue : Queue) (s : Slot) → IsSlotSound point queue s → is_kept_slot queue s ≡ is_kept (record { value = committed s; is_in_open_set = s.is_in_open_set; is_in_closed_set = s.is_in_closed_set; pinned = pinned s; requests = queue })
kept_row point queue s sound = grind (arith, nat_tests, sound.locked, sound.follows)
