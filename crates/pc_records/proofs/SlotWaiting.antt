-- Who waits in the queues waits in the rows.
use Rattle.std.proofs.Common.{◌≡◌, ℕ, zero, suc, ◌<◌, List, [], ◌∷◌, refl, sym, ap, ◌∙◌, arith, Bool, true, false}
use Rattle.std.specs.List.{list_any}
use Rattle.std.proofs.lemmas.Bool.Decides.{nat_tests}
use Rattle.pc_model.specs.Locks.{Queue, request_in, is_ungranted}
use Rattle.pc_locks.specs.States as states
use Rattle.pc_locks.specs.States.{Queues, SlotLists, queue_at, slots_of, AreLinked}
use Rattle.pc_locks.proofs.StateLaws.{ready_at}
use Rattle.pc_records.specs.RowSteps.{is_waiting_in_rows}
use Rattle.pc_slots.specs.Slots.{Slot}
use Rattle.pc_records.specs.Slots.{rows_of, numbers_of, times, AreSlotsKept}

abbrev pub waits_in : ℕ → Queue → Bool
waits_in t q = is_ungranted (request_in q t)

-- none waits in a queue if none waits in the rows
none_at : (t n : ℕ) (queues : Queues) (slots : List Slot) → is_waiting_in_rows (rows_of queues slots) t ≡ false → 0 < times n (numbers_of slots) → waits_in t (queue_at queues n) ≡ false
none_at t n queues [] none more = absurd (omega (arith, more))
none_at t n queues (x ∷ xs) none more = grind (arith, nat_tests, none_at t n queues xs)

none_waits : (t n : ℕ) (queues : Queues) (slots : List Slot) → ((n : ℕ) → times n (numbers_of slots) ≡ 0 → queue_at queues n ≡ []) → is_waiting_in_rows (rows_of queues slots) t ≡ false → waits_in t (queue_at queues n) ≡ false
none_waits t n queues slots bare none = by_count (times n (numbers_of slots)) refl
  where
    by_count : (m : ℕ) → times n (numbers_of slots) ≡ m → waits_in t (queue_at queues n) ≡ false
    by_count zero e = ap (waits_in t) (bare n e)
    by_count (suc m) e = none_at t n queues slots none (omega (arith, e))

any_none : (t : ℕ) (queues : Queues) (slots : List ℕ) → ((n : ℕ) → waits_in t (queue_at queues n) ≡ false) → list_any (λ n. waits_in t (queue_at queues n)) slots ≡ false
any_none t queues [] f = refl
any_none t queues (n ∷ ns) f = rw (f n) (any_none t queues ns f)

-- and the other way round
none_in_rows : (t : ℕ) (queues : Queues) (slots : List Slot) → ((n : ℕ) → waits_in t (queue_at queues n) ≡ false) → is_waiting_in_rows (rows_of queues slots) t ≡ false
none_in_rows t queues [] f = refl
none_in_rows t queues (x ∷ xs) f = rw (f x.number) (none_in_rows t queues xs f)

pub waits_same : (slots : List Slot) (queues : Queues) (lists : SlotLists) (t : ℕ) → AreLinked queues lists → AreSlotsKept slots queues → states.is_waiting_in_state (record { queues = queues; lists = lists }) t ≡ is_waiting_in_rows (rows_of queues slots) t
waits_same slots queues lists t linked kept = by_test (states.is_waiting_in_state (record { queues = queues; lists = lists }) t) (is_waiting_in_rows (rows_of queues slots) t) refl refl
  where
    by_test : (a b : Bool) → states.is_waiting_in_state (record { queues = queues; lists = lists }) t ≡ a → is_waiting_in_rows (rows_of queues slots) t ≡ b → a ≡ b
    by_test true true e f = refl
    by_test false false e f = refl
    by_test true false e f = sym e ∙ any_none t queues (slots_of lists t) (λ n. none_waits t n queues slots kept.bare f)
    by_test false true e f = sym (sym f ∙ none_in_rows t queues slots (ready_at queues lists t linked e))
