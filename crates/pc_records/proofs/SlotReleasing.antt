-- Rows once requests were removed.
use Rattle.std.proofs.Common.{◌≡◌, ℕ, List, [], ◌∷◌, not, filter, Some, None, refl, ap, ◌∙◌, arith, cond, true, false, eqb}
use Rattle.std.proofs.lemmas.Bool.Decides.{nat_tests}
use Rattle.pc_model.specs.Locks.{Queue, queue_without}
use Rattle.pc_model.specs.Queues.{stands_in}
use Rattle.pc_model.proofs.QueueLaws.{stands_granted}
use Rattle.pc_locks.specs.States.{Queues, SlotLists, queue_at, slots_of, first_in_list, AreLinked}
use Rattle.pc_records.specs.Rows.{Record}
use Rattle.pc_records.specs.RowSteps.{if_kept, released}
use Rattle.pc_slots.specs.Slots.{Slot}
use Rattle.pc_records.specs.Slots.{numbers_of, times, AreSlotsKept}

keeps_out : (t : ℕ) (rs : Queue) → stands_in (filter (λ r. not (eqb r.transaction t)) rs) t ≡ false
keeps_out t [] = refl
keeps_out t (r ∷ rs) = grind (arith, nat_tests, keeps_out t rs)

-- a removed request is gone
pub gone : (t : ℕ) (q : Queue) → stands_in (queue_without q t) t ≡ false
gone t q = stands_granted [] (filter (λ r. not (eqb r.transaction t)) q) t ∙ keeps_out t q

-- the record without the transaction's request
abbrev pub without : ℕ → Record → Record
without t r = record r { requests = queue_without r.requests t }

pub released_one : (t : ℕ) (r : Record) → stands_in r.requests t ≡ true → released t r ≡ if_kept (without t r)
released_one t r stands = ap (λ b. cond b (if_kept (without t r)) (Some r)) stands

pub released_again : (t : ℕ) (r : Record) → released t (without t r) ≡ Some (without t r)
released_again t r = ap (λ b. cond b (if_kept (without t (without t r))) (Some (without t r))) (gone t r.requests)

-- a transaction with an empty list has no request
pub stands_nowhere : (t : ℕ) (queues : Queues) (lists : SlotLists) → AreLinked queues lists → None ≡ first_in_list (slots_of lists t) → (n : ℕ) → stands_in (queue_at queues n) t ≡ false
stands_nowhere t queues lists linked none n = grind (arith, linked.listed t n)

-- and it is at the first slot of its list
pub stands_first : (t n : ℕ) (queues : Queues) (lists : SlotLists) → AreLinked queues lists → Some n ≡ first_in_list (slots_of lists t) → stands_in (queue_at queues n) t ≡ true
stands_first t n queues lists linked first = grind (arith, nat_tests, linked.listed t n)

-- if the transaction has a request there is a slot
pub slot_there : (t n : ℕ) (slots : List Slot) (queues : Queues) → AreSlotsKept slots queues → stands_in (queue_at queues n) t ≡ true → times n (numbers_of slots) ≡ 0 → ⊥
slot_there t n slots queues kept stands none = grind (arith, kept.bare n none)
