-- What is written is the same with any copy, if none is kept.
use Rattle.std.proofs.Common.{◌≡◌, ℕ, List, Option, refl, true, arith}
use Rattle.pc_types.specs.declared.Class.{Class}
use Rattle.pc_types.specs.declared.Outcome.{Outcome}
use Rattle.pc_types.specs.declared.Outcome.TheVariants.{Granted, Queued, Died}
use Rattle.pc_slots.specs.Slots.{Slot, saved, saves_copy, keeps_copy, put_slot, granted_slot}

saved_alike : (point : ℕ) (class : Class) (a b : Option (List ℕ)) (s : Slot) → (saves_copy class point s ≡ true → a ≡ b) → saved point class a s ≡ saved point class b s
saved_alike point class a b s same = grind arith

put_alike : (point t : ℕ) (class : Class) (a b value : Option (List ℕ)) (s : Slot) → (keeps_copy point class s ≡ true → a ≡ b) → put_slot point t class a value s ≡ put_slot point t class b value s
put_alike point t class a b value s same = grind (arith, saved_alike point class a b s)

pub granted_alike : (o : Outcome) (point t : ℕ) (class : Class) (a b value : Option (List ℕ)) (s : Slot) → (keeps_copy point class s ≡ true → a ≡ b) → granted_slot o point t class a value s ≡ granted_slot o point t class b value s
granted_alike Granted point t class a b value s same = put_alike point t class a b value s same
granted_alike Queued point t class a b value s same = refl
granted_alike Died point t class a b value s same = refl
