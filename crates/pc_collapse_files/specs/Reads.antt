-- The reads of the inputs: whether one has failed.
use Rattle.std.specs.Prelude.{◌≡◌, ◌≢◌, Bool, true, false, List, None, map, nat_lt}
use Rattle.std.specs.List.{All, list_any}
use Rattle.pc_types.specs.declared.refusal.Refusal.{Refusal}
use Rattle.pc_types.specs.declared.refusal.Refusal.TheVariants.{Device}
use Rattle.pc_merge.specs.Coming.{Standing}
use Rattle.pc_streams.specs.declared.reader.PartReader.{PartReader}
use Rattle.pc_streams.specs.Readers.{standing_of}

-- a reader that has refused nothing, and of which no read has failed
abbrev pub sound : Standing
sound = record { refused = None; failures = 0 }

-- all of them are
abbrev pub AreSound : {R : Type 0} → List (PartReader R) → Type 0
AreSound readers = All (λ standing. standing ≡ sound) (map standing_of readers)

-- whether a read of one of them has failed
abbrev pub has_failed_read : {R : Type 0} → List (PartReader R) → Bool
has_failed_read readers = list_any (λ standing. nat_lt 0 standing.failures) (map standing_of readers)

-- Device is the reason if and only if a read has failed
abbrev pub TellsReads : {R : Type 0} → List (PartReader R) → Refusal → Type 0
TellsReads readers why = (why ≡ Device → has_failed_read readers ≡ true) × (why ≢ Device → has_failed_read readers ≡ false)
