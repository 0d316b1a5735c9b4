-- The output at the end of a turn, be it whole or interrupted by a device that fails: the log first, and no answer as long as not all
-- of it is written, or more of it isn't kept than may be.
use Rattle.std.specs.Prelude.{◌≡◌, ◌≤◌, ◌+◌, ◌-◌, ℕ, Bool, true, false, List, Option, Result, Ok, Err, MatchBool, MatchResult, IsTrue, drop, length, nat_lt}
use Rattle.std.specs.List.{flat_map}
use Rattle.std.specs.Io.KnownBytes.{Appends}
use Rattle.pc_io.specs.Counted.{HasRisen, AppendsBeginning}
use Rattle.pc_types.specs.declared.Entry.{Entry}
use Rattle.pc_types.specs.declared.refusal.Refusal.{Refusal}
use Rattle.pc_types.specs.declared.refusal.Refusal.TheVariants.{Device}
use Rattle.pc_io.specs.declared.tally.Tally.{Tally}
use Rattle.pc_log.specs.Texts.{entry_text}
use Rattle.pc_turn.specs.Devices.{Grows}
use Rattle.pc_turn.specs.declared.turn.Marks.{Marks}
use Rattle.pc_turn.specs.declared.turn.TurnEnd.{TurnEnd}
use Rattle.pc_turn.specs.declared.turn.TurnEnd.TheVariants as end

-- the text of the entries after that many first ones
abbrev pub rest_text : ℕ → List Entry → List ℕ
rest_text count log = flat_map entry_text (drop count log)

-- The text was appended; or, if it was not, the device failed, and a prefix of it was. What was kept stays.
abbrev pub IsAppended : {T : Type 0} → (T → Option (List ℕ)) → (T → Option (List ℕ)) → List ℕ → T → T → Bool → Type 0
IsAppended written kept text old new true = Appends (written old) (written new) text × Grows (kept old) (kept new)
IsAppended written kept text old new false = AppendsBeginning (written old) (written new) text × Grows (kept old) (kept new)

-- no more entries are kept than written, and no more written than the log has
abbrev pub AreMarks : List Entry → Marks → Type 0
AreMarks log marks = (marks.kept ≤ marks.written) × (marks.written ≤ length log)

-- more of that many entries aren't kept than the lag
abbrev pub exceeds_lag : ℕ → ℕ → ℕ → Bool
exceeds_lag lag kept all = nat_lt lag (all - kept)

-- All that was written is kept, and so all entries count as kept, if too many are not; or, if that is not so, the device failed. What was
-- written stays, and what was kept.
abbrev pub IsKept : {T E : Type 0} → (T → Option (List ℕ)) → (T → Option (List ℕ)) → ℕ → ℕ → ℕ → T → T → Result ℕ E → Type 0
IsKept written kept all lag before old new result =
    (written new ≡ written old) × Grows (kept old) (kept new)
    × MatchResult result (λ after. MatchBool (exceeds_lag lag before all) ((kept new ≡ written new) × (after ≡ all)) ((new ≡ old) × (after ≡ before))) (λ why. IsTrue (exceeds_lag lag before all))

-- nothing is to be written, and nothing to be kept
abbrev pub IsUpToDate : ℕ → List Entry → Marks → Type 0
IsUpToDate lag log marks = (length log ≤ marks.written) × (length log ≤ marks.kept + lag)

-- All entries that weren't written are; and if more aren't kept than the lag, all that was written is kept. Or, if that is not so, the
-- device failed, a prefix of their text was appended, and no more entries count as written or kept than before. If there is nothing to
-- be done, the device stays as it is.
abbrev pub IsLogOut : {T : Type 0} → (T → Option (List ℕ)) → (T → Option (List ℕ)) → List Entry → ℕ → Marks → Marks → T → T → Bool → Type 0
IsLogOut written kept log lag before after old new true =
    IsAppended written kept (rest_text before.written log) old new true × (after.written ≡ length log)
    × MatchBool (exceeds_lag lag before.kept (length log)) ((kept new ≡ written new) × (after.kept ≡ length log)) (after.kept ≡ before.kept) × (IsUpToDate lag log before → new ≡ old)
IsLogOut written kept log lag before after old new false =
    IsAppended written kept (rest_text before.written log) old new false × (after ≡ before) × (IsUpToDate lag log before → ⊥)

-- All of the text went out; or the device failed, which was counted, and a prefix of it went out, which may be all of it.
abbrev pub IsSent : {T : Type 0} → (T → Option (List ℕ)) → List ℕ → Tally T → Tally T → Result (Unit {0}) Refusal → Type 0
IsSent contents text old new (Ok u) = Appends (contents old.inner) (contents new.inner) text × (new.failures ≡ old.failures)
IsSent contents text old new (Err e) = (e ≡ Device) × HasRisen old.failures new.failures × AppendsBeginning (contents old.inner) (contents new.inner) text

-- The end of a turn: the log is written, and kept as far as it must be, before any answer goes out.
abbrev pub TurnEnds : {T U : Type 0} → (T → Option (List ℕ)) → (T → Option (List ℕ)) → (U → Option (List ℕ)) → List Entry → ℕ → List ℕ → Marks → Marks → T → T → Tally U → Tally U → TurnEnd → Type 0
TurnEnds written kept contents log lag answers before after log_old log_new out_old out_new end.Whole =
    IsLogOut written kept log lag before after log_old log_new true × IsSent contents answers out_old out_new (Ok tt)
TurnEnds written kept contents log lag answers before after log_old log_new out_old out_new end.LogCut =
    IsLogOut written kept log lag before after log_old log_new false × (out_new ≡ out_old)
TurnEnds written kept contents log lag answers before after log_old log_new out_old out_new end.AnswersCut =
    IsLogOut written kept log lag before after log_old log_new true × IsSent contents answers out_old out_new (Err Device)
