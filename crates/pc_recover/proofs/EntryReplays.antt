-- Applying entries as they are read, in order.
use Rattle.std.proofs.Common.{◌≡◌, ◌≢◌, ℕ, ◌+◌, Bool, true, false, ◌||◌, List, [], ◌∷◌, length, Option, Some, None, Result, Ok, Err, refl, sym, ap, ◌∙◌, arith}
use Rattle.std.specs.Prelude.{◌==◌, IfOk}
use Rattle.pc_types.specs.declared.refusal.Refusal.{Refusal}
use Rattle.pc_types.specs.declared.refusal.Refusal.TheVariants.{OutOfMemory}
use Rattle.pc_types.specs.declared.Entry.{Entry}
use Rattle.pc_io.specs.declared.Format.{Format}
use Rattle.pc_types.specs.declared.Entry.TheVariants.{Commit, Token}
use Rattle.pc_io.specs.Fields.{Gives}
use Rattle.pc_model.specs.Database.{Database}
use Rattle.pc_model.specs.Log.{after, is_token_of}
use Rattle.pc_log.specs.declared.order.LastToken.{LastToken}
use Rattle.pc_log.specs.Orders.{token_after}
use Rattle.pc_log.specs.Reading.{entry_at, entries_at, LogReading, none_more, all_at}
use Rattle.pc_log.proofs.TurnLaws.{all_go_on, all_stop}
use Rattle.pc_recover.specs.Recovery.{entries_after}
use Rattle.pc_recover.specs.declared.replaying.Replayed.{Replayed}
use Rattle.pc_recover.specs.Replaying.{is_point_token, counting, Replay, found_replay, replay_by}

-- ---- which entries count

-- of no entries none count
none_count : (is_behind : Bool) (point : ℕ) → counting is_behind point [] ≡ []
none_count true point = refl
none_count false point = refl

-- the counting part of one entry, and then that of the others
first_counts : (is_behind : Bool) (point : ℕ) (db : Database) (entry : Entry) (entries : List Entry)
    → after (after db (counting is_behind point (entry ∷ []))) (counting (is_behind || is_point_token point entry) point entries) ≡ after db (counting is_behind point (entry ∷ entries))
first_counts true point db (Commit session writes) entries = refl
first_counts true point db (Token phase m) entries = refl
first_counts false point db (Commit session writes) entries = refl
first_counts false point db (Token phase m) entries = by (is_token_of point phase m) refl
  where
    by : (b : Bool) → is_token_of point phase m ≡ b
        → after (after db (counting false point (Token phase m ∷ []))) (counting (is_token_of point phase m) point entries) ≡ after db (counting false point (Token phase m ∷ entries))
    by true e = rw e refl
    by false e = rw e refl

-- ---- the loop

-- the replay once the entries that were found are applied too, after this many others
abbrev pub to_come : Bool → ℕ → Database → ℕ → LogReading → Replay
to_come is_behind point db count found = record { pairs = after db (counting is_behind point found.entries); entries = count + length found.entries; fault = found.fault }

-- before the first entry the whole replay is to come
pub all_to_come : (is_behind : Bool) (point : ℕ) (db : Database) (found : LogReading) → is_behind ≡ (point == 0) → to_come is_behind point db 0 found ≡ found_replay point db found
all_to_come is_behind point db found is =
    ap (λ (b : Bool). to_come b point db 0 found) is ∙ ap (λ (k : ℕ). record { pairs = after db (entries_after point found.entries); entries = k; fault = found.fault }) (omega arith)

-- no entry is left
none_left : (is_behind : Bool) (point : ℕ) (db : Database) (count : ℕ) (rest : ℕ) (fault : Option Refusal) → to_come is_behind point db count (record { entries = []; rest = rest; fault = fault }) ≡ record { pairs = db; entries = count; fault = fault }
none_left is_behind point db count rest fault =
    ap (λ (es : List Entry). record { pairs = after db es; entries = count + 0; fault = fault }) (none_count is_behind point)
    ∙ ap (λ (k : ℕ). record { pairs = db; entries = k; fault = fault }) (omega arith)

module _ (format : Format) (is_behind : Bool) (point : ℕ) (db : Database) (count : ℕ) (last : LastToken) (bytes : List ℕ) (total : Replay) (so_far : to_come is_behind point db count (all_at format last bytes) ≡ total) where
  pub replay_goes_on : (entry : Entry) (behind_it : List ℕ) (db' : Database) (next : Bool) → entry_at format last bytes ≡ Ok (entry, behind_it) → db' ≡ after db (counting is_behind point (entry ∷ [])) → next ≡ (is_behind || is_point_token point entry)
      → to_come next point db' (count + 1) (all_at format (token_after last entry) behind_it) ≡ total
  replay_goes_on entry behind_it db' next e db_is next_is =
      let found = all_at format (token_after last entry) behind_it in
      let n : count + 1 + length found.entries ≡ count + length (entry ∷ found.entries) = omega arith in
      ap (λ (b : Bool). to_come b point db' (count + 1) found) next_is
      ∙ ap (λ (d : Database). to_come (is_behind || is_point_token point entry) point d (count + 1) found) db_is
      ∙ ap (λ (d : Database). record { pairs = d; entries = count + 1 + length found.entries; fault = found.fault }) (first_counts is_behind point db entry found.entries)
      ∙ ap (λ (k : ℕ). record { pairs = after db (counting is_behind point (entry ∷ found.entries)); entries = k; fault = found.fault }) n
      ∙ sym (ap (to_come is_behind point db count) (all_go_on format last bytes entry behind_it e))
      ∙ so_far

  pub replay_stops : (fault : Refusal) → entry_at format last bytes ≡ Err fault → length bytes ≢ 0 → total ≡ record { pairs = db; entries = count; fault = Some fault }
  replay_stops fault e some = sym so_far ∙ ap (to_come is_behind point db count) (all_stop format last bytes fault e) ∙ left_some bytes some
    where
      left_some : (left : List ℕ) → length left ≢ 0 → to_come is_behind point db count (none_more left fault) ≡ record { pairs = db; entries = count; fault = Some fault }
      left_some [] h = absurd (h refl)
      left_some (b ∷ bs) h = none_left is_behind point db count (length (b ∷ bs)) (Some fault)

  pub replay_done : bytes ≡ [] → total ≡ record { pairs = db; entries = count; fault = None }
  unfolding entries_at
  replay_done none = sym so_far ∙ ap (λ (bs : List ℕ). to_come is_behind point db count (all_at format last bs)) none ∙ none_left is_behind point db count 0 None

-- a stopped loop gives the replay so far, unless an allocation failed
pub stopped_gives : (result : Result Replayed Refusal) (fault : Refusal) (total stopped : Replay)
    → Gives replay_by result (Ok stopped) → (fault ≡ OutOfMemory → result ≡ Err OutOfMemory)
    → (fault ≢ OutOfMemory → total ≡ stopped) → Gives replay_by result (Ok total)
stopped_gives (Ok replayed) fault total stopped given memory read =
    let other : fault ≢ OutOfMemory = λ e. let f = memory e in absurd cc in
    ap Ok (read other) ∙ given
stopped_gives (Err e) fault total stopped given memory read = λ other. let f = given other in absurd cc

-- ---- what is left

pub rest_goes_on : (format : Format) (last : LastToken) (bytes : List ℕ) (entry : Entry) (behind_it : List ℕ) → entry_at format last bytes ≡ Ok (entry, behind_it) → (all_at format (token_after last entry) behind_it).rest ≡ (all_at format last bytes).rest
rest_goes_on format last bytes entry behind_it e = sym (ap (λ (found : LogReading). found.rest) (all_go_on format last bytes entry behind_it e))

pub rest_stops : (format : Format) (last : LastToken) (bytes : List ℕ) (fault : Refusal) → entry_at format last bytes ≡ Err fault → (all_at format last bytes).rest ≡ length bytes
rest_stops format last bytes fault e = ap (λ (found : LogReading). found.rest) (all_stop format last bytes fault e)

pub rest_done : (format : Format) (last : LastToken) (bytes : List ℕ) → bytes ≡ [] → (all_at format last bytes).rest ≡ 0
unfolding entries_at
rest_done format last bytes none = ap (λ (bs : List ℕ). (all_at format last bs).rest) none

-- a stopped loop leaves what it says, unless an allocation failed
pub stopped_rest : (result : Result Replayed Refusal) (fault : Refusal) (left rest : ℕ) → IfOk result (λ replayed. replayed.rest ≡ left) → (fault ≡ OutOfMemory → result ≡ Err OutOfMemory)
    → (fault ≢ OutOfMemory → left ≡ rest) → IfOk result (λ replayed. replayed.rest ≡ rest)
stopped_rest (Ok replayed) fault left rest is memory read =
    let other : fault ≢ OutOfMemory = λ e. let f = memory e in absurd cc in
    is ∙ read other
stopped_rest (Err e) fault left rest is memory read = tt
