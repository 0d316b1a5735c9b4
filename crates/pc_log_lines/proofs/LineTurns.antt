-- The lines of a log's entries as they are read, in order.
use Rattle.std.proofs.Common.{◌≡◌, ◌≢◌, ℕ, ◌+◌, List, [], ◌∷◌, ◌++◌, length, Some, None, Ok, Err, refl, ap, ◌∙◌}
use Rattle.pc_types.specs.declared.refusal.Refusal.{Refusal}
use Rattle.pc_types.specs.declared.Entry.{Entry}
use Rattle.pc_io.specs.declared.Format.{Format}
use Rattle.pc_log.specs.declared.order.LastToken.{LastToken}
use Rattle.pc_log.specs.Orders.{token_after}
use Rattle.pc_log.specs.Reading.{LogReading, all_at, entries_at, entry_at, none_more}
use Rattle.pc_log.proofs.TurnLaws.{all_go_on, all_stop}
use Rattle.pc_log_lines.specs.declared.reading.EntryRange.{EntryRange}
use Rattle.pc_log_lines.specs.Lines.{line_within, lines_behind, rest_found}

module _ (format : Format) (last : LastToken) (bytes : List ℕ) where
  -- an entry is read: its line, and those of the others
  pub lines_go_on : (range : EntryRange) (count : ℕ) (entry : Entry) (after : List ℕ) → entry_at format last bytes ≡ Ok (entry, after)
      → lines_behind range count (all_at format last bytes).entries ≡ line_within range (count + 1) entry ++ lines_behind range (count + 1) (all_at format (token_after last entry) after).entries
  lines_go_on range count entry after e = ap (λ (found : LogReading). lines_behind range count found.entries) (all_go_on format last bytes entry after e)

  pub rest_goes_on : (entry : Entry) (after : List ℕ) → entry_at format last bytes ≡ Ok (entry, after) → rest_found (all_at format last bytes) ≡ rest_found (all_at format (token_after last entry) after)
  rest_goes_on entry after e = ap rest_found (all_go_on format last bytes entry after e)

  -- no more can be read
  pub lines_stop : (range : EntryRange) (count : ℕ) (fault : Refusal) → entry_at format last bytes ≡ Err fault → lines_behind range count (all_at format last bytes).entries ≡ []
  lines_stop range count fault e = ap (λ (found : LogReading). lines_behind range count found.entries) (all_stop format last bytes fault e)

  pub rest_stops : (fault : Refusal) → entry_at format last bytes ≡ Err fault → length bytes ≢ 0 → rest_found (all_at format last bytes) ≡ record { bytes = length bytes; fault = Some fault }
  rest_stops fault e some = ap rest_found (all_stop format last bytes fault e) ∙ left_some bytes some
    where
      left_some : (left : List ℕ) → length left ≢ 0 → rest_found (none_more left fault) ≡ record { bytes = length left; fault = Some fault }
      left_some [] h = absurd (h refl)
      left_some (b ∷ bs) h = refl

  -- nothing is left
  pub lines_end : (range : EntryRange) (count : ℕ) → bytes ≡ [] → lines_behind range count (all_at format last bytes).entries ≡ []
  unfolding entries_at
  lines_end range count none = ap (λ (bs : List ℕ). lines_behind range count (all_at format last bs).entries) none

  pub rest_ends : bytes ≡ [] → rest_found (all_at format last bytes) ≡ record { bytes = 0; fault = None }
  unfolding entries_at
  rest_ends none = ap (λ (bs : List ℕ). rest_found (all_at format last bs)) none
