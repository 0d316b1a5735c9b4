-- Looking for a point's token among a log's entries as they are read, in order.
use Rattle.std.proofs.Common.{◌≡◌, ◌≢◌, ℕ, Bool, true, false, if◌then◌else◌, List, [], ◌∷◌, Result, Ok, Err, IfOk, IsErr, refl, sym, ap, ◌∙◌}
use Rattle.pc_types.specs.declared.refusal.Refusal.{Refusal}
use Rattle.pc_types.specs.declared.refusal.Refusal.TheVariants.{OutOfMemory}
use Rattle.pc_types.specs.declared.Entry.{Entry}
use Rattle.pc_types.specs.declared.Entry.TheVariants.{Commit, Token}
use Rattle.pc_io.specs.declared.Format.{Format}
use Rattle.pc_model.specs.Log.{has_token}
use Rattle.pc_log.specs.declared.order.LastToken.{LastToken}
use Rattle.pc_log.specs.Orders.{token_after}
use Rattle.pc_log.specs.Reading.{LogReading, all_at, entries_at, entry_at}
use Rattle.pc_log.proofs.TurnLaws.{all_go_on, all_stop}
use Rattle.pc_recover.specs.Replaying.{is_point_token}

-- the token is the first entry, or one of the others
first_or_later : (point : ℕ) (entry : Entry) (entries : List Entry) (b : Bool) → is_point_token point entry ≡ b → has_token point (entry ∷ entries) ≡ (if b then true else has_token point entries)
first_or_later point (Commit session writes) entries b e = rw (← e) refl
first_or_later point (Token phase m) entries b e = rw e refl

module _ (format : Format) (point : ℕ) (last : LastToken) (bytes : List ℕ) where
  pub found_here : (entry : Entry) (after : List ℕ) → entry_at format last bytes ≡ Ok (entry, after) → is_point_token point entry ≡ true → has_token point (all_at format last bytes).entries ≡ true
  found_here entry after e is = ap (λ (found : LogReading). has_token point found.entries) (all_go_on format last bytes entry after e) ∙ first_or_later point entry (all_at format (token_after last entry) after).entries true is

  pub search_goes_on : (entry : Entry) (after : List ℕ) → entry_at format last bytes ≡ Ok (entry, after) → is_point_token point entry ≡ false
      → has_token point (all_at format last bytes).entries ≡ has_token point (all_at format (token_after last entry) after).entries
  search_goes_on entry after e is = ap (λ (found : LogReading). has_token point found.entries) (all_go_on format last bytes entry after e) ∙ first_or_later point entry (all_at format (token_after last entry) after).entries false is

  pub search_stops : (fault : Refusal) → entry_at format last bytes ≡ Err fault → has_token point (all_at format last bytes).entries ≡ false
  search_stops fault e = ap (λ (found : LogReading). has_token point found.entries) (all_stop format last bytes fault e)

  pub search_ends : bytes ≡ [] → has_token point (all_at format last bytes).entries ≡ false
  unfolding entries_at
  search_ends none = ap (λ (bs : List ℕ). has_token point (all_at format last bs).entries) none

-- if no more can be read it isn't found, unless an allocation failed
pub stopped_finds : {E : Type 0} (result : Result Bool E) (fault : Refusal) (found : Bool) → IfOk result (λ has. has ≡ false) → (fault ≡ OutOfMemory → IsErr result) → (fault ≢ OutOfMemory → found ≡ false)
    → IfOk result (λ has. has ≡ found)
stopped_finds (Ok has) fault found none memory read =
    let other : fault ≢ OutOfMemory = λ e. let f = memory e in absurd cc in
    none ∙ sym (read other)
stopped_finds (Err e) fault found none memory read = tt
