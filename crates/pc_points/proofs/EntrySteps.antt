-- The entries up to a point's token, and those behind it, as they are read one after the other.
use Rattle.std.proofs.Common.{◌≡◌, ℕ, true, false, List, [], ◌∷◌, Option, Some, None, Ok, Err, refl, sym, ap, ◌∙◌}
use Rattle.pc_types.specs.declared.refusal.Refusal.{Refusal}
use Rattle.pc_types.specs.declared.Entry.{Entry}
use Rattle.pc_io.specs.declared.Format.{Format}
use Rattle.pc_types.specs.declared.Entry.TheVariants.{Commit, Token}
use Rattle.pc_model.specs.Database.{Database}
use Rattle.pc_model.specs.Log.{after, log_after_point}
use Rattle.pc_log.specs.declared.order.LastToken.{LastToken}
use Rattle.pc_log.specs.Orders.{token_after}
use Rattle.pc_log.specs.Reading.{entry_at, entries_at, all_at, LogReading}
use Rattle.pc_log.proofs.TurnLaws.{all_go_on, all_stop}
use Rattle.pc_recover.specs.Replaying.{is_point_token}
use Rattle.pc_points.specs.Points.{state_before}

-- ---- one entry

behind_here : (point : ℕ) (entry : Entry) (entries : List Entry) → is_point_token point entry ≡ true → log_after_point point (entry ∷ entries) ≡ entries
behind_here point (Commit session writes) entries is = absurd cc
behind_here point (Token phase m) entries is = rw is refl

behind_later : (point : ℕ) (entry : Entry) (entries : List Entry) → is_point_token point entry ≡ false → log_after_point point (entry ∷ entries) ≡ log_after_point point entries
behind_later point (Commit session writes) entries is = refl
behind_later point (Token phase m) entries is = rw is refl

before_here : (point : ℕ) (db : Database) (entry : Entry) (entries : List Entry) → is_point_token point entry ≡ true → state_before point db (entry ∷ entries) ≡ Some db
before_here point db (Commit session writes) entries is = absurd cc
before_here point db (Token phase m) entries is = rw is refl

before_later : (point : ℕ) (db : Database) (entry : Entry) (entries : List Entry) → is_point_token point entry ≡ false → state_before point db (entry ∷ entries) ≡ state_before point (after db (entry ∷ [])) entries
before_later point db (Commit session writes) entries is = refl
before_later point db (Token phase m) entries is = rw is refl

-- ---- the loops

-- the entries that are read where none is there, or the next one is at fault
pub none_there : (format : Format) (last : LastToken) (bytes : List ℕ) → bytes ≡ [] → (all_at format last bytes).entries ≡ []
unfolding entries_at
none_there format last bytes none = ap (λ (bs : List ℕ). (all_at format last bs).entries) none

module _ (format : Format) (last : LastToken) (bytes : List ℕ) where
  pub fault_there : (fault : Refusal) → entry_at format last bytes ≡ Err fault → (all_at format last bytes).entries ≡ []
  fault_there fault e = ap (λ (found : LogReading). found.entries) (all_stop format last bytes fault e)

  module _ (entry : Entry) (rest : List ℕ) (read : entry_at format last bytes ≡ Ok (entry, rest)) where
    one_there : (all_at format last bytes).entries ≡ entry ∷ (all_at format (token_after last entry) rest).entries
    one_there = ap (λ (found : LogReading). found.entries) (all_go_on format last bytes entry rest read)

    pub skips_to_token : (point : ℕ) (total : List Entry) → log_after_point point (all_at format last bytes).entries ≡ total → is_point_token point entry ≡ true → (all_at format (token_after last entry) rest).entries ≡ total
    skips_to_token point total so_far is = sym (ap (log_after_point point) one_there ∙ behind_here point entry _ is) ∙ so_far

    pub skips_entry : (point : ℕ) (total : List Entry) → log_after_point point (all_at format last bytes).entries ≡ total → is_point_token point entry ≡ false → log_after_point point (all_at format (token_after last entry) rest).entries ≡ total
    skips_entry point total so_far is = sym (ap (log_after_point point) one_there ∙ behind_later point entry _ is) ∙ so_far

    pub comes_to_token : (point : ℕ) (db : Database) (total : Option Database) → state_before point db (all_at format last bytes).entries ≡ total → is_point_token point entry ≡ true → total ≡ Some db
    comes_to_token point db total so_far is = sym so_far ∙ ap (state_before point db) one_there ∙ before_here point db entry _ is

    pub applies_entry : (point : ℕ) (db next : Database) (total : Option Database) → state_before point db (all_at format last bytes).entries ≡ total → is_point_token point entry ≡ false → next ≡ after db (entry ∷ [])
        → state_before point next (all_at format (token_after last entry) rest).entries ≡ total
    applies_entry point db next total so_far is made =
        ap (λ (d : Database). state_before point d (all_at format (token_after last entry) rest).entries) made ∙ sym (ap (state_before point db) one_there ∙ before_later point db entry _ is) ∙ so_far

  -- no entry more can be read
  pub skips_none : (point : ℕ) (total : List Entry) → log_after_point point (all_at format last bytes).entries ≡ total → (all_at format last bytes).entries ≡ [] → total ≡ []
  skips_none point total so_far none = sym so_far ∙ ap (log_after_point point) none

  pub applies_none : (point : ℕ) (db : Database) (total : Option Database) → state_before point db (all_at format last bytes).entries ≡ total → (all_at format last bytes).entries ≡ [] → total ≡ None
  applies_none point db total so_far none = sym so_far ∙ ap (state_before point db) none
