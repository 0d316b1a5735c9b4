-- Every world that represents a history is sound.
use Rattle.std.proofs.Common.{◌≡◌, ◌↔◌, ℕ, List, get_or, All, IsTrue, sym, ap, ◌∙◌, subst, arith}
use Rattle.std.proofs.lemmas.List.Elements.{Contains-get_or}
use Rattle.pc_types.specs.declared.Entry.{Entry}
use Rattle.pc_model.specs.Database.{database_of}
use Rattle.pc_model.specs.Log.{after}
use Rattle.pc_model.specs.Files.{BaseFile, File, shelf}
use Rattle.std.specs.Prelude.{Bool, true}
use Rattle.std.specs.List.{Contains}
use Rattle.pc_model.specs.Maps as map_of
use Rattle.pc_model.specs.History.{History}
use Rattle.pc_model.specs.Headline.{IsMade}
use Rattle.pc_model.specs.Headline.IsMade.{Shelved}
use Rattle.pc_model.proofs.PairMapLaws.{same_database}
use Rattle.pc_records.specs.Rows.{record_of, stored}
use Rattle.pc_engine.specs.Store.{Store}
use Rattle.pc_engine.specs.Stands.{Stands}
use Rattle.pc_audit.specs.Checks.{IsStateOf, IsFileRight}
use Rattle.pc_engine.specs.Checks.{IsStoreSound}
use Rattle.pc_engine.proofs.Owing.{keeps_points}
use Rattle.pc_engine.proofs.Serial.{is_serial}
use Rattle.pc_audit.proofs.RightFiles.{has_each}

-- what a world's contents and files are compared with is what makes it sound
pub sound_is : (w : Store) (pairs : List (List ℕ × List ℕ)) (b : Bool) → ((key : List ℕ) → map_of.get (database_of pairs) key ≡ stored (record_of w.kept.rows key)) →
    IsTrue b ↔ ((database_of pairs ≡ after w.base.pairs w.log) × All (IsFileRight w.base.pairs w.log) w.shelf) → IsTrue b ↔ IsStoreSound w
sound_is w pairs b own compared = (
  λ yes. let both = compared.0 yes in record { contents = λ key. sym (own key) ∙ ap (λ db. map_of.get db key) both.0; files = both.1 },
  λ sound. compared.1 (same_database (database_of pairs) (after w.base.pairs w.log) (λ key. own key ∙ sound.contents key), sound.files),
)

-- the same of what the calls give
pub sound_by : (w : Store) (pairs given : List (List ℕ × List ℕ)) (b : Bool) (base : BaseFile) (log : List Entry) (files : List File) → ((key : List ℕ) → map_of.get (database_of pairs) key ≡ stored (record_of w.kept.rows key)) →
    base ≡ w.base → log ≡ w.log → files ≡ w.shelf → given ≡ pairs →
    IsTrue b ↔ ((database_of given ≡ after base.pairs log) × All (IsFileRight base.pairs log) files) → IsTrue b ↔ IsStoreSound w
sound_by w pairs given b base log files own is_base is_log is_files is_given compared =
    let A : BaseFile → Type 0 = λ base. IsTrue b ↔ ((database_of given ≡ after base.pairs log) × All (IsFileRight base.pairs log) files) in
    let B : List Entry → Type 0 = λ log. IsTrue b ↔ ((database_of given ≡ after w.base.pairs log) × All (IsFileRight w.base.pairs log) files) in
    let C : List File → Type 0 = λ files. IsTrue b ↔ ((database_of given ≡ after w.base.pairs w.log) × All (IsFileRight w.base.pairs w.log) files) in
    let D : List (List ℕ × List ℕ) → Type 0 = λ given. IsTrue b ↔ ((database_of given ≡ after w.base.pairs w.log) × All (IsFileRight w.base.pairs w.log) w.shelf) in
    sound_is w pairs b own (subst D is_given (subst C is_files (subst B is_log (subst A is_base compared))))

-- every world that represents a history is sound
pub stands_sound : (w : Store) (history : History) → Stands w history → IsStoreSound w
stands_sound w history stands = record {
  contents = (is_serial w history stands).contents;
  files = λ k d below n covers.
      let file = get_or w.shelf k d in
      let headline = (keeps_points w history stands).headline in
      let made : IsMade (shelf w.base.run history) file = Shelved file (subst (λ files. Contains files file) stands.parts.cycle.shelved (Contains-get_or w.shelf k d below)) in
      subst (λ log. IsStateOf w.base.pairs log file n) (sym stands.parts.log)
      (headline.has_tokens file n made (has_each file.points n n (omega (arith, covers.0)) (omega arith) covers.1), headline.is_the_state file n made covers.1);
}

-- so a check of it answers that it is
pub always : (w : Store) (history : History) (b : Bool) → IsTrue b ↔ IsStoreSound w → Stands w history → b ≡ true
always w history b sound stands = sound.1 (stands_sound w history stands)
