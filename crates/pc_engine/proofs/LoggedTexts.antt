-- The log of every world that represents a history has a text, and its replay on the base is what is committed.
use Rattle.std.proofs.Common.{◌≡◌, ℕ, List, sym, ◌∙◌, subst}
use Rattle.pc_model.specs.Maps as map_of
use Rattle.pc_model.specs.Database.{database_of}
use Rattle.pc_model.specs.History.{History}
use Rattle.pc_model.specs.Log.{after}
use Rattle.pc_model.proofs.LegalEffectLaws.{legal_has_legal_effects}
use Rattle.pc_model.proofs.PairMapLaws.{same_database}
use Rattle.pc_log.specs.Laws.{IsLog}
use Rattle.pc_log.proofs.LawfulLogLaws.{logs_have_texts}
use Rattle.pc_records.specs.Rows.{record_of, stored}
use Rattle.pc_engine.specs.Store.{Store, setting_of}
use Rattle.pc_engine.specs.Stands.{Stands}
use Rattle.pc_engine.proofs.Serial.{is_serial}

-- its entries are within the limits of the format, and its tokens keep their order
pub log_has_text : (w : Store) (history : History) → Stands w history → IsLog w.log
log_has_text w history stands = subst IsLog (sym stands.parts.log) (logs_have_texts (setting_of w) history (legal_has_legal_effects (setting_of w) history stands.legal) stands.sessions stands.limits)

-- pairs with what is committed are the replay of the log
pub pairs_are_replayed : (w : Store) (pairs : List (List ℕ × List ℕ)) → ((key : List ℕ) → map_of.get (database_of pairs) key ≡ stored (record_of w.kept.rows key)) → (history : History) → Stands w history → database_of pairs ≡ after w.base.pairs w.log
pairs_are_replayed w pairs own history stands = same_database (database_of pairs) (after w.base.pairs w.log) (λ key. own key ∙ (is_serial w history stands).contents key)
