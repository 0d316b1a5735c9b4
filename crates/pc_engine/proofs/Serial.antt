-- Serial truth holds of every world that represents a history.
use Rattle.pc_model.proofs.AddLaws.{adds_apply}
use Rattle.pc_model.specs.Changes.{AddsApply}
use Rattle.std.proofs.Common.{◌∙◌, ap, sym, subst}
use Rattle.pc_model.specs.Maps as map_of
use Rattle.pc_model.specs.History.{History}
use Rattle.pc_model.specs.Log.{after}
use Rattle.pc_model.proofs.RightReadLaws.{effects_read_right}
use Rattle.pc_model.proofs.LegalEffectLaws.{legal_has_legal_effects}
use Rattle.pc_engine.specs.Store.{Store, setting_of}
use Rattle.pc_engine.specs.Stands.{Stands, IsSerial}

pub is_serial : (w : Store) (history : History) → Stands w history → IsSerial w history
is_serial w history stands =
    let reads = effects_read_right (setting_of w) history (legal_has_legal_effects (setting_of w) history stands.legal) in record {
      contents = λ key. stands.parts.records.stored key ∙ ap (λ log. map_of.get (after w.base.pairs log) key) (sym stands.parts.log);
      reads = reads;
      adds = subst (AddsApply w.base.pairs) (sym stands.parts.log) (adds_apply w.base.pairs history reads);
    }
