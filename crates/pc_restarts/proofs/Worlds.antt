-- Recovery from every prefix of the log of a world that represents a history.
use Rattle.std.proofs.Common.{◌≡◌, List, ◌⊎◌, sym, ap, subst}
use Rattle.std.specs.Prelude.{All, MatchResult, take}
use Rattle.pc_types.specs.declared.Entry.{Entry}
use Rattle.pc_types.specs.declared.refusal.Refusal.TheVariants.{Full}
use Rattle.pc_model.specs.Files.{File, BaseFile}
use Rattle.pc_model.proofs.LegalEffectLaws.{legal_has_legal_effects}
use Rattle.pc_bases.specs.Lawful.{IsBaseFile, IsBaseText}
use Rattle.pc_log.specs.Texts.{log_text_in, HasLog}
use Rattle.pc_engine.specs.Store.{setting_of}
use Rattle.pc_recover.specs.Recovery.{recovery}
use Rattle.pc_recover.specs.Restarts.{IsRestored}
use Rattle.pc_recover.specs.Runs.{IsForeign, start_of, CameBack as CameBackOfRun}
use Rattle.pc_recover.proofs.RunsRestartLaws.{every_cut_of_a_run}
use Rattle.pc_restarts.specs.Worlds.{IsTextOfShelf, EveryCutOfAWorldIsRecovered}

-- a base at point 0 is the one that its run started from
started : (base : BaseFile) → base.point ≡ 0 → base ≡ record { run = base.run; point = 0; pairs = base.pairs }
started base start = ap (λ n. let b : BaseFile = record { run = base.run; point = n; pairs = base.pairs } in b) start

pub every_cut_of_a_world : EveryCutOfAWorldIsRecovered
every_cut_of_a_world format w history base parts c stands has back =
    let first : w.base ≡ start_of (setting_of w) = started w.base stands.parts.start in
    let run : CameBackOfRun (setting_of w) history base parts = record {
      base_is = subst (IsBaseText base) first back.base_is;
      base_fits = subst IsBaseFile first back.base_fits;
      parts_are = subst (λ (files : List File). All (λ bytes. IsTextOfShelf files bytes ⊎ IsForeign w.base.run bytes) parts) stands.parts.cycle.shelved back.parts_are;
    } in
    subst (λ (log : List Entry). MatchResult (recovery base parts (take c (log_text_in format w.base.run log))) (IsRestored format w.base.run w.base.pairs log 0 parts c) (λ refusal. refusal ≡ Full)) (sym stands.parts.log)
    (every_cut_of_a_run format (setting_of w) history base parts c (legal_has_legal_effects (setting_of w) history stands.legal) stands.values stands.sessions stands.limits (subst (HasLog format) stands.parts.log has) run)
