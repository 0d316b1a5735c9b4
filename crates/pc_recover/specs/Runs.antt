-- The facts of a run's events and its log.
use Rattle.std.specs.Prelude.{◌≡◌, ℕ, ◌≤◌, ◌⊎◌, List, All, Ok, MatchResult, take}
use Rattle.pc_model.specs.History.{History, log_of}
use Rattle.pc_model.specs.Replies.{Setting}
use Rattle.pc_model.specs.Files.{File, BaseFile, shelf}
use Rattle.pc_model.specs.Headline.{IsMade, TakesPointValue}
use Rattle.pc_model.specs.Standing.{HasLegalEffects}
use Rattle.pc_model.specs.Limits.{AreInLimits}
use Rattle.pc_io.specs.declared.Format.{Format}
use Rattle.pc_types.specs.declared.refusal.Refusal.TheVariants.{Full}
use Rattle.pc_types.specs.declared.limits.TheConstants.{MOST_SESSIONS}
use Rattle.pc_part.specs.Lawful.{IsPartFile, IsPartText}
use Rattle.pc_bases.specs.Lawful.{IsBaseFile, IsBaseText}
use Rattle.pc_part.specs.Reading.{part_at}
use Rattle.pc_log.specs.Texts.{log_text_in, HasLog}
use Rattle.pc_recover.specs.Recovery.{recovery}
use Rattle.pc_recover.specs.Restarts.{IsRestored}

-- the base that the run started from
abbrev pub start_of : Setting → BaseFile
start_of st = record { run = st.run; point = 0; pairs = st.base }

-- the bytes are a text of a file made of the run's shelf
abbrev pub IsMadeText : Setting → History → List ℕ → Type 0
IsMadeText st history bytes = (file : File) × IsMade (shelf st.run history) file × IsPartFile file × IsPartText bytes file

-- the bytes are no text of a part of this run
abbrev pub IsForeign : ℕ → List ℕ → Type 0
IsForeign run bytes = (file : File) → part_at bytes ≡ Ok file → ¬ (file.run ≡ run)

-- The files of a run that came back, each in either format: a text of the base that it started from, and parts that are texts of
-- files made of its shelf, or no texts of the run at all.
pub record CameBack (st : Setting) (history : History) (base : List ℕ) (parts : List (List ℕ)) : Type 0 where
  pub base_is : IsBaseText base (start_of st)
  pub base_fits : IsBaseFile (start_of st)
  pub parts_are : All (λ bytes. IsMadeText st history bytes ⊎ IsForeign st.run bytes) parts

-- Any beginning of a run's log, of a format that has its text, is recovered from, with any of its files that came back: the
-- recovered state is the database after the first entries, up to the last whole one, or up to the recovered point's token if that
-- is further.
abbrev pub EveryCutOfARunIsRecovered : Type 0
EveryCutOfARunIsRecovered =
    (format : Format) (st : Setting) (history : History) (base : List ℕ) (parts : List (List ℕ)) (c : ℕ) → HasLegalEffects st history → TakesPointValue st.base history → st.sessions ≤ MOST_SESSIONS → AreInLimits history → HasLog format (log_of history) →
    CameBack st history base parts →
    MatchResult (recovery base parts (take c (log_text_in format st.run (log_of history)))) (IsRestored format st.run st.base (log_of history) 0 parts c) (λ refusal. refusal ≡ Full)
