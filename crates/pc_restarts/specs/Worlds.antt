-- The files that come back of a world, and the state recovered from them.
use Rattle.std.specs.Prelude.{◌≡◌, ℕ, ◌⊎◌, List, All, MatchResult, take}
use Rattle.pc_io.specs.declared.Format.{Format}
use Rattle.pc_types.specs.declared.refusal.Refusal.TheVariants.{Full}
use Rattle.pc_model.specs.History.{History}
use Rattle.pc_model.specs.Files.{File}
use Rattle.pc_model.specs.Headline.{IsMade}
use Rattle.pc_part.specs.Lawful.{IsPartFile, IsPartText}
use Rattle.pc_bases.specs.Lawful.{IsBaseFile, IsBaseText}
use Rattle.pc_log.specs.Texts.{log_text_in, HasLog}
use Rattle.pc_engine.specs.Store.{Store}
use Rattle.pc_engine.specs.Stands.{Stands}
use Rattle.pc_recover.specs.Recovery.{recovery}
use Rattle.pc_recover.specs.Restarts.{IsRestored}
use Rattle.pc_recover.specs.Runs.{IsForeign}

-- the bytes are a text of a file made of the shelf
abbrev pub IsTextOfShelf : List File → List ℕ → Type 0
IsTextOfShelf shelf bytes = (file : File) × IsMade shelf file × IsPartFile file × IsPartText bytes file

-- The files that came back of a world, each in either format: a text of its base, and parts that are texts of files made of its
-- shelf, or no texts of its run at all.
pub record WorldCameBack (w : Store) (base : List ℕ) (parts : List (List ℕ)) : Type 0 where
  pub base_is : IsBaseText base w.base
  pub base_fits : IsBaseFile w.base
  pub parts_are : All (λ bytes. IsTextOfShelf w.shelf bytes ⊎ IsForeign w.base.run bytes) parts

-- Any prefix of the log of a world that represents a history, in a format that has its text, is recovered from, with whatever of
-- its files came back: what is recovered is the database after the first entries, as far as those that are whole go, or the
-- recovered point's token if that is further.
abbrev pub EveryCutOfAWorldIsRecovered : Type 0
EveryCutOfAWorldIsRecovered =
    (format : Format) (w : Store) (history : History) (base : List ℕ) (parts : List (List ℕ)) (c : ℕ) → Stands w history → HasLog format w.log → WorldCameBack w base parts →
    MatchResult (recovery base parts (take c (log_text_in format w.base.run w.log))) (IsRestored format w.base.run w.base.pairs w.log 0 parts c) (λ refusal. refusal ≡ Full)
