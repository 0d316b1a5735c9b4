-- Every cut of a run's log is recovered from, with any of its files that came back.
use Rattle.std.proofs.Common.{◌≡◌, ℕ, List, [], ◌∷◌, ◌⊎◌, inl, inr, Result, Ok, refl, sym, subst, ◌∙◌}
use Rattle.pc_types.specs.declared.refusal.Refusal.{Refusal}
use Rattle.pc_model.specs.History.{History, log_of}
use Rattle.pc_model.specs.Files.{File}
use Rattle.pc_model.specs.Headline.{TakesPointValue}
use Rattle.pc_model.specs.Standing.{HasLegalEffects, IsOfItsPoints}
use Rattle.pc_model.specs.Replies.{Setting}
use Rattle.pc_model.proofs.ShelfFileLaws.{made_is_of_points}
use Rattle.pc_part.specs.Reading.{part_at}
use Rattle.pc_bases.proofs.BaseFileLaws.{text_is_read as base_is_read}
use Rattle.pc_part.proofs.PartFileLaws.{text_is_read as part_is_read}
use Rattle.std.specs.List.{AllByRecursion, flat_map}
use Rattle.std.proofs.lemmas.List.Elements.{All-from_recursion, recursion_from_All}
use Rattle.pc_log.specs.Texts.{entry_text_in}
use Rattle.pc_log.specs.Laws.{CutLogsAreRead}
use Rattle.pc_log.proofs.CutTextLaws.{header_cut, log_cut}
use Rattle.pc_log.proofs.LawfulLogLaws.{logs_have_texts}
use Rattle.pc_recover.specs.Restarts.{EveryCutIsRecovered}
use Rattle.pc_recover.specs.Runs.{IsMadeText, IsForeign, EveryCutOfARunIsRecovered}
use Rattle.pc_recover.proofs.Restarting.{restarts}

cuts_are_read : CutLogsAreRead
cuts_are_read format run entries n fits lawful has order = (λ cut. header_cut format run (flat_map (entry_text_in format) entries) n fits cut, λ whole. log_cut format run entries n fits lawful has order whole)

pub every_cut : EveryCutIsRecovered
every_cut = restarts base_is_read cuts_are_read

module _ (st : Setting) (h : History) (legal : HasLegalEffects st h) (values : TakesPointValue st.base h) where
  -- the reading of a part's bytes, if they are a part of the run
  abbrev IsOfTheRun : List ℕ → Type 0
  IsOfTheRun bytes = (file : File) → part_at bytes ≡ Ok file → file.run ≡ st.run → IsOfItsPoints st.run st.base (log_of h) file

  abbrev read_as : File → Result File Refusal
  read_as file = Ok file

  one_file : (a b : File) → read_as a ≡ read_as b → a ≡ b
  one_file a b e = cc

  of_the_run : (bytes : List ℕ) → IsMadeText st h bytes ⊎ IsForeign st.run bytes → IsOfTheRun bytes
  of_the_run bytes (inl made) = λ file read own.
      subst (IsOfItsPoints st.run st.base (log_of h)) (one_file made.0 file (sym (part_is_read bytes made.0 made.2 made.3) ∙ read)) (made_is_of_points st h legal values made.0 made.1)
  of_the_run bytes (inr foreign) = λ file read own. absurd (foreign file read own)

  all_of_the_run : (parts : List (List ℕ)) → AllByRecursion (λ bytes. IsMadeText st h bytes ⊎ IsForeign st.run bytes) parts → AllByRecursion IsOfTheRun parts
  all_of_the_run [] all = tt
  all_of_the_run (bytes ∷ parts) all = (of_the_run bytes all.0, all_of_the_run parts all.1)

pub every_cut_of_a_run : EveryCutOfARunIsRecovered
every_cut_of_a_run format st h base parts c legal values few limits has back =
    every_cut format st.run st.base (log_of h) 0 base parts c (logs_have_texts st h legal few limits) has
    (record {
      base_is = back.base_is;
      base_fits = back.base_fits;
      base_sealed = inl refl;
      parts_are = All-from_recursion _ parts (all_of_the_run st h legal values parts (recursion_from_All _ parts back.parts_are));
    })
