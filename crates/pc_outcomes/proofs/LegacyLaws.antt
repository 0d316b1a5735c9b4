-- The files left after a legal history are correct.
use Rattle.std.proofs.Common.{ℕ, List, [], ◌∷◌, Option, Some, None, Ok, All, drop, sym, subst}
use Rattle.std.proofs.lemmas.List.Elements.{All-contains, All-drop, All-push}
use Rattle.pc_types.specs.declared.Entry.{Entry}
use Rattle.pc_model.specs.Files.{BaseFile, File}
use Rattle.pc_model.specs.History.{History}
use Rattle.pc_model.specs.Replies.{Setting}
use Rattle.pc_model.specs.Standing.{IsOfItsPoints}
use Rattle.pc_collapse.specs.Laws.{FilesFoldWell}
use Rattle.pc_audit.specs.Checks.{IsFileRight}
use Rattle.pc_audit.specs.Laws.{FilesOfTheirPointsAreRight}
use Rattle.pc_outcomes.specs.Leaving.{with_file, Folded, IsStoreReport, AreLeftAfter, IsOfAll, IsLegacy}
use Rattle.pc_outcomes.specs.declared.run_report.StoreReport.{StoreReport}

-- the fold of files of a log is the file of the points of all
pub of_all : FilesFoldWell → (base : BaseFile) (log : List Entry) (files : List File) (collapsed : Option File) → All (IsOfItsPoints base.run base.pairs log) files → Folded files collapsed → IsOfAll base log files collapsed
of_all well base log files None worth folded = folded
of_all well base log [] (Some file) worth folded = cc
of_all well base log (first ∷ others) (Some file) worth folded = well base.run base.pairs log first others (Ok file) (λ f. All-contains (IsOfItsPoints base.run base.pairs log) (first ∷ others) f worth) folded

module _ (well : FilesFoldWell) (are_right : FilesOfTheirPointsAreRight) (st : Setting) (history : History) (base : BaseFile) (log : List Entry) (files : List File) (after : AreLeftAfter st history base log files) where
  -- a file of its points is correct
  right_file : (file : File) → IsOfItsPoints base.run base.pairs log file → IsFileRight base.pairs log file
  right_file file =
      subst (λ (b : BaseFile). IsOfItsPoints b.run b.pairs log file → IsFileRight b.pairs log file) (sym after.start)
      (subst (λ (l : List Entry). IsOfItsPoints st.run st.base l file → IsFileRight st.base l file) (sym after.log_is) (are_right st history file after.legal))

  worth : All (IsOfItsPoints base.run base.pairs log) files
  worth = subst (λ (b : BaseFile). All (IsOfItsPoints b.run b.pairs log) files) (sym after.start) after.worth

  right_files : All (IsFileRight base.pairs log) files
  right_files k d below = right_file _ (worth k d below)

  right_with : (some : List File) (collapsed : Option File) → IsOfAll base log some collapsed → All (IsFileRight base.pairs log) (with_file files collapsed)
  right_with some None of = right_files
  right_with some (Some file) of = All-push (IsFileRight base.pairs log) files file right_files (right_file file of.of_its_points)

  -- so is all that is left
  pub legacy : (some : List File) (left : StoreReport) → All (IsOfItsPoints base.run base.pairs log) some → IsStoreReport base log files some left → IsLegacy base log some left
  legacy some left parts is =
      let of = of_all well base log some is.collapsed parts is.folded in
      record { collapsed = is.collapsed; of_all = of; summary = is.summary; right = is.right.1 (right_with some is.collapsed of) }

  -- if some of the files were folded
  pub legacy_of : (n : ℕ) (left : StoreReport) → IsStoreReport base log files (drop n files) left → IsLegacy base log (drop n files) left
  legacy_of n left = legacy (drop n files) left (All-drop (IsOfItsPoints base.run base.pairs log) n files worth)
