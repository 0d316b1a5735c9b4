-- The folder once all files of a run were written to it.
use Rattle.std.proofs.Common.{◌≡◌, ℕ, zero, suc, ◌+◌, ◌<◌, ◌≤◌, List, ◌++◌, take, drop, length, All, sym, ap, subst, ◌∙◌, arith, append_assoc}
use Rattle.std.specs.Prelude.{Option, Some, None, is_some, slice_index_or}
use Rattle.std.specs.List.{flat_map}
use Rattle.std.proofs.lemmas.List.{take-append-drop}
use Rattle.std.proofs.lemmas.List.Concat.{flat_map-append}
use Rattle.pc_types.specs.declared.Entry.{Entry}
use Rattle.pc_io.specs.declared.tally.Tally.{Tally}
use Rattle.pc_model.specs.Files.{BaseFile, File}
use Rattle.pc_model.specs.Sets as set
use Rattle.pc_model.specs.Sets.{Set, number_order}
use Rattle.pc_model.specs.Standing.{IsOfItsPoints, file_of_points}
use Rattle.pc_log.specs.Texts.{entry_text, header_text, log_text}
use Rattle.pc_part.specs.Texts.{part_text}
use Rattle.pc_bases.specs.Texts.{base_text}
use Rattle.pc_texts.specs.declared.file_names.FileName.{FileName}
use Rattle.pc_texts.specs.declared.file_names.FileName.TheVariants.{Base, Part, Log}
use Rattle.pc_workers.specs.Logging.{rest_text}
use Rattle.pc_threads.specs.Files.{HasParts, HasWritten, KeepsOtherFiles}
use Rattle.pc_threads.specs.Logs.{HasLogged}
use Rattle.pc_runs.specs.Folders.{HasBegunFiles, HasFinished, LeavesFiles}

-- the text of the entries that were handed out, and the rest's, are the text of the whole log
log_whole : (run logged : ℕ) (log given : List Entry) → given ≡ take logged log → log_text run given ++ rest_text logged log ≡ log_text run log
log_whole run logged log given is =
    ap (λ (l : List Entry). log_text run l ++ rest_text logged log) is
    ∙ append_assoc (header_text run) (flat_map entry_text (take logged log)) (flat_map entry_text (drop logged log))
    ∙ ap (λ (t : List ℕ). header_text run ++ t) (sym (flat_map-append entry_text (take logged log) (drop logged log)))
    ∙ ap (log_text run) (take-append-drop logged log)

module _ (base : BaseFile) (log : List Entry) where
  -- a file of one point, if it is that of its points
  abbrev one_point : ℕ → File
  one_point point = file_of_points base.run base.pairs log (set.insert set.empty point)

  is_one : (file : File) (point : ℕ) → IsOfItsPoints base.run base.pairs log file → file.points ≡ set.insert set.empty point → part_text file ≡ part_text (one_point point)
  is_one file point worth is = ap part_text (worth.is ∙ ap (λ (points : Set number_order). file_of_points base.run base.pairs log points) is)

  parts_left : (had has : FileName → List ℕ → Type 0) (points : ℕ) (files : List File) → KeepsOtherFiles had has Log → length files ≡ points → HasParts had files → All (IsOfItsPoints base.run base.pairs log) files
      → (point : ℕ) → 1 ≤ point → point ≤ points → has (Part point) (part_text (one_point point))
  parts_left had has points files keeps count parts worth (suc place) low high =
      let default : File = one_point 0 in
      let here : place < length files = omega (arith, high, count) in
      let at : place + 1 ≡ suc place = omega arith in
      let one = parts place default here in
      let is = is_one (slice_index_or files place default) (suc place) (worth place default here) (one.0 ∙ ap (set.insert set.empty) at) in
      subst (has (Part (suc place))) is (keeps (Part (suc place)) (part_text (slice_index_or files place default)) (λ is. cc (is)) (subst (λ n. had (Part n) (part_text (slice_index_or files place default))) at one.1))
  parts_left had has points files keeps count parts worth zero low high = absurd (omega (arith, low))

  module _ {D T : Type 0} (holds : D → FileName → List ℕ → Type 0) (contents : T → Option (List ℕ)) (blank : Option (List ℕ)) (points logged : ℕ) (given : List Entry) (files : List File) (whole : given ≡ take logged log)
      (worth : All (IsOfItsPoints base.run base.pairs log) files) where
    pub files_left : (first middle last : Option D) (new out : Option (Tally T)) → HasBegunFiles holds contents blank base first new → HasWritten holds points first middle files
        → HasLogged contents base.run new out given → HasFinished holds contents blank (rest_text logged log) middle out last → LeavesFiles holds base log points (is_some first) last
    files_left None None None None None begun written is finished = tt
    files_left None None (Some last) None None begun written is finished = absurd (cc (finished))
    files_left (Some first) (Some middle) (Some last) (Some new) (Some out) (base_is, blank_is) (stays, count, parts) is (keeps, behind) =
        record {
          base_is = keeps Base (base_text base) (λ is. cc (is)) (stays (base_text base) base_is);
          parts_are = parts_left (holds middle) (holds last) points files keeps count parts worth;
          log_is = subst (holds last Log) (log_whole base.run logged log given whole) (behind new (log_text base.run given) blank_is is);
        }
    files_left (Some first) (Some middle) None (Some new) (Some out) begun written is finished = absurd finished
    files_left (Some first) None last (Some new) out begun written is finished = absurd written
    files_left (Some first) (Some middle) last (Some new) None begun written is finished = absurd is
    files_left (Some first) middle last None out begun written is finished = absurd begun
    files_left None (Some middle) last None out begun written is finished = absurd written
    files_left None None last None (Some out) begun written is finished = absurd is
    files_left None middle last (Some new) out begun written is finished = absurd begun
