-- The texts of a folder once one more of its files was written.
use Rattle.std.proofs.Common.{◌≡◌, ℕ, ◌+◌, Bool, true, false, List, [], ◌∷◌, ◌++◌, length, length-append, refl, sym, ap, subst, ◌∙◌, arith, ltb, ltb-true, ltb-false}
use Rattle.std.specs.Prelude.{Option, Some, None, slice_index_or}
use Rattle.std.proofs.lemmas.List.{get_or_push, get_or_append_left}
use Rattle.pc_model.specs.Files.{File}
use Rattle.pc_model.specs.Sets as set
use Rattle.pc_part.specs.Texts.{part_text}
use Rattle.pc_texts.specs.declared.file_names.FileName.{FileName}
use Rattle.pc_texts.specs.declared.file_names.FileName.TheVariants.{Base, Part}
use Rattle.pc_threads.specs.Files.{HasParts, HasWritten, KeepsOtherFiles}

-- two steps that touch one file
pub keep_both : (a b c : FileName → List ℕ → Type 0) (name : FileName) → KeepsOtherFiles a b name → KeepsOtherFiles b c name → KeepsOtherFiles a c name
keep_both a b c name first second other text differs had = second other text differs (first other text differs had)

module _ (old new : FileName → List ℕ → Type 0) (point : ℕ) (keeps : KeepsOtherFiles old new (Part point)) where
  -- the base stays if a part is written
  pub base_stays : (text : List ℕ) → old Base text → new Base text
  base_stays text had = keeps Base text (λ is. cc (is)) had

  -- after the parts of the points before there is that of the next one
  pub one_more_part : (files : List File) (file : File) → HasParts old files → point ≡ length files + 1 → file.points ≡ set.insert set.empty point → new (Part point) (part_text file) → HasParts new (files ++ file ∷ [])
  one_more_part files file had number is held place default below = by (ltb place (length files)) refl
    where
      Goal : File → Type 0
      Goal f = (f.points ≡ set.insert set.empty (place + 1)) × new (Part (place + 1)) (part_text f)

      by : (t : Bool) → ltb place (length files) ≡ t → Goal (slice_index_or (files ++ file ∷ []) place default)
      by true e =
          let low = ltb-true place (length files) e in
          let was = had place default low in
          subst Goal (sym (get_or_append_left files (file ∷ []) default place low))
          (was.0, keeps (Part (place + 1)) (part_text (slice_index_or files place default)) (λ (same : Part (place + 1) ≡ Part point). let at : place + 1 ≡ point = cc (same) in absurd (omega (arith, at, number, low))) was.1)
      by false e =
          let high = ltb-false place (length files) e in
          let longer = length-append files (file ∷ []) in
          let last : length files ≡ place = omega (arith, high, longer, below) in
          let at : point ≡ place + 1 = omega (arith, number, last) in
          subst Goal (sym (get_or_push files file default place last)) (is ∙ ap (set.insert set.empty) at, subst (λ n. new (Part n) (part_text file)) at held)

module _ {D : Type 0} (holds : D → FileName → List ℕ → Type 0) where
  -- the next point's file was written
  pub written_more : (before point : ℕ) (first : Option D) (old new : D) (files more : List File) → before + 1 ≡ point → HasWritten holds before first (Some old) files
      → (HasParts (holds old) files → point ≡ length files + 1 → HasParts (holds new) more) → length more ≡ length files + 1 → ((text : List ℕ) → holds old Base text → holds new Base text)
      → HasWritten holds point first (Some new) more
  written_more before point (Some one) old new files more next (base, count, parts) on longer stays =
      ((λ text had. stays text (base text had)), omega (arith, longer, count, next), on parts (omega (arith, next, count)))
  written_more before point None old new files more next had on longer stays = absurd had

  -- without a folder none is written
  pub written_none : (before point : ℕ) (first : Option D) (files : List File) → HasWritten holds before first None files → HasWritten holds point first None files
  written_none before point None files had = had
  written_none before point (Some one) files had = absurd had

  -- nothing was written yet
  pub nothing_written : (folder : Option D) (files : List File) → files ≡ [] → HasWritten holds 0 folder folder files
  nothing_written None files is = is
  nothing_written (Some one) files is = ((λ text had. had), ap length is, subst (HasParts (holds one)) (sym is) (λ place file low. absurd (omega (arith, low))))
