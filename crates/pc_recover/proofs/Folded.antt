-- The used files, joined in order, and applied to the base.
use Rattle.std.proofs.Common.{◌≡◌, List, [], ◌∷◌, Option, Some, None, Result, Ok, Err, refl, sym, ap, ◌∙◌}
use Rattle.std.specs.Prelude.{◌≢◌}
use Rattle.std.specs.Result.{IsErr, IsErrAnd}
use Rattle.pc_types.specs.declared.refusal.Refusal.{Refusal}
use Rattle.pc_types.specs.declared.refusal.Refusal.TheVariants.{OutOfMemory}
use Rattle.pc_io.specs.Fields.{◌>>=◌, Gives}
use Rattle.pc_model.specs.Files.{File, BaseFile}
use Rattle.pc_recover.specs.Recovery.{try_folded, with_files}
use Rattle.pc_recover.specs.Folding.{join_due, lay_due, joined_on}

-- the base with the join applied to it, if there is one
abbrev laid_on : BaseFile → Option File → Result BaseFile Refusal
laid_on base None = Ok base
laid_on base (Some joined) = lay_due base joined

-- joining to a file is folding from it
folded_is : (file : File) (files : List File) → joined_on (Some file) files ≡ (try_folded file files >>= λ joined. Ok (Some joined))
folded_is file [] = refl
folded_is file (next ∷ files) = by (join_due file next) (λ joined. folded_is joined files)
  where
    by : (r : Result File Refusal) → ((joined : File) → joined_on (Some joined) files ≡ (try_folded joined files >>= λ j. Ok (Some j))) →
        (r >>= λ both. joined_on (Some both) files) ≡ ((r >>= λ joined. try_folded joined files) >>= λ j. Ok (Some j))
    by (Ok joined) rest = rest joined
    by (Err e) rest = refl

-- the base with the files is the base with their join applied to it
pub with_files_is : (base : BaseFile) (files : List File) → with_files base files ≡ (joined_on None files >>= laid_on base)
with_files_is base [] = refl
with_files_is base (file ∷ files) = by (try_folded file files) ∙ sym (ap (λ r. r >>= laid_on base) (folded_is file files))
  where
    by : (r : Result File Refusal) → (r >>= lay_due base) ≡ ((r >>= λ joined. Ok (Some joined)) >>= laid_on base)
    by (Ok joined) = refl
    by (Err e) = refl

module _ (base : BaseFile) (files : List File) where
  pub not_joined : (e : Refusal) (r : Result BaseFile Refusal) → IsErr r × IsErrAnd r (λ why. why ≡ e) → (e ≢ OutOfMemory → joined_on None files ≡ Err e) → Gives (λ laid. laid) r (with_files base files)
  not_joined e (Ok x) given due = absurd given.1
  not_joined e (Err why) given due = λ other. rw (with_files_is base files) (let same : why ≡ e = given.1 in ap (λ j. j >>= laid_on base) (due (λ is. other (same ∙ is))) ∙ ap Err (sym same))

  pub joined_is_laid : (joined : File) (r : Result BaseFile Refusal) → joined_on None files ≡ Ok (Some joined) → Gives (λ laid. laid) r (lay_due base joined) → Gives (λ laid. laid) r (with_files base files)
  joined_is_laid joined r is due = rw (with_files_is base files ∙ ap (λ j. j >>= laid_on base) is) due

  pub none_is_laid : joined_on None files ≡ Ok None → with_files base files ≡ Ok base
  none_is_laid is = with_files_is base files ∙ ap (λ j. j >>= laid_on base) is
