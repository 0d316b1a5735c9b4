-- A borrowed part, read at its number.
use Rattle.std.proofs.Common.{◌≡◌, ℕ, ◌<◌, List, length, get_or, sym, ap, subst, ◌∙◌}
use Rattle.std.proofs.lemmas.List.{get_or_default}
use Rattle.pc_model.specs.Files.{File}
use Rattle.pc_collapse.specs.declared.piece.Source.{Source}
use Rattle.pc_collapse.specs.declared.piece.Source.TheVariants.{Lent}
use Rattle.pc_collapse.specs.Pieces.{source_file, IsLentOf}

pub lent_is : (lent parts : List File) (number : ℕ) (source : Source) (read file : File) → parts ≡ lent → source ≡ Lent number → IsLentOf lent source → source_file lent source ≡ file → read ≡ get_or parts number read → read ≡ file
lent_is lent parts number source read file same is inside view at =
    let bound : number < length lent = subst (IsLentOf lent) is inside in
    at ∙ ap (λ (l : List File). get_or l number read) same ∙ get_or_default lent number read _ bound ∙ sym (ap (source_file lent) is) ∙ view
