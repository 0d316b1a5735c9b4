-- The text of a base, by its pairs, and that it is valid.
use Rattle.std.proofs.Common.{◌≡◌, ◌≤◌, ◌<◌, ◌^◌, ℕ, List, ◌++◌, length, refl, sym, ap, subst, ◌∙◌}
use Rattle.std.specs.List.{All, flat_map}
use Rattle.pc_io.specs.declared.formats.Format.{Format}
use Rattle.pc_io.specs.declared.formats.Format.TheVariants.{Second}
use Rattle.pc_model.specs.Database.{KeysRise, database_of}
use Rattle.pc_model.specs.Files.{BaseFile}
use Rattle.pc_model.proofs.PairMapLaws as pairs_of
use Rattle.pc_part.specs.Parts.{IsWithinLimit}
use Rattle.pc_bases.specs.Lawful.{IsPair, IsBaseFile}
use Rattle.pc_bases.specs.Texts.{base_head_text, base_head_text_in, base_pair_text, pair_text_in, base_text, base_text_in}

module _ (base : BaseFile) (run point : ℕ) (pairs : List (List ℕ × List ℕ)) (same_run : run ≡ base.run) (same_point : point ≡ base.point) (rise : KeysRise pairs) (same_pairs : database_of pairs ≡ base.pairs) where
  entries_are : base.pairs.entries ≡ pairs
  entries_are = ap (λ m. m.entries) (sym same_pairs) ∙ pairs_of.entries_of pairs rise

  -- the two pieces of the text
  pub base_parts_in : (format : Format) → base_head_text_in format run point (length pairs) ++ flat_map (pair_text_in format) pairs ≡ base_text_in format base
  unfolding base_text_in
  base_parts_in format = rw (same_run, same_point, entries_are) refl

  -- the same of what is written
  pub base_parts : base_head_text run point (length pairs) ++ flat_map base_pair_text pairs ≡ base_text base
  base_parts = base_parts_in Second

  -- pairs within their limits make a valid base
  pub base_lawful : run < 2 ^ 64 → point ≤ 65535 → IsWithinLimit pairs → All IsPair pairs → IsBaseFile base
  base_lawful run_fits point_fits limit fit = record {
    run = subst (λ n. n < 2 ^ 64) same_run run_fits;
    point = subst (λ n. n ≤ 65535) same_point point_fits;
    pairs = subst (All IsPair) (sym entries_are) fit;
    limit = subst IsWithinLimit (sym entries_are) limit;
  }
