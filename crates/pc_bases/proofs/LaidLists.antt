-- Ascending triples applied to ascending pairs, from the fronts of both.
use Rattle.std.proofs.Common.{◌≡◌, ℕ, ◌≤◌, ◌<◌, nat_lt, false, ◌+◌, List, [], ◌∷◌, ◌++◌, true, length, drop, Option, Some, None, is_some, option_copied, Bor, refl, sym, ap, ◌∙◌, arith, lt-ltb}
use Rattle.std.proofs.lemmas.Bool.Decides.{nat_tests}
use Rattle.std.specs.FinMap.{find}
use Rattle.pc_types.specs.declared.Refusal.TheVariants.{Full}
use Rattle.pc_types.specs.declared.Triple.{Triple}
use Rattle.pc_model.specs.Maps as map_of
use Rattle.pc_model.specs.Database.{database_of, key_cmp, key_order, KeysRise}
use Rattle.pc_model.specs.Points.{AtPoint, laid_at, laid}
use Rattle.pc_model.specs.TripleLists.{map_entries, triples_of}
use Rattle.pc_model.proofs.MapLaws.{get-from_list}
use Rattle.pc_model.proofs.PairMapLaws as pair_maps
use Rattle.pc_model.proofs.JoinLaws.{get-laid}
use Rattle.pc_part.specs.Joins.{first_cause}
use Rattle.itertools.specs.declared.either_or_both.EitherOrBoth.{EitherOrBoth}
use Rattle.pc_bases.specs.Layings.{laid_there, limit_causes}
use Rattle.pc_model.specs.Merges.{gathered, merged, with_content}
use Rattle.pc_model.proofs.MergeLaws.{Merges, merges, none_left, gathered_all}
use Rattle.pc_model.proofs.MergeItemLaws.{items}

abbrev pub Pair : Type 0
Pair = List ℕ × List ℕ

abbrev pub lays : ℕ → List Pair → List Triple → List Pair
lays point pairs triples = merged (laid_there point) pairs (map_entries triples)

-- the pairs and triples, key by key
abbrev pub laid_items : List Pair → List Triple → List (EitherOrBoth Pair (List ℕ × AtPoint))
laid_items pairs triples = items pairs (map_entries triples)

-- what is laid of the items from one on
abbrev pub lays_from : ℕ → List Pair → List Triple → ℕ → List Pair
lays_from point pairs triples n = gathered (laid_there point) (drop n (laid_items pairs triples))

-- a key with content counts once
pub counted_one : (key : List ℕ) (content : Option (Bor (List ℕ))) → is_some content ≡ true → length (with_content key (option_copied content) []) ≡ 1
counted_one key None is = cc
counted_one key (Some v) is = refl

pub counted_none : (key : List ℕ) (content : Option (Bor (List ℕ))) → is_some content ≡ false → length (with_content key (option_copied content) []) ≡ 0
counted_none key None is = refl
counted_none key (Some v) is = cc

-- the loops' ends
module _ (point : ℕ) (pairs : List Pair) (triples : List Triple) (n : ℕ) (end : n ≡ length (laid_items pairs triples)) where
  pub all_counted : (len : ℕ) → len + length (lays_from point pairs triples n) ≡ length (lays point pairs triples) → len ≡ length (lays point pairs triples)
  all_counted len so_far = let none = ap length (none_left (laid_there point) (laid_items pairs triples) n end) in omega (arith, none, so_far)

  pub all_laid : (out : List Pair) → out ++ lays_from point pairs triples n ≡ lays point pairs triples → out ≡ lays point pairs triples
  all_laid out so_far = gathered_all (laid_there point) (laid_items pairs triples) n out _ end so_far

-- what is laid so is laid as the definition says
module _ (point : ℕ) (pairs : List Pair) (triples : List Triple) (rise_p : KeysRise pairs) (rise_t : KeysRise (map_entries triples)) where
  the_lay : Merges (laid_there point) pairs (map_entries triples) (lays point pairs triples)
  the_lay = merges (laid_there point) refl pairs (map_entries triples) rise_p rise_t

  pub lay_rises : KeysRise (lays point pairs triples)
  lay_rises = the_lay.rise

  lay_map : database_of (lays point pairs triples) ≡ laid (database_of pairs) point (triples_of triples)
  lay_map = pair_maps.same_database _ _ (λ q. get-from_list key_order (lays point pairs triples) q ∙ the_lay.finds q
      ∙ ap (λ x. laid_at x point (find key_cmp q (map_entries triples))) (sym (get-from_list key_order pairs q))
      ∙ ap (laid_at (map_of.get (database_of pairs) q) point) (sym (get-from_list key_order (map_entries triples) q))
      ∙ sym (get-laid (database_of pairs) point (triples_of triples) q))

  pub laid_list : (out : List Pair) → out ≡ lays point pairs triples → database_of out ≡ laid (database_of pairs) point (triples_of triples)
  laid_list out is = ap database_of is ∙ lay_map

  lay_len : length (lays point pairs triples) ≡ map_of.len (laid (database_of pairs) point (triples_of triples))
  lay_len = ap length (sym (pair_maps.entries_of (lays point pairs triples) lay_rises)) ∙ ap map_of.len lay_map

  pub over_limit : (n : ℕ) → n ≡ length (lays point pairs triples) → 4294967295 < n → first_cause (limit_causes (database_of pairs) point (triples_of triples)) ≡ Some Full
  over_limit n is above = ap (λ k. first_cause ((nat_lt 4294967295 k, Full) ∷ [])) (sym (is ∙ lay_len)) ∙ ap (λ t. first_cause ((t, Full) ∷ [])) (lt-ltb 4294967295 n above)

  pub in_limit : (n : ℕ) → n ≡ length (lays point pairs triples) → n ≤ 4294967295 → first_cause (limit_causes (database_of pairs) point (triples_of triples)) ≡ None
  in_limit n is within = ap (λ k. first_cause ((nat_lt 4294967295 k, Full) ∷ [])) (sym (is ∙ lay_len)) ∙ ap (λ t. first_cause ((t, Full) ∷ [])) (not_above n within)
    where
      not_above : (n : ℕ) → n ≤ 4294967295 → nat_lt 4294967295 n ≡ false
      not_above n h = grind (arith, nat_tests)
