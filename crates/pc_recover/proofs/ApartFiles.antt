-- Files that have no point in common don't conflict.
use Rattle.std.proofs.Common.{◌≡◌, ℕ, ◌+◌, ◌<◌, ◌≤◌, eqb, ◌&&◌, ◌||◌, not, Bool, true, false, cond, List, [], ◌∷◌, ◌++◌, length, get_or, take, Option, Some, None, ⊎_elim, refl, sym, ap, subst, ◌∙◌, arith}
use Rattle.std.specs.List.{Contains, list_any}
use Rattle.std.specs.Option.{is_some}
use Rattle.std.specs.FinMap.{find}
use Rattle.std.specs.Cmp.{eq_by_cmp_equiv}
use Rattle.std.proofs.lemmas.Bool.Decides.{nat_tests}
use Rattle.std.proofs.lemmas.List.{take_all, take_more}
use Rattle.std.proofs.lemmas.List.Elements.{All-head, All-tail, Contains-push_cases}
use Rattle.std.proofs.lemmas.List.Folds.{list_any_at, list_any_more}
use Rattle.std.proofs.lemmas.List.Sums.{fold-append}
use Rattle.pc_types.specs.declared.Triple.{Triple}
use Rattle.pc_model.specs.Maps.{get}
use Rattle.pc_model.specs.Sets as sets
use Rattle.pc_model.specs.Sets.{Set, number_order}
use Rattle.pc_model.specs.Database.{key_cmp, key_order, same_bytes}
use Rattle.pc_model.specs.Points.{AtPoint, Triples}
use Rattle.pc_model.specs.Files.{File, conflict, differs, same_content}
use Rattle.pc_model.specs.TripleLists.{map_entries, entry_of, triples_of}
use Rattle.pc_model.proofs.MapLaws.{get-entries, get-from_list}
use Rattle.pc_model.proofs.PairMapLaws.{tested}
use Rattle.pc_model.proofs.RisingLaws.{none_found}
use Rattle.pc_part.specs.declared.ranges.Range.{Range}
use Rattle.pc_part.specs.Parts.{AreCovered, AreRanges, RangesFrom, points_of}
use Rattle.pc_part.proofs.RangePointLaws.{contains-points_of}
use Rattle.pc_merge.specs.Folds.{NoneConflict}
use Rattle.pc_recover.specs.Recovery.{is_covered}
use Rattle.pc_recover.specs.Reach.{HasFreePoints, least_top, top_with_file, top_at}
use Rattle.pc_recover.specs.Folding.{IsOfPoints}
use Rattle.pc_recover.proofs.Reaching.{is_in, least_there}

-- a value that is found among entries of these points is of one of them
found_of : (points : Set number_order) (es : List Triple) (q : List ℕ) (a : AtPoint) → AreCovered points es → find key_cmp q (map_entries es) ≡ Some a → sets.contains points a.point ≡ true
found_of points [] q a all is = cc
found_of points (t ∷ es) q a all is = by (same_bytes q t.key) (found_of points es q a (All-tail Covered t es all)) is
  where
    Covered : Triple → Type 0
    Covered entry = sets.contains points entry.point ≡ true

    by : (b : Bool) → (find key_cmp q (map_entries es) ≡ Some a → sets.contains points a.point ≡ true) → cond b (Some (entry_of t).1) (find key_cmp q (map_entries es)) ≡ Some a → sets.contains points a.point ≡ true
    by true rest is = let same : (entry_of t).1 ≡ a = cc in subst (λ (x : AtPoint). sets.contains points x.point ≡ true) same (All-head Covered t es all)
    by false rest is = rest is

-- a key's value in a file is of one of its points, if its entries are
pub of_points : (file : File) (es : List Triple) → triples_of es ≡ file.triples → AreCovered file.points es → IsOfPoints file
of_points file es is all q a there = found_of file.points es q a all (sym (get-from_list key_order (map_entries es) q) ∙ ap (λ (m : Triples). get m q) is ∙ there)

-- ---- conflicts

module _ (f g : File) (of : IsOfPoints f) (other : IsOfPoints g) (apart : (p : ℕ) → sets.contains f.points p ≡ true → sets.contains g.points p ≡ true → ⊥) where
  apart_at : (e : List ℕ × AtPoint) (x : Option AtPoint) → get g.triples e.0 ≡ x → get f.triples e.0 ≡ Some e.1 → differs e.1 x ≡ false
  apart_at e None is here = refl
  apart_at e (Some b) is here = by (eqb e.1.point b.point) refl
    where
      by : (t : Bool) → eqb e.1.point b.point ≡ t → (t && not (same_content e.1.content b.content)) ≡ false
      by true same = let one : e.1.point ≡ b.point = grind (arith, nat_tests, same) in absurd (apart e.1.point (of e.0 e.1 here) (subst (λ p. sets.contains g.points p ≡ true) (sym one) (other e.0 b is)))
      by false same = refl

  -- files without a common point don't conflict
  apart_well : conflict f.triples g.triples ≡ false
  apart_well = none_found f.triples.entries (λ e. differs e.1 (get g.triples e.0)) (tested f.triples.rises) (λ e there. apart_at e (get g.triples e.0) refl (get-entries f.triples e.0 ∙ there))

same_itself : (c : Option (List ℕ)) → same_content c c ≡ true
same_itself None = refl
same_itself (Some v) = (eq_by_cmp_equiv key_order.total).refl v

-- nor does a file with itself
itself_well : (f : File) → conflict f.triples f.triples ≡ false
itself_well f = none_found f.triples.entries (λ e. differs e.1 (get f.triples e.0)) (tested f.triples.rises) (λ e there. ap (differs e.1) (get-entries f.triples e.0 ∙ there) ∙ ap (λ s. eqb e.1.point e.1.point && not s) (same_itself e.1.content) ∙ by (eqb e.1.point e.1.point))
  where
    by : (t : Bool) → (t && false) ≡ false
    by true = refl
    by false = refl

-- one more file that conflicts with none
one_more : (fs : List File) (f : File) → NoneConflict fs → ((g : File) → Contains fs g → (conflict f.triples g.triples ≡ false) × (conflict g.triples f.triples ≡ false)) → NoneConflict (fs ++ f ∷ [])
one_more fs f none well a b in_a in_b = ⊎_elim
    (λ p. ⊎_elim (λ q. none a b p q) (λ is. subst (λ (x : File). conflict a.triples x.triples ≡ false) is (well a p).1) (Contains-push_cases fs f b in_b))
    (λ here. ⊎_elim (λ q. subst (λ (x : File). conflict x.triples b.triples ≡ false) here (well b q).0)
    (λ is. subst (λ (x : File). conflict x.triples b.triples ≡ false) here (subst (λ (x : File). conflict f.triples x.triples ≡ false) is (itself_well f))) (Contains-push_cases fs f b in_b))
    (Contains-push_cases fs f a in_a)

-- ---- the files that are noted

-- these files are noted in the table, and no two of them conflict
pub record AreNoted (files : List File) (tops : List (Option ℕ)) : Type 0 where
  pub size : length tops ≡ 65536
  pub each : (p : ℕ) → p ≤ 65535 → top_at tops p ≡ least_top files p
  pub of : (g : File) → Contains files g → IsOfPoints g
  pub none : NoneConflict files

pub none_noted : (tops : List (Option ℕ)) → length tops ≡ 65536 → ((p : ℕ) → top_at tops p ≡ None) → AreNoted [] tops
none_noted tops size free = record {
  size = size;
  each = λ p within. free p;
  of = λ g there. absurd (let bound = there.1 in omega (arith, bound));
  none = λ a b there other. absurd (let bound = there.1 in omega (arith, bound));
}

-- ---- the places of a file's points

-- nothing is noted at the points of the ranges
abbrev pub AreFree : List (Option ℕ) → List Range → Type 0
AreFree tops ranges = (p : ℕ) → list_any (λ r. is_in r p) ranges ≡ true → top_at tops p ≡ None

module _ (tops : List (Option ℕ)) (ranges : List Range) where
  pub none_free : AreFree tops (take 0 ranges)
  none_free p among = cc

  pub one_free : (i : ℕ) (r : Range) → i < length ranges → r ≡ get_or ranges i r → AreFree tops (take i ranges) → ((p : ℕ) → r.low ≤ p → p ≤ r.high → top_at tops p ≡ None) → AreFree tops (take (i + 1) ranges)
  one_free i r within is so_far here p among = by (list_any (λ s. is_in s p) (take i ranges)) (is_in r p) refl refl
      (ap (λ s. list_any (λ s. is_in s p) (take i ranges) || is_in s p) is ∙ sym (list_any_more (λ s. is_in s p) ranges i r within) ∙ among)
    where
      by : (s t : Bool) → list_any (λ s. is_in s p) (take i ranges) ≡ s → is_in r p ≡ t → (list_any (λ s. is_in s p) (take i ranges) || is_in r p) ≡ true → top_at tops p ≡ None
      by true t before own some = so_far p before
      by false true before own some = let low : r.low ≤ p = grind (arith, nat_tests, own) in let high : p ≤ r.high = grind (arith, nat_tests, own) in here p low high
      by false false before own some = let bad : false ≡ true = sym (ap (λ b. b || is_in r p) before ∙ own) ∙ some in absurd cc

in_bounds : (least : ℕ) (ranges : List Range) (p : ℕ) → RangesFrom least ranges → list_any (λ r. is_in r p) ranges ≡ true → p ≤ 65535
in_bounds least [] p from among = cc
in_bounds least (r ∷ ranges) p from among = by (is_in r p) refl among (in_bounds (r.high + 2) ranges p from.3)
  where
    by : (t : Bool) → is_in r p ≡ t → (t || list_any (λ r. is_in r p) ranges) ≡ true → (list_any (λ r. is_in r p) ranges ≡ true → p ≤ 65535) → p ≤ 65535
    by true own some rest = let most : r.high ≤ 65535 = from.2 in let high : p ≤ r.high = grind (arith, nat_tests, own) in omega (arith, most, high)
    by false own some rest = rest some

-- if nothing is noted at any of its ranges
pub file_free : (tops : List (Option ℕ)) (file : File) (ranges : List Range) (i : ℕ) → AreRanges ranges → points_of ranges ≡ file.points → length ranges ≤ i → AreFree tops (take i ranges) → HasFreePoints tops file
file_free tops file ranges i apart are ended free p there =
    let among : list_any (λ r. is_in r p) ranges ≡ true = sym (contains-points_of ranges p) ∙ ap (λ (s : Set number_order). sets.contains s p) are ∙ there in
    (in_bounds 1 ranges p apart.1 among, free p (ap (list_any (λ r. is_in r p)) (take_all i ranges ended) ∙ among))

-- ---- one more file

module _ (files : List File) (f : File) (before now : List (Option ℕ)) (so_far : AreNoted files before) (of : IsOfPoints f) (free : HasFreePoints before f) (size : length now ≡ 65536)
    (noted_too : (p : ℕ) → p ≤ 65535 → top_at now p ≡ top_with_file p (top_at before p) f) where
  -- a point of one of them isn't free
  not_free : (g : File) → Contains files g → (p : ℕ) → sets.contains g.points p ≡ true → sets.contains f.points p ≡ true → ⊥
  not_free g there p has has_too =
      let open_at = free p has_too in
      let covered : is_covered files p ≡ true = list_any_at (λ (h : File). sets.contains h.points p) files there.0 g there.1 (ap (λ (h : File). sets.contains h.points p) there.2 ∙ has) in
      let some : is_some (least_top files p) ≡ true = least_there p None files ∙ covered in
      let bad : false ≡ true = ap is_some (sym open_at.1 ∙ so_far.each p open_at.0) ∙ some in
      absurd cc

  -- and then this one is noted
  pub one_noted : AreNoted (files ++ f ∷ []) now
  one_noted = record {
    size = size;
    each = λ p within. noted_too p within ∙ ap (λ t. top_with_file p t f) (so_far.each p within) ∙ sym (fold-append (top_with_file p) None files (f ∷ []));
    of = λ g there. ⊎_elim (λ q. so_far.of g q) (λ is. subst IsOfPoints is of) (Contains-push_cases files f g there);
    none = one_more files f so_far.none (λ g there.
        (apart_well f g of (so_far.of g there) (λ p p_f p_g. not_free g there p p_g p_f), apart_well g f (so_far.of g there) of (λ p p_g p_f. not_free g there p p_g p_f)));
  }

-- the same of the parts of a list up to one of them
pub next_noted : (parts : List File) (i : ℕ) (x : File) (before now : List (Option ℕ)) → i < length parts → x ≡ get_or parts i x → AreNoted (take i parts) before → IsOfPoints x → HasFreePoints before x → length now ≡ 65536 →
    ((p : ℕ) → p ≤ 65535 → top_at now p ≡ top_with_file p (top_at before p) x) → AreNoted (take (i + 1) parts) now
next_noted parts i x before now within is so_far of free size noted_too =
    subst (λ (fs : List File). AreNoted fs now) (ap (λ (y : File). take i parts ++ y ∷ []) is ∙ sym (take_more parts i x within)) (one_noted (take i parts) x before now so_far of free size noted_too)

-- and of all of them
pub all_noted : (parts : List File) (i : ℕ) (tops : List (Option ℕ)) → length parts ≤ i → AreNoted (take i parts) tops → NoneConflict parts
all_noted parts i tops ended noted = subst NoneConflict (take_all i parts ended) noted.none
