-- Files have the points so far, with those of the ticket of one more too.
use Rattle.std.proofs.Common.{◌≡◌, ℕ, suc, ◌+◌, ◌<◌, ◌≤◌, ◌||◌, Bool, true, false, List, [], ◌∷◌, ◌++◌, All, IsTrue, map, refl, sym, ap, subst, ◌∙◌, arith}
use Rattle.std.specs.Prelude.{nat_le}
use Rattle.std.proofs.lemmas.Bool.Decides.{nat_tests}
use Rattle.std.proofs.lemmas.List.Elements.{All-head, All-tail}
use Rattle.std.proofs.lemmas.List.Folds.{list_any-append}
use Rattle.pc_model.specs.Sets as set
use Rattle.pc_model.specs.Sets.{Set, number_order}
use Rattle.pc_model.specs.Files.{File}
use Rattle.pc_model.specs.Numbers.{is_one_of, same_number}
use Rattle.pc_board.specs.Passes.{Pass}
use Rattle.pc_workers.specs.Collapsing.{has_point, HasSeenPublished, HasCollapsed}
use Rattle.pc_workers.specs.Covering.{HaveAllTo, HaveOnlyTo}
use Rattle.pc_workers.proofs.Holding.{one_point, has_point_more}

-- the file of one point has it
has_pushed : (files : List File) (file : File) (n : ℕ) → file.points ≡ set.insert set.empty n → IsTrue (has_point (files ++ file ∷ []) n)
has_pushed files file n is =
    list_any-append (λ (f : File). set.contains f.points n) files (file ∷ [])
    ∙ ap (λ b. has_point files n || (b || false)) (ap (λ (s : Set number_order). set.contains s n) is ∙ one_point n n)
    ∙ by (has_point files n) (same_number n n) itself
  where
    itself : same_number n n ≡ true
    itself = grind (arith, nat_tests)

    by : (s t : Bool) → t ≡ true → (s || ((t || false) || false)) ≡ true
    by true t e = refl
    by false true e = refl
    by false false e = cc

all_and_next : (n : ℕ) (files : List File) → HaveAllTo n files → IsTrue (has_point files (n + 1)) → HaveAllTo (n + 1) files
all_and_next n files old next p some within = by (nat_le p n) refl
  where
    by : (t : Bool) → nat_le p n ≡ t → has_point files p ≡ true
    by true e = let low : p ≤ n = grind (arith, nat_tests) in old p some low
    by false e = let is : p ≡ n + 1 = grind (arith, nat_tests, within) in ap (has_point files) is ∙ next

all_stay : (n : ℕ) (files : List File) (file : File) → HaveAllTo n files → HaveAllTo n (files ++ file ∷ [])
all_stay n files file old p some within = list_any-append (λ (f : File). set.contains f.points p) files (file ∷ []) ∙ ap (λ b. b || (set.contains file.points p || false)) (old p some within)

-- of two tests for points, one is true
either : (a b : Bool) (C : Type 0) → (a || b) ≡ true → (a ≡ true → C) → (b ≡ true → C) → C
either true b C is left right = left refl
either false b C is left right = right is

is_it : (p number : ℕ) → same_number p number ≡ true → p ≡ number
is_it p number same = grind (arith, nat_tests)

one_is_to : (n k : ℕ) (file : File) → file.points ≡ set.insert set.empty k → 1 ≤ k → k ≤ n → (p : ℕ) → set.contains file.points p ≡ true → (1 ≤ p) × (p ≤ n)
one_is_to n k file is low high p has =
    let alone : (same_number p k || false) ≡ true = sym (one_point p k) ∙ ap (λ (s : Set number_order). set.contains s p) (sym is) ∙ has in
    let same : p ≡ k = either (same_number p k) false (p ≡ k) alone (is_it p k) (λ none. cc) in
    (subst (λ q. 1 ≤ q) (sym same) low, subst (λ q. q ≤ n) (sym same) high)

one_more : (n k : ℕ) (files : List File) (file : File) → file.points ≡ set.insert set.empty k → 1 ≤ k → k ≤ n → HaveOnlyTo n files → HaveOnlyTo n (files ++ file ∷ [])
one_more n k files file is low high old p has =
    either (has_point files p) (set.contains file.points p) ((1 ≤ p) × (p ≤ n)) (sym (has_point_more files file p) ∙ has) (old p) (one_is_to n k file is low high p)

among : (n : ℕ) (after : Pass) (taken : List ℕ) → All (HasSeenPublished n after) taken → (p : ℕ) → is_one_of p (map suc taken) ≡ true → (1 ≤ p) × (p ≤ n)
among n after [] shown p is = cc
among n after (number ∷ taken) shown p is =
    either (same_number p (suc number)) (is_one_of p (map suc taken)) ((1 ≤ p) × (p ≤ n)) is
    (λ same. let p_is = is_it p (suc number) same in let low = (All-head (HasSeenPublished n after) number taken shown).0 in (omega (arith, p_is), omega (arith, p_is, low)))
    (among n after taken (All-tail (HasSeenPublished n after) number taken shown) p)

-- two lists of such files together
pub both_to : (n : ℕ) (files more : List File) → HaveOnlyTo n files → HaveOnlyTo n more → HaveOnlyTo n (files ++ more)
both_to n files more some others p has =
    either (has_point files p) (has_point more p) ((1 ≤ p) × (p ≤ n)) (sym (list_any-append (λ (f : File). set.contains f.points p) files more) ∙ has) (some p) (others p)

-- the tickets of a collapser have no other points than those that were asked for
pub collapsed_to : (n : ℕ) (before after : Pass) (files : List File) → HasCollapsed n before after files → HaveOnlyTo n files
collapsed_to n before after files h p has = among n after h.taken h.shown p (sym (h.holds p) ∙ has)

-- a ticket of the next point is taken
pub one_taken : (points n : ℕ) (old new : List File) (ticket : File) → n < points → ticket.points ≡ set.insert set.empty (n + 1) → new ≡ old ++ ticket ∷ [] → HaveAllTo n old × HaveOnlyTo points old → HaveAllTo (n + 1) new × HaveOnlyTo points new
one_taken points n old new ticket below is appended before =
    let all = all_and_next n (old ++ ticket ∷ []) (all_stay n old ticket before.0) (has_pushed old ticket (n + 1) is) in
    subst (λ files. HaveAllTo (n + 1) files × HaveOnlyTo points files) (sym appended) (all, one_more points (n + 1) old ticket is (omega arith) (omega (arith, below)) before.1)

-- or there is one already
pub none_taken : (points n : ℕ) (old new : List File) → has_point old (n + 1) ≡ true → new ≡ old → HaveAllTo n old × HaveOnlyTo points old → HaveAllTo (n + 1) new × HaveOnlyTo points new
none_taken points n old new there same before = subst (λ files. HaveAllTo (n + 1) files × HaveOnlyTo points files) (sym same) (all_and_next n old before.0 there, before.1)
