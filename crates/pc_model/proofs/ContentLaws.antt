-- The content of a set of points: what it has at a key, joins of contents, and laying the points 1 to n on the base.
use Rattle.std.proofs.Common.{◌≡◌, ◌≤◌, ℕ, zero, suc, ◌+◌, ◌<◌, List, [], ◌∷◌, ◌++◌, eqb, not, ◌||◌, ◌&&◌, refl, sym, ap, ◌∙◌, Bool, true, false, Option, Some, None, is_some, arith}
use Rattle.std.specs.Prelude.{nat_lt, nat_le}
use Rattle.std.specs.Ordering.{nat_cmp}
use Rattle.std.specs.FinMap.Entries.{is_some-find}
use Rattle.std.proofs.lemmas.Bool.Decides.{nat_tests}
use Rattle.std.proofs.lemmas.Cmp.{eq_by_cmp_equiv}
use Rattle.std.proofs.lemmas.List.Folds.{list_any-append}
use Rattle.pc_types.specs.declared.Entry.{Entry}
use Rattle.pc_model.specs.Maps.{get}
use Rattle.pc_model.specs.Sets as set
use Rattle.pc_model.specs.Sets.{Set, number_order}
use Rattle.pc_model.specs.Numbers.{same_number, is_one_of}
use Rattle.pc_model.specs.Database.{Database, key_order}
use Rattle.pc_model.specs.Log.{has_token, state_at}
use Rattle.pc_model.specs.Standing.{PrecedesNext}
use Rattle.pc_model.specs.Points.{AtPoint, is_among, touched, part_of, joined, later, laid_at, content, laid}
use Rattle.pc_model.specs.Files.{same_content, differs, conflict, numbers_to}
use Rattle.pc_model.proofs.MapLaws.{get-empty, get-entries, get-insert, same_map}
use Rattle.pc_model.proofs.PairMapLaws.{same_database, tested}
use Rattle.pc_model.proofs.JoinLaws.{get-joined, get-laid, get-triples_of}
use Rattle.pc_model.proofs.RisingLaws.{none_found}
use Rattle.pc_model.proofs.SetLaws.{some_or}
use Rattle.pc_model.proofs.States.{untouched_stays}
use Rattle.pc_model.proofs.LogPieceLaws.{part_of_kept}
use Rattle.pc_model.proofs.Latest.{IsLatest, triple_at, latest_of_one, latest_of_both, latest_same, laid_is, laid_is_from}

same_number_is : (p q : ℕ) → same_number p q ≡ eqb p q
same_number_is p q = grind (arith, nat_tests)

pub one_number : (p q : ℕ) → same_number p q ≡ true → p ≡ q
one_number p q e = let same : eqb p q ≡ true = sym (same_number_is p q) ∙ e in grind (arith, nat_tests)

-- a set has the numbers of its list
pub contains-items : (s : Set number_order) (p : ℕ) → set.contains s p ≡ is_one_of p (set.items s)
contains-items s p = ap is_some (get-entries s p) ∙ is_some-find nat_cmp p s.entries

contains-insert_all : (s : Set number_order) (ps : List ℕ) (p : ℕ) → set.contains (set.insert_all s ps) p ≡ (is_one_of p ps || set.contains s p)
contains-insert_all s [] p = refl
contains-insert_all s (q ∷ ps) p = ap is_some (get-insert (set.insert_all s ps) q tt p) ∙ some_or (same_number p q) _ ∙ ap (λ b. same_number p q || b) (contains-insert_all s ps p) ∙ sym (or_assoc (same_number p q) (is_one_of p ps) (set.contains s p))
  where
    or_assoc : (a b c : Bool) → ((a || b) || c) ≡ (a || (b || c))
    or_assoc true b c = refl
    or_assoc false b c = refl

or_comm : (a b : Bool) → (a || b) ≡ (b || a)
or_comm true true = refl
or_comm true false = refl
or_comm false true = refl
or_comm false false = refl

-- a union has the numbers of both
pub contains-union : (s t : Set number_order) (p : ℕ) → set.contains (set.union s t) p ≡ (set.contains s p || set.contains t p)
contains-union s t p = contains-insert_all s (set.items t) p ∙ ap (λ b. b || set.contains s p) (sym (contains-items t p)) ∙ or_comm (set.contains t p) (set.contains s p)

-- at a key: whether the point's cycle wrote it, and what it has at the point
abbrev pub touches_of : List Entry → List ℕ → ℕ → Bool
touches_of log key p = is_among (touched p log) key

abbrev pub states_of : Database → List Entry → List ℕ → ℕ → Option (List ℕ)
states_of base log key p = get (state_at base log p) key

module _ (base : Database) (log : List Entry) (key : List ℕ) where
  -- at a key a content has the triple of the greatest of its points that touched it
  pub latest_of_content : (ps : List ℕ) → (o : Option ℕ) × IsLatest (touches_of log key) (λ p. is_one_of p ps) o × (get (content base log ps) key ≡ triple_at (states_of base log key) o)
  latest_of_content [] = (None, λ p inside. cc, get-empty key_order key)
  latest_of_content (n ∷ ps) =
      let one = latest_of_one (touches_of log key) (states_of base log key) (λ p. same_number p n) n ((eq_by_cmp_equiv number_order.total).refl n) (λ p same. one_number p n same) in
      let rest = latest_of_content ps in
      let together = latest_of_both (touches_of log key) (states_of base log key) (λ p. same_number p n) (λ p. is_one_of p ps) one.0 rest.0 one.1 rest.1 in (
        together.0,
        together.1,
        get-joined (part_of base log n) (content base log ps) key
            ∙ ap (λ t. later t (get (content base log ps) key)) (get-triples_of n (state_at base log n) (touched n log) key ∙ one.2)
            ∙ ap (later (triple_at (states_of base log key) one.0)) rest.2 ∙ together.2,
      )

-- contents of the same points are one, in whatever order they are joined
pub content_same : (base : Database) (log : List Entry) (ps qs : List ℕ) → ((p : ℕ) → is_one_of p ps ≡ is_one_of p qs) → content base log ps ≡ content base log qs
content_same base log ps qs same = same_map (content base log ps) (content base log qs) (λ key.
    let one = latest_of_content base log key ps in
    let other = latest_of_content base log key qs in
    one.2 ∙ ap (triple_at (states_of base log key)) (latest_same (touches_of log key) (states_of base log key) (λ p. is_one_of p ps) (λ p. is_one_of p qs) one.0 other.0 same one.1 other.1) ∙ sym other.2)

-- the join of two contents is the content of the union
pub content-union : (base : Database) (log : List Entry) (s t : Set number_order) → joined (content base log (set.items s)) (content base log (set.items t)) ≡ content base log (set.items (set.union s t))
content-union base log s t = same_map _ _ (λ key.
    let one = latest_of_content base log key (set.items s) in
    let other = latest_of_content base log key (set.items t) in
    let all = latest_of_content base log key (set.items (set.union s t)) in
    let together = latest_of_both (touches_of log key) (states_of base log key) (λ p. is_one_of p (set.items s)) (λ p. is_one_of p (set.items t)) one.0 other.0 one.1 other.1 in
    let same : (p : ℕ) → (is_one_of p (set.items s) || is_one_of p (set.items t)) ≡ is_one_of p (set.items (set.union s t)) =
    λ p. ap (λ b. b || is_one_of p (set.items t)) (sym (contains-items s p)) ∙ ap (λ b. set.contains s p || b) (sym (contains-items t p)) ∙ sym (contains-union s t p) ∙ contains-items (set.union s t) p in
    get-joined (content base log (set.items s)) (content base log (set.items t)) key
    ∙ ap (λ x. later x (get (content base log (set.items t)) key)) one.2 ∙ ap (later (triple_at (states_of base log key) one.0)) other.2 ∙ together.2
    ∙ ap (triple_at (states_of base log key)) (latest_same (touches_of log key) (states_of base log key) (λ p. is_one_of p (set.items s) || is_one_of p (set.items t)) (λ p. is_one_of p (set.items (set.union s t))) together.0 all.0 same together.1 all.1)
    ∙ sym all.2)

-- a log whose tokens are in order
pub record IsOrdered (log : List Entry) : Type 0 where
  pub none_zero : has_token 0 log ≡ false
  pub in_order : (p : ℕ) → has_token (p + 1) log ≡ true → PrecedesNext p log

-- the part of a point whose token is there stays
pub part_stays : (base : Database) (log more : List Entry) (p : ℕ) → IsOrdered log → has_token p log ≡ true → part_of base (log ++ more) p ≡ part_of base log p
part_stays base log more zero o there = let none = o.none_zero in absurd (grind arith)
part_stays base log more (suc n) o there =
    let same : suc n ≡ n + 1 = omega arith in
    let there' : has_token (n + 1) log ≡ true = rw same at there in
    rw same (part_of_kept base n log more (o.in_order n there') there')

-- and so does the content of such points
pub content_stays : (base : Database) (log more : List Entry) (ps : List ℕ) → IsOrdered log → ((p : ℕ) → is_one_of p ps ≡ true → has_token p log ≡ true) → content base (log ++ more) ps ≡ content base log ps
content_stays base log more [] o all = refl
content_stays base log more (p ∷ ps) o all =
    ap (λ part. joined part (content base (log ++ more) ps)) (part_stays base log more p o (all p (ap (λ b. b || is_one_of p ps) ((eq_by_cmp_equiv number_order.total).refl p))))
    ∙ ap (joined (part_of base log p)) (content_stays base log more ps o (λ q there. all q (ap (λ b. same_number q p || b) there ∙ or_true (same_number q p))))
  where
    or_true : (b : Bool) → (b || true) ≡ true
    or_true true = refl
    or_true false = refl

pub one_of_numbers : (n p : ℕ) → is_one_of p (numbers_to n) ≡ (nat_lt 0 p && nat_le p n)
one_of_numbers zero p = grind (arith, nat_tests)
one_of_numbers (suc n) p = list_any-append (same_number p) (numbers_to n) (suc n ∷ []) ∙ ap (λ b. b || (same_number p (suc n) || false)) (one_of_numbers n p) ∙ ap (λ b. (nat_lt 0 p && nat_le p n) || (b || false)) (same_number_is p (suc n)) ∙ last n p
  where
    last : (n p : ℕ) → ((nat_lt 0 p && nat_le p n) || (eqb p (suc n) || false)) ≡ (nat_lt 0 p && nat_le p (suc n))
    last n p = grind (arith, nat_tests)

-- the base with the content of 1 to n applied to it is the state of n
pub laid_content : (base : Database) (log : List Entry) (n : ℕ) → ((p : ℕ) → p < n → PrecedesNext p log) → laid base 0 (content base log (numbers_to n)) ≡ state_at base log n
laid_content base log n order = same_database _ _ (λ key.
    let latest = latest_of_content base log key (numbers_to n) in
    get-laid base 0 (content base log (numbers_to n)) key ∙ ap (laid_at (get base key) 0) latest.2
    ∙ laid_is (touches_of log key) (states_of base log key) n (λ p. is_one_of p (numbers_to n)) latest.0 (λ p below none. untouched_stays base log p key (order p below) none) (one_of_numbers n) latest.1)

-- the content of points, all from b + 1 to n among them and none above, applied to the state of b, is the state of n
pub laid_content_from : (base : Database) (log : List Entry) (b n : ℕ) (points : List ℕ) → b ≤ n → ((p : ℕ) → p < n → PrecedesNext p log) → ((p : ℕ) → is_one_of p points ≡ true → p ≤ n)
    → ((p : ℕ) → b < p → p ≤ n → is_one_of p points ≡ true) → laid (state_at base log b) b (content base log points) ≡ state_at base log n
laid_content_from base log b n points le order most all = same_database _ _ (λ key.
    let latest = latest_of_content base log key points in
    get-laid (state_at base log b) b (content base log points) key ∙ ap (laid_at (get (state_at base log b) key) b) latest.2
    ∙ laid_is_from (touches_of log key) (states_of base log key) b n (λ p. is_one_of p points) latest.0 le (λ p below none. untouched_stays base log p key (order p below) none) most all latest.1)

-- a content has no conflict with another of the same log
same_content_refl : (c : Option (List ℕ)) → same_content c c ≡ true
same_content_refl None = refl
same_content_refl (Some v) = (eq_by_cmp_equiv key_order.total).refl v

no_difference : (states : ℕ → Option (List ℕ)) (x : AtPoint) (o q : Option ℕ) → Some x ≡ triple_at states o → differs x (triple_at states q) ≡ false
no_difference states x None q is = cc
no_difference states x (Some m) None is = refl
no_difference states x (Some m) (Some n) is =
    let own : x ≡ record { point = m; content = states m } = cc in
    ap (λ y. differs y (Some (record { point = n; content = states n }))) own ∙ by_point (eqb m n) refl
  where
    by_point : (b : Bool) → eqb m n ≡ b → (b && not (same_content (states m) (states n))) ≡ false
    by_point true e =
        let same : m ≡ n = grind (arith, nat_tests) in
        ap not (ap (λ k. same_content (states m) (states k)) (sym same) ∙ same_content_refl (states m))
    by_point false e = refl

-- two contents don't conflict
pub no_conflict : (base : Database) (log : List Entry) (ps qs : List ℕ) → conflict (content base log ps) (content base log qs) ≡ false
no_conflict base log ps qs = none_found (content base log ps).entries (λ e. differs e.1 (get (content base log qs) e.0)) (tested (content base log ps).rises) (λ e there.
    let one = latest_of_content base log e.0 ps in
    let other = latest_of_content base log e.0 qs in
    ap (differs e.1) other.2 ∙ no_difference (states_of base log e.0) e.1 one.0 other.0 (sym there ∙ sym (get-entries (content base log ps) e.0) ∙ one.2))
