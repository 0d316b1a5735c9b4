-- Nodes and the places that they have.
use Rattle.std.proofs.Common.{◌≡◌, ◌≢◌, ℕ, zero, suc, ◌+◌, ◌*◌, ◌/◌, ◌<◌, ◌≤◌, List, Option, Some, None, length, set, get_or, replicate, ◌++◌, [], ◌∷◌, ◌⊎◌, inl, inr, ⊎_elim, refl, sym, ap, ◌∙◌, subst, arith, lit≤, length-set, get_or-set_same, get_or-set_other}
use Rattle.std.proofs.lemmas.List.{get_or_push, get_or_append_left, get_or_past, get_or-replicate, length-replicate, get_or_read}
use Rattle.std.proofs.lemmas.Bool.{cases_eq, cases_lt}
use Rattle.pc_types.specs.declared.Triple.{Triple}
use Rattle.pc_merge.specs.declared.limits.TheConstants.{MOST_INPUTS}
use Rattle.pc_merge.specs.Tournaments.{first_entry_at, HasNoEntries, IsLeast, IsNoLater}
use Rattle.pc_merge.specs.Trees.{node_above, IsAncestorOrSelf, node_place, HasPlaceBelow, AreNodes, HasBetter, IsTournament, IsHeadAt, AreHeads, AreKept}
use Rattle.pc_merge.proofs.OrderLaws.{no_later_itself, no_later_trans}

-- ---- nodes above others

above_more : (levels node : ℕ) → node_above (suc levels) node ≡ node_above levels node / 2
above_more zero node = refl
above_more (suc levels) node = above_more levels (node / 2)

above_zero : (levels : ℕ) → node_above levels 0 ≡ 0
above_zero zero = refl
above_zero (suc levels) = above_zero levels

pub over_itself : (node : ℕ) → IsAncestorOrSelf node node
over_itself node = (0, refl)

pub over_parent : (node parent other : ℕ) → node / 2 ≡ parent → IsAncestorOrSelf node other → IsAncestorOrSelf parent other
over_parent node parent other is over = (suc over.0, above_more over.0 other ∙ ap (λ n. n / 2) over.1 ∙ is)

pub over_left : (node other : ℕ) → IsAncestorOrSelf (2 * node) other → IsAncestorOrSelf node other
over_left node other over = over_parent (2 * node) node other (omega arith) over

pub over_right : (node other : ℕ) → IsAncestorOrSelf (2 * node + 1) other → IsAncestorOrSelf node other
over_right node other over = over_parent (2 * node + 1) node other (omega arith) over

-- what is above a node is above its children
pub over_doubled : (node other : ℕ) → IsAncestorOrSelf node other → IsAncestorOrSelf node (other * 2)
over_doubled node other over = (suc over.0, (let half : other * 2 / 2 ≡ other = omega arith in ap (node_above over.0) half) ∙ over.1)

-- what is above another node is above its parent
pub over_rest : (node other : ℕ) → IsAncestorOrSelf node other → node ≢ other → IsAncestorOrSelf node (other / 2)
over_rest node other over apart = by over.0 over.1
  where
    by : (levels : ℕ) → node_above levels other ≡ node → IsAncestorOrSelf node (other / 2)
    by zero is = absurd (apart (sym is))
    by (suc levels) is = (levels, is)

pub none_over_zero : (node : ℕ) → 1 ≤ node → IsAncestorOrSelf node 0 → ⊥
none_over_zero node some over = let is = sym (above_zero over.0) ∙ over.1 in omega arith

-- ---- one node gets another place

-- each inner node has the better place of its two children, unless it is this one or above it
abbrev pub AreOthers : List (Option Triple) → List ℕ → ℕ → Type 0
AreOthers firsts tree last = (node : ℕ) → 1 ≤ node → node < length firsts → HasBetter firsts tree node ⊎ IsAncestorOrSelf node last

-- above a leaf are no inner nodes but those above its parent
pub others_begin : (firsts : List (Option Triple)) (tree : List ℕ) (place : ℕ) → AreOthers firsts tree (length firsts + place) → AreOthers firsts tree ((length firsts + place) / 2)
others_begin firsts tree place others node one inner = ⊎_elim (λ better. inl better) (λ over. inr (over_rest node (length firsts + place) over (λ same. omega arith))) (others node one inner)

-- and none is above node 0
pub others_end : (firsts : List (Option Triple)) (tree : List ℕ) → AreNodes (length firsts) tree → AreOthers firsts tree 0 → IsTournament firsts tree
others_end firsts tree nodes others = record {
  nodes = nodes;
  better = λ node one inner. ⊎_elim (λ better. better) (λ over. absurd (none_over_zero node one over)) (others node one inner);
}

module _ (firsts : List (Option Triple)) (tree : List ℕ) (node place : ℕ) (some : 1 ≤ node) (inner : node < length firsts) (nodes : AreNodes (length firsts) tree) where
  own : node_place (set tree node place) node ≡ place
  own = let size = nodes.size in get_or-set_same tree node place 0 (omega (arith, size, inner))

  other : (j : ℕ) → j ≢ node → node_place (set tree node place) j ≡ node_place tree j
  other j apart = get_or-set_other tree node j place 0 apart

  pub nodes_mended : (place ≡ node_place tree (2 * node)) ⊎ (place ≡ node_place tree (2 * node + 1)) → AreNodes (length firsts) (set tree node place)
  nodes_mended is = record {
    size = length-set tree node place ∙ nodes.size;
    below = λ j one in_tree. ⊎_elim
        (λ (same : j ≡ node). subst (λ k. HasPlaceBelow (length firsts) k (node_place (set tree node place) k)) (sym same) (subst (HasPlaceBelow (length firsts) node) (sym own) (of_child is)))
        (λ apart. subst (HasPlaceBelow (length firsts) j) (sym (other j apart)) (nodes.below j one in_tree)) (cases_eq j node);
    leaves = λ leaf in_places. other (length firsts + leaf) (omega (arith, inner)) ∙ nodes.leaves leaf in_places;
  }
    where
      of_child : (place ≡ node_place tree (2 * node)) ⊎ (place ≡ node_place tree (2 * node + 1)) → HasPlaceBelow (length firsts) node place
      of_child (inl left) =
          let below = nodes.below (2 * node) (omega (arith, some)) (omega (arith, inner)) in
          record { within = rw left below.within; over = over_left node (length firsts + place) (rw left below.over) }
      of_child (inr right) =
          let below = nodes.below (2 * node + 1) (omega arith) (omega (arith, inner)) in
          record { within = rw right below.within; over = over_right node (length firsts + place) (rw right below.over) }

  pub others_mended : IsNoLater (first_entry_at firsts place) (first_entry_at firsts (node_place tree (2 * node))) → IsNoLater (first_entry_at firsts place) (first_entry_at firsts (node_place tree (2 * node + 1))) → AreOthers firsts tree node
      → AreOthers firsts (set tree node place) (node / 2)
  others_mended left right others j one in_tree = ⊎_elim (λ (same : j ≡ node). inl (here j same)) (λ apart. there j apart (others j one in_tree)) (cases_eq j node)
    where
      here : (j : ℕ) → j ≡ node → HasBetter firsts (set tree node place) j
      here j same = rw same (record {
        left = rw (own, other (2 * node) (omega (arith, some))) left;
        right = rw (own, other (2 * node + 1) (omega (arith, some))) right;
      })

      untouched : (j : ℕ) → j ≢ node → HasBetter firsts tree j → 2 * j ≢ node → 2 * j + 1 ≢ node → HasBetter firsts (set tree node place) j
      untouched j apart better first second = record {
        left = rw (other j apart, other (2 * j) first) better.left;
        right = rw (other j apart, other (2 * j + 1) second) better.right;
      }

      there : (j : ℕ) → j ≢ node → HasBetter firsts tree j ⊎ IsAncestorOrSelf j node → HasBetter firsts (set tree node place) j ⊎ IsAncestorOrSelf j (node / 2)
      there j apart (inr over) = inr (over_rest j node over apart)
      there j apart (inl better) = ⊎_elim
          (λ (is : 2 * j ≡ node). inr (0, omega arith))
          (λ first. ⊎_elim (λ (is : 2 * j + 1 ≡ node). inr (0, omega arith)) (λ second. inl (untouched j apart better first second)) (cases_eq (2 * j + 1) node))
          (cases_eq (2 * j) node)

-- ---- a tree is made

-- what holds of each number and of one more
pub each_pushed : (P : ℕ → ℕ → Type 0) (xs : List ℕ) (n x : ℕ) → length xs ≡ n → ((j : ℕ) → j < n → P j (get_or xs j 0)) → P n x → (j : ℕ) → j < n + 1 → P j (get_or (xs ++ x ∷ []) j 0)
each_pushed P xs n x size each last j within = ⊎_elim
    (λ (same : j ≡ n). subst (P j) (sym (get_or_push xs x 0 j (size ∙ sym same))) (subst (λ k. P k x) (sym same) last))
    (λ apart. subst (P j) (sym (get_or_append_left xs (x ∷ []) 0 j (omega (arith, size, apart, within)))) (each j (omega (arith, apart, within))))
    (cases_eq j n)

abbrev nothing : Option Triple
nothing = None

-- if there is no entry at any place, each node has the better one
pub kept_empty : (places : ℕ) (firsts : List (Option Triple)) (heads tree : List ℕ) → places ≤ MOST_INPUTS → firsts ≡ replicate places nothing → heads ≡ replicate places 18446744073709551615 → AreNodes places tree → AreKept firsts heads tree
kept_empty places firsts heads tree few none last nodes = rw (none, last) (record {
  few = rw size few;
  known = record { size = length-replicate places 18446744073709551615 ∙ sym size; each = λ place within. head_last place (rw (← size) within) };
  tournament = record {
    nodes = rw size nodes;
    better = λ node one inner. record { left = no_later (node_place tree node) (node_place tree (2 * node)); right = no_later (node_place tree node) (node_place tree (2 * node + 1)) };
  };
})
  where
    size : length (replicate places nothing) ≡ places
    size = length-replicate places nothing

    free : (place : ℕ) → first_entry_at (replicate places nothing) place ≡ nothing
    free place = ⊎_elim (λ (less : place < places). get_or-replicate places place nothing nothing less) (λ more. get_or_past (replicate places nothing) place nothing (rw size more)) (cases_lt place places)

    no_later : (place second : ℕ) → IsNoLater (first_entry_at (replicate places nothing) place) (first_entry_at (replicate places nothing) second)
    no_later place second = rw (free place, free second) tt

    head_last : (place : ℕ) → place < places → IsHeadAt (first_entry_at (replicate places nothing) place) (get_or (replicate places 18446744073709551615) place 0)
    head_last place within = rw (free place, get_or-replicate {A = ℕ} places place 18446744073709551615 0 within) (lit≤ tt)

-- ---- the root has the least key

module _ (firsts : List (Option Triple)) (tree : List ℕ) (is : IsTournament firsts tree) where
  root_least : (most node : ℕ) → node ≤ most → 1 ≤ node → node < 2 * length firsts → IsNoLater (first_entry_at firsts (node_place tree 1)) (first_entry_at firsts (node_place tree node))
  root_least zero node few one in_tree = absurd (omega arith)
  root_least (suc most) node few one in_tree = ⊎_elim
      (λ (root : node ≡ 1). rw root (no_later_itself (first_entry_at firsts (node_place tree 1))))
      (λ apart. no_later_trans _ _ _ (root_least most (node / 2) (omega (arith, few, one, apart)) (omega (arith, one, apart)) (omega (arith, in_tree))) (child (omega (arith, one, apart))))
      (cases_eq node 1)
    where
      child : 2 ≤ node → IsNoLater (first_entry_at firsts (node_place tree (node / 2))) (first_entry_at firsts (node_place tree node))
      child inner =
          let better = is.better (node / 2) (omega (arith, inner)) (omega (arith, in_tree)) in
          ⊎_elim
          (λ (even : 2 * (node / 2) ≡ node). subst (λ k. IsNoLater (first_entry_at firsts (node_place tree (node / 2))) (first_entry_at firsts (node_place tree k))) even better.left)
          (λ odd. let next : 2 * (node / 2) + 1 ≡ node = omega (arith, odd) in subst (λ k. IsNoLater (first_entry_at firsts (node_place tree (node / 2))) (first_entry_at firsts (node_place tree k))) next better.right)
          (cases_eq (2 * (node / 2)) node)

  least : (other : ℕ) → IsNoLater (first_entry_at firsts (node_place tree 1)) (first_entry_at firsts other)
  least other = ⊎_elim
      (λ (less : other < length firsts). subst (λ k. IsNoLater (first_entry_at firsts (node_place tree 1)) (first_entry_at firsts k)) (is.nodes.leaves other less)
      (root_least (length firsts + other) (length firsts + other) (omega arith) (omega (arith, less)) (omega (arith, less))))
      (λ more. rw (get_or_past firsts other None more) tt)
      (cases_lt other (length firsts))

  pub root_is_least : 1 ≤ length firsts → first_entry_at firsts (node_place tree 1) ≢ None → IsLeast firsts (node_place tree 1)
  root_is_least some there = record { within = (is.nodes.below 1 (omega arith) (omega (arith, some))).within; some = there; least = least }

  none_before : (e : Option Triple) → IsNoLater None e → e ≡ None
  none_before None first = refl
  none_before (Some e) first = absurd first

  pub root_is_free : first_entry_at firsts (node_place tree 1) ≡ None → HasNoEntries firsts
  root_is_free none place = none_before (first_entry_at firsts place) (subst (λ e. IsNoLater e (first_entry_at firsts place)) none (least place))

-- ---- another entry comes

module _ (firsts : List (Option Triple)) (heads tree : List ℕ) (place number : ℕ) (entry : Option Triple) (within : place < length firsts) where
  pub heads_set : AreHeads firsts heads → IsHeadAt entry number → AreHeads (set firsts place entry) (set heads place number)
  heads_set are head = record {
    size = length-set heads place number ∙ are.size ∙ sym (length-set firsts place entry);
    each = λ other there. ⊎_elim
        (λ (same : other ≡ place). subst (λ k. IsHeadAt (first_entry_at (set firsts place entry) k) (get_or (set heads place number) k 0)) (sym same) here)
        (λ apart. rw (get_or-set_other firsts place other entry None apart, get_or-set_other heads place other number 0 apart) (are.each other (let size = length-set firsts place entry in omega (arith, size, there))))
        (cases_eq other place);
  }
    where
      here : IsHeadAt (first_entry_at (set firsts place entry) place) (get_or (set heads place number) place 0)
      here = let size = are.size in rw (get_or-set_same firsts place entry None within, get_or-set_same heads place number 0 (omega (arith, size, within))) head

  pub nodes_set : AreNodes (length firsts) tree → AreNodes (length (set firsts place entry)) tree
  nodes_set nodes = rw (length-set firsts place entry) nodes

  pub others_set : IsTournament firsts tree → AreOthers (set firsts place entry) tree (length (set firsts place entry) + place)
  others_set is node one inner = rw (length-set firsts place entry) (
      ⊎_elim (λ own. inr (over_of node one (omega (arith, size)) own)) (λ not_own.
      ⊎_elim (λ left. inr (over_left node (length firsts + place) (over_of (2 * node) (omega (arith, one)) (omega (arith, size)) left))) (λ not_left.
      ⊎_elim (λ right. inr (over_right node (length firsts + place) (over_of (2 * node + 1) (omega arith) (omega (arith, size)) right))) (λ not_right.
      let was = is.better node one (omega (arith, size)) in
      inl (record { left = rw (same not_own, same not_left) was.left; right = rw (same not_own, same not_right) was.right }))
      (cases_eq (node_place tree (2 * node + 1)) place)) (cases_eq (node_place tree (2 * node)) place)) (cases_eq (node_place tree node) place))
    where
      size : node < length firsts
      size = let kept = length-set firsts place entry in omega (arith, kept, inner)

      over_of : (k : ℕ) → 1 ≤ k → k < 2 * length firsts → node_place tree k ≡ place → IsAncestorOrSelf k (length firsts + place)
      over_of k some in_tree own = subst (λ p. IsAncestorOrSelf k (length firsts + p)) own (is.nodes.below k some in_tree).over

      same : {other : ℕ} → other ≢ place → first_entry_at (set firsts place entry) other ≡ first_entry_at firsts other
      same {other} apart = get_or-set_other firsts place other entry None apart

-- ---- the root is read

module _ (firsts : List (Option Triple)) (tree : List ℕ) (is : IsTournament firsts tree) (some : 1 ≤ length firsts) (place : ℕ) (first : Option Triple) (root : place ≡ get_or tree 1 place) (stands : first ≡ get_or firsts place first) where
  root_read : place ≡ node_place tree 1
  root_read = let size = is.nodes.size in get_or_read tree 1 place (omega (arith, size, some)) root 0

  first_read : first ≡ first_entry_at firsts (node_place tree 1)
  first_read =
      let within = (is.nodes.below 1 (omega arith) (omega (arith, some))).within in
      get_or_read firsts place first (rw root_read within) stands None ∙ ap (first_entry_at firsts) root_read

  pub none_at_root : first ≡ None → HasNoEntries firsts
  none_at_root none = root_is_free firsts tree is (sym first_read ∙ none)

  pub some_at_root : (entry : Triple) → first ≡ Some entry → IsLeast firsts place
  some_at_root entry there = rw root_read (root_is_least firsts tree is some (λ none. let bad = sym there ∙ first_read ∙ none in cc))
