-- The node of each id, and its columns, once one id is written.
use Rattle.std.proofs.Common.{◌≡◌, ◌≢◌, ℕ, zero, suc, inl, inr, List, [], ◌∷◌, Option, Some, None, is_some, map, slice_index_or, slice_set, refl, sym, ◌∙◌, ap, subst}
use Rattle.std.proofs.lemmas.Bool.{cases_eq}
use Rattle.std.specs.Prelude.{option_map, unwrap_or}
use Rattle.pc_locks.specs.declared.node.Node.{Node}
use Rattle.pc_locks.specs.Lines.{HasLink, link_at, next_id}
use Rattle.pc_locks.specs.Tables.{Nodes, node_at, placed}

module _ {X : Type 0} where
  pub set_here : (xs : List (Option X)) (i : ℕ) (x : X) (y : Option X) → Some x ≡ slice_index_or xs i None → slice_index_or (slice_set xs i y) i None ≡ y
  set_here [] i x y e = absurd cc
  set_here (z ∷ zs) zero x y e = refl
  set_here (z ∷ zs) (suc i) x y e = set_here zs i x y e

  pub set_other : (xs : List (Option X)) (i j : ℕ) (y : Option X) → j ≢ i → slice_index_or (slice_set xs i y) j None ≡ slice_index_or xs j None
  set_other [] i j y n = refl
  set_other (z ∷ zs) zero zero y n = absurd (n refl)
  set_other (z ∷ zs) zero (suc j) y n = refl
  set_other (z ∷ zs) (suc i) zero y n = refl
  set_other (z ∷ zs) (suc i) (suc j) y n = set_other zs i j y (λ e. n (ap suc e))

  module _ {Y : Type 0} (f : X → Y) where
    pub column_at : (xs : List (Option X)) (i : ℕ) → slice_index_or (map (option_map f) xs) i None ≡ option_map f (slice_index_or xs i None)
    column_at [] i = refl
    column_at (x ∷ xs) zero = refl
    column_at (x ∷ xs) (suc i) = column_at xs i

    pub column_same : (xs : List (Option X)) (i : ℕ) (x y : X) → Some x ≡ slice_index_or xs i None → f y ≡ f x → map (option_map f) (slice_set xs i (Some y)) ≡ map (option_map f) xs
    column_same [] i x y e g = refl
    column_same (z ∷ zs) zero x y e g = ap (λ o. o ∷ map (option_map f) zs) (ap Some g ∙ ap (option_map f) e)
    column_same (z ∷ zs) (suc i) x y e g = ap (λ os. option_map f z ∷ os) (column_same zs i x y e g)

-- a link of a node that stays
pub link_kept : (f : Node → Option ℕ) (nodes new_nodes : Nodes) (id : ℕ) → slice_index_or new_nodes id None ≡ slice_index_or nodes id None → link_at (map (option_map f) new_nodes) id ≡ link_at (map (option_map f) nodes) id
link_kept f nodes new_nodes id e = column_at f new_nodes id ∙ (ap (option_map f) e ∙ sym (column_at f nodes id))

-- the link of the node there
pub link_of : (f : Node → Option ℕ) (nodes : Nodes) (id : ℕ) (o : Option Node) → slice_index_or nodes id None ≡ o → link_at (map (option_map f) nodes) id ≡ option_map f o
link_of f nodes id o e = column_at f nodes id ∙ ap (option_map f) e

-- one of the links of an existing node is written
module _ (f : Node → Option ℕ) (nodes : Nodes) (id : ℕ) (old new : Node) (is : Some old ≡ slice_index_or nodes id None) where
  pub link_here : link_at (map (option_map f) (slice_set nodes id (Some new))) id ≡ Some (f new)
  link_here = column_at f (slice_set nodes id (Some new)) id ∙ ap (option_map f) (set_here nodes id old (Some new) is)

  pub link_other : (other : ℕ) → other ≢ id → link_at (map (option_map f) (slice_set nodes id (Some new))) other ≡ link_at (map (option_map f) nodes) other
  link_other other n = column_at f (slice_set nodes id (Some new)) other ∙ (ap (option_map f) (set_other nodes id other (Some new) n) ∙ sym (column_at f nodes other))

  pub next_here : next_id (map (option_map f) (slice_set nodes id (Some new))) id ≡ f new
  next_here = ap (λ o. unwrap_or o None) link_here

  pub next_other : (other : ℕ) → other ≢ id → next_id (map (option_map f) (slice_set nodes id (Some new))) other ≡ next_id (map (option_map f) nodes) other
  next_other other n = ap (λ o. unwrap_or o None) (link_other other n)

  pub link_stays : (other : ℕ) → HasLink (map (option_map f) nodes) other → HasLink (map (option_map f) (slice_set nodes id (Some new))) other
  link_stays other h = elim (cases_eq other id) [
    | inl e ↦ subst (HasLink (map (option_map f) (slice_set nodes id (Some new)))) (sym e) (ap is_some link_here)
    | inr n ↦ ap is_some (link_other other n) ∙ h
  ]

-- its request and slot stay
pub node_same : (nodes : Nodes) (id : ℕ) (old new : Node) → Some old ≡ slice_index_or nodes id None → placed new ≡ placed old → (other : ℕ) → node_at (slice_set nodes id (Some new)) other ≡ node_at nodes other
node_same nodes id old new is e other = elim (cases_eq other id) [
  | inl c ↦ subst (λ x. node_at (slice_set nodes id (Some new)) x ≡ node_at nodes x) (sym c) (ap (option_map placed) (set_here nodes id old (Some new) is) ∙ (ap Some e ∙ ap (option_map placed) is))
  | inr n ↦ ap (option_map placed) (set_other nodes id other (Some new) n)
]
