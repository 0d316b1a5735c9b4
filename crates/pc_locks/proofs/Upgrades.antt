-- The own request of a queue, and its upgrade in place.
use Rattle.std.proofs.Common.{◌≡◌, ◌≢◌, ℕ, ◌==◌, List, [], ◌∷◌, ◌++◌, Option, Some, is_some, Bool, true, false, cond, not, ◌||◌, refl, sym, ◌∙◌, ap, subst}
use Rattle.std.proofs.lemmas.Bool.{eqb-true, eq-eqb}
use Rattle.std.specs.Prelude.{option_map}
use Rattle.std.proofs.lemmas.List.{map-append}
use Rattle.pc_types.specs.declared.Mode.{Mode}
use Rattle.pc_types.specs.declared.Mode.TheVariants.{Shared, Exclusive}
use Rattle.pc_types.specs.declared.Request.{Request}
use Rattle.pc_model.specs.Locks.{Queue, request_in, with_request, stronger, is_exclusive}
use Rattle.pc_model.specs.Queues.{stands_in, AreOnce}
use Rattle.pc_locks.specs.States.{is_listed}
use Rattle.pc_locks.specs.Tables.{Nodes, Placed, node_at, node_request, request_at, queue_place_of, requests, IsTable, IsOwn, HaveRequests}
use Rattle.pc_locks.proofs.TableLemmas.{requests_same}
use Rattle.pc_locks.proofs.RemovalLemmas.{member_stands, once_behind, back_listed}
use Rattle.pc_locks.proofs.Grants.{written_is}

found_behind : (q : Queue) (r : Request) (rs : Queue) (t : ℕ) → stands_in q t ≡ false → (r.transaction == t) ≡ true → request_in (q ++ r ∷ rs) t ≡ Some r
found_behind [] r rs t e f = rw f
found_behind (x ∷ xs) r rs t e f = by (x.transaction == t) e (λ h. found_behind xs r rs t h f)
  where
    by : (b : Bool) → (b || stands_in xs t) ≡ false → (stands_in xs t ≡ false → request_in (xs ++ r ∷ rs) t ≡ Some r) → cond b (Some x) (request_in (xs ++ r ∷ rs) t) ≡ Some r
    by true g ih = absurd cc
    by false g ih = ih g

with_at : (q : Queue) (own : Request) (rs : Queue) (n : Request) → stands_in q n.transaction ≡ false → (own.transaction == n.transaction) ≡ true →
    with_request (q ++ own ∷ rs) n ≡ q ++ record own { mode = stronger own.mode n.mode } ∷ rs
with_at [] own rs n e f = rw f
with_at (x ∷ xs) own rs n e f = by (x.transaction == n.transaction) e (λ h. with_at xs own rs n h f)
  where
    by : (b : Bool) → (b || stands_in xs n.transaction) ≡ false → (stands_in xs n.transaction ≡ false → with_request (xs ++ own ∷ rs) n ≡ xs ++ record own { mode = stronger own.mode n.mode } ∷ rs) →
        cond b (record x { mode = stronger x.mode n.mode } ∷ (xs ++ own ∷ rs)) (x ∷ with_request (xs ++ own ∷ rs) n) ≡ x ∷ (xs ++ record own { mode = stronger own.mode n.mode } ∷ rs)
    by true g ih = absurd cc
    by false g ih = ap (λ q. x ∷ q) (ih g)

-- what was found is the transaction's request
pub own_is : (nodes : Nodes) (ids : List ℕ) (t : ℕ) (previous : Option ℕ) (id : ℕ) → IsOwn nodes ids t previous id → request_in (requests nodes ids) t ≡ Some (request_at nodes id)
own_is nodes ids t previous id o =
    ap (λ xs. request_in (requests nodes xs) t) o.split ∙ (ap (λ q. request_in q t) (map-append (request_at nodes) o.before (id ∷ o.behind))
    ∙ found_behind (requests nodes o.before) (request_at nodes id) (requests nodes o.behind) t o.none_before o.passed)

strongest : (mode : Mode) → stronger mode Exclusive ≡ Exclusive
strongest Shared = refl
strongest Exclusive = refl

-- what the own lock doesn't cover is to be exclusive
pub is_upgrade : (own mode : Mode) → (is_exclusive own || not (is_exclusive mode)) ≡ false → mode ≡ Exclusive
is_upgrade Shared Shared e = absurd cc
is_upgrade Shared Exclusive e = refl
is_upgrade Exclusive mode e = absurd cc

module _ (nodes new_nodes : Nodes) (ids : List ℕ) (t : ℕ) (previous : Option ℕ) (id : ℕ) (own : Request) (mode : Mode) (o : IsOwn nodes ids t previous id)
    (held : is_listed ids id ≡ true → is_some (queue_place_of (node_at nodes id)) ≡ true) (once : AreOnce (requests nodes ids)) (same : own ≡ request_at nodes id) (up : mode ≡ Exclusive)
    (written : node_at new_nodes id ≡ option_map (λ (n : Placed). record n { request = record own { mode = Exclusive } }) (node_at nodes id))
    (stay : (other : ℕ) → other ≢ id → node_at new_nodes other ≡ node_at nodes other) where
  listed : is_listed ids id ≡ true
  listed = ap (λ xs. is_listed xs id) o.split ∙ back_listed o.before (id ∷ o.behind) id (ap (λ b. b || is_listed o.behind id) (eq-eqb id id refl))

  owner : (request_at nodes id).transaction ≡ t
  owner = eqb-true (request_at nodes id).transaction t o.passed

  not_before : is_listed o.before id ≡ true → ⊥
  not_before f = let z : false ≡ true = sym o.none_before ∙ member_stands nodes o.before id t f owner in cc

  not_behind : is_listed o.behind id ≡ true → ⊥
  not_behind f = let z : false ≡ true = sym (once_behind nodes o.before o.behind id (subst (λ xs. AreOnce (requests nodes xs)) o.split once)) ∙ member_stands nodes o.behind id (request_at nodes id).transaction f refl in cc

  upgraded_it : request_at new_nodes id ≡ record (request_at nodes id) { mode = stronger (request_at nodes id).mode mode }
  upgraded_it =
      ap node_request written ∙ (written_is (node_at nodes id) (record own { mode = Exclusive }) (held listed)
      ∙ (ap (λ (r : Request). record r { mode = Exclusive }) same ∙ ap (λ m. record (request_at nodes id) { mode = m }) (sym (ap (stronger (request_at nodes id).mode) up ∙ strongest (request_at nodes id).mode))))

  pub upgraded_queue : requests new_nodes ids ≡ with_request (requests nodes ids) (record { transaction = t; mode = mode; granted = true })
  upgraded_queue =
      ap (requests new_nodes) o.split ∙ (map-append (request_at new_nodes) o.before (id ∷ o.behind)
      ∙ (ap (λ q. q ++ request_at new_nodes id ∷ requests new_nodes o.behind) (requests_same nodes new_nodes o.before (λ x f. stay x (λ z. not_before (ap (is_listed o.before) (sym z) ∙ f))))
      ∙ (ap (λ q. requests nodes o.before ++ request_at new_nodes id ∷ q) (requests_same nodes new_nodes o.behind (λ x f. stay x (λ z. not_behind (ap (is_listed o.behind) (sym z) ∙ f))))
      ∙ (ap (λ r. requests nodes o.before ++ r ∷ requests nodes o.behind) upgraded_it
      ∙ (sym (with_at (requests nodes o.before) (request_at nodes id) (requests nodes o.behind) (record { transaction = t; mode = mode; granted = true }) o.none_before o.passed)
      ∙ ap (λ q. with_request q (record { transaction = t; mode = mode; granted = true })) (sym (ap (requests nodes) o.split ∙ map-append (request_at nodes) o.before (id ∷ o.behind))))))))

-- the ids of a slot have requests
pub table_held : (nodes : Nodes) (ids : ℕ → List ℕ) (entries : List (ℕ × List ℕ)) (slot : ℕ) → IsTable nodes ids entries → HaveRequests nodes (ids slot)
table_held nodes ids entries slot a = λ id e. ap is_some (a.in_queue slot id e).1
