-- What adding and removing a request makes of the table.
use Rattle.std.proofs.Common.{◌≡◌, ◌≢◌, ℕ, ◌==◌, ◌⊎◌, inl, inr, List, [], ◌∷◌, ◌++◌, Option, Some, None, Bool, true, false, ◌||◌, cond, refl, sym, ◌∙◌, ap}
use Rattle.std.proofs.lemmas.Bool.{eqb-true, eq-eqb, cases_eq, or_cases, or_right}
use Rattle.std.specs.Prelude.{unwrap_or, option_map}
use Rattle.std.specs.Map.{lookup}
use Rattle.std.specs.BTreeMap.{is_at}
use Rattle.std.specs.Ordering.{nat_cmp}
use Rattle.std.proofs.lemmas.List.{map-append}
use Rattle.pc_types.specs.declared.Request.{Request}
use Rattle.pc_locks.specs.States.{slots_of, queue_at, is_listed, SetsAt, AreFilled}
use Rattle.pc_locks.specs.Tables.{Nodes, Placed, node_at, node_request, node_slot, request_at, slot_at, queue_place_of, requests, slots, node_queues, lists_in, IsTable}
use Rattle.pc_locks.proofs.SlotLaws.{sets_cases}
use Rattle.pc_locks.proofs.LineLemmas.{listed_end}

-- what is looked up
pub found_slots : (nodes : Nodes) (entries : List (ℕ × List ℕ)) (t : ℕ) → slots_of (lists_in nodes entries) t ≡ slots nodes (slots_of entries t)
found_slots nodes [] t = refl
found_slots nodes (e ∷ es) t = by (is_at (nat_cmp t) e.0) (found_slots nodes es t)
  where
    by : (b : Bool) → slots_of (lists_in nodes es) t ≡ slots nodes (slots_of es t) →
        unwrap_or (cond b (Some (slots nodes e.1)) (lookup (is_at (nat_cmp t)) (lists_in nodes es))) [] ≡ slots nodes (unwrap_or (cond b (Some e.1) (lookup (is_at (nat_cmp t)) es)) [])
    by true h = refl
    by false h = h

-- a node's parts by its place
slot_by : (node : Option Placed) → node_slot node ≡ unwrap_or (option_map (λ (p : ℕ × ℕ). p.0) (queue_place_of node)) 0
slot_by None = refl
slot_by (Some n) = refl

pub transaction_by : (node : Option Placed) → (node_request node).transaction ≡ unwrap_or (option_map (λ (p : ℕ × ℕ). p.1) (queue_place_of node)) 0
transaction_by None = refl
transaction_by (Some n) = refl

pub slot_placed : (nodes : Nodes) (id s t : ℕ) → queue_place_of (node_at nodes id) ≡ Some (s, t) → slot_at nodes id ≡ s
slot_placed nodes id s t e = slot_by (node_at nodes id) ∙ ap (λ o. unwrap_or (option_map (λ (p : ℕ × ℕ). p.0) o) 0) e

pub transaction_placed : (nodes : Nodes) (id s t : ℕ) → queue_place_of (node_at nodes id) ≡ Some (s, t) → (request_at nodes id).transaction ≡ t
transaction_placed nodes id s t e = transaction_by (node_at nodes id) ∙ ap (λ o. unwrap_or (option_map (λ (p : ℕ × ℕ). p.1) o) 0) e

pub transaction_same : (nodes new_nodes : Nodes) (id : ℕ) → queue_place_of (node_at new_nodes id) ≡ queue_place_of (node_at nodes id) → (request_at new_nodes id).transaction ≡ (request_at nodes id).transaction
transaction_same nodes new_nodes id e = transaction_by (node_at new_nodes id) ∙ (ap (λ o. unwrap_or (option_map (λ (p : ℕ × ℕ). p.1) o) 0) e ∙ sym (transaction_by (node_at nodes id)))

-- the parts of a place
pub pair_first : (a b c d : ℕ) → ◌≡◌ {A = Option (ℕ × ℕ)} (Some (a, b)) (Some (c, d)) → a ≡ c
pair_first a b c d e = ap (λ o. unwrap_or (option_map (λ (p : ℕ × ℕ). p.0) o) 0) e

pub pair_second : (a b c d : ℕ) → ◌≡◌ {A = Option (ℕ × ℕ)} (Some (a, b)) (Some (c, d)) → b ≡ d
pair_second a b c d e = ap (λ o. unwrap_or (option_map (λ (p : ℕ × ℕ). p.1) o) 0) e

-- nodes that agree on the ids of a list
pub requests_same : (nodes new_nodes : Nodes) (xs : List ℕ) → ((id : ℕ) → is_listed xs id ≡ true → node_at new_nodes id ≡ node_at nodes id) → requests new_nodes xs ≡ requests nodes xs
requests_same nodes new_nodes [] f = refl
requests_same nodes new_nodes (x ∷ xs) f =
    rw (f x (ap (λ b. b || is_listed xs x) (eq-eqb x x refl)), requests_same nodes new_nodes xs (λ id e. f id (or_right (x == id) (is_listed xs id) e)))

pub slots_agree : (nodes new_nodes : Nodes) (xs : List ℕ) → ((id : ℕ) → is_listed xs id ≡ true → queue_place_of (node_at new_nodes id) ≡ queue_place_of (node_at nodes id)) → slots new_nodes xs ≡ slots nodes xs
slots_agree nodes new_nodes [] f = refl
slots_agree nodes new_nodes (x ∷ xs) f =
    let e = slot_by (node_at new_nodes x) ∙ (ap (λ o. unwrap_or (option_map (λ (p : ℕ × ℕ). p.0) o) 0) (f x (ap (λ b. b || is_listed xs x) (eq-eqb x x refl))) ∙ sym (slot_by (node_at nodes x))) in
    rw (e, slots_agree nodes new_nodes xs (λ id g. f id (or_right (x == id) (is_listed xs id) g)))

no_end : (b : Bool) → (b || false) ≡ true → b ≡ true
no_end true e = refl
no_end false e = absurd cc

-- an id at the end, or one that existed
end_cases : (xs : List ℕ) (id x : ℕ) → is_listed (xs ++ id ∷ []) x ≡ true → (is_listed xs x ≡ true) ⊎ (x ≡ id)
end_cases xs id x e = elim (or_cases (is_listed xs x) ((id == x) || false) (sym (listed_end xs id x) ∙ e)) [
  | inl f ↦ inl f
  | inr f ↦ inr (sym (eqb-true id x (no_end (id == x) f)))
]

pub end_listed : (xs : List ℕ) (id : ℕ) → is_listed (xs ++ id ∷ []) id ≡ true
end_listed xs id = listed_end xs id id ∙ or_right (is_listed xs id) ((id == id) || false) (ap (λ b. b || false) (eq-eqb id id refl))

pub still_listed : (xs : List ℕ) (id x : ℕ) → is_listed xs x ≡ true → is_listed (xs ++ id ∷ []) x ≡ true
still_listed xs id x e = listed_end xs id x ∙ ap (λ b. b || ((id == x) || false)) e

-- an id without a request is in no list
pub vacant_queue : (nodes : Nodes) (ids : ℕ → List ℕ) (entries : List (ℕ × List ℕ)) (id : ℕ) → IsTable nodes ids entries → node_at nodes id ≡ None → (s : ℕ) → is_listed (ids s) id ≡ true → ⊥
vacant_queue nodes ids entries id a e s f =
    let p = a.in_queue s id f in
    let g : ◌≡◌ {A = Option (ℕ × ℕ)} None (Some (s, p.0)) = ap queue_place_of (sym e) ∙ p.1 in cc

pub vacant_list : (nodes : Nodes) (ids : ℕ → List ℕ) (entries : List (ℕ × List ℕ)) (id : ℕ) → IsTable nodes ids entries → node_at nodes id ≡ None → (t : ℕ) → is_listed (slots_of entries t) id ≡ true → ⊥
vacant_list nodes ids entries id a e t f =
    let p = a.in_list t id f in
    let g : ◌≡◌ {A = Option (ℕ × ℕ)} None (Some (p.0, t)) = ap queue_place_of (sym e) ∙ p.1 in cc

-- a request was added under a fresh id
pub record Added (nodes new_nodes : Nodes) (ids new_ids : ℕ → List ℕ) (entries new_entries : List (ℕ × List ℕ)) (s id : ℕ) (request : Request) : Type 0 where
  pub was : IsTable nodes ids entries
  pub queue : SetsAt ids new_ids s (ids s ++ id ∷ [])
  pub vacant : node_at nodes id ≡ None
  pub here : node_at new_nodes id ≡ Some (record { request = request; slot = s })
  pub nodes_stay : (other : ℕ) → other ≢ id → node_at new_nodes other ≡ node_at nodes other
  pub list : slots_of new_entries request.transaction ≡ slots_of entries request.transaction ++ id ∷ []
  pub lists_stay : (u : ℕ) → u ≢ request.transaction → slots_of new_entries u ≡ slots_of entries u
  pub filled : AreFilled new_entries

module _ (nodes new_nodes : Nodes) (ids new_ids : ℕ → List ℕ) (entries new_entries : List (ℕ × List ℕ)) (s id : ℕ) (request : Request) (a : Added nodes new_nodes ids new_ids entries new_entries s id request) where
  placed_here : queue_place_of (node_at new_nodes id) ≡ Some (s, request.transaction)
  placed_here = ap queue_place_of a.here

  queue_stands : (u x : ℕ) → x ≢ id → is_listed (new_ids u) x ≡ true → is_listed (ids u) x ≡ true
  queue_stands u x n e = elim (sets_cases ids new_ids s (ids s ++ id ∷ []) a.queue u) [
    | inl c ↦ elim (end_cases (ids s) id x (ap (λ xs. is_listed xs x) (sym c.1) ∙ e)) [
      | inl f ↦ ap (λ v. is_listed (ids v) x) c.0 ∙ f
      | inr f ↦ absurd (n f)
    ]
    | inr c ↦ ap (λ xs. is_listed xs x) (sym c.1) ∙ e
  ]

  queue_keeps : (u x : ℕ) → is_listed (ids u) x ≡ true → is_listed (new_ids u) x ≡ true
  queue_keeps u x e = elim (sets_cases ids new_ids s (ids s ++ id ∷ []) a.queue u) [
    | inl c ↦ ap (λ xs. is_listed xs x) c.1 ∙ still_listed (ids s) id x (ap (λ v. is_listed (ids v) x) (sym c.0) ∙ e)
    | inr c ↦ ap (λ xs. is_listed xs x) c.1 ∙ e
  ]

  queue_of_it : (u : ℕ) → is_listed (new_ids u) id ≡ true → u ≡ s
  queue_of_it u e = elim (sets_cases ids new_ids s (ids s ++ id ∷ []) a.queue u) [
    | inl c ↦ c.0
    | inr c ↦ absurd (vacant_queue nodes ids entries id a.was a.vacant u (ap (λ xs. is_listed xs id) (sym c.1) ∙ e))
  ]

  queue_has_it : is_listed (new_ids s) id ≡ true
  queue_has_it = ap (λ xs. is_listed xs id) a.queue.this ∙ end_listed (ids s) id

  list_stands : (u x : ℕ) → x ≢ id → is_listed (slots_of new_entries u) x ≡ true → is_listed (slots_of entries u) x ≡ true
  list_stands u x n e = elim (cases_eq u request.transaction) [
    | inl c ↦ elim (end_cases (slots_of entries request.transaction) id x (ap (λ xs. is_listed xs x) (sym a.list) ∙ (ap (λ v. is_listed (slots_of new_entries v) x) (sym c) ∙ e))) [
      | inl f ↦ ap (λ v. is_listed (slots_of entries v) x) c ∙ f
      | inr f ↦ absurd (n f)
    ]
    | inr c ↦ ap (λ xs. is_listed xs x) (sym (a.lists_stay u c)) ∙ e
  ]

  list_of_it : (u : ℕ) → is_listed (slots_of new_entries u) id ≡ true → u ≡ request.transaction
  list_of_it u e = elim (cases_eq u request.transaction) [
    | inl c ↦ c
    | inr c ↦ absurd (vacant_list nodes ids entries id a.was a.vacant u (ap (λ xs. is_listed xs id) (sym (a.lists_stay u c)) ∙ e))
  ]

  list_keeps : (u x : ℕ) → is_listed (slots_of entries u) x ≡ true → is_listed (slots_of new_entries u) x ≡ true
  list_keeps u x e = elim (cases_eq u request.transaction) [
    | inl c ↦ ap (λ v. is_listed (slots_of new_entries v) x) c ∙ (ap (λ xs. is_listed xs x) a.list ∙ still_listed (slots_of entries request.transaction) id x (ap (λ v. is_listed (slots_of entries v) x) (sym c) ∙ e))
    | inr c ↦ ap (λ xs. is_listed xs x) (a.lists_stay u c) ∙ e
  ]

  list_has_it : is_listed (slots_of new_entries request.transaction) id ≡ true
  list_has_it = ap (λ xs. is_listed xs id) a.list ∙ end_listed (slots_of entries request.transaction) id

  pub added_table : IsTable new_nodes new_ids new_entries
  added_table = record {
    in_queue = λ u x e. elim (cases_eq x id) [
      | inl c ↦
          let f : u ≡ s = queue_of_it u (ap (is_listed (new_ids u)) (sym c) ∙ e) in
          (request.transaction, ap (λ y. queue_place_of (node_at new_nodes y)) c ∙ (placed_here ∙ ap (λ v. Some (v, request.transaction)) (sym f)))
      | inr n ↦
          let p = a.was.in_queue u x (queue_stands u x n e) in
          (p.0, ap queue_place_of (a.nodes_stay x n) ∙ p.1)
    ];
    in_list = λ u x e. elim (cases_eq x id) [
      | inl c ↦
          let f : u ≡ request.transaction = list_of_it u (ap (is_listed (slots_of new_entries u)) (sym c) ∙ e) in
          (s, ap (λ y. queue_place_of (node_at new_nodes y)) c ∙ (placed_here ∙ ap (λ v. Some (s, v)) (sym f)), ap (is_listed (new_ids s)) c ∙ queue_has_it)
      | inr n ↦
          let p = a.was.in_list u x (list_stands u x n e) in
          (p.0, ap queue_place_of (a.nodes_stay x n) ∙ p.1, queue_keeps p.0 x p.2)
    ];
    with_both = λ x u t p. elim (cases_eq x id) [
      | inl c ↦
          let f = sym p ∙ (ap (λ y. queue_place_of (node_at new_nodes y)) c ∙ placed_here) in
          let g = pair_first u t s request.transaction f in
          let h = pair_second u t s request.transaction f in
          (ap (λ v. is_listed (new_ids v) x) g ∙ (ap (is_listed (new_ids s)) c ∙ queue_has_it), ap (λ v. is_listed (slots_of new_entries v) x) h ∙ (ap (is_listed (slots_of new_entries request.transaction)) c ∙ list_has_it))
      | inr n ↦
          let w = a.was.with_both x u t (ap queue_place_of (sym (a.nodes_stay x n)) ∙ p) in
          (queue_keeps u x w.0, list_keeps t x w.1)
    ];
    filled = a.filled;
  }

  old_stays : (u x : ℕ) → is_listed (ids u) x ≡ true → node_at new_nodes x ≡ node_at nodes x
  old_stays u x e = elim (cases_eq x id) [
    | inl c ↦ absurd (vacant_queue nodes ids entries id a.was a.vacant u (ap (is_listed (ids u)) (sym c) ∙ e))
    | inr n ↦ a.nodes_stay x n
  ]

  old_places : (t x : ℕ) → is_listed (slots_of entries t) x ≡ true → queue_place_of (node_at new_nodes x) ≡ queue_place_of (node_at nodes x)
  old_places t x e = elim (cases_eq x id) [
    | inl c ↦ absurd (vacant_list nodes ids entries id a.was a.vacant t (ap (is_listed (slots_of entries t)) (sym c) ∙ e))
    | inr n ↦ ap queue_place_of (a.nodes_stay x n)
  ]

  pub added_queues : SetsAt (node_queues nodes ids) (node_queues new_nodes new_ids) s (queue_at (node_queues nodes ids) s ++ request ∷ [])
  added_queues = record {
    this = ap (requests new_nodes) a.queue.this
        ∙ (map-append (request_at new_nodes) (ids s) (id ∷ [])
        ∙ (ap (λ q. q ++ request_at new_nodes id ∷ []) (requests_same nodes new_nodes (ids s) (old_stays s)) ∙ ap (λ o. requests nodes (ids s) ++ node_request o ∷ []) a.here));
    others = λ u n. ap (requests new_nodes) (a.queue.others u n) ∙ requests_same nodes new_nodes (ids u) (old_stays u);
  }

  pub added_list : slots_of (lists_in new_nodes new_entries) request.transaction ≡ slots_of (lists_in nodes entries) request.transaction ++ s ∷ []
  added_list =
      found_slots new_nodes new_entries request.transaction ∙ (ap (slots new_nodes) a.list ∙ (map-append (slot_at new_nodes) (slots_of entries request.transaction) (id ∷ [])
      ∙ (ap (λ xs. xs ++ slot_at new_nodes id ∷ []) (slots_agree nodes new_nodes (slots_of entries request.transaction) (old_places request.transaction) ∙ sym (found_slots nodes entries request.transaction))
      ∙ ap (λ o. slots_of (lists_in nodes entries) request.transaction ++ node_slot o ∷ []) a.here)))

  pub added_others : (u : ℕ) → u ≢ request.transaction → slots_of (lists_in new_nodes new_entries) u ≡ slots_of (lists_in nodes entries) u
  added_others u n =
      found_slots new_nodes new_entries u ∙ (ap (slots new_nodes) (a.lists_stay u n) ∙ (slots_agree nodes new_nodes (slots_of entries u) (old_places u) ∙ sym (found_slots nodes entries u)))
