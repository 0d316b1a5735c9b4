-- What taking a request out makes of the table.
use Rattle.std.proofs.Common.{◌≡◌, ◌≢◌, ℕ, ◌==◌, ◌⊎◌, inl, inr, List, [], ◌∷◌, ◌++◌, Option, Some, None, Bool, true, false, ◌||◌, not, cond, refl, sym, ◌∙◌, ap, subst}
use Rattle.std.proofs.lemmas.Bool.{eqb-true, eq-eqb, cases_eq, or_cases, or_right, false_from_ne_true}
use Rattle.std.specs.Option.{option_eq}
use Rattle.std.specs.Prelude.{filter}
use Rattle.std.proofs.lemmas.List.{map-append}
use Rattle.std.proofs.lemmas.List.Folds.{list_any-append}
use Rattle.pc_types.specs.declared.Request.{Request}
use Rattle.pc_model.specs.Locks.{Queue}
use Rattle.pc_model.specs.Queues.{stands_in, AreOnce}
use Rattle.pc_locks.specs.States.{slots_of, queue_at, is_listed, first_in_list, rest_of_list, SetsAt, AreDifferent, AreFilled}
use Rattle.pc_locks.specs.Tables.{Nodes, node_at, request_at, slot_at, queue_place_of, requests, slots, node_queues, lists_in, IsTable, IsUnlinked}
use Rattle.pc_locks.proofs.LineLemmas.{rest_listed}
use Rattle.pc_locks.proofs.SlotLaws.{sets_cases}
use Rattle.pc_locks.proofs.TableLemmas.{pair_first, pair_second, found_slots, slot_placed, transaction_placed, requests_same, slots_agree}

pub split_first : (xs : List ℕ) (x : ℕ) → Some x ≡ first_in_list xs → xs ≡ x ∷ rest_of_list xs
split_first [] x e = absurd cc
split_first (y ∷ ys) x e = let f : x ≡ y = cc in ap (λ z. z ∷ ys) (sym f)

-- an id that is the first one
pub same_some : (o : Option ℕ) (id : ℕ) → option_eq ◌==◌ o (Some id) ≡ true → Some id ≡ o
same_some None id e = absurd cc
same_some (Some x) id e = ap Some (sym (eqb-true x id e))

-- what is listed exists, and what is in two parts is in the whole
pub member_stands : (nodes : Nodes) (xs : List ℕ) (id t : ℕ) → is_listed xs id ≡ true → (request_at nodes id).transaction ≡ t → stands_in (requests nodes xs) t ≡ true
member_stands nodes [] id t e f = absurd cc
member_stands nodes (x ∷ xs) id t e f = elim (or_cases (x == id) (is_listed xs id) e) [
  | inl g ↦
      let h : (request_at nodes x).transaction ≡ t = ap (λ y. (request_at nodes y).transaction) (eqb-true x id g) ∙ f in
      ap (λ b. b || stands_in (requests nodes xs) t) (eq-eqb (request_at nodes x).transaction t h)
  | inr g ↦ or_right ((request_at nodes x).transaction == t) (stands_in (requests nodes xs) t) (member_stands nodes xs id t g f)
]

pub once_behind : (nodes : Nodes) (before behind : List ℕ) (x : ℕ) → AreOnce (requests nodes (before ++ x ∷ behind)) → stands_in (requests nodes behind) (request_at nodes x).transaction ≡ false
once_behind nodes [] behind x o = o.0
once_behind nodes (y ∷ ys) behind x o = once_behind nodes ys behind x o.1

pub parts_listed : (xs ys : List ℕ) (id : ℕ) → is_listed (xs ++ ys) id ≡ true → (is_listed xs id ≡ true) ⊎ (is_listed ys id ≡ true)
parts_listed xs ys id e = or_cases (is_listed xs id) (is_listed ys id) (sym (list_any-append (λ s. s == id) xs ys) ∙ e)

pub front_listed : (xs ys : List ℕ) (id : ℕ) → is_listed xs id ≡ true → is_listed (xs ++ ys) id ≡ true
front_listed xs ys id e = list_any-append (λ s. s == id) xs ys ∙ ap (λ b. b || is_listed ys id) e

pub back_listed : (xs ys : List ℕ) (id : ℕ) → is_listed ys id ≡ true → is_listed (xs ++ ys) id ≡ true
back_listed xs ys id e = list_any-append (λ s. s == id) xs ys ∙ or_right (is_listed xs id) (is_listed ys id) e

slot_listed : (nodes : Nodes) (xs : List ℕ) (id : ℕ) → is_listed xs id ≡ true → is_listed (slots nodes xs) (slot_at nodes id) ≡ true
slot_listed nodes [] id e = absurd cc
slot_listed nodes (x ∷ xs) id e = elim (or_cases (x == id) (is_listed xs id) e) [
  | inl g ↦ ap (λ b. b || is_listed (slots nodes xs) (slot_at nodes id)) (eq-eqb (slot_at nodes x) (slot_at nodes id) (ap (slot_at nodes) (eqb-true x id g)))
  | inr g ↦ or_right (slot_at nodes x == slot_at nodes id) (is_listed (slots nodes xs) (slot_at nodes id)) (slot_listed nodes xs id g)
]

pub filter_none : (q : Queue) (t : ℕ) → stands_in q t ≡ false → filter (λ r. not (r.transaction == t)) q ≡ q
filter_none [] t e = refl
filter_none (r ∷ rs) t e = by (r.transaction == t) e (filter_none rs t)
  where
    by : (b : Bool) → (b || stands_in rs t) ≡ false → (stands_in rs t ≡ false → filter (λ q. not (q.transaction == t)) rs ≡ rs) → cond (not b) (r ∷ filter (λ q. not (q.transaction == t)) rs) (filter (λ q. not (q.transaction == t)) rs) ≡ r ∷ rs
    by true f ih = absurd cc
    by false f ih = ap (λ q. r ∷ q) (ih f)

pub filter_one : (before behind : Queue) (r : Request) (t : ℕ) → stands_in before t ≡ false → (r.transaction == t) ≡ true → stands_in behind t ≡ false → filter (λ q. not (q.transaction == t)) (before ++ r ∷ behind) ≡ before ++ behind
filter_one [] behind r t e f g = by (r.transaction == t) f
  where
    by : (b : Bool) → b ≡ true → cond (not b) (r ∷ filter (λ q. not (q.transaction == t)) behind) (filter (λ q. not (q.transaction == t)) behind) ≡ behind
    by true h = filter_none behind t g
    by false h = absurd cc
filter_one (x ∷ xs) behind r t e f g = by (x.transaction == t) e (λ h. filter_one xs behind r t h f g)
  where
    by : (b : Bool) → (b || stands_in xs t) ≡ false → (stands_in xs t ≡ false → filter (λ q. not (q.transaction == t)) (xs ++ r ∷ behind) ≡ xs ++ behind) →
        cond (not b) (x ∷ filter (λ q. not (q.transaction == t)) (xs ++ r ∷ behind)) (filter (λ q. not (q.transaction == t)) (xs ++ r ∷ behind)) ≡ x ∷ (xs ++ behind)
    by true h ih = absurd cc
    by false h ih = ap (λ q. x ∷ q) (ih h)

-- the transaction's first request
pub record First (nodes : Nodes) (ids : ℕ → List ℕ) (entries : List (ℕ × List ℕ)) (s t id : ℕ) : Type 0 where
  pub place : queue_place_of (node_at nodes id) ≡ Some (s, t)
  pub listed : is_listed (slots_of entries t) id ≡ true
  pub stands : is_listed (ids s) id ≡ true

the_first : (nodes : Nodes) (ids : ℕ → List ℕ) (entries : List (ℕ × List ℕ)) (t id : ℕ) → IsTable nodes ids entries → Some id ≡ first_in_list (slots_of entries t) → First nodes ids entries (slot_at nodes id) t id
the_first nodes ids entries t id a e =
    let l : is_listed (slots_of entries t) id ≡ true = ap (λ xs. is_listed xs id) (split_first (slots_of entries t) id e) ∙ ap (λ b. b || is_listed (rest_of_list (slots_of entries t)) id) (eq-eqb id id refl) in
    let p = a.in_list t id l in
    let s : slot_at nodes id ≡ p.0 = slot_placed nodes id p.0 t p.1 in
    record { place = p.1 ∙ ap (λ u. Some (u, t)) (sym s); listed = l; stands = ap (λ u. is_listed (ids u) id) s ∙ p.2 }

first_at : (nodes : Nodes) (ids : ℕ → List ℕ) (entries : List (ℕ × List ℕ)) (s t id : ℕ) → IsTable nodes ids entries → Some id ≡ first_in_list (slots_of entries t) → s ≡ slot_at nodes id → First nodes ids entries s t id
first_at nodes ids entries s t id a e f = subst (λ u. First nodes ids entries u t id) (sym f) (the_first nodes ids entries t id a e)

-- it is a request of the transaction
pub first_owner : (nodes : Nodes) (ids : ℕ → List ℕ) (entries : List (ℕ × List ℕ)) (t id : ℕ) → IsTable nodes ids entries → Some id ≡ first_in_list (slots_of entries t) → ((request_at nodes id).transaction == t) ≡ true
first_owner nodes ids entries t id a e =
    eq-eqb (request_at nodes id).transaction t (transaction_placed nodes id (slot_at nodes id) t (the_first nodes ids entries t id a e).place)

-- it is in its slot's queue
pub first_stands : (nodes : Nodes) (ids : ℕ → List ℕ) (entries : List (ℕ × List ℕ)) (s t id : ℕ) → IsTable nodes ids entries → Some id ≡ first_in_list (slots_of entries t) → s ≡ slot_at nodes id → stands_in (requests nodes (ids s)) t ≡ true
first_stands nodes ids entries s t id a e f =
    let first = first_at nodes ids entries s t id a e f in
    member_stands nodes (ids s) id t first.stands (transaction_placed nodes id s t first.place)

-- the first id of the transaction's list went out of it
pub record Popped (nodes : Nodes) (ids : ℕ → List ℕ) (entries new_entries : List (ℕ × List ℕ)) (s t id : ℕ) : Type 0 where
  pub was : IsTable nodes ids entries
  pub different : AreDifferent (slots nodes (slots_of entries t))
  pub given : Some id ≡ first_in_list (slots_of entries t)
  pub slot : slot_at nodes id ≡ s
  pub list : slots_of new_entries t ≡ rest_of_list (slots_of entries t)
  pub lists_stay : (u : ℕ) → u ≢ t → slots_of new_entries u ≡ slots_of entries u

module _ (nodes : Nodes) (ids : ℕ → List ℕ) (entries new_entries : List (ℕ × List ℕ)) (s t id : ℕ) (a : Popped nodes ids entries new_entries s t id) where
  first : First nodes ids entries s t id
  first = subst (λ u. First nodes ids entries u t id) a.slot (the_first nodes ids entries t id a.was a.given)

  fresh_rest : is_listed (slots nodes (rest_of_list (slots_of entries t))) (slot_at nodes id) ≡ false
  fresh_rest = (subst (λ xs. AreDifferent (slots nodes xs)) (split_first (slots_of entries t) id a.given) a.different).0

  list_left : (u x : ℕ) → is_listed (slots_of new_entries u) x ≡ true → (x ≢ id) × (is_listed (slots_of entries u) x ≡ true)
  list_left u x e = elim (cases_eq u t) [
    | inl c ↦
        let l : is_listed (rest_of_list (slots_of entries t)) x ≡ true = ap (λ xs. is_listed xs x) (sym a.list) ∙ (ap (λ v. is_listed (slots_of new_entries v) x) (sym c) ∙ e) in (
          (λ g. let f : false ≡ true = sym fresh_rest ∙ slot_listed nodes (rest_of_list (slots_of entries t)) id (ap (is_listed (rest_of_list (slots_of entries t))) (sym g) ∙ l) in cc),
          ap (λ v. is_listed (slots_of entries v) x) c ∙ rest_listed (slots_of entries t) x l,
        )
    | inr c ↦
        let l : is_listed (slots_of entries u) x ≡ true = ap (λ xs. is_listed xs x) (sym (a.lists_stay u c)) ∙ e in
        ((λ g. let p = a.was.in_list u x l in c (pair_second p.0 u s t (sym p.1 ∙ (ap (λ y. queue_place_of (node_at nodes y)) g ∙ first.place)))), l)
  ]

  -- it is in no list any more
  pub popped_unlisted : (u : ℕ) → is_listed (slots_of new_entries u) id ≡ false
  popped_unlisted u = false_from_ne_true (is_listed (slots_of new_entries u) id) (λ e. (list_left u id e).0 refl)

pub record Removed (nodes new_nodes : Nodes) (ids new_ids : ℕ → List ℕ) (entries new_entries : List (ℕ × List ℕ)) (s t id : ℕ) : Type 0 where
  pub popped : Popped nodes ids entries new_entries s t id
  pub once : AreOnce (requests nodes (ids s))
  pub unlinked : IsUnlinked nodes ids new_ids s t
  pub gone : node_at new_nodes id ≡ None
  pub nodes_stay : (other : ℕ) → other ≢ id → node_at new_nodes other ≡ node_at nodes other
  pub filled : AreFilled new_entries

module _ (nodes new_nodes : Nodes) (ids new_ids : ℕ → List ℕ) (entries new_entries : List (ℕ × List ℕ)) (s t id : ℕ) (a : Removed nodes new_nodes ids new_ids entries new_entries s t id) where
  owner : (request_at nodes id).transaction ≡ t
  owner = transaction_placed nodes id s t (first nodes ids entries new_entries s t id a.popped).place

  left : List ℕ
  left = a.unlinked.before ++ a.unlinked.behind

  once_split : AreOnce (requests nodes (a.unlinked.before ++ a.unlinked.id ∷ a.unlinked.behind))
  once_split = subst (λ xs. AreOnce (requests nodes xs)) a.unlinked.split a.once

  none_behind : stands_in (requests nodes a.unlinked.behind) t ≡ false
  none_behind = ap (stands_in (requests nodes a.unlinked.behind)) (sym (eqb-true (request_at nodes a.unlinked.id).transaction t a.unlinked.passed)) ∙ once_behind nodes a.unlinked.before a.unlinked.behind a.unlinked.id once_split

  not_before : is_listed a.unlinked.before id ≡ true → ⊥
  not_before e = let f : false ≡ true = sym a.unlinked.none_before ∙ member_stands nodes a.unlinked.before id t e owner in cc

  not_behind : is_listed a.unlinked.behind id ≡ true → ⊥
  not_behind e = let f : false ≡ true = sym none_behind ∙ member_stands nodes a.unlinked.behind id t e owner in cc

  -- what was unlinked is the first request
  same_id : a.unlinked.id ≡ id
  same_id = elim (parts_listed a.unlinked.before (a.unlinked.id ∷ a.unlinked.behind) id (ap (λ xs. is_listed xs id) (sym a.unlinked.split) ∙ (first nodes ids entries new_entries s t id a.popped).stands)) [
    | inl e ↦ absurd (not_before e)
    | inr e ↦ elim (or_cases (a.unlinked.id == id) (is_listed a.unlinked.behind id) e) [
      | inl f ↦ eqb-true a.unlinked.id id f
      | inr f ↦ absurd (not_behind f)
    ]
  ]

  changed : (u : ℕ) → ((u ≡ s) × (new_ids u ≡ a.unlinked.before ++ a.unlinked.behind)) ⊎ ((u ≢ s) × (new_ids u ≡ ids u))
  changed u = sets_cases ids new_ids s (a.unlinked.before ++ a.unlinked.behind) a.unlinked.new u

  left_listed : (x : ℕ) → is_listed (a.unlinked.before ++ a.unlinked.behind) x ≡ true → (x ≢ id) × (is_listed (ids s) x ≡ true)
  left_listed x e = elim (parts_listed a.unlinked.before a.unlinked.behind x e) [
    | inl f ↦ ((λ g. not_before (ap (is_listed a.unlinked.before) (sym g) ∙ f)), ap (λ xs. is_listed xs x) a.unlinked.split ∙ front_listed a.unlinked.before (a.unlinked.id ∷ a.unlinked.behind) x f)
    | inr f ↦ ((λ g. not_behind (ap (is_listed a.unlinked.behind) (sym g) ∙ f)), ap (λ xs. is_listed xs x) a.unlinked.split ∙ back_listed a.unlinked.before (a.unlinked.id ∷ a.unlinked.behind) x (or_right (a.unlinked.id == x) (is_listed a.unlinked.behind x) f))
  ]

  pub queue_left : (u x : ℕ) → is_listed (new_ids u) x ≡ true → (x ≢ id) × (is_listed (ids u) x ≡ true)
  queue_left u x e = elim (changed u) [
    | inl c ↦
        let l = left_listed x (ap (λ xs. is_listed xs x) (sym c.1) ∙ e) in
        (l.0, ap (λ v. is_listed (ids v) x) c.0 ∙ l.1)
    | inr c ↦
        let l : is_listed (ids u) x ≡ true = ap (λ xs. is_listed xs x) (sym c.1) ∙ e in
        ((λ g. let p = a.popped.was.in_queue u x l in c.0 (pair_first u p.0 s t (sym p.1 ∙ (ap (λ y. queue_place_of (node_at nodes y)) g ∙ (first nodes ids entries new_entries s t id a.popped).place)))), l)
  ]

  queue_keeps : (u x : ℕ) → x ≢ id → is_listed (ids u) x ≡ true → is_listed (new_ids u) x ≡ true
  queue_keeps u x n e = elim (changed u) [
    | inl c ↦ ap (λ xs. is_listed xs x) c.1 ∙ elim (parts_listed a.unlinked.before (a.unlinked.id ∷ a.unlinked.behind) x (ap (λ xs. is_listed xs x) (sym a.unlinked.split) ∙ (ap (λ v. is_listed (ids v) x) (sym c.0) ∙ e))) [
      | inl f ↦ front_listed a.unlinked.before a.unlinked.behind x f
      | inr f ↦ elim (or_cases (a.unlinked.id == x) (is_listed a.unlinked.behind x) f) [
        | inl g ↦ absurd (n (sym (eqb-true a.unlinked.id x g) ∙ same_id))
        | inr g ↦ back_listed a.unlinked.before a.unlinked.behind x g
      ]
    ]
    | inr c ↦ ap (λ xs. is_listed xs x) c.1 ∙ e
  ]

  list_keeps : (u x : ℕ) → x ≢ id → is_listed (slots_of entries u) x ≡ true → is_listed (slots_of new_entries u) x ≡ true
  list_keeps u x n e = elim (cases_eq u t) [
    | inl c ↦
        let l : is_listed (id ∷ rest_of_list (slots_of entries t)) x ≡ true = ap (λ xs. is_listed xs x) (sym (split_first (slots_of entries t) id a.popped.given)) ∙ (ap (λ v. is_listed (slots_of entries v) x) (sym c) ∙ e) in
        ap (λ v. is_listed (slots_of new_entries v) x) c ∙ (ap (λ xs. is_listed xs x) a.popped.list ∙ elim (or_cases (id == x) (is_listed (rest_of_list (slots_of entries t)) x) l) [
          | inl f ↦ absurd (n (sym (eqb-true id x f)))
          | inr f ↦ f
        ])
    | inr c ↦ ap (λ xs. is_listed xs x) (a.popped.lists_stay u c) ∙ e
  ]

  pub removed_table : IsTable new_nodes new_ids new_entries
  removed_table = record {
    in_queue = λ u x e.
        let l = queue_left u x e in
        let p = a.popped.was.in_queue u x l.1 in
        (p.0, ap queue_place_of (a.nodes_stay x l.0) ∙ p.1);
    in_list = λ u x e.
        let l = list_left nodes ids entries new_entries s t id a.popped u x e in
        let p = a.popped.was.in_list u x l.1 in
        (p.0, ap queue_place_of (a.nodes_stay x l.0) ∙ p.1, queue_keeps p.0 x l.0 p.2);
    with_both = λ x u v p. elim (cases_eq x id) [
      | inl c ↦ absurd (let f : ◌≡◌ {A = Option (ℕ × ℕ)} None (Some (u, v)) = ap queue_place_of (sym a.gone) ∙ (ap (λ y. queue_place_of (node_at new_nodes y)) (sym c) ∙ p) in cc)
      | inr n ↦
          let w = a.popped.was.with_both x u v (ap queue_place_of (sym (a.nodes_stay x n)) ∙ p) in
          (queue_keeps u x n w.0, list_keeps v x n w.1)
    ];
    filled = a.filled;
  }

  left_requests : requests new_nodes (a.unlinked.before ++ a.unlinked.behind) ≡ filter (λ r. not (r.transaction == t)) (requests nodes (ids s))
  left_requests =
      requests_same nodes new_nodes (a.unlinked.before ++ a.unlinked.behind) (λ x e. a.nodes_stay x (left_listed x e).0)
      ∙ (map-append (request_at nodes) a.unlinked.before a.unlinked.behind
      ∙ sym (ap (λ xs. filter (λ r. not (r.transaction == t)) (requests nodes xs)) a.unlinked.split
      ∙ (ap (filter (λ r. not (r.transaction == t))) (map-append (request_at nodes) a.unlinked.before (a.unlinked.id ∷ a.unlinked.behind))
      ∙ filter_one (requests nodes a.unlinked.before) (requests nodes a.unlinked.behind) (request_at nodes a.unlinked.id) t a.unlinked.none_before a.unlinked.passed none_behind)))

  pub removed_queues : SetsAt (node_queues nodes ids) (node_queues new_nodes new_ids) s (filter (λ r. not (r.transaction == t)) (queue_at (node_queues nodes ids) s))
  removed_queues = record {
    this = ap (requests new_nodes) a.unlinked.new.this ∙ left_requests;
    others = λ u n. ap (requests new_nodes) (a.unlinked.new.others u n)
        ∙ requests_same nodes new_nodes (ids u) (λ x e. a.nodes_stay x (λ g. let p = a.popped.was.in_queue u x e in n (pair_first u p.0 s t (sym p.1 ∙ (ap (λ y. queue_place_of (node_at nodes y)) g ∙ (first nodes ids entries new_entries s t id a.popped).place)))));
  }

  pub removed_list : slots_of (lists_in new_nodes new_entries) t ≡ rest_of_list (slots_of (lists_in nodes entries) t)
  removed_list =
      found_slots new_nodes new_entries t ∙ (ap (slots new_nodes) a.popped.list
      ∙ (slots_agree nodes new_nodes (rest_of_list (slots_of entries t)) (λ x e. ap queue_place_of (a.nodes_stay x (list_left nodes ids entries new_entries s t id a.popped t x (ap (λ xs. is_listed xs x) a.popped.list ∙ e)).0))
      ∙ (rest_slots (slots_of entries t) ∙ ap rest_of_list (sym (found_slots nodes entries t)))))
    where
      rest_slots : (xs : List ℕ) → slots nodes (rest_of_list xs) ≡ rest_of_list (slots nodes xs)
      rest_slots [] = refl
      rest_slots (x ∷ xs) = refl

  pub removed_others : (u : ℕ) → u ≢ t → slots_of (lists_in new_nodes new_entries) u ≡ slots_of (lists_in nodes entries) u
  removed_others u n =
      found_slots new_nodes new_entries u ∙ (ap (slots new_nodes) (a.popped.lists_stay u n)
      ∙ (slots_agree nodes new_nodes (slots_of entries u) (λ x e. ap queue_place_of (a.nodes_stay x (list_left nodes ids entries new_entries s t id a.popped u x (ap (λ xs. is_listed xs x) (a.popped.lists_stay u n) ∙ e)).0)) ∙ sym (found_slots nodes entries u)))

  pub removed_given : Some s ≡ first_in_list (slots_of (lists_in nodes entries) t)
  removed_given = sym (ap first_in_list (found_slots nodes entries t) ∙ (ap (λ xs. first_in_list (slots nodes xs)) (split_first (slots_of entries t) id a.popped.given) ∙ ap Some a.popped.slot))

pub none_given : (nodes : Nodes) (entries : List (ℕ × List ℕ)) (t : ℕ) → None ≡ first_in_list (slots_of entries t) → None ≡ first_in_list (slots_of (lists_in nodes entries) t)
none_given nodes entries t e = by (slots_of entries t) e ∙ sym (ap first_in_list (found_slots nodes entries t))
  where
    by : (xs : List ℕ) → None ≡ first_in_list xs → None ≡ first_in_list (slots nodes xs)
    by [] f = refl
    by (x ∷ xs) f = absurd cc
