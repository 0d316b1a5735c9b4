-- What an answer and a release make of what locks keep.
use Rattle.std.proofs.Common.{◌≡◌, ◌≢◌, ℕ, ◌==◌, ◌⊎◌, inl, inr, List, [], ◌∷◌, Option, Some, None, is_some, Bool, true, false, not, cond, refl, sym, ◌∙◌, ap, subst}
use Rattle.std.proofs.lemmas.Bool.{eqb-true, eq-eqb, or_cases, false_from_ne_true}
use Rattle.std.specs.Prelude.{Result, Ok, Err, IfOk, OnErr, filter}
use Rattle.std.specs.Map.{lookup}
use Rattle.std.specs.BTreeMap.{is_at}
use Rattle.std.specs.Ordering.{nat_cmp}
use Rattle.pc_types.specs.declared.Mode.{Mode}
use Rattle.pc_types.specs.declared.Outcome.{Outcome}
use Rattle.pc_model.specs.Locks.{Queue, request_in, is_ungranted, granted_behind, queue_after, queue_without, outcome, outcome_of_new, outcome_beside}
use Rattle.pc_types.specs.declared.Outcome.TheVariants.{Granted, Died}
use Rattle.pc_model.specs.Queues.{stands_in, AreOnce, IsSettled}
use Rattle.pc_model.proofs.QueueLaws.{kept_after, kept_without, new_outcome, once_filter}
use Rattle.pc_chain.specs.declared.chain.Chain.{Chain}
use Rattle.pc_locks.specs.Lines.{AreLines, ids_by}
use Rattle.pc_locks.specs.States.{Queues, State, slots_of, queue_at, is_listed, is_waiting_in_state, first_in_list, rest_of_list, last_in_list, slots_after, SetsAt, AreAlike, AreLinked, AreFilled, AreSettled}
use Rattle.pc_locks.specs.Tables.{Nodes, links_in, node_at, request_at, slot_at, queue_place_of, requests, slots, node_queues, lists_in, IsTable, IsOwn}
use Rattle.pc_locks.specs.Keepers.{KeptRequests, AreEnds}
use Rattle.pc_locks.proofs.SlotLaws.{sets_cases, sets_twice}
use Rattle.pc_locks.proofs.StateLaws.{linked_new, linked_again, linked_result, linked_pop, again_kind, any_waits, none_waiting, last_listed}
use Rattle.pc_locks.proofs.TableLemmas.{pair_first, found_slots, slot_placed, transaction_placed, requests_same, slots_agree}
use Rattle.pc_locks.proofs.RemovalLemmas.{member_stands}
use Rattle.pc_locks.proofs.Upgrades.{own_is}

-- what is kept and what is seen of it
pub record Keeps (nodes : Nodes) (ids : ℕ → List ℕ) (entries : List (ℕ × List ℕ)) : Type 0 where
  pub table : IsTable nodes ids entries
  pub settled : (slot : ℕ) → IsSettled (queue_at (node_queues nodes ids) slot)
  pub linked : AreLinked (node_queues nodes ids) (lists_in nodes entries)

-- requests of one slot changed in place
pub record SlotChanged (nodes new_nodes : Nodes) (ids : ℕ → List ℕ) (entries : List (ℕ × List ℕ)) (s : ℕ) (q : Queue) : Type 0 where
  pub table : IsTable new_nodes ids entries
  pub queues : SetsAt (node_queues nodes ids) (node_queues new_nodes ids) s q
  pub lists : lists_in new_nodes entries ≡ lists_in nodes entries

lists_placed : (nodes new_nodes : Nodes) (entries : List (ℕ × List ℕ)) → ((id : ℕ) → queue_place_of (node_at new_nodes id) ≡ queue_place_of (node_at nodes id)) → lists_in new_nodes entries ≡ lists_in nodes entries
lists_placed nodes new_nodes [] p = refl
lists_placed nodes new_nodes (e ∷ es) p = rw (slots_agree nodes new_nodes e.1 (λ id l. p id), lists_placed nodes new_nodes es p)

pub slot_changed : (nodes new_nodes : Nodes) (ids : ℕ → List ℕ) (entries : List (ℕ × List ℕ)) (s : ℕ) (q : Queue) → IsTable nodes ids entries → requests new_nodes (ids s) ≡ q →
    ((id : ℕ) → queue_place_of (node_at new_nodes id) ≡ queue_place_of (node_at nodes id)) → ((id : ℕ) → is_listed (ids s) id ≡ false → node_at new_nodes id ≡ node_at nodes id) → SlotChanged nodes new_nodes ids entries s q
slot_changed nodes new_nodes ids entries s q a e places others = record {
  table = record {
    in_queue = λ u id l. let p = a.in_queue u id l in (p.0, places id ∙ p.1);
    in_list = λ t id l. let p = a.in_list t id l in (p.0, places id ∙ p.1, p.2);
    with_both = λ id u t p. a.with_both id u t (sym (places id) ∙ p);
    filled = a.filled;
  };
  queues = record {
    this = e;
    others = λ u n. requests_same nodes new_nodes (ids u) (λ id l. others id (false_from_ne_true (is_listed (ids s) id) (λ f.
        let p = a.in_queue u id l in
        let r = a.in_queue s id f in
        n (pair_first u p.0 s r.0 (sym p.1 ∙ r.1)))));
  };
  lists = lists_placed nodes new_nodes entries places;
}

settled_set : (queues new_queues : Queues) (s : ℕ) (q : Queue) → SetsAt queues new_queues s q → IsSettled q → ((u : ℕ) → IsSettled (queue_at queues u)) → (u : ℕ) → IsSettled (queue_at new_queues u)
settled_set queues new_queues s q h k f u = elim (sets_cases queues new_queues s q h u) [
  | inl c ↦ subst IsSettled (sym c.1) k
  | inr c ↦ subst IsSettled (sym c.1) (f u)
]

pub keeps_new : (ids : ℕ → List ℕ) → ((u : ℕ) → ids u ≡ []) → Keeps [] ids []
keeps_new ids e = record {
  table = record {
    in_queue = λ u id l. absurd (let z : false ≡ true = sym (ap (λ xs. is_listed xs id) (e u)) ∙ l in cc);
    in_list = λ t id l. absurd cc;
    with_both = λ id u t p. absurd (let z : ◌≡◌ {A = Option (ℕ × ℕ)} None (Some (u, t)) = p in cc);
    filled = λ t k. absurd (let z : false ≡ true = k in cc);
  };
  settled = λ u. subst IsSettled (sym (ap (requests []) (e u))) (tt, tt);
  linked = linked_new (node_queues [] ids) (λ u. ap (requests []) (e u));
}

pub once_at : (nodes : Nodes) (ids : ℕ → List ℕ) (entries : List (ℕ × List ℕ)) (s : ℕ) → Keeps nodes ids entries → AreOnce (requests nodes (ids s))
once_at nodes ids entries s k = (k.settled s).1

pub own_at : (nodes : Nodes) (ids : ℕ → List ℕ) (s t : ℕ) (previous : Option ℕ) (id : ℕ) → IsOwn nodes (ids s) t previous id → request_in (queue_at (node_queues nodes ids) s) t ≡ Some (request_at nodes id)
own_at nodes ids s t previous id o = own_is nodes (ids s) t previous id o

-- a transaction's own request was answered again
pub record Answered (nodes new_nodes : Nodes) (ids : ℕ → List ℕ) (entries : List (ℕ × List ℕ)) (s t : ℕ) (mode : Mode) (o : Outcome) : Type 0 where
  pub keeps : Keeps new_nodes ids entries
  pub told : o ≡ outcome (queue_at (node_queues nodes ids) s) t mode
  pub queues : SetsAt (node_queues nodes ids) (node_queues new_nodes ids) s (queue_after (queue_at (node_queues nodes ids) s) t mode o)
  pub lists : lists_in new_nodes entries ≡ lists_in nodes entries
  pub kind : (o ≡ Granted) ⊎ (o ≡ Died)

pub answered_again : (nodes new_nodes : Nodes) (ids : ℕ → List ℕ) (entries : List (ℕ × List ℕ)) (s t : ℕ) (previous : Option ℕ) (id : ℕ) (mode : Mode) (o : Outcome) → Keeps nodes ids entries →
    is_ungranted (request_in (queue_at (node_queues nodes ids) s) t) ≡ false → IsOwn nodes (ids s) t previous id →
    o ≡ outcome_beside (requests nodes (ids s)) t mode (Some (request_at nodes id)) → requests new_nodes (ids s) ≡ queue_after (requests nodes (ids s)) t mode o →
    ((x : ℕ) → queue_place_of (node_at new_nodes x) ≡ queue_place_of (node_at nodes x)) → ((x : ℕ) → is_listed (ids s) x ≡ false → node_at new_nodes x ≡ node_at nodes x) →
    Answered nodes new_nodes ids entries s t mode o
answered_again nodes new_nodes ids entries s t previous id mode o k w own told queue places others =
    let q = queue_at (node_queues nodes ids) s in
    let mine : request_in q t ≡ Some (request_at nodes id) = own_at nodes ids s t previous id own in
    let told_all : o ≡ outcome q t mode = told ∙ ap (outcome_beside q t mode) (sym mine) in
    let kind = again_kind q t mode (request_at nodes id) o told in
    let c = slot_changed nodes new_nodes ids entries s (queue_after q t mode o) k.table queue places others in
    record {
      keeps = record {
        table = c.table;
        settled = settled_set (node_queues nodes ids) (node_queues new_nodes ids) s (queue_after q t mode o) c.queues (kept_after q t mode o (k.settled s) w (sym told_all)) k.settled;
        linked = subst (AreLinked (node_queues new_nodes ids)) (sym c.lists) (linked_again (node_queues nodes ids) (node_queues new_nodes ids) (lists_in nodes entries) s t mode (request_at nodes id) o c.queues kind mine k.linked);
      };
      told = told_all;
      queues = c.queues;
      lists = c.lists;
      kind = kind;
    }

settled_result : {A E : Type 0} (result : Result A E) (told : A → Outcome) (queues new_queues : Queues) (s t : ℕ) (mode : Mode) → stands_in (queue_at queues s) t ≡ false →
    is_ungranted (request_in (queue_at queues s) t) ≡ false →
    IfOk result (λ a. told a ≡ outcome_of_new (queue_at queues s) t mode) → IfOk result (λ a. SetsAt queues new_queues s (queue_after (queue_at queues s) t mode (told a))) → OnErr result ((u : ℕ) → queue_at new_queues u ≡ queue_at queues u) →
    ((u : ℕ) → IsSettled (queue_at queues u)) → (u : ℕ) → IsSettled (queue_at new_queues u)
settled_result (Ok a) told queues new_queues s t mode f w o q err k u =
    settled_set queues new_queues s (queue_after (queue_at queues s) t mode (told a)) q
    (kept_after (queue_at queues s) t mode (told a) (k s) w (new_outcome (queue_at queues s) t mode f ∙ sym o)) k u
settled_result (Err x) told queues new_queues s t mode f w o q err k u = subst IsSettled (sym (err u)) (k u)

queues_part : {A E : Type 0} (a b : State) (result : Result A E) → OnErr result (AreAlike a b) → OnErr result ((u : ℕ) → queue_at a.queues u ≡ queue_at b.queues u)
queues_part a b (Ok x) p = tt
queues_part a b (Err x) p = p.queues

-- a transaction's first request was answered
pub keeps_first : {A E : Type 0} (result : Result A E) (told : A → Outcome) (nodes new_nodes : Nodes) (ids new_ids : ℕ → List ℕ) (entries new_entries : List (ℕ × List ℕ)) (s t : ℕ) (mode : Mode) → Keeps nodes ids entries →
    stands_in (queue_at (node_queues nodes ids) s) t ≡ false → ((u : ℕ) → is_ungranted (request_in (queue_at (node_queues nodes ids) u) t) ≡ false) → IsTable new_nodes new_ids new_entries →
    IfOk result (λ a. told a ≡ outcome_of_new (queue_at (node_queues nodes ids) s) t mode) →
    IfOk result (λ a. SetsAt (node_queues nodes ids) (node_queues new_nodes new_ids) s (queue_after (queue_at (node_queues nodes ids) s) t mode (told a))) →
    IfOk result (λ a. slots_of (lists_in new_nodes new_entries) t ≡ slots_after (slots_of (lists_in nodes entries) t) s false (told a)) →
    ((u : ℕ) → u ≢ t → slots_of (lists_in new_nodes new_entries) u ≡ slots_of (lists_in nodes entries) u) →
    OnErr result (AreAlike (record { queues = node_queues new_nodes new_ids; lists = lists_in new_nodes new_entries }) (record { queues = node_queues nodes ids; lists = lists_in nodes entries })) → Keeps new_nodes new_ids new_entries
keeps_first result told nodes new_nodes ids new_ids entries new_entries s t mode k f w table o q l others err = record {
  table = table;
  settled = settled_result result told (node_queues nodes ids) (node_queues new_nodes new_ids) s t mode f (w s) o q (queues_part _ _ result err) k.settled;
  linked = linked_result result told (node_queues nodes ids) (node_queues new_nodes new_ids) (lists_in nodes entries) (lists_in new_nodes new_entries) s t mode f w q l others err k.linked;
}

-- the requests that are left if one was taken out
pub once_left : (nodes taken : Nodes) (ids new_ids : ℕ → List ℕ) (s t : ℕ) → AreOnce (queue_at (node_queues nodes ids) s) →
    SetsAt (node_queues nodes ids) (node_queues taken new_ids) s (filter (λ r. not (r.transaction == t)) (queue_at (node_queues nodes ids) s)) → AreOnce (requests taken (new_ids s))
once_left nodes taken ids new_ids s t k e = subst AreOnce (sym e.this) (once_filter (λ r. not (r.transaction == t)) (queue_at (node_queues nodes ids) s) k)

-- a request was taken out, and then others were granted
pub record Released (nodes taken new_nodes : Nodes) (ids new_ids : ℕ → List ℕ) (entries new_entries : List (ℕ × List ℕ)) (s t : ℕ) : Type 0 where
  pub keeps : Keeps new_nodes new_ids new_entries
  pub queues : SetsAt (node_queues nodes ids) (node_queues new_nodes new_ids) s (queue_without (queue_at (node_queues nodes ids) s) t)
  pub lists : lists_in new_nodes new_entries ≡ lists_in taken new_entries

pub released : (nodes taken new_nodes : Nodes) (ids new_ids : ℕ → List ℕ) (entries new_entries : List (ℕ × List ℕ)) (s t : ℕ) → Keeps nodes ids entries → IsTable taken new_ids new_entries →
    Some s ≡ first_in_list (slots_of (lists_in nodes entries) t) → slots_of (lists_in taken new_entries) t ≡ rest_of_list (slots_of (lists_in nodes entries) t) →
    ((u : ℕ) → u ≢ t → slots_of (lists_in taken new_entries) u ≡ slots_of (lists_in nodes entries) u) →
    SetsAt (node_queues nodes ids) (node_queues taken new_ids) s (filter (λ r. not (r.transaction == t)) (queue_at (node_queues nodes ids) s)) →
    requests new_nodes (new_ids s) ≡ granted_behind [] (requests taken (new_ids s)) →
    ((x : ℕ) → queue_place_of (node_at new_nodes x) ≡ queue_place_of (node_at taken x)) → ((x : ℕ) → is_listed (new_ids s) x ≡ false → node_at new_nodes x ≡ node_at taken x) →
    Released nodes taken new_nodes ids new_ids entries new_entries s t
released nodes taken new_nodes ids new_ids entries new_entries s t k table given list others queues granted places stay =
    let q = queue_at (node_queues nodes ids) s in
    let c = slot_changed taken new_nodes new_ids new_entries s (queue_without q t) table (granted ∙ ap (granted_behind []) queues.this) places stay in
    let all : SetsAt (node_queues nodes ids) (node_queues new_nodes new_ids) s (queue_without q t) = sets_twice _ _ _ s (filter (λ r. not (r.transaction == t)) q) (queue_without q t) queues c.queues in
    record {
      keeps = record {
        table = c.table;
        settled = settled_set (node_queues nodes ids) (node_queues new_nodes new_ids) s (queue_without q t) all (kept_without q t (k.settled s)) k.settled;
        linked = linked_pop (node_queues nodes ids) (node_queues new_nodes new_ids) (lists_in nodes entries) (lists_in new_nodes new_entries) s t all given
            (ap (λ x. slots_of x t) c.lists ∙ list) (λ u m. ap (λ x. slots_of x u) c.lists ∙ others u m) k.linked;
      };
      queues = all;
      lists = c.lists;
    }

-- the first of the ids that is the transaction's
once_found : (nodes : Nodes) (xs : List ℕ) (id : ℕ) → AreOnce (requests nodes xs) → is_listed xs id ≡ true → request_in (requests nodes xs) (request_at nodes id).transaction ≡ Some (request_at nodes id)
once_found nodes [] id o e = absurd cc
once_found nodes (x ∷ xs) id o e = by ((request_at nodes x).transaction == (request_at nodes id).transaction) refl (λ g. once_found nodes xs id o.1 g)
  where
    by : (b : Bool) → ((request_at nodes x).transaction == (request_at nodes id).transaction) ≡ b →
        (is_listed xs id ≡ true → request_in (requests nodes xs) (request_at nodes id).transaction ≡ Some (request_at nodes id)) →
        cond b (Some (request_at nodes x)) (request_in (requests nodes xs) (request_at nodes id).transaction) ≡ Some (request_at nodes id)
    by true f ih = elim (or_cases (x == id) (is_listed xs id) e) [
      | inl g ↦ ap (λ y. Some (request_at nodes y)) (eqb-true x id g)
      | inr g ↦ absurd (
          let z : false ≡ true = sym o.0 ∙ member_stands nodes xs id (request_at nodes x).transaction g (sym (eqb-true (request_at nodes x).transaction (request_at nodes id).transaction f)) in cc)
    ]
    by false f ih = elim (or_cases (x == id) (is_listed xs id) e) [
      | inl g ↦ absurd (let z : false ≡ true = sym f ∙ eq-eqb (request_at nodes x).transaction (request_at nodes id).transaction (ap (λ y. (request_at nodes y).transaction) (eqb-true x id g)) in cc)
      | inr g ↦ ih g
    ]

last_slots : (nodes : Nodes) (xs : List ℕ) (id : ℕ) → Some id ≡ last_in_list xs → Some (slot_at nodes id) ≡ last_in_list (slots nodes xs)
last_slots nodes [] id e = absurd cc
last_slots nodes (x ∷ []) id e = let f : id ≡ x = cc in ap (λ y. Some (slot_at nodes y)) f
last_slots nodes (x ∷ y ∷ ys) id e = last_slots nodes (y ∷ ys) id e

last_none : (nodes : Nodes) (xs : List ℕ) → None ≡ last_in_list xs → None ≡ last_in_list (slots nodes xs)
last_none nodes [] e = refl
last_none nodes (x ∷ []) e = absurd cc
last_none nodes (x ∷ y ∷ ys) e = last_none nodes (y ∷ ys) e

-- a transaction's last request determines whether it waits
pub waits_last : (nodes : Nodes) (ids : ℕ → List ℕ) (entries : List (ℕ × List ℕ)) (t id : ℕ) → Keeps nodes ids entries → Some id ≡ last_in_list (slots_of entries t) →
    not (request_at nodes id).granted ≡ is_waiting_in_state (record { queues = node_queues nodes ids; lists = lists_in nodes entries }) t
waits_last nodes ids entries t id k e =
    let p = k.table.in_list t id (last_listed (slots_of entries t) id e) in
    let s = p.0 in
    let owner : (request_at nodes id).transaction ≡ t = transaction_placed nodes id s t p.1 in
    let here : request_in (queue_at (node_queues nodes ids) s) t ≡ Some (request_at nodes id) = ap (request_in (requests nodes (ids s))) (sym owner) ∙ once_found nodes (ids s) id (once_at nodes ids entries s k) p.2 in
    let last : Some s ≡ last_in_list (slots_of (lists_in nodes entries) t) =
    ap Some (sym (slot_placed nodes id s t p.1)) ∙ (last_slots nodes (slots_of entries t) id e ∙ sym (ap last_in_list (found_slots nodes entries t))) in
    sym (ap is_ungranted here) ∙ any_waits (node_queues nodes ids) (lists_in nodes entries) t s k.linked last

pub waits_never : (nodes : Nodes) (ids : ℕ → List ℕ) (entries : List (ℕ × List ℕ)) (t : ℕ) → Keeps nodes ids entries → None ≡ last_in_list (slots_of entries t) →
    false ≡ is_waiting_in_state (record { queues = node_queues nodes ids; lists = lists_in nodes entries }) t
waits_never nodes ids entries t k e = none_waiting (node_queues nodes ids) (lists_in nodes entries) t k.linked (last_none nodes (slots_of entries t) e ∙ sym (ap last_in_list (found_slots nodes entries t)))

-- what is seen of what is kept
known_lists : (nodes : Nodes) (entries : List (ℕ × List ℕ)) (t : ℕ) → is_some (lookup (is_at (nat_cmp t)) (lists_in nodes entries)) ≡ is_some (lookup (is_at (nat_cmp t)) entries)
known_lists nodes [] t = refl
known_lists nodes (e ∷ es) t = by (is_at (nat_cmp t) e.0) (known_lists nodes es t)
  where
    by : (b : Bool) → is_some (lookup (is_at (nat_cmp t)) (lists_in nodes es)) ≡ is_some (lookup (is_at (nat_cmp t)) es) →
        is_some (cond b (Some (slots nodes e.1)) (lookup (is_at (nat_cmp t)) (lists_in nodes es))) ≡ is_some (cond b (Some e.1) (lookup (is_at (nat_cmp t)) es))
    by true h = refl
    by false h = h

filled_lists : (nodes : Nodes) (entries : List (ℕ × List ℕ)) → AreFilled entries → AreFilled (lists_in nodes entries)
filled_lists nodes entries f = λ t k. ap (λ xs. is_some (first_in_list xs)) (found_slots nodes entries t) ∙ (as_many (slots_of entries t) ∙ f t (sym (known_lists nodes entries t) ∙ k))
  where
    as_many : (xs : List ℕ) → is_some (first_in_list (slots nodes xs)) ≡ is_some (first_in_list xs)
    as_many [] = refl
    as_many (x ∷ xs) = refl

keeps_settled : (nodes : Nodes) (ids : ℕ → List ℕ) (entries : List (ℕ × List ℕ)) → Keeps nodes ids entries → AreSettled (record { queues = node_queues nodes ids; lists = lists_in nodes entries })
keeps_settled nodes ids entries k = record { settled = k.settled; linked = k.linked; filled = filled_lists nodes entries k.table.filled }

-- with the ends
pub ends_keep : (ends : ℕ → Chain ℕ) (kept : KeptRequests) → AreEnds ends kept → Keeps kept.nodes.slots (ids_by (links_in kept.nodes.slots) ends) kept.entries
ends_keep ends kept a = record { table = a.tied.table; settled = a.settled.settled; linked = a.settled.linked }

pub keep_ends : (ends : ℕ → Chain ℕ) (kept : KeptRequests) → AreLines (links_in kept.nodes.slots) ends → Keeps kept.nodes.slots (ids_by (links_in kept.nodes.slots) ends) kept.entries → AreEnds ends kept
keep_ends ends kept l k = record { tied = record { lines = l; table = k.table }; settled = keeps_settled kept.nodes.slots (ids_by (links_in kept.nodes.slots) ends) kept.entries k }
