-- The transactions' lists of ids.
use Rattle.std.proofs.Common.{◌≡◌, ◌≢◌, ℕ, List, [], ◌∷◌, ◌++◌, inl, inr, Option, Some, None, is_some, Bool, true, false, cond, slice_index_or, refl, sym, ◌∙◌, ap, subst}
use Rattle.std.proofs.lemmas.Bool.{cases_eq}
use Rattle.std.specs.Prelude.{unwrap_or}
use Rattle.std.specs.Map.{lookup}
use Rattle.std.specs.BTreeMap.{is_at}
use Rattle.std.specs.Ordering.{nat_cmp}
use Rattle.pc_chain.specs.declared.chain.Chain.{Chain}
use Rattle.pc_chain.specs.Chains as chains
use Rattle.pc_chain.specs.Chains.{Avoids, AreDisjoint}
use Rattle.pc_locks.specs.Lines.{Links, link_at, ids_of, IsLine, AreLines, AreIdLists, LineBecomes, ends_at, no_chain, entry_ids}
use Rattle.pc_locks.specs.States.{slots_of, is_listed, first_in_list, rest_of_list, last_in_list}
use Rattle.pc_locks.specs.declared.node.Node.{Node}
use Rattle.pc_locks.specs.Tables.{Nodes, own_links_in}
use Rattle.pc_locks.proofs.Columns.{link_kept, link_of}
use Rattle.pc_locks.proofs.LineLemmas.{become_pushed, become_fewer, avoids_unlisted, lines_stay, lines_none, linkless, rest_listed, same_first, same_rest, same_last}

-- what is looked up is the chain's ids
pub found_ids : (links : Links) (entries : List (ℕ × Chain ℕ)) (t : ℕ) → slots_of (entry_ids links entries) t ≡ ids_of links (ends_at entries t)
found_ids links [] t = refl
found_ids links (e ∷ es) t = by (is_at (nat_cmp t) e.0) (found_ids links es t)
  where
    by : (b : Bool) → slots_of (entry_ids links es) t ≡ ids_of links (ends_at es t) →
        unwrap_or (cond b (Some (ids_of links e.1)) (lookup (is_at (nat_cmp t)) (entry_ids links es))) [] ≡ ids_of links (unwrap_or (cond b (Some e.1) (lookup (is_at (nat_cmp t)) es)) no_chain)
    by true h = refl
    by false h = h

pub found_known : (links : Links) (entries : List (ℕ × Chain ℕ)) (t : ℕ) → is_some (lookup (is_at (nat_cmp t)) (entry_ids links entries)) ≡ is_some (lookup (is_at (nat_cmp t)) entries)
found_known links [] t = refl
found_known links (e ∷ es) t = by (is_at (nat_cmp t) e.0) (found_known links es t)
  where
    by : (b : Bool) → is_some (lookup (is_at (nat_cmp t)) (entry_ids links es)) ≡ is_some (lookup (is_at (nat_cmp t)) es) →
        is_some (cond b (Some (ids_of links e.1)) (lookup (is_at (nat_cmp t)) (entry_ids links es))) ≡ is_some (cond b (Some e.1) (lookup (is_at (nat_cmp t)) es))
    by true h = refl
    by false h = h

pub chain_line : (links : Links) (entries : List (ℕ × Chain ℕ)) (t : ℕ) (ends : Chain ℕ) → AreLines links (ends_at entries) → ends ≡ ends_at entries t → IsLine links ends (slots_of (entry_ids links entries) t)
chain_line links entries t ends a e =
    subst (IsLine links ends) (sym (found_ids links entries t)) (subst (λ x. IsLine links x (ids_of links (ends_at entries t))) (sym e) (a.line t))

pub lists_last : (links : Links) (entries : List (ℕ × Chain ℕ)) (t : ℕ) (ends : Chain ℕ) → AreIdLists links entries → ends ≡ ends_at entries t → ends.last ≡ last_in_list (slots_of (entry_ids links entries) t)
lists_last links entries t ends a e = (chain_line links entries t ends a.lines e).last ∙ same_last (slots_of (entry_ids links entries) t)

pub lists_first : (links : Links) (entries : List (ℕ × Chain ℕ)) (t : ℕ) (ends : Chain ℕ) (id : Option ℕ) → AreIdLists links entries → ends ≡ ends_at entries t → ((xs : List ℕ) → IsLine links ends xs → id ≡ chains.first_of xs) →
    id ≡ first_in_list (slots_of (entry_ids links entries) t)
lists_first links entries t ends id a e f = f (slots_of (entry_ids links entries) t) (chain_line links entries t ends a.lines e) ∙ same_first (slots_of (entry_ids links entries) t)

-- the entries of all others have ids
abbrev pub AreFilledBeside : Links → List (ℕ × Chain ℕ) → ℕ → Type 0
AreFilledBeside links entries t = (u : ℕ) → u ≢ t → is_some (lookup (is_at (nat_cmp u)) entries) ≡ true → is_some (first_in_list (slots_of (entry_ids links entries) u)) ≡ true

filled_beside : (links : Links) (entries : List (ℕ × Chain ℕ)) (t : ℕ) → AreIdLists links entries → AreFilledBeside links entries t
filled_beside links entries t a = λ u n k. a.filled u (found_known links entries u ∙ k)

-- one transaction's list became this one, and the others stayed
pub record Changed (links new_links : Links) (entries new_entries : List (ℕ × Chain ℕ)) (t : ℕ) (new : List ℕ) : Type 0 where
  pub lists : AreIdLists new_links new_entries
  pub this : slots_of (entry_ids new_links new_entries) t ≡ new
  pub others : (u : ℕ) → u ≢ t → slots_of (entry_ids new_links new_entries) u ≡ slots_of (entry_ids links entries) u

changed : (links new_links : Links) (entries new_entries : List (ℕ × Chain ℕ)) (t : ℕ) (new : List ℕ) → AreFilledBeside links entries t →
    LineBecomes links new_links (ends_at entries) (ends_at new_entries) t new → (is_some (lookup (is_at (nat_cmp t)) new_entries) ≡ true → is_some (first_in_list new) ≡ true) →
    ((u : ℕ) → u ≢ t → lookup (is_at (nat_cmp u)) new_entries ≡ lookup (is_at (nat_cmp u)) entries) → Changed links new_links entries new_entries t new
changed links new_links entries new_entries t new g b f o =
    let this : slots_of (entry_ids new_links new_entries) t ≡ new = found_ids new_links new_entries t ∙ b.this in
    let others : (u : ℕ) → u ≢ t → slots_of (entry_ids new_links new_entries) u ≡ slots_of (entry_ids links entries) u = λ u n. found_ids new_links new_entries u ∙ (b.others u n ∙ sym (found_ids links entries u)) in
    record {
      lists = record {
        lines = b.kept;
        filled = λ u k.
            let known = sym (found_known new_links new_entries u) ∙ k in
            elim (cases_eq u t) [
              | inl p ↦ subst (λ x. is_some (first_in_list (slots_of (entry_ids new_links new_entries) x)) ≡ true) (sym p)
                  (ap (λ xs. is_some (first_in_list xs)) this ∙ f (subst (λ x. is_some (lookup (is_at (nat_cmp x)) new_entries) ≡ true) p known))
              | inr n ↦ ap (λ xs. is_some (first_in_list xs)) (others u n) ∙ g u n (ap is_some (sym (o u n)) ∙ known)
            ];
      };
      this = this;
      others = others;
    }

some_end : (xs : List ℕ) (id : ℕ) → is_some (first_in_list (xs ++ id ∷ [])) ≡ true
some_end [] id = refl
some_end (x ∷ xs) id = refl

-- links of which those of all lists stay, and entries of which one may have come, without an id
pub record Grown (links new_links : Links) (entries new_entries : List (ℕ × Chain ℕ)) (t : ℕ) : Type 0 where
  pub lines : AreLines new_links (ends_at new_entries)
  pub slots : (u : ℕ) → slots_of (entry_ids new_links new_entries) u ≡ slots_of (entry_ids links entries) u
  pub beside : AreFilledBeside new_links new_entries t

pub grown : (links new_links : Links) (entries new_entries : List (ℕ × Chain ℕ)) (t : ℕ) → ((u id : ℕ) → is_listed (ids_of links (ends_at entries u)) id ≡ true → link_at new_links id ≡ link_at links id) →
    ((u : ℕ) → ends_at new_entries u ≡ ends_at entries u) → ((u : ℕ) → u ≢ t → lookup (is_at (nat_cmp u)) new_entries ≡ lookup (is_at (nat_cmp u)) entries) → AreIdLists links entries → Grown links new_links entries new_entries t
grown links new_links entries new_entries t f s o a =
    let stay = lines_stay links new_links (ends_at entries) f a.lines in
    let slots : (u : ℕ) → slots_of (entry_ids new_links new_entries) u ≡ slots_of (entry_ids links entries) u =
    λ u. found_ids new_links new_entries u ∙ (ap (ids_of new_links) (s u) ∙ (stay.ids u ∙ sym (found_ids links entries u))) in
    record {
      lines = record {
        line = λ u. subst (λ x. IsLine new_links x (ids_of new_links x)) (sym (s u)) (stay.kept.line u);
        apart = λ j k id e g. stay.kept.apart j k id (sym (ap (λ x. is_listed (ids_of new_links x) id) (s j)) ∙ e) (sym (ap (λ x. is_listed (ids_of new_links x) id) (s k)) ∙ g);
      };
      slots = slots;
      beside = λ u n k. ap (λ xs. is_some (first_in_list xs)) (slots u) ∙ filled_beside links entries t a u n (ap is_some (sym (o u n)) ∙ k);
    }

pub changed_push : (links grown_links new_links : Links) (entries grown_entries new_entries : List (ℕ × Chain ℕ)) (t id : ℕ) (ends new_ends : Chain ℕ) → Grown links grown_links entries grown_entries t → ends ≡ ends_at grown_entries t →
    ((u : ℕ) → is_listed (slots_of (entry_ids links entries) u) id ≡ false) →
    ((xs : List ℕ) → IsLine grown_links ends xs → Avoids id xs → IsLine new_links new_ends (xs ++ id ∷ [])) →
    ((xs ys : List ℕ) (other : Chain ℕ) → IsLine grown_links ends xs → IsLine grown_links other ys → AreDisjoint xs ys → Avoids id ys → IsLine new_links other ys) →
    ends_at new_entries t ≡ new_ends → ((u : ℕ) → u ≢ t → lookup (is_at (nat_cmp u)) new_entries ≡ lookup (is_at (nat_cmp u)) grown_entries) →
    Changed links new_links entries new_entries t (slots_of (entry_ids links entries) t ++ id ∷ [])
changed_push links grown_links new_links entries grown_entries new_entries t id ends new_ends g e f l o this others =
    let xs = ids_of grown_links (ends_at grown_entries t) in
    let line : IsLine grown_links ends xs = subst (λ x. IsLine grown_links x xs) (sym e) (g.lines.line t) in
    let free : (u : ℕ) → is_listed (ids_of grown_links (ends_at grown_entries u)) id ≡ false = λ u. ap (λ ys. is_listed ys id) (sym (found_ids grown_links grown_entries u) ∙ g.slots u) ∙ f u in
    let c = changed grown_links new_links grown_entries new_entries t (xs ++ id ∷ []) g.beside
    (become_pushed grown_links new_links (ends_at grown_entries) (ends_at new_entries) t id g.lines free
    (subst (λ x. IsLine new_links x (xs ++ id ∷ [])) (sym this) (l xs line (avoids_unlisted id xs (free t))))
    (λ ys other c p q. o xs ys other line c p q) (λ u n. ap (λ (x : Option (Chain ℕ)). unwrap_or x no_chain) (others u n)))
    (λ k. some_end xs id) others in
    record {
      lists = c.lists;
      this = c.this ∙ ap (λ ys. ys ++ id ∷ []) (sym (found_ids grown_links grown_entries t) ∙ g.slots t);
      others = λ u n. c.others u n ∙ g.slots u;
    }

none_left : (xs : List ℕ) → is_some (first_in_list xs) ≡ false → xs ≡ []
none_left [] e = refl
none_left (x ∷ xs) e = absurd cc

changed_rest : (links : Links) (entries new_entries : List (ℕ × Chain ℕ)) (t : ℕ) (ends : Chain ℕ) → AreIdLists links entries → IsLine links ends (rest_of_list (ids_of links (ends_at entries t))) →
    ends_at new_entries t ≡ ends → (is_some (lookup (is_at (nat_cmp t)) new_entries) ≡ true → is_some (first_in_list (rest_of_list (ids_of links (ends_at entries t)))) ≡ true) →
    ((u : ℕ) → u ≢ t → lookup (is_at (nat_cmp u)) new_entries ≡ lookup (is_at (nat_cmp u)) entries) →
    Changed links links entries new_entries t (rest_of_list (slots_of (entry_ids links entries) t))
changed_rest links entries new_entries t ends a line this fill others =
    let xs = ids_of links (ends_at entries t) in
    subst (λ ys. Changed links links entries new_entries t (rest_of_list ys)) (sym (found_ids links entries t))
    (changed links links entries new_entries t (rest_of_list xs) (filled_beside links entries t a)
    (become_fewer links links (ends_at entries) (ends_at new_entries) t (rest_of_list xs) a.lines (λ id e. rest_listed xs id e)
    (subst (λ x. IsLine links x (rest_of_list xs)) (sym this) line) (λ ys other c p. c) (λ u n. ap (λ (x : Option (Chain ℕ)). unwrap_or x no_chain) (others u n)))
    fill others)

-- the chain without its first
module _ (links : Links) (entries new_entries : List (ℕ × Chain ℕ)) (t : ℕ) (ends new_ends : Chain ℕ) (first : Option ℕ) (a : AreIdLists links entries) (e : ends ≡ ends_at entries t)
    (l : (xs : List ℕ) → IsLine links ends xs → IsLine links new_ends (chains.rest_of xs)) (f : (xs : List ℕ) → IsLine links new_ends xs → first ≡ chains.first_of xs)
    (others : (u : ℕ) → u ≢ t → lookup (is_at (nat_cmp u)) new_entries ≡ lookup (is_at (nat_cmp u)) entries) where
  rest : List ℕ
  rest = rest_of_list (ids_of links (ends_at entries t))

  new_line : IsLine links new_ends (rest_of_list (ids_of links (ends_at entries t)))
  new_line =
      subst (IsLine links new_ends) (same_rest (ids_of links (ends_at entries t))) (l (ids_of links (ends_at entries t)) (subst (λ x. IsLine links x (ids_of links (ends_at entries t))) (sym e) (a.lines.line t)))

  first_left : is_some (first_in_list (rest_of_list (ids_of links (ends_at entries t)))) ≡ is_some first
  first_left = ap is_some (sym (f (rest_of_list (ids_of links (ends_at entries t))) new_line ∙ same_first (rest_of_list (ids_of links (ends_at entries t)))))

  -- if some are left
  pub changed_pop : is_some first ≡ true → ends_at new_entries t ≡ new_ends → Changed links links entries new_entries t (rest_of_list (slots_of (entry_ids links entries) t))
  changed_pop s this = changed_rest links entries new_entries t new_ends a new_line this (λ k. first_left ∙ s) others

  -- and if none is
  pub changed_away : is_some first ≡ false → lookup (is_at (nat_cmp t)) new_entries ≡ None → Changed links links entries new_entries t (rest_of_list (slots_of (entry_ids links entries) t))
  changed_away s this =
      let none : rest_of_list (ids_of links (ends_at entries t)) ≡ [] = none_left (rest_of_list (ids_of links (ends_at entries t))) (first_left ∙ s) in
      changed_rest links entries new_entries t no_chain a (subst (IsLine links no_chain) (sym none) (record { first = refl; last = refl; leads = tt; held = tt })) (ap (λ (x : Option (Chain ℕ)). unwrap_or x no_chain) this)
      (λ k. absurd (let z : false ≡ true = ap is_some (sym this) ∙ k in cc)) others

pub lists_new : (links : Links) (entries : List (ℕ × Chain ℕ)) → entries ≡ [] → AreIdLists links entries
lists_new links entries e = subst (AreIdLists links) (sym e) (record { lines = lines_none links (λ t. no_chain) (λ k. refl) (λ k. refl); filled = λ t k. absurd (let z : false ≡ true = k in cc) })

-- what a first id tells of the rest
pub given_none : (xs : List ℕ) → None ≡ first_in_list xs → xs ≡ rest_of_list xs
given_none [] e = refl
given_none (x ∷ xs) e = absurd cc

-- a transaction without an entry has no id
pub entry_none : (links : Links) (entries : List (ℕ × Chain ℕ)) (t : ℕ) → lookup (is_at (nat_cmp t)) entries ≡ None → slots_of (entry_ids links entries) t ≡ []
entry_none links entries t e = found_ids links entries t ∙ ap (λ (o : Option (Chain ℕ)). ids_of links (unwrap_or o no_chain)) e

-- links of which those of all lists stay
pub record ListsStay (links new_links : Links) (entries : List (ℕ × Chain ℕ)) : Type 0 where
  pub lists : AreIdLists new_links entries
  pub slots : (t : ℕ) → slots_of (entry_ids new_links entries) t ≡ slots_of (entry_ids links entries) t

pub lists_stay : (links new_links : Links) (entries : List (ℕ × Chain ℕ)) → ((t id : ℕ) → is_listed (ids_of links (ends_at entries t)) id ≡ true → link_at new_links id ≡ link_at links id) → AreIdLists links entries → ListsStay links new_links entries
lists_stay links new_links entries f a =
    let stay = lines_stay links new_links (ends_at entries) f a.lines in
    let slots : (t : ℕ) → slots_of (entry_ids new_links entries) t ≡ slots_of (entry_ids links entries) t = λ t. found_ids new_links entries t ∙ (stay.ids t ∙ sym (found_ids links entries t)) in
    record {
      lists = record {
        lines = stay.kept;
        filled = λ t k. ap (λ xs. is_some (first_in_list xs)) (slots t) ∙ a.filled t (found_known links entries t ∙ (sym (found_known new_links entries t) ∙ k));
      };
      slots = slots;
    }

-- an id that is free is in no list
module _ (nodes : Nodes) (entries : List (ℕ × Chain ℕ)) (id : ℕ) (a : AreIdLists (own_links_in nodes) entries) (vacant : slice_index_or nodes id None ≡ None) where
  unlinked : (u : ℕ) → is_listed (ids_of (own_links_in nodes) (ends_at entries u)) id ≡ false
  unlinked u = linkless (own_links_in nodes) (ends_at entries) u id a.lines (link_of (λ (n : Node). n.next_own) nodes id None vacant)

  pub free_unlisted : (u : ℕ) → is_listed (slots_of (entry_ids (own_links_in nodes) entries) u) id ≡ false
  free_unlisted u = ap (λ xs. is_listed xs id) (found_ids (own_links_in nodes) entries u) ∙ unlinked u

  -- a node comes under it
  pub grown_node : (new_nodes : Nodes) (new_entries : List (ℕ × Chain ℕ)) (t : ℕ) → ((other : ℕ) → other ≢ id → slice_index_or new_nodes other None ≡ slice_index_or nodes other None) →
      ((u : ℕ) → ends_at new_entries u ≡ ends_at entries u) → ((u : ℕ) → u ≢ t → lookup (is_at (nat_cmp u)) new_entries ≡ lookup (is_at (nat_cmp u)) entries) →
      Grown (own_links_in nodes) (own_links_in new_nodes) entries new_entries t
  grown_node new_nodes new_entries t others s o =
      grown (own_links_in nodes) (own_links_in new_nodes) entries new_entries t
      (λ u x l. link_kept (λ (n : Node). n.next_own) nodes new_nodes x (others x (λ e. let z : false ≡ true = sym (unlinked u) ∙ (ap (is_listed (ids_of (own_links_in nodes) (ends_at entries u))) (sym e) ∙ l) in cc))) s o a

-- a node that is in no list goes
pub freed_lists : (nodes new_nodes : Nodes) (entries : List (ℕ × Chain ℕ)) (id : ℕ) → ((u : ℕ) → is_listed (slots_of (entry_ids (own_links_in nodes) entries) u) id ≡ false) →
    ((other : ℕ) → other ≢ id → slice_index_or new_nodes other None ≡ slice_index_or nodes other None) → AreIdLists (own_links_in nodes) entries → ListsStay (own_links_in nodes) (own_links_in new_nodes) entries
freed_lists nodes new_nodes entries id f others a =
    lists_stay (own_links_in nodes) (own_links_in new_nodes) entries
    (λ u x l. link_kept (λ (n : Node). n.next_own) nodes new_nodes x (others x (λ e.
    let z : false ≡ true = sym (f u) ∙ (ap (λ xs. is_listed xs id) (found_ids (own_links_in nodes) entries u) ∙ (ap (is_listed (ids_of (own_links_in nodes) (ends_at entries u))) (sym e) ∙ l)) in cc))) a
