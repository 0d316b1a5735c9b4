-- The slots' lists over their links, by their ends.
use Rattle.std.proofs.Common.{◌≡◌, ◌≢◌, ℕ, List, [], ◌∷◌, ◌++◌, true, ◌||◌, ◌==◌, Option, false, sym, ◌∙◌, ap, subst, inl, inr}
use Rattle.std.proofs.lemmas.Bool.{or_cases, or_right}
use Rattle.pc_chain.specs.declared.chain.Chain.{Chain}
use Rattle.pc_chain.specs.Chains as chains
use Rattle.pc_chain.specs.Chains.{Avoids, AreDisjoint, Leads}
use Rattle.pc_locks.specs.Lines.{Links, next_id, ids_of, ids_by, IsLine, IsQueue, AreLines, LineBecomes}
use Rattle.pc_locks.specs.States.{is_listed, first_in_list, rest_of_list, last_in_list}
use Rattle.pc_locks.proofs.LineLemmas.{become_pushed, become_fewer, avoids_unlisted, rest_listed, same_first, same_rest, same_last}

-- an id at the end of the slot's list
pub slot_push : (links new_links : Links) (ends new_ends : ℕ → Chain ℕ) (s id : ℕ) (old chain : Chain ℕ) → AreLines links ends → old ≡ ends s → ((u : ℕ) → is_listed (ids_by links ends u) id ≡ false) →
    ((xs : List ℕ) → IsLine links old xs → Avoids id xs → IsLine new_links chain (xs ++ id ∷ [])) →
    ((xs ys : List ℕ) (other : Chain ℕ) → IsLine links old xs → IsLine links other ys → AreDisjoint xs ys → Avoids id ys → IsLine new_links other ys) →
    new_ends s ≡ chain → ((u : ℕ) → u ≢ s → new_ends u ≡ ends u) → LineBecomes links new_links ends new_ends s (ids_by links ends s ++ id ∷ [])
slot_push links new_links ends new_ends s id old chain a e f l o n m =
    let xs = ids_of links (ends s) in
    let line : IsLine links old xs = subst (λ c. IsLine links c xs) (sym e) (a.line s) in
    become_pushed links new_links ends new_ends s id a f
    (subst (λ c. IsLine new_links c (xs ++ id ∷ [])) (sym n) (l xs line (avoids_unlisted id xs (f s))))
    (λ ys other c p q. o xs ys other line c p q) m

fewer_listed : (before rest : List ℕ) (id : ℕ) → is_listed (before ++ rest_of_list rest) id ≡ true → is_listed (before ++ rest) id ≡ true
fewer_listed [] [] id e = e
fewer_listed [] (x ∷ xs) id e = or_right (x == id) (is_listed xs id) e
fewer_listed (x ∷ xs) rest id e = elim (or_cases (x == id) (is_listed (xs ++ rest_of_list rest) id) e) [
  | inl f ↦ ap (λ b. b || is_listed (xs ++ rest) id) f
  | inr f ↦ or_right (x == id) (is_listed (xs ++ rest) id) (fewer_listed xs rest id f)
]

-- an id out of the slot's list
pub slot_remove : (links new_links : Links) (ends new_ends : ℕ → Chain ℕ) (s : ℕ) (old chain : Chain ℕ) (previous : Option ℕ) (before rest : List ℕ) → AreLines links ends → old ≡ ends s →
    ids_by links ends s ≡ before ++ rest → previous ≡ last_in_list before →
    ((b r : List ℕ) → IsLine links old (b ++ r) → previous ≡ chains.last_of b → IsLine new_links chain (b ++ chains.rest_of r)) →
    ((b r ys : List ℕ) (other : Chain ℕ) → IsLine links old (b ++ r) → previous ≡ chains.last_of b → IsLine links other ys → AreDisjoint (b ++ r) ys → IsLine new_links other ys) →
    new_ends s ≡ chain → ((u : ℕ) → u ≢ s → new_ends u ≡ ends u) → LineBecomes links new_links ends new_ends s (before ++ rest_of_list rest)
slot_remove links new_links ends new_ends s old chain previous before rest a e parts p l o n m =
    let line : IsLine links old (before ++ rest) = subst (IsLine links old) parts (subst (λ c. IsLine links c (ids_of links (ends s))) (sym e) (a.line s)) in
    let q : previous ≡ chains.last_of before = p ∙ sym (same_last before) in
    become_fewer links new_links ends new_ends s (before ++ rest_of_list rest) a
    (λ id f. ap (λ ys. is_listed ys id) parts ∙ fewer_listed before rest id f)
    (subst (λ c. IsLine new_links c (before ++ rest_of_list rest)) (sym n) (subst (λ ys. IsLine new_links chain (before ++ ys)) (same_rest rest) (l before rest line q)))
    (λ ys other c ap_. o before rest ys other line q c (subst (λ zs. AreDisjoint zs ys) parts ap_)) m

next_of_listed : (next : ℕ → Option ℕ) (before rest : List ℕ) (id : ℕ) → Leads next (before ++ id ∷ rest) → next id ≡ chains.first_of rest
next_of_listed next [] rest id l = l.0
next_of_listed next (x ∷ xs) rest id l = next_of_listed next xs rest id l.2

split_line : (links : Links) (chain : Chain ℕ) (id : ℕ) (before rest : List ℕ) → IsQueue links chain → ids_of links chain ≡ before ++ id ∷ rest → IsLine links chain (before ++ id ∷ rest)
split_line links chain id before rest a e = subst (IsLine links chain) e a

pub next_listed : (links : Links) (chain : Chain ℕ) (id : ℕ) (before rest : List ℕ) → IsQueue links chain → ids_of links chain ≡ before ++ id ∷ rest → next_id links id ≡ first_in_list rest
next_listed links chain id before rest a e = next_of_listed (next_id links) before rest id (split_line links chain id before rest a e).leads ∙ same_first rest

pub first_id : (links : Links) (chain : Chain ℕ) (at : Option ℕ) → IsQueue links chain → ((xs : List ℕ) → IsLine links chain xs → at ≡ chains.first_of xs) → at ≡ first_in_list (ids_of links chain)
first_id links chain at a f = f (ids_of links chain) a ∙ same_first (ids_of links chain)

-- the first id out of the slot's list
pub slot_first : (links : Links) (ends new_ends : ℕ → Chain ℕ) (s : ℕ) (old chain : Chain ℕ) → AreLines links ends → old ≡ ends s → ((xs : List ℕ) → IsLine links old xs → IsLine links chain (chains.rest_of xs)) →
    new_ends s ≡ chain → ((u : ℕ) → u ≢ s → new_ends u ≡ ends u) → LineBecomes links links ends new_ends s (rest_of_list (ids_by links ends s))
slot_first links ends new_ends s old chain a e l n m =
    let xs = ids_of links (ends s) in
    let line : IsLine links old xs = subst (λ c. IsLine links c xs) (sym e) (a.line s) in
    become_fewer links links ends new_ends s (rest_of_list xs) a (λ id f. rest_listed xs id f)
    (subst (λ c. IsLine links c (rest_of_list xs)) (sym n) (subst (IsLine links chain) (same_rest xs) (l xs line)))
    (λ ys other c d. c) m

-- the list of the slot's ends
pub ends_line : (links : Links) (ends : ℕ → Chain ℕ) (s : ℕ) (chain : Chain ℕ) → AreLines links ends → chain ≡ ends s → IsQueue links chain
ends_line links ends s chain a e = subst (IsQueue links) (sym e) (a.line s)
