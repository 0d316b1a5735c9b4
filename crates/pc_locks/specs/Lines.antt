-- Lists of ids that are linked.
use Rattle.std.specs.Prelude.{◌≡◌, ◌≢◌, ℕ, zero, suc, ◌<◌, ◌≤◌, List, [], ◌∷◌, length, map, Option, Some, None, is_some, unwrap_or, slice_index_or, true}
use Rattle.std.specs.List.{insert}
use Rattle.std.specs.List.Sorted.{IsStrictlySortedBy}
use Rattle.std.specs.Map.{lookup, keys_of}
use Rattle.std.specs.BTreeMap.{is_at}
use Rattle.std.specs.Ordering.{nat_cmp}
use Rattle.pc_chain.specs.declared.chain.Chain.{Chain}
use Rattle.pc_chain.specs.Chains.{IsChain}
use Rattle.pc_locks.specs.States.{is_listed, AreFilled}

-- the link of each id that has one
abbrev pub Links : Type 0
Links = List (Option (Option ℕ))

-- the link of an id
abbrev pub link_at : Links → ℕ → Option (Option ℕ)
link_at links id = slice_index_or links id None

-- the id has a link
abbrev pub HasLink : Links → ℕ → Type 0
HasLink links id = is_some (link_at links id) ≡ true

-- what an id's link leads to
abbrev pub next_id : Links → ℕ → Option ℕ
next_id links id = unwrap_or (link_at links id) None

-- at most that many ids, from this one on
abbrev pub linked_ids : Links → ℕ → Option ℕ → List ℕ
linked_ids links n None = []
linked_ids links zero (Some id) = []
linked_ids links (suc n) (Some id) = id ∷ linked_ids links n (next_id links id)

-- the ids of a chain
abbrev pub ids_of : Links → Chain ℕ → List ℕ
ids_of links chain = linked_ids links (length links) chain.first

-- over these links the chain is this list
abbrev pub IsLine : Links → Chain ℕ → List ℕ → Type 0
IsLine links chain ids = IsChain (HasLink links) (next_id links) chain ids

-- over these links the chain is a list
abbrev pub IsQueue : Links → Chain ℕ → Type 0
IsQueue links chain = IsLine links chain (ids_of links chain)

-- the ids of each, given the ends
abbrev pub ids_by : Links → (ℕ → Chain ℕ) → ℕ → List ℕ
ids_by links ends k = ids_of links (ends k)

-- each is a chain, and no id is in two of them
pub record AreLines (links : Links) (chains : ℕ → Chain ℕ) : Type 0 where
  pub line : (k : ℕ) → IsLine links (chains k) (ids_of links (chains k))
  pub apart : (j k id : ℕ) → is_listed (ids_of links (chains j)) id ≡ true → is_listed (ids_of links (chains k)) id ≡ true → j ≡ k

-- one of the chains became this list, and the others stayed
pub record LineBecomes (links new_links : Links) (lines new_lines : ℕ → Chain ℕ) (k : ℕ) (new : List ℕ) : Type 0 where
  pub kept : AreLines new_links new_lines
  pub this : ids_of new_links (new_lines k) ≡ new
  pub others : (j : ℕ) → j ≢ k → ids_of new_links (new_lines j) ≡ ids_of links (lines j)

-- the empty chain
abbrev pub no_chain : Chain ℕ
no_chain = record { first = None; last = None }

-- a transaction's ends
abbrev pub ends_at : List (ℕ × Chain ℕ) → ℕ → Chain ℕ
ends_at entries t = unwrap_or (lookup (is_at (nat_cmp t)) entries) no_chain

-- the entries ascend by the transaction's number
abbrev pub AreRising : List (ℕ × Chain ℕ) → Type 0
AreRising entries = IsStrictlySortedBy nat_cmp (keys_of entries)

-- the transaction's entry is there
pub record IsEntryAt (entries : List (ℕ × Chain ℕ)) (t at : ℕ) : Type 0 where
  pub within : at < length entries
  pub number : (e : ℕ × Chain ℕ) → (slice_index_or entries at e).0 ≡ t

-- the transaction has no entry, and one would go there
pub record IsGapAt (entries : List (ℕ × Chain ℕ)) (t at : ℕ) : Type 0 where
  pub within : at ≤ length entries
  pub none : lookup (is_at (nat_cmp t)) entries ≡ None
  pub rising : (ends : Chain ℕ) → AreRising (insert entries at (t, ends))

-- the ids of each transaction
abbrev pub entry_ids : Links → List (ℕ × Chain ℕ) → List (ℕ × List ℕ)
entry_ids links entries = map (λ e. (e.0, ids_of links e.1)) entries

-- what the transactions' lists keep; an entry whose list became empty is not kept
pub record AreIdLists (links : Links) (entries : List (ℕ × Chain ℕ)) : Type 0 where
  pub lines : AreLines links (ends_at entries)
  pub filled : AreFilled (entry_ids links entries)
