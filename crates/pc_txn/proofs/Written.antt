-- Writes and reads by the places of their keys.
use Rattle.std.proofs.Common.{◌≡◌, ℕ, zero, suc, ◌<◌, List, [], ◌∷◌, ◌++◌, length, set, get_or, Option, Some, None, option_map, is_some, refl, ap, ◌∙◌, arith, cond, Bool, true, false, ◌||◌}
use Rattle.pc_types.specs.declared.Write.{Write}
use Rattle.pc_types.specs.declared.Change.{Change}
use Rattle.pc_types.specs.Changes.{merged}
use Rattle.pc_model.specs.Database.{same_bytes, write_of, with_write, written}
use Rattle.pc_model.specs.Receipts.{Read, is_read}
use Rattle.pc_txn.specs.Orders.{key_position}
use Rattle.pc_txn.specs.Sets.{written_keys, read_keys, change_at_position, merged_at}

-- a write of a key that has a place is merged there
pub written_again : (ws : List Write) (w : Write) (i : ℕ) → key_position (written_keys ws) w.key ≡ Some i → with_write ws w ≡ merged_at ws i w.change
written_again [] w i h = absurd cc
written_again (v ∷ vs) w i h = by_test (same_bytes v.key w.key) (key_position (written_keys vs) w.key) i (written_again vs w) h
  where
    by_test : (b : Bool) (o : Option ℕ) (i : ℕ) → ((j : ℕ) → o ≡ Some j → with_write vs w ≡ merged_at vs j w.change) → cond b (Some 0) (option_map suc o) ≡ Some i → cond b (write_of v.key (merged v.change w.change) ∷ vs) (v ∷ with_write vs w) ≡ merged_at (v ∷ vs) i w.change
    by_test true o zero same h = refl
    by_test true o (suc i) same h = let is : 0 ≡ suc i = cc in absurd (omega arith)
    by_test false None i same h = absurd cc
    by_test false (Some j) zero same h = let is : suc j ≡ 0 = cc in absurd (omega arith)
    by_test false (Some j) (suc i) same h = let is : suc j ≡ suc i = cc in ap (λ rest. v ∷ rest) (same i (ap (λ n. Some n) (omega arith)))

-- a write of a key that has no place goes to the end
pub written_first : (ws : List Write) (w : Write) → key_position (written_keys ws) w.key ≡ None → with_write ws w ≡ ws ++ w ∷ []
written_first [] w h = refl
written_first (v ∷ vs) w h = by_test (same_bytes v.key w.key) (key_position (written_keys vs) w.key) (written_first vs w) h
  where
    by_test : (b : Bool) (o : Option ℕ) → (o ≡ None → with_write vs w ≡ vs ++ w ∷ []) → cond b (Some 0) (option_map suc o) ≡ None → cond b (write_of v.key (merged v.change w.change) ∷ vs) (v ∷ with_write vs w) ≡ v ∷ vs ++ w ∷ []
    by_test true o same h = absurd cc
    by_test false None same h = ap (λ rest. v ∷ rest) (same refl)
    by_test false (Some j) same h = absurd cc

-- a change that is merged with another leaves the keys
pub same_keys : (ws : List Write) (i : ℕ) (later : Change) → written_keys (merged_at ws i later) ≡ written_keys ws
same_keys [] i later = refl
same_keys (v ∷ vs) zero later = refl
same_keys (v ∷ vs) (suc i) later = ap (λ ks. v.key ∷ ks) (same_keys vs i later)

-- what is written of a key that has a place is there
pub written_at : (ws : List Write) (key : List ℕ) (i : ℕ) → key_position (written_keys ws) key ≡ Some i → written ws key ≡ change_at_position ws i
written_at [] key i h = absurd cc
written_at (v ∷ vs) key i h = by_test (same_bytes v.key key) (key_position (written_keys vs) key) i (written_at vs key) h
  where
    by_test : (b : Bool) (o : Option ℕ) (i : ℕ) → ((j : ℕ) → o ≡ Some j → written vs key ≡ change_at_position vs j) → cond b (Some 0) (option_map suc o) ≡ Some i → cond b (Some v.change) (written vs key) ≡ change_at_position (v ∷ vs) i
    by_test true o zero same h = refl
    by_test true o (suc i) same h = let is : 0 ≡ suc i = cc in absurd (omega arith)
    by_test false None i same h = absurd cc
    by_test false (Some j) zero same h = let is : suc j ≡ 0 = cc in absurd (omega arith)
    by_test false (Some j) (suc i) same h = let is : suc j ≡ suc i = cc in same i (ap (λ n. Some n) (omega arith))

-- the write that was put at a place is the merged one
pub set_merged : (ws : List Write) (i : ℕ) (w : Write) (later : Change) → i < length ws → w ≡ get_or ws i w → set ws i (write_of w.key (merged w.change later)) ≡ merged_at ws i later
set_merged [] i w later below is = absurd (omega arith)
set_merged (v ∷ vs) zero w later below is = ap (λ (u : Write). write_of u.key (merged u.change later) ∷ vs) is
set_merged (v ∷ vs) (suc i) w later below is = ap (λ rest. v ∷ rest) (set_merged vs i w later (omega arith) is)

-- a place is within the list
pub place_within : (keys : List (List ℕ)) (key : List ℕ) (i : ℕ) → key_position keys key ≡ Some i → i < length keys
place_within [] key i h = absurd cc
place_within (k ∷ ks) key i h = by_test (same_bytes k key) (key_position ks key) (place_within ks key) h
  where
    by_test : (b : Bool) (o : Option ℕ) → ((j : ℕ) → o ≡ Some j → j < length ks) → cond b (Some 0) (option_map suc o) ≡ Some i → i < suc (length ks)
    by_test true o below h = let is : 0 ≡ i = cc in omega arith
    by_test false None below h = absurd cc
    by_test false (Some j) below h = let is : suc j ≡ i = cc in omega (arith, below j refl)

later : (o : Option ℕ) → is_some (option_map suc o) ≡ is_some o
later None = refl
later (Some i) = refl

-- a key that has a place among those of the writes is written
pub has_written : (ws : List Write) (key : List ℕ) → is_some (key_position (written_keys ws) key) ≡ is_some (written ws key)
has_written [] key = refl
has_written (w ∷ ws) key = by_test (same_bytes w.key key) (has_written ws key)
  where
    by_test : (b : Bool) → is_some (key_position (written_keys ws) key) ≡ is_some (written ws key) → is_some (cond b (Some 0) (option_map suc (key_position (written_keys ws) key))) ≡ is_some (cond b (Some w.change) (written ws key))
    by_test true behind = refl
    by_test false behind = later (key_position (written_keys ws) key) ∙ behind

-- a key that has a place among those of the reads is read
pub has_read : (rs : List Read) (key : List ℕ) → is_some (key_position (read_keys rs) key) ≡ is_read rs key
has_read [] key = refl
has_read (r ∷ rs) key = by_test (same_bytes r.0 key) (has_read rs key)
  where
    by_test : (b : Bool) → is_some (key_position (read_keys rs) key) ≡ is_read rs key → is_some (cond b (Some 0) (option_map suc (key_position (read_keys rs) key))) ≡ (b || is_read rs key)
    by_test true behind = refl
    by_test false behind = later (key_position (read_keys rs) key) ∙ behind
