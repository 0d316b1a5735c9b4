-- What a write or a read that is noted leaves.
use Rattle.std.proofs.Common.{◌≡◌, ℕ, List, [], ◌∷◌, ◌++◌, length, get_or, Some, None, Result, Ok, Err, IfOk, IfErr, is_ok, is_some, slice_get, Option, refl, sym, ap, subst, ◌∙◌, cond, Bool, true, false}
use Rattle.std.specs.Prelude.{insert}
use Rattle.std.proofs.lemmas.List.{map_push, length-map}
use Rattle.pc_types.specs.declared.Change.{Change}
use Rattle.pc_types.specs.declared.Write.{Write}
use Rattle.pc_model.specs.Database.{with_write, written}
use Rattle.pc_model.specs.Places.{IsAt, IsGap}
use Rattle.pc_model.specs.Receipts.{Read, is_read}
use Rattle.pc_txn.specs.Notes.{noting}
use Rattle.pc_txn.specs.Orders.{key_position, entries, IsOrder}
use Rattle.pc_txn.specs.Sets.{written_keys, read_keys, change_at_position, merged_at}
use Rattle.pc_txn.proofs.Orders.{found_place, nowhere, order_added}
use Rattle.pc_txn.proofs.Written.{written_again, written_first, written_at, same_keys, has_written, has_read}

-- whether a search found the key is whether the key has a place
tells : (keys : List (List ℕ)) (order : List ℕ) (key : List ℕ) (r : Result ℕ ℕ) → IsOrder keys order → IfOk r (IsAt (entries keys order) key) → IfErr r (IsGap (entries keys order) key) → is_ok r ≡ is_some (key_position keys key)
tells keys order key (Ok i) sorted at gap = sym (ap is_some (sym (sorted.finds key) ∙ at.finds ([], 0)))
tells keys order key (Err i) sorted at gap = sym (ap is_some (sym (sorted.finds key) ∙ gap.finds))

pub tells_written : (ws : List Write) (order : List ℕ) (key : List ℕ) (r : Result ℕ ℕ) → IsOrder (written_keys ws) order → IfOk r (IsAt (entries (written_keys ws) order) key) → IfErr r (IsGap (entries (written_keys ws) order) key) → is_ok r ≡ is_some (written ws key)
tells_written ws order key r sorted at gap = tells (written_keys ws) order key r sorted at gap ∙ has_written ws key

pub tells_read : (rs : List Read) (order : List ℕ) (key : List ℕ) (r : Result ℕ ℕ) → IsOrder (read_keys rs) order → IfOk r (IsAt (entries (read_keys rs) order) key) → IfErr r (IsGap (entries (read_keys rs) order) key) → is_ok r ≡ is_read rs key
tells_read rs order key r sorted at gap = tells (read_keys rs) order key r sorted at gap ∙ has_read rs key

-- a write of a key that is written
module _ (ws new : List Write) (order : List ℕ) (w : Write) (at : ℕ) (sorted : IsOrder (written_keys ws) order) (there : IsAt (entries (written_keys ws) order) w.key at) (is : new ≡ merged_at ws (get_or order at 0) w.change) where
  place : key_position (written_keys ws) w.key ≡ Some (get_or order at 0)
  place = found_place (written_keys ws) order w.key at sorted there

  pub noted_again : new ≡ with_write ws w
  noted_again = is ∙ sym (written_again ws w (get_or order at 0) place)

  pub order_again : IsOrder (written_keys new) order
  order_again = subst (λ keys. IsOrder keys order) (sym (ap written_keys is ∙ same_keys ws (get_or order at 0) w.change)) sorted

-- what is written of a key that was found, or was not
pub found_change : (ws : List Write) (order : List ℕ) (key : List ℕ) (at : ℕ) → IsOrder (written_keys ws) order → IsAt (entries (written_keys ws) order) key at → written ws key ≡ change_at_position ws (get_or order at 0)
found_change ws order key at sorted there = written_at ws key (get_or order at 0) (found_place (written_keys ws) order key at sorted there)

pub no_change : (ws : List Write) (order : List ℕ) (key : List ℕ) (at : ℕ) → IsOrder (written_keys ws) order → IsGap (entries (written_keys ws) order) key at → written ws key ≡ None
no_change ws order key at sorted gap = not_some (written ws key) (sym (has_written ws key) ∙ ap is_some (nowhere (written_keys ws) order key at sorted gap))
  where
    not_some : (o : Option Change) → is_some o ≡ false → o ≡ None
    not_some None e = refl
    not_some (Some c) e = cc

-- a first write of a key
module _ (ws new : List Write) (order after : List ℕ) (w : Write) (at n : ℕ) (sorted : IsOrder (written_keys ws) order) (gap : IsGap (entries (written_keys ws) order) w.key at) (count : n ≡ length ws) (put_in : after ≡ insert order at n) (is : new ≡ ws ++ w ∷ []) where
  pub noted_first : new ≡ with_write ws w
  noted_first = is ∙ sym (written_first ws w (nowhere (written_keys ws) order w.key at sorted gap))

  pub order_first : IsOrder (written_keys new) after
  order_first =
      subst (λ keys. IsOrder keys after) (sym (ap written_keys is ∙ map_push (λ (v : Write). v.key) ws w))
      (subst (IsOrder (written_keys ws ++ w.key ∷ [])) (sym (put_in ∙ ap (insert order at) (count ∙ sym (length-map ws (λ (v : Write). v.key))))) (order_added (written_keys ws) order w.key at sorted gap))

-- a read of a key that was read
module _ (own : Bool) (rs : List Read) (order : List ℕ) (key : List ℕ) (content : Option (List ℕ)) (at : ℕ) (sorted : IsOrder (read_keys rs) order) (there : IsAt (entries (read_keys rs) order) key at) where
  pub read_again : rs ≡ noting own rs key content
  read_again = by_own own
    where
      was : is_read rs key ≡ true
      was = sym (has_read rs key) ∙ ap is_some (sym (sorted.finds key) ∙ there.finds ([], 0))

      by_own : (b : Bool) → rs ≡ noting b rs key content
      by_own true = refl
      by_own false = sym (ap (λ b. cond b rs (rs ++ (key, content) ∷ [])) was)

-- what is added is at the end
pub added_last : {X : Type 0} (xs : List X) (x : X) → slice_get (xs ++ x ∷ []) (length xs) ≡ Some x
added_last [] x = refl
added_last (y ∷ ys) x = added_last ys x

-- a first read of a key
module _ (rs new : List Read) (order after : List ℕ) (key : List ℕ) (content : Option (List ℕ)) (at n : ℕ) (sorted : IsOrder (read_keys rs) order) (gap : IsGap (entries (read_keys rs) order) key at) (count : n ≡ length rs) (put_in : after ≡ insert order at n) (is : new ≡ rs ++ (key, content) ∷ []) where
  pub read_first : new ≡ noting false rs key content
  read_first =
      let not : is_read rs key ≡ false = sym (has_read rs key) ∙ ap is_some (nowhere (read_keys rs) order key at sorted gap) in
      is ∙ sym (ap (λ b. cond b rs (rs ++ (key, content) ∷ [])) not)

  pub reads_first : IsOrder (read_keys new) after
  reads_first =
      subst (λ keys. IsOrder keys after) (sym (ap read_keys is ∙ map_push (λ (r : Read). r.0) rs (key, content)))
      (subst (IsOrder (read_keys rs ++ key ∷ [])) (sym (put_in ∙ ap (insert order at) (count ∙ sym (length-map rs (λ (r : Read). r.0))))) (order_added (read_keys rs) order key at sorted gap))

  pub read_there : slice_get new n ≡ Some (key, content)
  read_there = ap (λ m. slice_get new m) count ∙ ap (λ l. slice_get l (length rs)) is ∙ added_last rs (key, content)
