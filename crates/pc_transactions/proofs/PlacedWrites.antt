-- How open transactions' writes stay in place, and their numbers apart, whatever one of them does.
use Rattle.pc_model.proofs.ChangeLaws.{merge_if}
use Rattle.pc_model.specs.Changes.{Applies, AppliesIfAny}
use Rattle.std.proofs.Common.{◌≡◌, ℕ, ◌+◌, ◌<◌, ◌≤◌, List, length, set, Option, Some, None, is_some, refl, sym, ap, subst, ◌∙◌, arith, Bool, true, false, eqb, cond, inl, inr}
use Rattle.std.specs.Prelude.{MatchOption, option_map, ◌⊎◌}
use Rattle.std.proofs.lemmas.Bool.Decides.{nat_tests}
use Rattle.std.proofs.lemmas.List.{get_or-set_same, get_or-set_other}
use Rattle.pc_types.specs.declared.Write.{Write}
use Rattle.pc_types.specs.declared.Change.{Change}
use Rattle.pc_types.specs.Changes.{changed_content}
use Rattle.pc_model.specs.Database.{key_order, same_bytes, with_write, written, seen}
use Rattle.std.proofs.lemmas.Cmp.{eq_by_cmp_equiv}
use Rattle.pc_model.proofs.JoinLaws.{one_key}
use Rattle.pc_model.proofs.WrittenKeyLaws.{written_with, merged_if}
use Rattle.pc_slots.specs.Slots.{Pending}
use Rattle.pc_records.specs.Rows.{Row, record_of, stored}
use Rattle.pc_records.specs.Tables.{RecordsView, pending_at, pending_without, made_committed, pending_value, read_of, IsClearFor}
use Rattle.pc_transactions.specs.Sessions.{number_in, class_at, writes_in, left_by, seen_in, after_writing}
use Rattle.pc_transactions.specs.Actives.{Active}
use Rattle.pc_transactions.specs.InPlace.{at_place, write_in, AreInPlace, AreNumbered}

-- what is so of the session that is set, and of the others as they were, is so of each
pub by_place : (ss : List (Option Active)) (j : ℕ) (x : Option Active) (P : ℕ → Option Active → Type 0) → j < length ss → P j x → ((i : ℕ) → eqb j i ≡ false → P i (at_place ss i)) → (i : ℕ) → P i (at_place (set ss j x) i)
by_place ss j x P inside own others i = by_test (eqb j i) refl
  where
    not_both : (b : Bool) → b ≡ true → b ≡ false → ⊥
    not_both b is not = let both : true ≡ false = sym is ∙ not in cc

    by_test : (b : Bool) → eqb j i ≡ b → P i (at_place (set ss j x) i)
    by_test true is = subst (λ k. P k (at_place (set ss j x) k)) (let one : j ≡ i = grind (arith, nat_tests, is) in one) (subst (P j) (sym (get_or-set_same ss j x None inside)) own)
    by_test false is = subst (P i) (sym (get_or-set_other ss j i x None (λ one. not_both (eqb j i) (grind (arith, nat_tests, one)) is))) (others i is)

abbrev in_place : Active → Option (List ℕ) → Pending
in_place a value = record { by = a.number; class = a.class; value = value }

-- a transaction's write in place has its number and its class
pub number_of : (rows : List Row) (a : Option Active) (q : List ℕ) (p : Pending) → write_in rows a q ≡ Some p → (p.by ≡ number_in a) × (p.class ≡ class_at a) × (is_some a ≡ true)
number_of rows None q p e = absurd (let no : false ≡ true = ap is_some e in cc)
number_of rows (Some a) q p e = by_left (left_by a.writes rows q) e
  where
    by_left : (o : Option (Option (List ℕ))) → option_map (in_place a) o ≡ Some p → (p.by ≡ a.number) × (p.class ≡ a.class) × (true ≡ true)
    by_left None e = absurd (let no : false ≡ true = ap is_some e in cc)
    by_left (Some v) e = (cc, cc, refl)

there_of : (rows : List Row) (a : Option Active) (q : List ℕ) → is_some (write_in rows a q) ≡ true → is_some a ≡ true
there_of rows None q e = absurd (let no : false ≡ true = e in cc)
there_of rows (Some a) q e = refl

some_mapped : {X Y : Type 0} (f : X → Y) (o : Option X) → is_some (option_map f o) ≡ is_some o
some_mapped f None = refl
some_mapped f (Some x) = refl

-- the writes leave something of the keys that they are of
pub is_left : (ws : List Write) (rows : List Row) (q : List ℕ) → is_some (left_by ws rows q) ≡ is_some (written ws q)
is_left ws rows q = some_mapped _ (written ws q)

is_written : (rows : List Row) (a : Option Active) (q : List ℕ) → is_some (write_in rows a q) ≡ is_some (written (writes_in a) q)
is_written rows None q = refl
is_written rows (Some a) q = some_mapped (in_place a) (left_by a.writes rows q) ∙ is_left a.writes rows q

value_in : (rows : List Row) (a : Option Active) (q : List ℕ) → is_some a ≡ true → option_map pending_value (write_in rows a q) ≡ left_by (writes_in a) rows q
value_in rows None q e = absurd (let no : false ≡ true = e in cc)
value_in rows (Some a) q e = by_left (left_by a.writes rows q)
  where
    by_left : (o : Option (Option (List ℕ))) → option_map pending_value (option_map (in_place a) o) ≡ o
    by_left None = refl
    by_left (Some v) = refl

-- if the committed content of the key stays, so does a write of it
same_in : (rows now : List Row) (a : Option Active) (q : List ℕ) → stored (record_of now q) ≡ stored (record_of rows q) → write_in now a q ≡ write_in rows a q
same_in rows now None q e = refl
same_in rows now (Some a) q e = ap (λ c. option_map (in_place a) (option_map (λ change. changed_content change c) (written a.writes q))) e

-- writes that are in place over rows are in place over others with the same values
over_rows : (after : RecordsView) (rows : List Row) (ss : List (Option Active)) → ((q : List ℕ) → stored (record_of after.rows q) ≡ stored (record_of rows q)) → AreInPlace (record after { rows = rows }) ss → AreInPlace after ss
over_rows after rows ss same there = record {
  placed = λ i q some. there.placed i q (sym (ap is_some (same_in rows after.rows (at_place ss i) q (same q))) ∙ some) ∙ sym (same_in rows after.rows (at_place ss i) q (same q));
  owned = λ q. by_owner q (there.owned q);
  apply = λ i q. subst (AppliesIfAny (written (writes_in (at_place ss i)) q)) (sym (same q)) (there.apply i q);
}
  where
    by_owner : (q : List ℕ) → (pending_at after q ≡ None) ⊎ ((i : ℕ) × (pending_at after q ≡ write_in rows (at_place ss i) q)) → (pending_at after q ≡ None) ⊎ ((i : ℕ) × (pending_at after q ≡ write_in after.rows (at_place ss i) q))
    by_owner q (inl none) = inl none
    by_owner q (inr owner) = inr (owner.0, owner.1 ∙ sym (same_in rows after.rows (at_place ss owner.0) q (same q)))

some_of : {X : Type 0} (o : Option X) → is_some o ≡ true → (x : X) × (o ≡ Some x)
some_of None e = absurd (let no : false ≡ true = e in cc)
some_of (Some x) e = (x, refl)

none_of : {X : Type 0} (o : Option X) → is_some o ≡ false → o ≡ None
none_of None e = refl
none_of (Some x) e = absurd (let no : true ≡ false = e in cc)

second_of : {X : Type 0} (b : Bool) (x y : X) → b ≡ false → cond b x y ≡ y
second_of true x y e = absurd (let no : true ≡ false = e in cc)
second_of false x y e = refl

some_first : {X : Type 0} (b : Bool) (x : X) (o : Option X) → b ≡ true → is_some (cond b (Some x) o) ≡ true
some_first true x o e = refl
some_first false x o e = absurd (let no : false ≡ true = e in cc)

-- what is said of other keys stays after one more write, and something is said of its own
written_other : (ws : List Write) (w : Write) (q : List ℕ) → same_bytes w.key q ≡ false → written (with_write ws w) q ≡ written ws q
written_other ws w q other = written_with ws w q ∙ second_of (same_bytes w.key q) _ (written ws q) other

written_there : (ws : List Write) (w : Write) → is_some (written (with_write ws w) w.key) ≡ true
written_there ws w = ap is_some (written_with ws w w.key) ∙ some_first (same_bytes w.key w.key) _ (written ws w.key) ((eq_by_cmp_equiv key_order.total).refl w.key)

-- what a transaction's write of a key leaves is in its place once it has made the write, and its other writes are as they were
write_made : (rows : List Row) (a : Option Active) (w : Write) (value : Option (List ℕ)) (q : List ℕ) → is_some a ≡ true → value ≡ seen_in rows (after_writing a w) w.key →
    write_in rows (after_writing a w) q ≡ cond (same_bytes w.key q) (Some (let p : Pending = record { by = number_in a; class = class_at a; value = value } in p)) (write_in rows a q)
write_made rows None w value q there leaves = absurd (let no : false ≡ true = there in cc)
write_made rows (Some a) w value q there leaves = by_test (same_bytes w.key q) refl
  where
    committed : List ℕ → Option (List ℕ)
    committed k = stored (record_of rows k)

    by_change : (o : Option Change) (c : Option (List ℕ)) → is_some o ≡ true → option_map (in_place a) (option_map (λ change. changed_content change c) o) ≡ Some (in_place a (seen o c))
    by_change None c e = absurd (let no : false ≡ true = e in cc)
    by_change (Some change) c e = refl

    own : write_in rows (after_writing (Some a) w) w.key ≡ Some (in_place a value)
    own = by_change (written (with_write a.writes w) w.key) (committed w.key) (written_there a.writes w) ∙ ap (λ v. Some (in_place a v)) (sym leaves)

    by_test : (b : Bool) → same_bytes w.key q ≡ b → write_in rows (after_writing (Some a) w) q ≡ cond b (Some (in_place a value)) (write_in rows (Some a) q)
    by_test true e = ap (write_in rows (after_writing (Some a) w)) (sym (one_key w.key q e)) ∙ own
    by_test false e = ap (λ o. option_map (in_place a) (option_map (λ change. changed_content change (committed q)) o)) (written_other a.writes w q e)

-- with one more write, which applies to what is seen, what writes do to each key still applies to what is there
still_apply : (there : List ℕ → Option (List ℕ)) (ws : List Write) (w : Write) → ((q : List ℕ) → AppliesIfAny (written ws q) (there q)) → Applies w.change (seen (written ws w.key) (there w.key)) → (q : List ℕ) → AppliesIfAny (written (with_write ws w) q) (there q)
still_apply there ws w apply own q = subst (λ o. AppliesIfAny o (there q)) (sym (written_with ws w q)) (by_match (same_bytes w.key q) refl)
  where
    by_match : (b : Bool) → same_bytes w.key q ≡ b → AppliesIfAny (cond b (Some (merged_if (written ws w.key) w.change)) (written ws q)) (there q)
    by_match true e = subst (λ k. Applies (merged_if (written ws w.key) w.change) (there k)) (one_key w.key q e) (merge_if (written ws w.key) w.change (there w.key) (apply w.key) own).1
    by_match false e = apply q

-- a key of which nothing is written
none_applies : (o : Option Change) (there : Option (List ℕ)) → is_some o ≡ false → AppliesIfAny o there
none_applies None there e = tt
none_applies (Some change) there e = absurd (let no : true ≡ false = e in cc)

module _ (t : RecordsView) (ss : List (Option Active)) (begun : ℕ) (writes : AreInPlace t ss) (numbers : AreNumbered begun ss) where
  -- two transactions that have written one key are one
  pub one_writer : (i j : ℕ) (q : List ℕ) → is_some (write_in t.rows (at_place ss i) q) ≡ true → is_some (write_in t.rows (at_place ss j) q) ≡ true → i ≡ j
  one_writer i j q a b =
      let p = some_of (write_in t.rows (at_place ss i) q) a in
      let first = number_of t.rows (at_place ss i) q p.0 p.1 in
      let second = number_of t.rows (at_place ss j) q p.0 (sym (writes.placed j q b) ∙ writes.placed i q a ∙ p.1) in
      numbers.apart i j (there_of t.rows (at_place ss i) q a) (there_of t.rows (at_place ss j) q b) (sym first.0 ∙ second.0)

  -- what is in a place, if it has this transaction's number, is what this transaction has written
  pub own_write : (j : ℕ) (q : List ℕ) (p : Pending) → is_some (at_place ss j) ≡ true → pending_at t q ≡ Some p → p.by ≡ number_in (at_place ss j) → write_in t.rows (at_place ss j) q ≡ Some p
  own_write j q p there stands own = by_owner (writes.owned q)
    where
      by_owner : (pending_at t q ≡ None) ⊎ ((i : ℕ) × (pending_at t q ≡ write_in t.rows (at_place ss i) q)) → write_in t.rows (at_place ss j) q ≡ Some p
      by_owner (inl none) = absurd (let no : true ≡ false = ap is_some (sym stands ∙ none) in cc)
      by_owner (inr owner) =
          let is : write_in t.rows (at_place ss owner.0) q ≡ Some p = sym owner.1 ∙ stands in
          let found = number_of t.rows (at_place ss owner.0) q p is in
          let one : owner.0 ≡ j = numbers.apart owner.0 j found.2 there (sym found.0 ∙ own) in
          subst (λ i. write_in t.rows (at_place ss i) q ≡ Some p) one is

  -- a session whose transaction has the same writes changes nothing
  pub same_writes : (after : RecordsView) (j : ℕ) (x : Option Active) → j < length ss → ((q : List ℕ) → stored (record_of after.rows q) ≡ stored (record_of t.rows q)) → ((q : List ℕ) → pending_at after q ≡ pending_at t q) → ((q : List ℕ) → write_in t.rows x q ≡ write_in t.rows (at_place ss j) q) → ((q : List ℕ) → written (writes_in x) q ≡ written (writes_in (at_place ss j)) q) → AreInPlace after (set ss j x)
  same_writes after j x inside values stays same changes = over_rows after t.rows (set ss j x) values (record {
    placed = λ i q. by_place ss j x (λ k a. is_some (write_in t.rows a q) ≡ true → pending_at after q ≡ write_in t.rows a q) inside (λ some. stays q ∙ writes.placed j q (ap is_some (sym (same q)) ∙ some) ∙ sym (same q)) (λ k other some. stays q ∙ writes.placed k q some) i;
    owned = λ q. by_owner q (writes.owned q);
    apply = λ i q. by_place ss j x (λ k a. AppliesIfAny (written (writes_in a) q) (stored (record_of t.rows q))) inside (subst (λ o. AppliesIfAny o (stored (record_of t.rows q))) (sym (changes q)) (writes.apply j q)) (λ k other. writes.apply k q) i;
  })
    where
      still : (i : ℕ) (q : List ℕ) → write_in t.rows (at_place (set ss j x) i) q ≡ write_in t.rows (at_place ss i) q
      still i q = by_place ss j x (λ k a. write_in t.rows a q ≡ write_in t.rows (at_place ss k) q) inside (same q) (λ k other. refl) i

      by_owner : (q : List ℕ) → (pending_at t q ≡ None) ⊎ ((i : ℕ) × (pending_at t q ≡ write_in t.rows (at_place ss i) q)) → (pending_at after q ≡ None) ⊎ ((i : ℕ) × (pending_at after q ≡ write_in t.rows (at_place (set ss j x) i) q))
      by_owner q (inl none) = inl (stays q ∙ none)
      by_owner q (inr owner) = inr (owner.0, stays q ∙ owner.1 ∙ sym (still owner.0 q))

  -- if what is in each place stays, the sessions' writes do
  pub same_places : (after : RecordsView) → ((q : List ℕ) → stored (record_of after.rows q) ≡ stored (record_of t.rows q)) → ((q : List ℕ) → pending_at after q ≡ pending_at t q) → AreInPlace after ss
  same_places after values stays = over_rows after t.rows ss values (record { placed = λ i q some. stays q ∙ writes.placed i q some; owned = λ q. by_owner q (writes.owned q); apply = writes.apply })
    where
      by_owner : (q : List ℕ) → (pending_at t q ≡ None) ⊎ ((i : ℕ) × (pending_at t q ≡ write_in t.rows (at_place ss i) q)) → (pending_at after q ≡ None) ⊎ ((i : ℕ) × (pending_at after q ≡ write_in t.rows (at_place ss i) q))
      by_owner q (inl none) = inl (stays q ∙ none)
      by_owner q (inr owner) = inr (owner.0, stays q ∙ owner.1)

  -- a write goes into a place where no other transaction has one
  pub wrote_in_place : (after : RecordsView) (j : ℕ) (w : Write) (value : Option (List ℕ)) → j < length ss → is_some (at_place ss j) ≡ true → IsClearFor t w.key (number_in (at_place ss j)) → Applies w.change (seen_in t.rows (at_place ss j) w.key) → value ≡ seen_in t.rows (after_writing (at_place ss j) w) w.key →
      ((q : List ℕ) → stored (record_of after.rows q) ≡ stored (record_of t.rows q)) → ((q : List ℕ) → pending_at after q ≡ cond (same_bytes w.key q) (Some (let p : Pending = record { by = number_in (at_place ss j); class = class_at (at_place ss j); value = value } in p)) (pending_at t q)) →
      AreInPlace after (set ss j (after_writing (at_place ss j) w))
  wrote_in_place after j w value inside there clear applies leaves values is = over_rows after t.rows (set ss j (after_writing (at_place ss j) w)) values (record {
    placed = λ i q. by_place ss j (after_writing (at_place ss j) w) (λ k a. is_some (write_in t.rows a q) ≡ true → pending_at after q ≡ write_in t.rows a q) inside
        (λ some. is q ∙ own_by q (same_bytes w.key q) refl some) (λ k other some. is q ∙ other_by k q other some (same_bytes w.key q) refl) i;
    owned = λ q. owned_by q (same_bytes w.key q) refl (writes.owned q);
    apply = λ i q. by_place ss j (after_writing (at_place ss j) w) (λ k a. AppliesIfAny (written (writes_in a) q) (stored (record_of t.rows q))) inside (own_applies (at_place ss j) (writes.apply j) applies q) (λ k other. writes.apply k q) i;
  })
    where
      own_applies : (a : Option Active) → ((q : List ℕ) → AppliesIfAny (written (writes_in a) q) (stored (record_of t.rows q))) → Applies w.change (seen_in t.rows a w.key) → (q : List ℕ) → AppliesIfAny (written (writes_in (after_writing a w)) q) (stored (record_of t.rows q))
      own_applies None apply own q = tt
      own_applies (Some a) apply own q = still_apply (λ k. stored (record_of t.rows k)) a.writes w apply own q

      mine : Pending
      mine = record { by = number_in (at_place ss j); class = class_at (at_place ss j); value = value }

      now : (q : List ℕ) → write_in t.rows (after_writing (at_place ss j) w) q ≡ cond (same_bytes w.key q) (Some mine) (write_in t.rows (at_place ss j) q)
      now q = write_made t.rows (at_place ss j) w value q there leaves

      own_by : (q : List ℕ) (b : Bool) → same_bytes w.key q ≡ b → is_some (write_in t.rows (after_writing (at_place ss j) w) q) ≡ true → cond b (Some mine) (pending_at t q) ≡ write_in t.rows (after_writing (at_place ss j) w) q
      own_by q true e some = sym (now q ∙ ap (λ b. cond b (Some mine) (write_in t.rows (at_place ss j) q)) e)
      own_by q false e some =
          let was : write_in t.rows (after_writing (at_place ss j) w) q ≡ write_in t.rows (at_place ss j) q = now q ∙ ap (λ b. cond b (Some mine) (write_in t.rows (at_place ss j) q)) e in
          writes.placed j q (sym (ap is_some was) ∙ some) ∙ sym was

      -- another transaction that has written the key would be this one
      other_by : (k : ℕ) (q : List ℕ) → eqb j k ≡ false → is_some (write_in t.rows (at_place ss k) q) ≡ true → (b : Bool) → same_bytes w.key q ≡ b → cond b (Some mine) (pending_at t q) ≡ write_in t.rows (at_place ss k) q
      other_by k q other some false e = writes.placed k q some
      other_by k q other some true e = absurd (by_clear (pending_at t w.key) refl clear)
        where
          p : (x : Pending) × (write_in t.rows (at_place ss k) w.key ≡ Some x)
          p = some_of (write_in t.rows (at_place ss k) w.key) (ap (λ x. is_some (write_in t.rows (at_place ss k) x)) (one_key w.key q e) ∙ some)

          stands : pending_at t w.key ≡ Some p.0
          stands = writes.placed k w.key (ap is_some p.1) ∙ p.1

          by_clear : (o : Option Pending) → pending_at t w.key ≡ o → MatchOption o (Unit {0}) (λ x. x.by ≡ number_in (at_place ss j)) → ⊥
          by_clear None none c = let no : true ≡ false = ap is_some (sym stands ∙ none) in cc
          by_clear (Some x) found c =
              let own = own_write j w.key x there found c in
              let one : j ≡ k = one_writer j k w.key (ap is_some own) (ap is_some p.1) in
              let no : eqb j k ≡ true = grind (arith, nat_tests, one) in
              let both : true ≡ false = sym no ∙ other in cc

      owned_by : (q : List ℕ) (b : Bool) → same_bytes w.key q ≡ b → (pending_at t q ≡ None) ⊎ ((i : ℕ) × (pending_at t q ≡ write_in t.rows (at_place ss i) q)) →
          (pending_at after q ≡ None) ⊎ ((i : ℕ) × (pending_at after q ≡ write_in t.rows (at_place (set ss j (after_writing (at_place ss j) w)) i) q))
      owned_by q true e owner = inr (j, is q ∙ ap (λ b. cond b (Some mine) (pending_at t q)) e ∙ sym (ap (λ a. write_in t.rows a q) (get_or-set_same ss j _ None inside) ∙ now q ∙ ap (λ b. cond b (Some mine) (write_in t.rows (at_place ss j) q)) e))
      owned_by q false e (inl none) = inl (is q ∙ ap (λ b. cond b (Some mine) (pending_at t q)) e ∙ none)
      owned_by q false e (inr owner) = inr (owner.0, is q ∙ ap (λ b. cond b (Some mine) (pending_at t q)) e ∙ owner.1 ∙ sym (still owner.0))
        where
          still : (i : ℕ) → write_in t.rows (at_place (set ss j (after_writing (at_place ss j) w)) i) q ≡ write_in t.rows (at_place ss i) q
          still i = by_place ss j (after_writing (at_place ss j) w) (λ k a. write_in t.rows a q ≡ write_in t.rows (at_place ss k) q) inside (now q ∙ ap (λ b. cond b (Some mine) (write_in t.rows (at_place ss j) q)) e) (λ k other. refl) i

  -- once a transaction is over, none of its writes is in a place
  pub ended_in_place : (after : RecordsView) (j : ℕ) → j < length ss → ((q : List ℕ) → is_some (written (writes_in (at_place ss j)) q) ≡ false → stored (record_of after.rows q) ≡ stored (record_of t.rows q)) → ((q : List ℕ) → pending_at after q ≡ pending_without (writes_in (at_place ss j)) t q) →
      AreInPlace after (set ss j None)
  ended_in_place after j inside values is = record {
    placed = λ i q. by_place ss j None (λ k a. is_some (write_in after.rows a q) ≡ true → pending_at after q ≡ write_in after.rows a q) inside (λ some. absurd (let no : false ≡ true = some in cc))
        (λ k other some. is q ∙ other_by k q other some (is_some (written (writes_in (at_place ss j)) q)) refl) i;
    owned = λ q. owned_by q (is_some (written (writes_in (at_place ss j)) q)) refl (writes.owned q);
    apply = λ i q. by_place ss j None (λ k a. AppliesIfAny (written (writes_in a) q) (stored (record_of after.rows q))) inside tt (λ k other. others_apply k q other (is_some (written (writes_in (at_place ss j)) q)) refl) i;
  }
    where
      others_apply : (k : ℕ) (q : List ℕ) → eqb j k ≡ false → (b : Bool) → is_some (written (writes_in (at_place ss j)) q) ≡ b → AppliesIfAny (written (writes_in (at_place ss k)) q) (stored (record_of after.rows q))
      others_apply k q other false e = subst (AppliesIfAny (written (writes_in (at_place ss k)) q)) (sym (values q e)) (writes.apply k q)
      others_apply k q other true e = none_applies _ _ (by_own (is_some (written (writes_in (at_place ss k)) q)) refl)
        where
          by_own : (c : Bool) → is_some (written (writes_in (at_place ss k)) q) ≡ c → is_some (written (writes_in (at_place ss k)) q) ≡ false
          by_own false f = f
          by_own true f =
              let one : j ≡ k = one_writer j k q (is_written t.rows (at_place ss j) q ∙ e) (is_written t.rows (at_place ss k) q ∙ f) in
              let no : eqb j k ≡ true = grind (arith, nat_tests, one) in
              absurd (let both : true ≡ false = sym no ∙ other in cc)

      stays : (i : ℕ) (q : List ℕ) → is_some (written (writes_in (at_place ss j)) q) ≡ false → write_in after.rows (at_place ss i) q ≡ write_in t.rows (at_place ss i) q
      stays i q e = same_in t.rows after.rows (at_place ss i) q (values q e)

      other_by : (k : ℕ) (q : List ℕ) → eqb j k ≡ false → is_some (write_in after.rows (at_place ss k) q) ≡ true → (b : Bool) → is_some (written (writes_in (at_place ss j)) q) ≡ b → cond b None (pending_at t q) ≡ write_in after.rows (at_place ss k) q
      other_by k q other some false e = writes.placed k q (sym (ap is_some (stays k q e)) ∙ some) ∙ sym (stays k q e)
      other_by k q other some true e =
          let one : j ≡ k = one_writer j k q (is_written t.rows (at_place ss j) q ∙ e) (is_written t.rows (at_place ss k) q ∙ sym (is_written after.rows (at_place ss k) q) ∙ some) in
          let no : eqb j k ≡ true = grind (arith, nat_tests, one) in
          absurd (let both : true ≡ false = sym no ∙ other in cc)

      owned_by : (q : List ℕ) (b : Bool) → is_some (written (writes_in (at_place ss j)) q) ≡ b → (pending_at t q ≡ None) ⊎ ((i : ℕ) × (pending_at t q ≡ write_in t.rows (at_place ss i) q)) →
          (pending_at after q ≡ None) ⊎ ((i : ℕ) × (pending_at after q ≡ write_in after.rows (at_place (set ss j None) i) q))
      owned_by q true e owner = inl (is q ∙ ap (λ b. cond b None (pending_at t q)) e)
      owned_by q false e (inl none) = inl (is q ∙ ap (λ b. cond b None (pending_at t q)) e ∙ none)
      owned_by q false e (inr owner) = inr (owner.0, is q ∙ ap (λ b. cond b None (pending_at t q)) e ∙ owner.1 ∙ sym (still owner.0))
        where
          still : (i : ℕ) → write_in after.rows (at_place (set ss j None) i) q ≡ write_in t.rows (at_place ss i) q
          still i = by_place ss j None (λ k a. write_in after.rows a q ≡ write_in t.rows (at_place ss k) q) inside (sym (none_of (write_in t.rows (at_place ss j) q) (is_written t.rows (at_place ss j) q ∙ e))) (λ k other. stays k q e) i

  -- then no write has the transaction's number
  pub none_by : (after : RecordsView) (j : ℕ) → is_some (at_place ss j) ≡ true → ((q : List ℕ) → pending_at after q ≡ pending_without (writes_in (at_place ss j)) t q) → (q : List ℕ) (p : Pending) → pending_at after q ≡ Some p → eqb p.by (number_in (at_place ss j)) ≡ false
  none_by after j there is q p stands = by_test (is_some (written (writes_in (at_place ss j)) q)) refl (eqb p.by (number_in (at_place ss j))) refl
    where
      by_test : (b : Bool) → is_some (written (writes_in (at_place ss j)) q) ≡ b → (c : Bool) → eqb p.by (number_in (at_place ss j)) ≡ c → eqb p.by (number_in (at_place ss j)) ≡ false
      by_test b e false own = own
      by_test true e true own = absurd (let no : true ≡ false = ap is_some (sym stands ∙ is q ∙ ap (λ b. cond b None (pending_at t q)) e) in cc)
      by_test false e true own =
          let was : pending_at t q ≡ Some p = sym (is q ∙ ap (λ b. cond b None (pending_at t q)) e) ∙ stands in
          let mine = own_write j q p there was (let one : p.by ≡ number_in (at_place ss j) = grind (arith, nat_tests, own) in one) in
          absurd (let no : true ≡ false = sym (ap is_some mine) ∙ is_written t.rows (at_place ss j) q ∙ e in cc)

  -- each key that a transaction has written has a write in its place
  pub writes_stand : (j : ℕ) (q : List ℕ) → is_some (written (writes_in (at_place ss j)) q) ≡ true → is_some (pending_at t q) ≡ true
  writes_stand j q some = ap is_some (writes.placed j q (is_written t.rows (at_place ss j) q ∙ some)) ∙ is_written t.rows (at_place ss j) q ∙ some

  -- what is in the places of a transaction's writes is what they leave
  pub made_left : (j : ℕ) (q : List ℕ) → is_some (at_place ss j) ≡ true → made_committed (writes_in (at_place ss j)) t q ≡ left_by (writes_in (at_place ss j)) t.rows q
  made_left j q there = by_test (is_some (written (writes_in (at_place ss j)) q)) refl
    where
      by_test : (b : Bool) → is_some (written (writes_in (at_place ss j)) q) ≡ b → cond b (option_map pending_value (pending_at t q)) None ≡ left_by (writes_in (at_place ss j)) t.rows q
      by_test true e = ap (option_map pending_value) (writes.placed j q (is_written t.rows (at_place ss j) q ∙ e)) ∙ value_in t.rows (at_place ss j) q there
      by_test false e = sym (none_of (left_by (writes_in (at_place ss j)) t.rows q) (is_left (writes_in (at_place ss j)) t.rows q ∙ e))

  -- a transaction reads what it sees, if no other has a write in place
  pub reads_right : (j : ℕ) (key : List ℕ) → is_some (at_place ss j) ≡ true → IsClearFor t key (number_in (at_place ss j)) → read_of (pending_at t key) (stored (record_of t.rows key)) ≡ seen_in t.rows (at_place ss j) key
  reads_right j key there clear = by_place_of (pending_at t key) refl clear
    where
      own : Option Change
      own = written (writes_in (at_place ss j)) key

      committed : Option (List ℕ)
      committed = stored (record_of t.rows key)

      by_change : (o : Option Change) (v : Option (List ℕ)) → option_map (λ change. changed_content change committed) o ≡ Some v → v ≡ seen o committed
      by_change None v e = absurd (let no : false ≡ true = ap is_some e in cc)
      by_change (Some change) v e = sym (one_some e)
        where
          one_some : {X : Type 0} {x y : X} → Some x ≡ Some y → x ≡ y
          one_some e = cc

      by_place_of : (o : Option Pending) → pending_at t key ≡ o → MatchOption o (Unit {0}) (λ x. x.by ≡ number_in (at_place ss j)) → read_of o committed ≡ seen own committed
      by_place_of None none c = by_written (is_some own) refl
        where
          by_written : (b : Bool) → is_some own ≡ b → committed ≡ seen own committed
          by_written true e = absurd (let no : false ≡ true = ap is_some (sym none) ∙ writes_stand j key e in cc)
          by_written false e = sym (ap (λ o. seen o committed) (none_of own e))
      by_place_of (Some x) found c = by_change own x.value (sym (value_in t.rows (at_place ss j) key there) ∙ ap (option_map pending_value) (own_write j key x there found c))

  -- a number that is still to be given is no transaction's
  pub begun_numbers : (j : ℕ) (a : Active) → j < length ss → a.number ≡ begun + 1 → AreNumbered (begun + 1) (set ss j (Some a))
  begun_numbers j a inside is = record {
    apart = λ i k.
        by_place ss j (Some a) (λ i x. is_some x ≡ true → is_some (at_place (set ss j (Some a)) k) ≡ true → number_in x ≡ number_in (at_place (set ss j (Some a)) k) → i ≡ k) inside
        (λ mine. by_place ss j (Some a) (λ k y. is_some y ≡ true → a.number ≡ number_in y → j ≡ k) inside (λ e s. refl) (λ k other e s. absurd (too_great (number_in (at_place ss k)) (numbers.given k) (sym s ∙ is))) k)
        (λ i other first. by_place ss j (Some a) (λ k y. is_some y ≡ true → number_in (at_place ss i) ≡ number_in y → i ≡ k) inside (λ e s. absurd (too_great (number_in (at_place ss i)) (numbers.given i) (s ∙ is))) (λ k apart e s. numbers.apart i k first e s) k) i;
    given = by_place ss j (Some a) (λ i x. number_in x ≤ begun + 1) inside (omega (arith, is)) (λ i other. omega (arith, numbers.given i));
  }
    where
      too_great : (n : ℕ) → n ≤ begun → n ≡ begun + 1 → ⊥
      too_great n le is = omega (arith, le, is)

  -- if a session keeps its number, or has no transaction, the numbers are apart as before
  pub same_numbers : (j : ℕ) (x : Option Active) → j < length ss → (is_some x ≡ true → is_some (at_place ss j) ≡ true) → (is_some x ≡ true → number_in x ≡ number_in (at_place ss j)) → number_in x ≤ begun → AreNumbered begun (set ss j x)
  same_numbers j x inside there same le = record {
    apart = λ i k.
        by_place ss j x (λ i y. is_some y ≡ true → is_some (at_place (set ss j x) k) ≡ true → number_in y ≡ number_in (at_place (set ss j x) k) → i ≡ k) inside
        (λ mine. by_place ss j x (λ k z. is_some z ≡ true → number_in x ≡ number_in z → j ≡ k) inside (λ e s. refl) (λ k other e s. numbers.apart j k (there mine) e (sym (same mine) ∙ s)) k)
        (λ i other first. by_place ss j x (λ k z. is_some z ≡ true → number_in (at_place ss i) ≡ number_in z → i ≡ k) inside (λ e s. numbers.apart i j first (there e) (s ∙ same e)) (λ k apart e s. numbers.apart i k first e s) k) i;
    given = by_place ss j x (λ i y. number_in y ≤ begun) inside le (λ i other. numbers.given i);
  }
