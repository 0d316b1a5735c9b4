-- The first key of the closed set, which is taken.
use Rattle.std.proofs.Common.{◌≡◌, ℕ, List, [], ◌∷◌, Some, option_map, refl, sym, ap, ◌∙◌, subst, cond, Bool, true, false, eqb, ◌||◌}
use Rattle.std.proofs.lemmas.Bool.{eqb-true, ne_eqb, eqb-false}
use Rattle.std.specs.FinMap.{find}
use Rattle.pc_model.specs.Database.{key_cmp}
use Rattle.pc_chain.specs.Chains.{first_of, rest_of, Avoids, AllHave}
use Rattle.pc_dirty.specs.declared.dirty.Dirty.{Dirty}
use Rattle.pc_dirty.specs.Sets.{other_side, AreSets, HasNoRepeats}
use Rattle.pc_dirty.proofs.SetLaws.{closed_once, closed_have}
use Rattle.pc_table.specs.Rows.{TableRow, Contents, in_slot, slot_of as table_slot, HasRow, AreInSlots}
use Rattle.pc_slots.specs.declared.cells.Cell.{Cell}
use Rattle.pc_records.specs.SetLists.{HasPlace, next_in, marked_in, key_in, keys_at, is_among_slots, AreSetLists, open_slots, closed_slots, IsListed, open_keys, closed_keys, KeepSets, IsUnmarked}
use Rattle.pc_records.proofs.TableSlots.{row_in}
use Rattle.pc_records.proofs.Listing.{named, open_keys_named, closed_keys_named, lists_keep, open_keys_keep, closed_keys_keep}
use Rattle.pc_records.proofs.Marking.{linked_keep}
use Rattle.pc_records.proofs.Settling.{all_keys}

-- what a list has once its first is gone
rest_listed : (slots : List ℕ) (id slot : ℕ) → Some id ≡ first_of slots → HasNoRepeats slots → cond (eqb slot id) false (is_among_slots slots slot) ≡ is_among_slots (rest_of slots) slot
rest_listed [] id slot e once = absurd cc
rest_listed (x ∷ xs) id slot e once = let f : id ≡ x = cc in by_test (eqb slot id) refl f
  where
    unlisted : (ys : List ℕ) → Avoids slot ys → is_among_slots ys slot ≡ false
    unlisted [] a = refl
    unlisted (y ∷ ys) a = ap (λ b. b || is_among_slots ys slot) (ne_eqb y slot a.0) ∙ unlisted ys a.1

    by_test : (b : Bool) → eqb slot id ≡ b → id ≡ x → cond b false (is_among_slots (x ∷ xs) slot) ≡ is_among_slots xs slot
    by_test true is f = sym (unlisted xs (subst (λ y. Avoids y xs) (sym (eqb-true slot id is ∙ f)) once.0))
    by_test false is f = ap (λ b. b || is_among_slots xs slot) (ne_eqb x slot (λ g. eqb-false slot id is (sym g ∙ sym f)))

keys_first : (rows : List (TableRow Cell)) (slots : List ℕ) (id : ℕ) (key : List ℕ) (keys : List (List ℕ)) → Some id ≡ first_of slots → keys_at rows slots ≡ key ∷ keys → (key_in (in_slot rows id) ≡ key) × (keys_at rows (rest_of slots) ≡ keys)
keys_first rows [] id key keys e f = absurd cc
keys_first rows (x ∷ xs) id key keys e f =
    let g : id ≡ x = cc in
    (ap (λ n. key_in (in_slot rows n)) g ∙ same_head f, same_tail f)
  where
    same_head : {A : Type 0} {x y : A} {xs ys : List A} → x ∷ xs ≡ y ∷ ys → x ≡ y
    same_head e = cc

    same_tail : {A : Type 0} {x y : A} {xs ys : List A} → x ∷ xs ≡ y ∷ ys → xs ≡ ys
    same_tail e = cc

first_has : (P : ℕ → Type 0) (slots : List ℕ) (id : ℕ) → Some id ≡ first_of slots → AllHave P slots → P id
first_has P [] id e h = absurd cc
first_has P (x ∷ xs) id e h = let f : id ≡ x = cc in subst P (sym f) h.0

module _ (table : Contents Cell) (sets : Dirty) (l : IsListed table.rows sets) (id : ℕ) (first : Some id ≡ first_of (closed_slots table.rows sets)) where
  abbrev opened : List ℕ
  opened = open_slots table.rows sets

  abbrev closed : List ℕ
  closed = closed_slots table.rows sets

  pub first_row : HasRow table.rows id
  first_row = first_has (HasRow table.rows) closed id first (closed_have (HasPlace table.rows) (next_in table.rows) sets opened closed l.linked)

  pub first_key : (key : List ℕ) (keys : List (List ℕ)) → closed_keys table.rows sets ≡ key ∷ keys → key_in (in_slot table.rows id) ≡ key
  first_key key keys e = (keys_first table.rows closed id key keys first e).0

  -- the slot is that of the key
  pub first_slot : AreInSlots table → (key : List ℕ) (keys : List (List ℕ)) → closed_keys table.rows sets ≡ key ∷ keys → table_slot table.rows key ≡ Some id
  first_slot a key keys e =
      let p = row_in table.rows id first_row in
      let k : p.0.0 ≡ key = sym (ap key_in p.1) ∙ first_key key keys e in
      ap (λ q. option_map (λ place. place.0) (find key_cmp q table.rows)) (sym k) ∙ ap (option_map (λ place. place.0)) ((a.each id p.0.0 p.0.1).0 p.1)

  module _ (now : Dirty) (side : now.side ≡ sets.side) (popped : AreSets (HasPlace table.rows) (next_in table.rows) now opened (rest_of closed)) (marked new : List (TableRow Cell)) (unmarked : IsUnmarked sets.side id table.rows marked) (keep : KeepSets marked new) where
    lists : AreSetLists marked now opened (rest_of closed)
    lists = record {
      linked = linked_keep table.rows marked now opened (rest_of closed) unmarked.links popped;
      open_marks = λ slot. ap (λ s. marked_in s (in_slot marked slot)) side ∙ (unmarked.open_marks slot ∙ l.open_marks slot);
      closed_marks = λ slot. ap (λ s. marked_in (other_side s) (in_slot marked slot)) side
          ∙ (unmarked.closed_marks slot ∙ (ap (cond (eqb slot id) false) (l.closed_marks slot) ∙ rest_listed closed id slot first (closed_once (HasPlace table.rows) (next_in table.rows) sets opened closed l.linked)));
    }

    after : AreSetLists new now opened (rest_of closed)
    after = lists_keep marked new now opened (rest_of closed) keep lists

    pub left_listed : IsListed new now
    left_listed = named new now opened (rest_of closed) after

    pub left_open : open_keys new now ≡ open_keys table.rows sets
    left_open = open_keys_named new now opened (rest_of closed) after ∙ (open_keys_keep marked new now opened (rest_of closed) keep lists ∙ all_keys table.rows marked unmarked.links.key opened)

    pub left_closed : (key : List ℕ) (keys : List (List ℕ)) → closed_keys table.rows sets ≡ key ∷ keys → closed_keys new now ≡ keys
    left_closed key keys e =
        closed_keys_named new now opened (rest_of closed) after
        ∙ (closed_keys_keep marked new now opened (rest_of closed) keep lists ∙ (all_keys table.rows marked unmarked.links.key (rest_of closed) ∙ (keys_first table.rows closed id key keys first e).1))
