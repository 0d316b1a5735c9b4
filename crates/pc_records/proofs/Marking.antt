-- A slot whose marks are changed, and whose links stay.
use Rattle.std.proofs.Common.{◌≡◌, ℕ, List, [], ◌∷◌, map, Option, Some, None, option_map, is_some, refl, sym, ap, ◌∙◌, cond, Bool, true, false, eqb, ◌||◌, arith}
use Rattle.std.proofs.lemmas.Bool.Decides.{nat_tests}
use Rattle.std.proofs.lemmas.Bool.{eqb-true}
use Rattle.pc_chain.specs.Chains.{AllHave}
use Rattle.pc_dirty.specs.declared.side.Side.{Side}
use Rattle.pc_dirty.specs.declared.side.Side.TheVariants.{First, Second}
use Rattle.pc_dirty.specs.declared.dirty.Dirty.{Dirty}
use Rattle.pc_dirty.specs.Sets.{other_side, AreSets}
use Rattle.pc_dirty.proofs.SetLaws.{sets_stay, opened_have, closed_have}
use Rattle.pc_table.specs.Rows.{TableRow, in_slot, with_record_in}
use Rattle.pc_table.proofs.RowLaws.{same_some}
use Rattle.pc_slots.specs.declared.cells.Cell.{Cell}
use Rattle.pc_slots.specs.Words.{cell_words, is_marked, place_at, link_of, HaveLinks}
use Rattle.pc_slots.specs.Slots.{Slot, slot_with, is_kept_slot, taken_slot}
use Rattle.pc_model.specs.Locks.{Queue}
use Rattle.pc_records.specs.SetLists.{HasPlace, link_in, next_in, marked_in, key_in, KeepLinks, IsUnmarked}
use Rattle.pc_records.proofs.InSlots.{changed_in, in_changed}

link_same : (side : Side) (x y : Cell) → HaveLinks x y → link_of side y ≡ link_of side x
link_same First x y h = λ i. place_at (h.first_slot i) (h.first_side i)
link_same Second x y h = λ i. place_at (h.second_slot i) (h.second_side i)

module _ (rows : List (TableRow Cell)) (id : ℕ) (x y : Cell) (has : option_map (λ pair. pair.1) (in_slot rows id) ≡ Some x) where
  abbrev changed : List (TableRow Cell)
  changed = map (with_record_in id y) rows

  -- what the slot has is this record
  here : (slot : ℕ) → eqb slot id ≡ true → (p : List ℕ × Cell) → in_slot rows slot ≡ Some p → p.1 ≡ x
  here slot is p e = same_some (sym (ap (option_map (λ (pair : List ℕ × Cell). pair.1)) e) ∙ (ap (λ m. option_map (λ (pair : List ℕ × Cell). pair.1) (in_slot rows m)) (eqb-true slot id is) ∙ has))

  pub mark_there : (side : Side) (slot : ℕ) → marked_in side (in_slot changed slot) ≡ cond (eqb slot id) (is_marked side y) (marked_in side (in_slot rows slot))
  mark_there side slot = grind (arith, nat_tests, in_changed id y rows slot)

  pub links_kept : HaveLinks x y → KeepLinks rows changed
  links_kept h = record {
    row = λ slot. ap is_some (in_changed id y rows slot) ∙ row (in_slot rows slot) slot;
    key = λ slot. ap key_in (in_changed id y rows slot) ∙ key (in_slot rows slot) slot;
    link = λ side slot. ap (link_in side) (in_changed id y rows slot) ∙ by_test side slot (eqb slot id) refl (in_slot rows slot) refl;
  }
    where
      row : (o : Option (List ℕ × Cell)) (slot : ℕ) → is_some (changed_in id y slot o) ≡ is_some o
      row None slot = refl
      row (Some p) slot = refl

      key : (o : Option (List ℕ × Cell)) (slot : ℕ) → key_in (changed_in id y slot o) ≡ key_in o
      key None slot = refl
      key (Some p) slot = refl

      by_test : (side : Side) (slot : ℕ) (b : Bool) → eqb slot id ≡ b → (o : Option (List ℕ × Cell)) → in_slot rows slot ≡ o → link_in side (option_map (λ p. (p.0, cond b y p.1)) o) ≡ link_in side o
      by_test side slot b is None e = refl
      by_test side slot false is (Some p) e = refl
      by_test side slot true is (Some p) e = link_same side x y h ∙ ap (link_of side) (sym (here slot is p e))

  pub unmarked : (side : Side) → HaveLinks x y → ((number : ℕ) (key : List ℕ) → slot_with side number key y ≡ taken_slot (slot_with side number key x)) → IsUnmarked side id rows changed
  unmarked side h turns = record {
    links = links_kept h;
    open_marks = λ slot. mark_there side slot ∙ by_test slot (eqb slot id) refl;
    closed_marks = λ slot. mark_there (other_side side) slot ∙ ap (λ b. cond (eqb slot id) b (marked_in (other_side side) (in_slot rows slot))) (ap (λ (s : Slot). s.is_in_closed_set) (turns 0 []));
  }
    where
      marked_here : (o : Option (List ℕ × Cell)) → option_map (λ pair. pair.1) o ≡ Some x → marked_in side o ≡ is_marked side x
      marked_here None e = absurd cc
      marked_here (Some p) e = ap (is_marked side) (same_some e)

      by_test : (slot : ℕ) (b : Bool) → eqb slot id ≡ b → cond b (is_marked side y) (marked_in side (in_slot rows slot)) ≡ marked_in side (in_slot rows slot)
      by_test slot true is = ap (λ (s : Slot). s.is_in_open_set) (turns 0 []) ∙ sym (ap (λ m. marked_in side (in_slot rows m)) (eqb-true slot id is) ∙ marked_here (in_slot rows id) has)
      by_test slot false is = refl

-- links that stay lead along the same lists
each : (P Q : ℕ → Type 0) (xs : List ℕ) → ((x : ℕ) → P x → Q x) → AllHave P xs → AllHave Q xs
each P Q [] f h = tt
each P Q (x ∷ xs) f h = (f x h.0, each P Q xs f h.1)

pub linked_keep : (old new : List (TableRow Cell)) (sets : Dirty) (opened closed : List ℕ) → KeepLinks old new → AreSets (HasPlace old) (next_in old) sets opened closed → AreSets (HasPlace new) (next_in new) sets opened closed
linked_keep old new sets opened closed k d =
    sets_stay (HasPlace old) (HasPlace new) (next_in old) (next_in new) sets opened closed (each _ _ opened (λ slot h. k.row slot ∙ h) (opened_have (HasPlace old) (next_in old) sets opened closed d)) (each _ _ opened (λ slot h. k.link sets.side slot) (opened_have (HasPlace old) (next_in old) sets opened closed d))
    (each _ _ closed (λ slot h. k.row slot ∙ h) (closed_have (HasPlace old) (next_in old) sets opened closed d)) (each _ _ closed (λ slot h. k.link (other_side sets.side) slot) (closed_have (HasPlace old) (next_in old) sets opened closed d)) d

-- a cell whose links and marks stay
pub same_words : (side : Side) (x y : Cell) → HaveLinks x y → is_marked side y ≡ is_marked side x → is_marked (other_side side) y ≡ is_marked (other_side side) x → cell_words y ≡ cell_words x
same_words First x y h a b = λ i. (record { slot = h.first_slot i; leads_to = h.first_side i; is_in = a i }, record { slot = h.second_slot i; leads_to = h.second_side i; is_in = b i })
same_words Second x y h a b = λ i. (record { slot = h.first_slot i; leads_to = h.first_side i; is_in = b i }, record { slot = h.second_slot i; leads_to = h.second_side i; is_in = a i })

-- a slot that nothing keeps is in no set
pub nothing_marked : (side : Side) (queue : Queue) (id : ℕ) (x : Cell) → is_kept_slot queue (slot_with side id [] x) ≡ false → (x.first.is_in || x.second.is_in) ≡ false
nothing_marked side queue id x e = grind arith
