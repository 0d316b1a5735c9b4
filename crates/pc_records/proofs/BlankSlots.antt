-- A slot of a key that has a value alone, or nothing.
use Rattle.std.proofs.Common.{◌≡◌, ℕ, List, Option, None, false, refl, ◌∷◌, map, Some, ap}
use Rattle.pc_dirty.specs.declared.side.Side.{Side}
use Rattle.pc_dirty.specs.declared.side.Side.TheVariants.{First, Second}
use Rattle.pc_slots.specs.declared.versions.Stable.TheVariants.{Empty}
use Rattle.pc_slots.specs.Slots.{Slot, slot_with, base_cell}
use Rattle.pc_table.specs.Rows.{TableRow}
use Rattle.pc_slots.specs.declared.cells.Cell.{Cell}
use Rattle.pc_records.specs.Slots.{cells_in, base_row}

-- the slot, which is in no set
abbrev pub bare_slot : ℕ → List ℕ → Option (List ℕ) → Slot
bare_slot number key content = record { number = number; key = key; live = content; stable = Empty; mark = 0; writer = None; is_in_open_set = false; is_in_closed_set = false }

pub blank_slot : (side : Side) (number : ℕ) (key : List ℕ) (content : Option (List ℕ)) → slot_with side number key (base_cell content) ≡ bare_slot number key content
blank_slot First number key content = refl
blank_slot Second number key content = refl

-- a row that has the value of a pair alone
pub first_cell : (r : TableRow Cell) (rs : List (TableRow Cell)) (p : List ℕ × List ℕ) (ps : List (List ℕ × List ℕ)) → cells_in (r ∷ rs) ≡ map base_row (p ∷ ps) → r.1.1 ≡ base_cell (Some p.1)
first_cell r rs p ps e = ap (λ (c : List ℕ × Cell). c.1) (same_head e)
  where
    same_head : {A : Type 0} {x y : A} {xs ys : List A} → x ∷ xs ≡ y ∷ ys → x ≡ y
    same_head e = cc

pub other_cells : (r : TableRow Cell) (rs : List (TableRow Cell)) (p : List ℕ × List ℕ) (ps : List (List ℕ × List ℕ)) → cells_in (r ∷ rs) ≡ map base_row (p ∷ ps) → cells_in rs ≡ map base_row ps
other_cells r rs p ps e = same_tail e
  where
    same_tail : {A : Type 0} {x y : A} {xs ys : List A} → x ∷ xs ≡ y ∷ ys → xs ≡ ys
    same_tail e = cc
