-- What a slot has once a record is changed, goes in, or goes.
use Rattle.std.proofs.Common.{◌≡◌, ℕ, List, [], ◌∷◌, map, filter, Option, Some, None, option_map, not, refl, ap, cond, eqb, arith}
use Rattle.std.proofs.lemmas.Bool.Decides.{nat_tests}
use Rattle.std.specs.FinMap.{find, put}
use Rattle.pc_model.specs.Database.{key_cmp}
use Rattle.pc_table.specs.Rows.{TableRow, in_slot, with_record_in}
use Rattle.pc_table.proofs.RowLaws.{no_row, same_some}
use Rattle.pc_slots.specs.declared.cells.Cell.{Cell}

-- what the slot n has, in which the slot id has another record
abbrev pub changed_in : ℕ → Cell → ℕ → Option (List ℕ × Cell) → Option (List ℕ × Cell)
changed_in id y n o = option_map (λ p. (p.0, cond (eqb n id) y p.1)) o

pub in_changed : (id : ℕ) (y : Cell) (rows : List (TableRow Cell)) (n : ℕ) → in_slot (map (with_record_in id y) rows) n ≡ changed_in id y n (in_slot rows n)
in_changed id y [] n = refl
in_changed id y (row ∷ rows) n = grind (arith, nat_tests, in_changed id y rows n)

pub in_put : (key : List ℕ) (id : ℕ) (x : Cell) (rows : List (TableRow Cell)) (n : ℕ) → find key_cmp key rows ≡ None → in_slot rows id ≡ None → in_slot (put key_cmp key (id, x) rows) n ≡ cond (eqb id n) (Some (key, x)) (in_slot rows n)
in_put key id x [] n none free = refl
in_put key id x (row ∷ rows) n none free = grind (arith, nat_tests, in_put key id x rows n)

pub in_left : (id : ℕ) (rows : List (TableRow Cell)) (n : ℕ) → in_slot (filter (λ row. not (eqb row.1.0 id)) rows) n ≡ cond (eqb id n) None (in_slot rows n)
in_left id [] n = grind arith
in_left id (row ∷ rows) n = grind (arith, nat_tests, in_left id rows n)

-- what a slot has of which the record is known
pub cell_there : (o : Option (List ℕ × Cell)) (x : Cell) → option_map (λ pair. pair.1) o ≡ Some x → (key : List ℕ) × (o ≡ Some (key, x))
cell_there None x e = absurd (no_row e)
cell_there (Some p) x e = (p.0, ap (λ y. Some (p.0, y)) (same_some e))
