-- Columns of cells.
use Rattle.std.proofs.Common.{◌≡◌, ◌≢◌, ℕ, ◌<◌, List, Option, Some, None, length, get_or, set, map, refl, sym, ap, ◌∙◌}
use Rattle.std.proofs.lemmas.List.{get_or-map, length-map, map-set, set-get_or}
use Rattle.pc_arena.specs.declared.cells.ArenaCell.{ArenaCell}
use Rattle.pc_arena.specs.declared.cells.ArenaCell.TheVariants.{Free, Taken}
use Rattle.pc_arena.specs.Cells.{item_of, link_of, with_record}
use Rattle.pc_chain.specs.Slots.{at}
use Rattle.pc_chain.proofs.SlotLaws.{at_here, at_other}

-- a change of one field leaves the others
pub map_same : {X Y : Type 0} (f : X → Y) (xs : List X) (i : ℕ) (x y : X) → x ≡ get_or xs i x → f y ≡ f x → map f (set xs i y) ≡ map f xs
map_same f xs i x y r e =
    map-set f xs i y ∙ (ap (set (map f xs) i) e ∙ (sym (map-set f xs i x) ∙ ap (map f) (ap (set xs i) r ∙ set-get_or xs i x)))

-- a column once a cell is set
pub column_set : {X Y : Type 0} (f : X → Y) (xs : List X) (i j : ℕ) (y : X) (z : Y) → i ≡ j → f y ≡ z → map f (set xs i y) ≡ set (map f xs) j z
column_set f xs i j y z e h = map-set f xs i y ∙ (ap (λ k. set (map f xs) k (f y)) e ∙ ap (set (map f xs) j) h)

pub column_here : {X Y : Type 0} (f : X → Option Y) (xs : List X) (i j : ℕ) (y : X) → i ≡ j → j < length xs → at (map f (set xs i y)) j ≡ f y
column_here f xs i j y e h = ap (λ c. at c j) (column_set f xs i j y (f y) e refl) ∙ at_here (map f xs) j (f y) (rw (length-map xs f) h)

pub column_other : {X Y : Type 0} (f : X → Option Y) (xs : List X) (i j k : ℕ) (y : X) → i ≡ j → k ≢ j → at (map f (set xs i y)) k ≡ at (map f xs) k
column_other f xs i j k y e n = ap (λ c. at c k) (column_set f xs i j y (f y) e refl) ∙ at_other (map f xs) j k (f y) n

-- what a column has at a cell that was read
pub column_read : {X Y : Type 0} (f : X → Option Y) (xs : List X) (i j : ℕ) (x : X) → i ≡ j → j < length xs → x ≡ get_or xs i x → at (map f xs) j ≡ f x
column_read f xs i j x e w r = get_or-map f xs j x None w ∙ ap f (ap (λ k. get_or xs k x) (sym e) ∙ sym r)

module _ {T : Type 0} where
  -- a cell with another record has it, and leads to where it led
  pub item_with : (cell : ArenaCell T) (item : T) → item_of (with_record cell item) ≡ Some item
  item_with (Free leads next) item = refl
  item_with (Taken leads next old) item = refl

  pub link_with : (cell : ArenaCell T) (item : T) → link_of (with_record cell item) ≡ link_of cell
  link_with (Free leads next) item = refl
  link_with (Taken leads next old) item = refl
