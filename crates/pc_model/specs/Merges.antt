-- Two lists of entries that ascend by key, gone through together.
use denote.Ref.{Bor}
use Rattle.std.specs.Prelude.{◌≡◌, ⊤, ℕ, List, [], ◌∷◌, Option, Some, None}
use Rattle.itertools.specs.EitherOrBoth.{map_any}
use Rattle.itertools.specs.List.{merge_join_by}
use Rattle.itertools.specs.declared.either_or_both.EitherOrBoth.{EitherOrBoth}
use Rattle.itertools.specs.declared.either_or_both.EitherOrBoth.TheVariants.{Both, Left, Right}
use Rattle.pc_model.specs.Database.{key_cmp}

-- the entries with one more in front, if there is something for its key
abbrev pub with_content : {X : Type 0} → List ℕ → Option X → List (List ℕ × X) → List (List ℕ × X)
with_content key None entries = entries
with_content key (Some content) entries = (key, content) ∷ entries

module _ {A B C : Type 0} (rule : Option A → Option B → Option C) where
  -- the entries with what the rule makes of a key's entry in one list, or in both, in front
  abbrev pub with_item : EitherOrBoth (List ℕ × A) (List ℕ × B) → List (List ℕ × C) → List (List ℕ × C)
  with_item (Left a) entries = with_content a.0 (rule (Some a.1) None) entries
  with_item (Right b) entries = with_content b.0 (rule None (Some b.1)) entries
  with_item (Both a b) entries = with_content a.0 (rule (Some a.1) (Some b.1)) entries

  -- what the rule makes of each key's entries
  abbrev pub gathered : List (EitherOrBoth (List ℕ × A) (List ℕ × B)) → List (List ℕ × C)
  gathered [] = []
  gathered (item ∷ items) = with_item item (gathered items)

  -- two ascending lists as one: at each key what the rule makes of what both have there
  unfoldable pub merged : List (List ℕ × A) → List (List ℕ × B) → List (List ℕ × C)
  merged a b = gathered (merge_join_by (λ x y. key_cmp x.0 y.0) a b)

-- an item of references as one of the entries that they represent
abbrev pub item_of : {A B X Y : Type 0} → (A → X) → (B → Y) → EitherOrBoth (Bor A) (Bor B) → EitherOrBoth X Y
item_of first second = map_any (λ a. first a.now) (λ b. second b.now)

-- the entries of an item that has one of both lists are of one key
abbrev pub IsOfOneKey : {A B : Type 0} → EitherOrBoth (List ℕ × A) (List ℕ × B) → Type 0
IsOfOneKey (Left a) = ⊤
IsOfOneKey (Right b) = ⊤
IsOfOneKey (Both a b) = a.0 ≡ b.0
