-- The two lists of slots: what of the rows they see, and what follows if that stays.
use Rattle.std.proofs.Common.{◌≡◌, ℕ, List, [], ◌∷◌, Option, Some, None, is_some, refl, sym, ap, ◌∙◌, subst, Bool, true, false, eqb, ◌||◌, arith}
use Rattle.std.proofs.lemmas.Bool.{eq-eqb}
use Rattle.pc_chain.specs.Chains.{AllHave}
use Rattle.pc_dirty.specs.declared.side.Side.{Side}
use Rattle.pc_dirty.specs.declared.side.Side.TheVariants.{First, Second}
use Rattle.pc_dirty.specs.declared.dirty.Dirty.{Dirty}
use Rattle.pc_dirty.specs.Sets.{other_side}
use Rattle.pc_dirty.proofs.SetLaws.{sets_stay, opened_is, closed_is}
use Rattle.pc_table.specs.Rows.{TableRow, in_slot}
use Rattle.pc_table.proofs.RowLaws.{no_row, same_some}
use Rattle.pc_slots.specs.declared.cells.Cell.{Cell}
use Rattle.pc_slots.specs.Words.{Word, link_of_word, cell_words}
use Rattle.pc_records.specs.SetLists.{HasPlace, link_in, next_in, marked_in, key_in, keys_at, is_among_slots, AreSetLists, open_slots, closed_slots, IsListed, open_keys, closed_keys, in_sets, KeepSets}

abbrev word_in : Side → Word × Word → Word
word_in First w = w.0
word_in Second w = w.1

abbrev mark_seen : Side → Option (List ℕ × (Word × Word)) → Bool
mark_seen side None = false
mark_seen side (Some q) = (word_in side q.1).is_in

-- a mark is seen
mark_is : (side : Side) (o : Option (List ℕ × Cell)) → marked_in side o ≡ mark_seen side (in_sets o)
mark_is side o = grind arith

pub marks_same : (side : Side) (a b : Option (List ℕ × Cell)) → in_sets b ≡ in_sets a → marked_in side b ≡ marked_in side a
marks_same side a b e = mark_is side b ∙ (ap (mark_seen side) e ∙ sym (mark_is side a))

cell_seen : (side : Side) (p : List ℕ × Cell) → marked_in side (Some p) ≡ true → in_sets (Some p) ≡ Some (p.0, cell_words p.1)
cell_seen side p e = grind arith

-- a slot in a set, of which the sets have what they had
pub record IsSameThere (side : Side) (a b : Option (List ℕ × Cell)) : Type 0 where
  pub row : is_some b ≡ true
  pub key : key_in b ≡ key_in a
  pub link : link_in side b ≡ link_in side a

links_same : (side : Side) (p q : List ℕ × Cell) → cell_words q.1 ≡ cell_words p.1 → link_in side (Some q) ≡ link_in side (Some p)
links_same First p q e = ap (λ (w : Word × Word). link_of_word w.0) e
links_same Second p q e = ap (λ (w : Word × Word). link_of_word w.1) e

pub same_there : (side : Side) (a b : Option (List ℕ × Cell)) → in_sets b ≡ in_sets a → marked_in side a ≡ true → IsSameThere side a b
same_there First None b e m = absurd cc
same_there Second None b e m = absurd cc
same_there First (Some p) None e m = absurd (no_row (e ∙ cell_seen First p m))
same_there Second (Some p) None e m = absurd (no_row (e ∙ cell_seen Second p m))
same_there side (Some p) (Some q) e m =
    let same : (q.0, cell_words q.1) ≡ (p.0, cell_words p.1) = same_some (sym (cell_seen side q (marks_same side (Some p) (Some q) e ∙ m)) ∙ (e ∙ cell_seen side p m)) in
    record {
      row = refl;
      key = ap (λ (r : List ℕ × (Word × Word)). r.0) same;
      link = links_same side p q (ap (λ (r : List ℕ × (Word × Word)). r.1) same);
    }

-- what holds of each listed slot holds of all in the list
pub all_listed : (P : ℕ → Type 0) (slots : List ℕ) → ((slot : ℕ) → is_among_slots slots slot ≡ true → P slot) → AllHave P slots
all_listed P [] f = tt
all_listed P (x ∷ xs) f = (f x (ap (λ b. b || is_among_slots xs x) (eq-eqb x x refl)), all_listed P xs (λ slot e. f slot (later (eqb x slot) (is_among_slots xs slot) e)))
  where
    later : (a b : Bool) → b ≡ true → (a || b) ≡ true
    later true b e = refl
    later false b e = e

pub keys_same : (old new : List (TableRow Cell)) (slots : List ℕ) → AllHave (λ slot. key_in (in_slot new slot) ≡ key_in (in_slot old slot)) slots → keys_at new slots ≡ keys_at old slots
keys_same old new [] h = refl
keys_same old new (x ∷ xs) h = ap (λ (k : List ℕ). k ∷ keys_at new xs) h.0 ∙ ap (λ (ks : List (List ℕ)). key_in (in_slot old x) ∷ ks) (keys_same old new xs h.1)

-- the lists are those that the links lead along
module _ (rows : List (TableRow Cell)) (sets : Dirty) (opened closed : List ℕ) (l : AreSetLists rows sets opened closed) where
  pub open_named : open_slots rows sets ≡ opened
  open_named = opened_is (HasPlace rows) (next_in rows) sets opened closed l.linked

  pub closed_named : closed_slots rows sets ≡ closed
  closed_named = closed_is (HasPlace rows) (next_in rows) sets opened closed l.linked

  pub named : IsListed rows sets
  named = subst (λ (xs : List ℕ). AreSetLists rows sets xs (closed_slots rows sets)) (sym open_named) (subst (λ (ys : List ℕ). AreSetLists rows sets opened ys) (sym closed_named) l)

  pub open_keys_named : open_keys rows sets ≡ keys_at rows opened
  open_keys_named = ap (keys_at rows) open_named

  pub closed_keys_named : closed_keys rows sets ≡ keys_at rows closed
  closed_keys_named = ap (keys_at rows) closed_named

-- rows of which the sets have what they had
module _ (old new : List (TableRow Cell)) (sets : Dirty) (opened closed : List ℕ) (keep : KeepSets old new) (l : AreSetLists old sets opened closed) where
  open_there : AllHave (λ slot. IsSameThere sets.side (in_slot old slot) (in_slot new slot)) opened
  open_there = all_listed _ opened (λ slot e. same_there sets.side (in_slot old slot) (in_slot new slot) (keep.same slot) (l.open_marks slot ∙ e))

  closed_there : AllHave (λ slot. IsSameThere (other_side sets.side) (in_slot old slot) (in_slot new slot)) closed
  closed_there = all_listed _ closed (λ slot e. same_there (other_side sets.side) (in_slot old slot) (in_slot new slot) (keep.same slot) (l.closed_marks slot ∙ e))

  pub lists_keep : AreSetLists new sets opened closed
  lists_keep = record {
    linked =
        sets_stay (HasPlace old) (HasPlace new) (next_in old) (next_in new) sets opened closed (each _ _ opened (λ slot h. h.row) open_there) (each _ _ opened (λ slot h. h.link) open_there)
        (each _ _ closed (λ slot h. h.row) closed_there) (each _ _ closed (λ slot h. h.link) closed_there) l.linked;
    open_marks = λ slot. marks_same sets.side (in_slot old slot) (in_slot new slot) (keep.same slot) ∙ l.open_marks slot;
    closed_marks = λ slot. marks_same (other_side sets.side) (in_slot old slot) (in_slot new slot) (keep.same slot) ∙ l.closed_marks slot;
  }
    where
      each : (P Q : ℕ → Type 0) (xs : List ℕ) → ((x : ℕ) → P x → Q x) → AllHave P xs → AllHave Q xs
      each P Q [] f h = tt
      each P Q (x ∷ xs) f h = (f x h.0, each P Q xs f h.1)

  pub open_keys_keep : keys_at new opened ≡ keys_at old opened
  open_keys_keep = keys_same old new opened (all_listed _ opened (λ slot e. (same_there sets.side (in_slot old slot) (in_slot new slot) (keep.same slot) (l.open_marks slot ∙ e)).key))

  pub closed_keys_keep : keys_at new closed ≡ keys_at old closed
  closed_keys_keep = keys_same old new closed (all_listed _ closed (λ slot e. (same_there (other_side sets.side) (in_slot old slot) (in_slot new slot) (keep.same slot) (l.closed_marks slot ∙ e)).key))

-- and so of the slots that the links lead along
module _ (old new : List (TableRow Cell)) (sets : Dirty) (keep : KeepSets old new) (l : IsListed old sets) where
  pub kept_listed : IsListed new sets
  kept_listed = named new sets (open_slots old sets) (closed_slots old sets) (lists_keep old new sets (open_slots old sets) (closed_slots old sets) keep l)

  pub kept_open : open_keys new sets ≡ open_keys old sets
  kept_open = open_keys_named new sets (open_slots old sets) (closed_slots old sets) (lists_keep old new sets (open_slots old sets) (closed_slots old sets) keep l) ∙ open_keys_keep old new sets (open_slots old sets) (closed_slots old sets) keep l

  pub kept_closed : closed_keys new sets ≡ closed_keys old sets
  kept_closed = closed_keys_named new sets (open_slots old sets) (closed_slots old sets) (lists_keep old new sets (open_slots old sets) (closed_slots old sets) keep l) ∙ closed_keys_keep old new sets (open_slots old sets) (closed_slots old sets) keep l
