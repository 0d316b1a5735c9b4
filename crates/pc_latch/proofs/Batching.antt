-- Batches of entries, entry by entry.
use Rattle.std.proofs.Common.{◌≡◌, ℕ, zero, suc, ◌+◌, ◌-◌, ◌<◌, ◌≤◌, List, [], ◌∷◌, ◌++◌, length, get_or, take, drop, refl, ap, sym, ◌∙◌, append_assoc, append-nil, arith}
use Rattle.std.specs.Prelude.{Some, slice_get}
use Rattle.std.proofs.lemmas.List.{take_more, drop_more, drop_all, length-take-le, length-drop, get_or-drop}
use Rattle.std.proofs.lemmas.Option.{get_or_from_slice_get}
use Rattle.pc_types.specs.declared.Entry.{Entry}
use Rattle.pc_model.specs.History.{History, log_of}
use Rattle.pc_log.specs.Texts.{entry_text}
use Rattle.pc_latch.specs.Batches.{batch}

-- if there is room, a batch has the first entry
batch_first : (room : ℕ) (entry : Entry) (entries : List Entry) → 0 < room → batch room (entry ∷ entries) ≡ entry ∷ batch (room - length (entry_text entry)) entries
batch_first zero entry entries h = let no : ⊥ = omega (arith, h) in absurd no
batch_first (suc room) entry entries h = refl

-- if there is no room, or no entry, it has none
pub batch_no_room : (room : ℕ) (entries : List Entry) → room ≡ 0 → batch room entries ≡ []
batch_no_room zero entries h = refl
batch_no_room (suc room) entries h = let no : ⊥ = omega (arith, h) in absurd no

batch_none : (room : ℕ) → batch room [] ≡ []
batch_none zero = refl
batch_none (suc room) = refl

module _ (room : ℕ) (entries : List Entry) where
  -- one entry more
  pub batch_more : (left next i : ℕ) (entry : Entry) → i < length entries → get_or entries i entry ≡ entry → 0 < left → next ≡ left - length (entry_text entry)
      → take i entries ++ batch left (drop i entries) ≡ batch room entries → take (i + 1) entries ++ batch next (drop (i + 1) entries) ≡ batch room entries
  batch_more left next i entry lt here some is so =
      ap (λ (l : List Entry). l ++ batch next (drop (i + 1) entries)) (take_more entries i entry lt ∙ ap (λ (e : Entry). take i entries ++ e ∷ []) here)
      ∙ (append_assoc (take i entries) (entry ∷ []) (batch next (drop (i + 1) entries))
      ∙ (ap (λ (l : List Entry). take i entries ++ l)
      (ap (λ (n : ℕ). entry ∷ batch n (drop (i + 1) entries)) is
      ∙ (sym (batch_first left entry (drop (i + 1) entries) some)
      ∙ sym (ap (batch left) (drop_more entries i entry lt ∙ ap (λ (e : Entry). e ∷ drop (i + 1) entries) here))))
      ∙ so))

  -- no room is left
  pub batch_stops : (left i : ℕ) → left ≡ 0 → take i entries ++ batch left (drop i entries) ≡ batch room entries → take i entries ≡ batch room entries
  batch_stops left i none so = sym (append-nil (take i entries)) ∙ (ap (λ (l : List Entry). take i entries ++ l) (sym (batch_no_room left (drop i entries) none)) ∙ so)

  -- no entry is left
  pub batch_ends : (left i : ℕ) → length entries ≤ i → take i entries ++ batch left (drop i entries) ≡ batch room entries → take i entries ≡ batch room entries
  batch_ends left i all so =
      sym (append-nil (take i entries)) ∙ (ap (λ (l : List Entry). take i entries ++ l) (sym (ap (batch left) (drop_all i entries all) ∙ batch_none left)) ∙ so)

-- the batch of a batch is the batch
pub batch_again : (room : ℕ) (entries : List Entry) → batch room (batch room entries) ≡ batch room entries
batch_again zero entries = refl
batch_again (suc room) [] = refl
batch_again (suc room) (entry ∷ entries) = ap (λ (l : List Entry). entry ∷ l) (batch_again (suc room - length (entry_text entry)) entries)

-- the batch after the given entries is one of the log of the history
pub batch_behind : (room count : ℕ) (log next : List Entry) (hist now : History) (given : List Entry) → next ≡ batch room (drop count log) → log ≡ log_of hist → hist ≡ now
    → length given ≡ count → next ≡ batch room (drop (length given) (log_of now))
batch_behind room count log next hist now given is log_is same counted =
    is ∙ ap (λ (l : List Entry). batch room (drop count l)) (log_is ∙ ap log_of same) ∙ ap (λ (n : ℕ). batch room (drop n (log_of now))) (sym counted)

-- a list of the first ones is the first n of them
pub taken_are : {X : Type 0} (n : ℕ) (xs ys : List X) → ys ≡ take n xs → n ≤ length xs → ys ≡ take (length ys) xs
taken_are n xs ys is le = is ∙ ap (λ (k : ℕ). take k xs) (sym (ap length is ∙ length-take-le n xs le))

-- the counted entries are the batch after the first ones
module _ (first count : ℕ) (log next : List Entry) (is : take count (drop first log) ≡ next) (within : first + count ≤ length log) where
  there : count ≤ length (drop first log)
  there = omega (arith, within, length-drop first log)

  pub counted : count ≡ length next
  counted = sym (length-take-le count (drop first log) there) ∙ ap length is

  pub next_first : next ≡ take (length next) (drop first log)
  next_first = taken_are count (drop first log) next (sym is) there

-- an entry at a place in the list
pub one_there : {X : Type 0} (xs : List X) (i : ℕ) → i < length xs → (x : X) × (slice_get xs i ≡ Some x)
one_there [] i lt = let no : ⊥ = omega (arith, lt) in absurd no
one_there (x ∷ xs) zero lt = (x, refl)
one_there (x ∷ xs) (suc i) lt = one_there xs i (omega (arith, lt))

-- the same after the first ones
pub behind_first : {X : Type 0} (n i place : ℕ) (xs : List X) (x : X) → slice_get xs place ≡ Some x → place ≡ n + i → get_or (drop n xs) i x ≡ x
behind_first n i place xs x at is = get_or-drop n xs i x ∙ ap (λ (k : ℕ). get_or xs k x) (sym is) ∙ get_or_from_slice_get xs place x x at
