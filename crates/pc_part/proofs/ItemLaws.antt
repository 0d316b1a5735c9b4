-- That many items, in order: as a loop reads them, what is read of a text, its text read again, and a truncated text.
use Rattle.std.proofs.Common.{◌≡◌, ℕ, zero, suc, ◌+◌, ◌-◌, ◌<◌, ◌≤◌, List, [], ◌∷◌, ◌++◌, length, Result, Ok, Err, refl, sym, ap, subst, ◌∙◌, append_assoc, arith}
use Rattle.std.specs.List.{flat_map}
use Rattle.std.proofs.lemmas.List.{append-nil}
use Rattle.std.proofs.lemmas.List.Concat.{flat_map-cons}
use Rattle.pc_types.specs.declared.Refusal.{Refusal}
use Rattle.pc_io.specs.Fields.{◌>>=◌}
use Rattle.pc_types.specs.Bytes.{IsBytes}
use Rattle.pc_io.specs.FieldForms.{TakesText}
use Rattle.pc_io.proofs.CutFieldLaws.{IsCut, ReadsAlike, cut_then}
use Rattle.pc_io.proofs.FieldLaws.{bind_ok, ok_is, TakesText-then}
use Rattle.pc_part.specs.Reading.{items_at}

module _ {X : Type 0} where
  -- what was read before, and what is still read
  abbrev pub with_front : List X → Result (List X × List ℕ) Refusal → Result (List X × List ℕ) Refusal
  with_front front read = read >>= λ x. Ok (front ++ x.0, x.1)

  pub regroup : (front : List X) (n : X) (read : Result (List X × List ℕ) Refusal) → with_front front (read >>= λ x. Ok (n ∷ x.0, x.1)) ≡ with_front (front ++ n ∷ []) read
  regroup front n (Ok x) = ap (λ (ns : List X). Ok (ns, x.1)) (simp append_assoc)
  regroup front n (Err f) = refl

module _ {S X : Type 0} (read : S → List ℕ → Result (X × List ℕ) Refusal) (leaves : X → S) where
  -- ---- one turn of the loop

  module _ (front : List X) (count i : ℕ) (state : S) (bytes : List ℕ) {total : Result (List X × List ℕ) Refusal} (so_far : with_front front (items_at read leaves (count - i) state bytes) ≡ total) where
    pub items_go_on : (item : X) (after : List ℕ) → i < count → read state bytes ≡ Ok (item, after) → with_front (front ++ item ∷ []) (items_at read leaves (count - (i + 1)) (leaves item) after) ≡ total
    unfolding items_at
    items_go_on item after more h =
        let k : count - i ≡ suc (count - (i + 1)) = omega arith in
        let others = items_at read leaves (count - (i + 1)) (leaves item) after in
        let one : with_front front (items_at read leaves (count - i) state bytes) ≡ with_front (front ++ item ∷ []) others = rw (k, h) (regroup front item others) in
        sym one ∙ so_far

    pub items_stop : (e : Refusal) → i < count → read state bytes ≡ Err e → total ≡ Err e
    unfolding items_at
    items_stop e more h =
        let k : count - i ≡ suc (count - (i + 1)) = omega arith in
        let one : with_front front (items_at read leaves (count - i) state bytes) ≡ Err e = rw (k, h) refl in
        sym so_far ∙ one

    pub items_done : count ≤ i → total ≡ Ok (front, bytes)
    unfolding items_at
    items_done le =
        let k : count - i ≡ 0 = omega arith in
        let one : with_front front (items_at read leaves (count - i) state bytes) ≡ Ok (front, bytes) = rw k (ap (λ (items : List X). Ok (items, bytes)) (append-nil front)) in
        sym so_far ∙ one

  -- that many items were read
  pub items_count : (count : ℕ) (state : S) (bytes : List ℕ) (x : List X × List ℕ) → items_at read leaves count state bytes ≡ Ok x → length x.0 ≡ count
  unfolding items_at
  items_count zero state bytes x e = ap (λ (y : List X × List ℕ). length y.0) (sym (ok_is ([], bytes) x e))
  items_count (suc count) state bytes x e =
      let a = bind_ok (read state bytes) (λ first. items_at read leaves count (leaves first.0) first.1 >>= λ others. Ok (first.0 ∷ others.0, others.1)) x e in
      let b = bind_ok (items_at read leaves count (leaves a.0.0) a.0.1) (λ others. Ok (a.0.0 ∷ others.0, others.1)) x a.2 in
      let made : List X × List ℕ = (a.0.0 ∷ b.0.0, b.0.1) in
      ap (λ (y : List X × List ℕ). length y.0) (sym (ok_is made x b.2)) ∙ ap suc (items_count count (leaves a.0.0) a.0.1 b.0 b.1)

  -- ---- the text

  module _ (text : X → List ℕ) (From : S → List X → Type 0) where
    -- if each item is read of its text and may be there, the bytes are the items' texts, and they are that many
    pub items_take : ((state : S) → From state [])
        → ((state : S) (bytes : List ℕ) (x : X × List ℕ) → IsBytes bytes → read state bytes ≡ Ok x → TakesText bytes (text x.0) x.1 × ((others : List X) → From (leaves x.0) others → From state (x.0 ∷ others)))
        → (count : ℕ) (state : S) (bytes : List ℕ) (x : List X × List ℕ) → IsBytes bytes → items_at read leaves count state bytes ≡ Ok x → TakesText bytes (flat_map text x.0) x.1 × (length x.0 ≡ count) × From state x.0
    unfolding items_at
    items_take none one zero state bytes x fits e =
        subst (λ (y : List X × List ℕ). TakesText bytes (flat_map text y.0) y.1 × (length y.0 ≡ 0) × From state y.0) (ok_is ([], bytes) x e) (record { parts = refl; rest_fits = fits }, refl, none state)
    items_take none one (suc count) state bytes x fits e =
        let a = bind_ok (read state bytes) (λ first. items_at read leaves count (leaves first.0) first.1 >>= λ others. Ok (first.0 ∷ others.0, others.1)) x e in
        let b = bind_ok (items_at read leaves count (leaves a.0.0) a.0.1) (λ others. Ok (a.0.0 ∷ others.0, others.1)) x a.2 in
        let first = one state bytes a.0 fits a.1 in
        let others = items_take none one count (leaves a.0.0) a.0.1 b.0 first.0.rest_fits b.1 in
        let made : List X × List ℕ = (a.0.0 ∷ b.0.0, b.0.1) in
        subst (λ (y : List X × List ℕ). TakesText bytes (flat_map text y.0) y.1 × (length y.0 ≡ suc count) × From state y.0) {x = made} (ok_is made x b.2)
        (rw flat_map-cons (TakesText-then bytes (text a.0.0) a.0.1 (flat_map text b.0.0) b.0.1 first.0 others.0), ap suc others.1, first.1 b.0.0 others.2)

    -- items that are each read again of their texts are so of all the texts
    pub items_again : ((state : S) (x : X) (others : List X) (rest : List ℕ) → From state (x ∷ others) → (read state (text x ++ rest) ≡ Ok (x, rest)) × From (leaves x) others)
        → (state : S) (items : List X) (rest : List ℕ) → From state items → items_at read leaves (length items) state (flat_map text items ++ rest) ≡ Ok (items, rest)
    unfolding items_at
    items_again one state [] rest h = refl
    items_again one state (x ∷ items) rest h =
        let parts : flat_map text (x ∷ items) ++ rest ≡ text x ++ (flat_map text items ++ rest) = ap (λ (t : List ℕ). t ++ rest) (flat_map-cons text x items) ∙ append_assoc (text x) (flat_map text items) rest in
        let first = one state x items (flat_map text items ++ rest) h in
        ap (items_at read leaves (suc (length items)) state) parts ∙ rw (first.0, items_again one (leaves x) items rest first.1) refl

  -- items that are each read as of the whole text, or found to be short, are so together
  pub items_cut : (more : List ℕ) → ((state : S) (bytes : List ℕ) → IsCut (ReadsAlike more) (read state (bytes ++ more)) (read state bytes))
      → (count : ℕ) (state : S) (bytes : List ℕ) → IsCut (ReadsAlike more) (items_at read leaves count state (bytes ++ more)) (items_at read leaves count state bytes)
  unfolding items_at
  items_cut more one zero state bytes = (refl, refl)
  items_cut more one (suc count) state bytes =
      cut_then _ _ _ _ _ _ (one state bytes) (λ first rest.
      cut_then _ _ _ _ _ _ (items_cut more one count (leaves first) rest) (λ others left.
      (refl, refl)))
