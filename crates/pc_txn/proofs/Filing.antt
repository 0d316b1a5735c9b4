-- What one more commit leaves of those before it, and where the reads of the commit at a place lie.
use Rattle.std.proofs.Common.{◌≡◌, ◌<◌, ◌≤◌, ◌+◌, ◌-◌, ℕ, zero, suc, List, [], ◌∷◌, ◌++◌, length, take, drop, refl, ap, sym, ◌∙◌, subst, arith}
use Rattle.std.specs.Prelude.{Option, Some, None, slice_get, slice_range}
use Rattle.std.proofs.Math.Seq.{drop-append_seam}
use Rattle.std.proofs.lemmas.List.{take_all, take-append-le, drop-append-le, length-drop}
use Rattle.pc_model.specs.Receipts.{Read}
use Rattle.pc_txn.specs.declared.commits.Head.{Head}
use Rattle.pc_txn.specs.Commits.{commit_note, notes_from, EndAt, begin_at}

-- a part that ends within the list is the same with more after it
same_part : {X : Type 0} (a b : ℕ) (xs more : List X) → a ≤ b → b ≤ length xs → slice_range (xs ++ more) a b ≡ slice_range xs a b
same_part a b xs more ab within =
    ap (take (b - a)) (drop-append-le a xs more (omega (arith, ab, within))) ∙ take-append-le (b - a) (drop a xs) more (omega (arith, ab, within, length-drop a xs))

-- what comes after a list is the part from its end on
part_behind : {X : Type 0} (a b : ℕ) (xs more : List X) → a ≡ length xs → b ≡ length xs + length more → slice_range (xs ++ more) a b ≡ more
part_behind a b xs more from to =
    ap (λ (n : ℕ). take (b - n) (drop n (xs ++ more))) from ∙ (ap (take (b - length xs)) (drop-append_seam xs more) ∙ take_all (b - length xs) more (omega (arith, to)))

-- the last one ends after the beginning of the first
pub ends_rise : (r : ℕ) (hs : List Head) (rs : ℕ) → EndAt r hs rs → r ≤ rs
ends_rise r [] rs e = omega (arith, e)
ends_rise r (h ∷ hs) rs e =
    let later = ends_rise h.reads_end hs rs e.1 in
    omega (arith, e.0, later)

-- one more that ends after all of them
pub ends_with : (r : ℕ) (hs : List Head) (h : Head) (rs : ℕ) → EndAt r hs rs → rs ≤ h.reads_end → EndAt r (hs ++ h ∷ []) h.reads_end
ends_with r [] h rs e le = (omega (arith, e, le), refl)
ends_with r (g ∷ hs) h rs e le = (e.0, ends_with g.reads_end hs h rs e.1 le)

-- with one more commit, whose reads came after the others, those before it stay
pub filed_with : (r : ℕ) (hs : List Head) (h : Head) (rs more : List Read) → EndAt r hs (length rs) → h.reads_end ≡ length rs + length more → notes_from r (hs ++ h ∷ []) (rs ++ more) ≡ notes_from r hs rs ++ commit_note h.number more ∷ []
filed_with r [] h rs more e to = (λ i. commit_note h.number (part_behind r h.reads_end rs more e to i) ∷ [])
filed_with r (g ∷ hs) h rs more e to =
    let later = ends_rise g.reads_end hs (length rs) e.1 in
    (λ i. commit_note g.number (same_part r g.reads_end rs more e.0 later i) ∷ filed_with g.reads_end hs h rs more e.1 to i)

-- there are as many commits as heads
pub length_filed : (r : ℕ) (hs : List Head) (rs : List Read) → length (notes_from r hs rs) ≡ length hs
length_filed r [] rs = refl
length_filed r (h ∷ hs) rs = ap suc (length_filed h.reads_end hs rs)

-- the note at a place is the one of the head there
pub filed_at : (r : ℕ) (hs : List Head) (rs : List Read) (place : ℕ) (h : Head) → slice_get hs place ≡ Some h → slice_get (notes_from r hs rs) place ≡ Some (commit_note h.number (slice_range rs (begin_at r hs place) h.reads_end))
filed_at r [] rs place h is = absurd (cc (is))
filed_at r (g ∷ hs) rs zero h is = (λ i. Some (commit_note (same i).number (slice_range rs r (same i).reads_end))) where
  same : g ≡ h
  same = cc (is)
filed_at r (g ∷ hs) rs (suc place) h is = filed_at g.reads_end hs rs place h is

-- and if there is no head there is none
pub none_at : (r : ℕ) (hs : List Head) (rs : List Read) (place : ℕ) → slice_get hs place ≡ None → slice_get (notes_from r hs rs) place ≡ None
none_at r [] rs place is = refl
none_at r (g ∷ hs) rs zero is = absurd (cc (is))
none_at r (g ∷ hs) rs (suc place) is = none_at g.reads_end hs rs place is

-- below the length there is one
pub there_is : {X : Type 0} (xs : List X) (place : ℕ) → place < length xs → slice_get xs place ≡ None → ⊥
there_is [] place lt is = omega (arith, lt)
there_is (x ∷ xs) zero lt is = absurd (cc (is))
there_is (x ∷ xs) (suc place) lt is = there_is xs place (omega (arith, lt)) is

-- what is there is below the length
pub has_place : {X : Type 0} (xs : List X) (place : ℕ) (x : X) → slice_get xs place ≡ Some x → place < length xs
has_place [] place x is = absurd (cc (is))
has_place (y ∷ ys) zero x is = omega (arith)
has_place (y ∷ ys) (suc place) x is = (let lt = has_place ys place x is in omega (arith, lt))

-- the first commit's reads begin at the beginning
pub begin_first : (r : ℕ) (hs : List Head) → begin_at r hs 0 ≡ r
begin_first r [] = refl
begin_first r (h ∷ hs) = refl

-- a commit's reads begin where those of the one before end
pub begin_behind : (r : ℕ) (hs : List Head) (place : ℕ) (h : Head) → slice_get hs place ≡ Some h → begin_at r hs (suc place) ≡ h.reads_end
begin_behind r [] place h is = absurd (cc (is))
begin_behind r (g ∷ hs) zero h is = begin_first g.reads_end hs ∙ ap (λ (x : Head). x.reads_end) same where
  same : g ≡ h
  same = cc (is)
begin_behind r (g ∷ hs) (suc place) h is = begin_behind g.reads_end hs place h is

-- the reads of the commit at a place are a part of all
pub lies : (r : ℕ) (hs : List Head) (rs place : ℕ) (h : Head) → EndAt r hs rs → slice_get hs place ≡ Some h → (begin_at r hs place ≤ h.reads_end) × (h.reads_end ≤ rs)
lies r [] rs place h e is = absurd (cc (is))
lies r (g ∷ hs) rs zero h e is = subst (λ (x : Head). (r ≤ x.reads_end) × (x.reads_end ≤ rs)) same (e.0, ends_rise g.reads_end hs rs e.1) where
  same : g ≡ h
  same = cc (is)
lies r (g ∷ hs) rs (suc place) h e is = lies g.reads_end hs rs place h e.1 is

-- what holds of a borrowed list holds of the list
pub found_at : (heads lent : List Head) (place : ℕ) (told found : Option Head) → lent ≡ heads → told ≡ slice_get lent place → told ≡ found → slice_get heads place ≡ found
found_at heads lent place told found same is so = ap (λ (hs : List Head). slice_get hs place) (sym same) ∙ (sym is ∙ so)
