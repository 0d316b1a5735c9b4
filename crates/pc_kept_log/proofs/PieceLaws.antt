-- The pieces of a log, and where an entry is in them.
use Rattle.std.proofs.Common.{◌≡◌, ℕ, zero, suc, ◌+◌, ◌-◌, ◌≤◌, ◌<◌, Bool, true, false, leb, List, [], ◌∷◌, ◌++◌, length, take, drop, get_or, drop-cons, Some, Result, Ok, Err, refl, sym, ap, subst, ◌∙◌, append_assoc, length-append, arith}
use Rattle.std.specs.Prelude.{IfOk, slice_get, slice_range}
use Rattle.std.specs.List.Sorted.{IsNonDecreasingBy, IsPartitionPoint}
use Rattle.std.proofs.Math.Seq.{drop-append-add, take-add}
use Rattle.std.proofs.lemmas.Bool.Decides.{nat_tests}
use Rattle.std.proofs.lemmas.Grind.{flat_map-append}
use Rattle.std.proofs.lemmas.List.{append-nil, take-append-drop, take-append-le, drop-append-le, drop-drop, length-drop}
use Rattle.pc_types.specs.declared.Entry.{Entry}
use Rattle.pc_kept_log.specs.Chunks.{Piece, ArePiecesNumbered, entries_in_pieces}
use Rattle.pc_kept_log.specs.Pieces.{PieceHasPlace}
use Rattle.pc_kept_log.proofs.ChunkLaws.{take_parts, take_all}

-- ---- the pieces

module _ (pieces : List Piece) (counted : ArePiecesNumbered pieces) where
  -- those before a later one have more entries
  pub firsts_rise : IsNonDecreasingBy (λ (p : Piece). p.first) pieces
  firsts_rise i j d order inside =
      let parts : entries_in_pieces (take j pieces) ≡ entries_in_pieces (take i pieces) ++ entries_in_pieces (slice_range pieces i j) =
      ap entries_in_pieces (take_parts i j pieces order (omega (arith, order, inside))) ∙ flat_map-append (λ (p : Piece). p.entries) (take i pieces) (slice_range pieces i j) in
      omega (arith, counted i d (omega (arith, order, inside)), counted j d inside, ap length parts, length-append (entries_in_pieces (take i pieces)) (entries_in_pieces (slice_range pieces i j)))

  -- one piece, and those before and after it
  around : (i : ℕ) (d : Piece) → i < length pieces → entries_in_pieces pieces ≡ entries_in_pieces (take i pieces) ++ ((get_or pieces i d).entries ++ entries_in_pieces (drop (suc i) pieces))
  around i d inside =
      ap entries_in_pieces (sym (take-append-drop i pieces)) ∙ flat_map-append (λ (p : Piece). p.entries) (take i pieces) (drop i pieces)
      ∙ ap (λ (ps : List Piece). entries_in_pieces (take i pieces) ++ entries_in_pieces ps) (drop-cons pieces i d inside)

  -- where the entries of a piece end
  up_to : (i : ℕ) (d : Piece) → i < length pieces → length (entries_in_pieces (take (suc i) pieces)) ≡ (get_or pieces i d).first + length (get_or pieces i d).entries
  up_to i d inside =
      let piece = get_or pieces i d in
      let next : suc i - i ≡ 1 = omega arith in
      let one : slice_range pieces i (suc i) ≡ piece ∷ [] = ap (λ (n : ℕ). take n (drop i pieces)) next ∙ ap (take 1) (drop-cons pieces i d inside) in
      let parts : entries_in_pieces (take (suc i) pieces) ≡ entries_in_pieces (take i pieces) ++ (piece.entries ++ []) =
      ap entries_in_pieces (take_parts i (suc i) pieces (omega arith) (omega (arith, inside)) ∙ ap (λ (ps : List Piece). take i pieces ++ ps) one) ∙ flat_map-append (λ (p : Piece). p.entries) (take i pieces) (piece ∷ []) in
      omega (arith, counted i d inside, ap length parts, length-append (entries_in_pieces (take i pieces)) (piece.entries ++ []), length-append piece.entries [])

  module _ (rest : List Entry) (place k : ℕ) (before : place < length (entries_in_pieces pieces)) (bound : k ≤ length pieces)
      (point : IsPartitionPoint (λ (p : Piece). leb p.first place ≡ true) (λ (p : Piece). leb p.first place ≡ false) pieces k) where
    some_piece : 1 ≤ length pieces
    some_piece = by pieces before
      where
        by : (ps : List Piece) → place < length (entries_in_pieces ps) → 1 ≤ length ps
        by [] lt = absurd (omega (arith, lt))
        by (p ∷ ps) lt = omega arith

    pub one_before : (d : Piece) → 1 ≤ k
    one_before d = by k refl
      where
        by : (n : ℕ) → k ≡ n → 1 ≤ n
        by zero e =
            let none = point.1 0 d (omega (arith, e)) some_piece in
            let first = counted 0 d some_piece in
            absurd (grind (arith, nat_tests, none, first))
        by (suc n) e = omega arith

    last_of : (d : Piece) → place < length (entries_in_pieces (take k pieces))
    last_of d = by (leb (length pieces) k) refl
      where
        by : (b : Bool) → leb (length pieces) k ≡ b → place < length (entries_in_pieces (take k pieces))
        by true e =
            let all : k ≡ length pieces = grind (arith, nat_tests, e, bound) in
            subst (λ (ps : List Piece). place < length (entries_in_pieces ps)) (sym (ap (λ (n : ℕ). take n pieces) all ∙ take_all pieces)) before
        by false e =
            let inside : k < length pieces = grind (arith, nat_tests, e) in
            let later = point.1 k d (omega arith) inside in
            grind (arith, nat_tests, later, counted k d inside)

    pub piece_at : (d : Piece) → PieceHasPlace (entries_in_pieces pieces ++ rest) (get_or pieces (k - 1) d) place
    piece_at d =
        let m = k - 1 in
        let inside : m < length pieces = omega (arith, bound, one_before d) in
        let piece = get_or pieces m d in
        let next : suc m ≡ k = omega (arith, one_before d) in
        let ends : length (entries_in_pieces (take k pieces)) ≡ piece.first + length piece.entries = ap (λ (n : ℕ). length (entries_in_pieces (take n pieces))) (sym next) ∙ up_to m d inside in
        let earlier = point.0 m d (omega arith) (omega (arith, one_before d)) in
        let front = entries_in_pieces (take m pieces) in
        let behind = entries_in_pieces (drop (suc m) pieces) in
        record {
          begins = grind (arith, nat_tests, earlier);
          ends = omega (arith, ends, last_of d);
          parts = (
            front,
            behind ++ rest,
            ap (λ (es : List Entry). es ++ rest) (around m d inside) ∙ append_assoc front (piece.entries ++ behind) rest ∙ ap (λ (es : List Entry). front ++ es) (append_assoc piece.entries behind rest),
            sym (counted m d inside),
          );
        }

-- the last piece
pub last_piece : (before : List Entry) (piece : Piece) (place : ℕ) → piece.first ≡ length before → piece.first ≤ place → place < length (before ++ piece.entries) → PieceHasPlace (before ++ piece.entries) piece place
last_piece before piece place first begins inside = record {
  begins = begins;
  ends = omega (arith, first, inside, length-append before piece.entries);
  parts = (before, [], ap (λ (es : List Entry). before ++ es) (sym (append-nil piece.entries)), sym first);
}

-- ---- an entry, and some of them

get_front : {X : Type 0} (xs ys : List X) (i : ℕ) (x : X) → slice_get xs i ≡ Some x → slice_get (xs ++ ys) i ≡ Some x
get_front [] ys i x e = absurd cc
get_front (y ∷ xs) ys zero x e = e
get_front (y ∷ xs) ys (suc i) x e = get_front xs ys i x e

get_behind : {X : Type 0} (xs ys : List X) (i : ℕ) → slice_get (xs ++ ys) (length xs + i) ≡ slice_get ys i
get_behind [] ys i = ap (slice_get ys) (omega arith)
get_behind (x ∷ xs) ys i =
    let next : suc (length xs) + i ≡ suc (length xs + i) = omega arith in
    ap (slice_get (x ∷ (xs ++ ys))) next ∙ get_behind xs ys i

module _ (entries : List Entry) (piece : Piece) (place : ℕ) (has : PieceHasPlace entries piece place) where
  pub got : (entry : Entry) → slice_get piece.entries (place - piece.first) ≡ Some entry → slice_get entries place ≡ Some entry
  got entry e =
      let front = has.parts.0 in
      let at : place ≡ length front + (place - piece.first) = omega (arith, has.begins, has.parts.3) in
      ap (λ (es : List Entry). slice_get es place) has.parts.2 ∙ ap (slice_get (front ++ (piece.entries ++ has.parts.1))) at ∙ get_behind front (piece.entries ++ has.parts.1) (place - piece.first)
      ∙ get_front piece.entries has.parts.1 (place - piece.first) entry e

  pub all_got : {E : Type 0} (result : Result Entry E) (at : ℕ) → at ≡ piece.first → IfOk result (λ entry. slice_get piece.entries (place - at) ≡ Some entry) → IfOk result (λ entry. slice_get entries place ≡ Some entry)
  all_got (Ok entry) at is e = got entry (subst (λ (n : ℕ). slice_get piece.entries (place - n) ≡ Some entry) is e)
  all_got (Err e) at is none = tt

  pub some_of : (begin count : ℕ) → begin ≡ place - piece.first → begin + count ≤ length piece.entries → slice_range piece.entries begin (begin + count) ≡ slice_range entries place (place + count)
  some_of begin count is inside =
      let front = has.parts.0 in
      let behind = has.parts.1 in
      let at : place ≡ length front + begin = omega (arith, has.begins, has.parts.3, is) in
      let here : begin + count - begin ≡ count = omega arith in
      let there : place + count - place ≡ count = omega arith in
      let left : count ≤ length (drop begin piece.entries) = omega (arith, inside, length-drop begin piece.entries) in
      let from_place : drop place entries ≡ drop begin piece.entries ++ behind =
      ap (drop place) has.parts.2 ∙ ap (λ (n : ℕ). drop n (front ++ (piece.entries ++ behind))) at ∙ drop-append-add front (piece.entries ++ behind) begin ∙ drop-append-le begin piece.entries behind (omega (arith, inside)) in
      ap (λ (n : ℕ). take n (drop begin piece.entries)) here
      ∙ sym (ap (λ (n : ℕ). take n (drop place entries)) there ∙ ap (take count) from_place ∙ take-append-le count (drop begin piece.entries) behind left)

-- one entry more was read
pub one_read : {X : Type 0} (xs : List X) (i : ℕ) (x : X) → slice_get xs i ≡ Some x → take (suc i) xs ≡ take i xs ++ x ∷ []
one_read [] i x e = absurd cc
one_read (y ∷ xs) zero x e = ap (λ (z : _). z ∷ []) (some_same e)
  where
    some_same : Some y ≡ Some x → y ≡ x
    some_same f = cc
one_read (y ∷ xs) (suc i) x e = ap (λ (ys : List _). y ∷ ys) (one_read xs i x e)

-- ---- texts that are gathered

-- one entry by itself
pub single : {X : Type 0} (xs : List X) (place n : ℕ) (x : X) → slice_get xs place ≡ Some x → n ≡ 1 → slice_range xs place (place + n) ≡ x ∷ []
single [] place n x e one = absurd cc
single (y ∷ xs) zero n x e one =
    let size : 0 + n - 0 ≡ 1 = omega (arith, one) in
    ap (λ (k : ℕ). take k (y ∷ xs)) size ∙ ap (λ (z : _). z ∷ []) (some_same e)
  where
    some_same : Some y ≡ Some x → y ≡ x
    some_same f = cc
single (y ∷ xs) (suc place) n x e one =
    let size : suc place + n - suc place ≡ place + n - place = omega arith in
    ap (λ (k : ℕ). take k (drop place xs)) size ∙ single xs place n x e one

-- the next ones, after those that were gathered
pub ranges_join : {X : Type 0} (xs : List X) (from a b : ℕ) → slice_range xs from (from + a) ++ slice_range xs (from + a) (from + a + b) ≡ slice_range xs from (from + (a + b))
ranges_join xs from a b =
    let first : from + a - from ≡ a = omega arith in
    let next : from + a + b - (from + a) ≡ b = omega arith in
    let both : from + (a + b) - from ≡ a + b = omega arith in
    ap (λ (n : ℕ). take n (drop from xs) ++ slice_range xs (from + a) (from + a + b)) first ∙ ap (λ (n : ℕ). take a (drop from xs) ++ take n (drop (from + a) xs)) next
    ∙ ap (λ (ys : List _). take a (drop from xs) ++ take b ys) (sym (drop-drop a from xs))
    ∙ sym (take-add a b (drop from xs)) ∙ ap (λ (n : ℕ). take n (drop from xs)) (sym both)
