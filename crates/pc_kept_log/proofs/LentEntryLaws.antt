-- Borrowed entries of a log, in order, and what is read of a token's text.
use Rattle.std.proofs.Common.{◌≡◌, ℕ, suc, ◌+◌, ◌-◌, ◌≤◌, ◌<◌, List, [], ◌∷◌, ◌++◌, length, get_or, Some, None, Ok, refl, sym, ap, subst, ◌∙◌, arith}
use Rattle.std.specs.Prelude.{All, slice_get, slice_range}
use Rattle.std.specs.List.{flat_map}
use Rattle.std.specs.Int.{w32, from_be_bytes}
use Rattle.std.proofs.lemmas.Option.{get_or_from_slice_get}
use Rattle.std.proofs.lemmas.List.{append-nil}
use Rattle.pc_types.specs.declared.Entry.{Entry}
use Rattle.pc_types.specs.declared.Entry.TheVariants.{Commit, Token}
use Rattle.pc_types.specs.declared.Phase.{Phase}
use Rattle.pc_types.specs.declared.limits.TheConstants.{MOST_POINTS}
use Rattle.pc_io.proofs.FieldLaws.{wide32}
use Rattle.pc_log.specs.Texts.{entry_text, IsEntry}
use Rattle.pc_log.specs.Reading.{phase_numbered}
use Rattle.pc_log.proofs.TokenOrders.{numbered_is}
use Rattle.pc_kept_log.specs.Chunks.{Piece}
use Rattle.pc_kept_log.specs.Pieces.{PieceHasPlace, IsPiece, entry_at_place}
use Rattle.pc_kept_log.specs.Logs.{token_of}
use Rattle.pc_kept_log.proofs.ChunkLaws.{some_is_entry, first_of}
use Rattle.pc_kept_log.proofs.PieceLaws.{got}

-- ---- the text of a token

-- what is read of a text that begins with a token's
pub record IsTokenText (entry : Entry) (text : List ℕ) : Type 0 where
  pub phase : Phase
  pub point : ℕ
  pub entry_is : entry ≡ Token phase point
  pub long : 10 ≤ length text
  pub number : phase_numbered (get_or text 5 0) ≡ Ok phase
  pub spelled : from_be_bytes w32 (get_or text 6 0 ∷ get_or text 7 0 ∷ get_or text 8 0 ∷ get_or text 9 0 ∷ []) ≡ point
  pub last : point ≤ MOST_POINTS

token_text : (entry : Entry) (rest : List ℕ) → IsEntry entry → get_or (entry_text entry ++ rest) 4 0 ≡ 2 → IsTokenText entry (entry_text entry ++ rest)
token_text (Commit session writes) rest lawful kind = absurd (omega (arith, kind))
token_text (Token phase point) rest lawful kind = record {
  phase = phase;
  point = point;
  entry_is = refl;
  long = omega arith;
  number = numbered_is phase;
  spelled = wide32.again point (omega (arith, lawful.last));
  last = lawful.last;
}

no_token : (entry : Entry) (rest : List ℕ) → (get_or (entry_text entry ++ rest) 4 0 ≡ 2 → ⊥) → None ≡ token_of entry
no_token (Commit session writes) rest other = refl
no_token (Token phase point) rest other = absurd (other refl)

long_text : (entry : Entry) (rest : List ℕ) → 8 ≤ length (entry_text entry ++ rest)
long_text (Commit session writes) rest = omega arith
long_text (Token phase point) rest = omega arith

module _ (entries : List Entry) (place : ℕ) (text : List ℕ) (lawful : All IsEntry entries) (inside : place < length entries) (is : text ≡ flat_map entry_text (slice_range entries place (length entries))) where
  there : (entry : Entry) × (slice_get entries place ≡ Some entry) × (rest : List ℕ) × (text ≡ entry_text entry ++ rest)
  there =
      let found = first_of entries place (length entries) inside (omega arith) in
      (found.0, found.1, flat_map entry_text (slice_range entries (suc place) (length entries)), is ∙ ap (flat_map entry_text) found.2)

  here : entry_at_place entries place ≡ there.0
  here = get_or_from_slice_get entries place there.0 _ there.1

  pub has_start : 8 ≤ length text
  has_start = rw there.3 (long_text there.0 there.2)

  pub token_there : get_or text 4 0 ≡ 2 → IsTokenText (entry_at_place entries place) text
  token_there kind =
      subst (λ (entry : Entry). IsTokenText entry text) (sym here)
      (subst (IsTokenText there.0) (sym there.3) (token_text there.0 there.2 (some_is_entry entries place there.0 lawful there.1 inside) (subst (λ (t : List ℕ). get_or t 4 0 ≡ 2) there.3 kind)))

  pub none_there : (get_or text 4 0 ≡ 2 → ⊥) → None ≡ token_of (entry_at_place entries place)
  none_there other = no_token there.0 there.2 (λ kind. other (subst (λ (t : List ℕ). get_or t 4 0 ≡ 2) (sym there.3) kind)) ∙ ap token_of (sym here)

-- ---- one entry after the other

-- the last piece is one
pub last_is_piece : (before : List Entry) (piece : Piece) → piece.first ≡ length before → IsPiece (before ++ piece.entries) piece
last_is_piece before piece first = (before, [], ap (λ (es : List Entry). before ++ es) (sym (append-nil piece.entries)), sym first)

some_same : (x y : Entry) → Some x ≡ Some y → x ≡ y
some_same x y e = cc

module _ (entries : List Entry) (piece : Piece) (at to : ℕ) (has : PieceHasPlace entries piece at) (some : at < to) (inside : to ≤ length entries) where
  pub in_piece : at - piece.first < length piece.entries
  in_piece = omega (arith, has.begins, has.ends)

  pub steps : slice_range entries at to ≡ entry_at_place piece.entries (at - piece.first) ∷ slice_range entries (at + 1) to
  steps =
      let found = first_of entries at to some inside in
      let own = first_of piece.entries (at - piece.first) (length piece.entries) in_piece (omega arith) in
      let same : own.0 ≡ found.0 = some_same own.0 found.0 (sym (got entries piece at has own.0 own.1) ∙ found.1) in
      let here : entry_at_place piece.entries (at - piece.first) ≡ own.0 = get_or_from_slice_get piece.entries (at - piece.first) own.0 _ own.1 in
      let next : suc at ≡ at + 1 = omega arith in
      found.2 ∙ ap (λ (e : Entry). e ∷ slice_range entries (suc at) to) (sym (here ∙ same)) ∙ ap (λ (n : ℕ). entry_at_place piece.entries (at - piece.first) ∷ slice_range entries n to) next
