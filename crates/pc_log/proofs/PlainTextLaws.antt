-- The text of an entry is read as that entry, whatever token was before it, and the texts of entries as these.
use Rattle.std.proofs.Common.{◌≡◌, ℕ, zero, suc, ◌^◌, ◌≤◌, Bool, true, List, [], ◌∷◌, ◌++◌, length, Result, Ok, refl, ap, ◌∙◌, append_assoc, arith}
use Rattle.std.specs.Prelude.{nat_le, All}
use Rattle.std.specs.List.{flat_map, AllByRecursion}
use Rattle.std.specs.Int.{w32, to_be_bytes}
use Rattle.std.proofs.lemmas.Bool.Decides.{nat_tests}
use Rattle.std.proofs.lemmas.List.{length-append}
use Rattle.std.proofs.lemmas.List.Elements.{recursion_from_All}
use Rattle.pc_types.specs.declared.refusal.Refusal.{Refusal}
use Rattle.pc_types.specs.declared.refusal.Refusal.TheVariants.{Short, BadLength, TokenOrder}
use Rattle.pc_types.specs.declared.Entry.{Entry}
use Rattle.pc_io.specs.declared.Format.TheVariants.{Second}
use Rattle.pc_types.specs.declared.Entry.TheVariants.{Commit, Token}
use Rattle.pc_types.specs.declared.Phase.{Phase}
use Rattle.pc_io.specs.Fields.{◌>>=◌, where_true, number_at}
use Rattle.pc_io.proofs.FieldLaws.{wide32, bytes_again, number_again}
use Rattle.pc_log.specs.Texts.{phase_number, body_text, entry_text, IsEntry, IsTokenPoint}
use Rattle.pc_log.specs.Plain.{plain_token_at, plain_kind_at, plain_body_at, plain_entry_at, and_behind, plain_entries_at, entries_in}
use Rattle.pc_log.proofs.TokenOrders.{numbered_is}
use Rattle.pc_log.proofs.EntriesAgain.{commit_again, body_fits, second_has}

token_again : (phase : Phase) (point : ℕ) → IsTokenPoint point → plain_token_at (phase_number phase ∷ to_be_bytes w32 point) ≡ Ok (Token phase point, [])
unfolding plain_token_at
token_again phase point lawful =
    let number : number_at BadLength w32 (to_be_bytes w32 point) ≡ Ok (point, []) = number_again BadLength w32 (2 ^ 32) wide32 point [] (omega (arith, lawful.last)) in
    let few : nat_le point 65535 ≡ true = grind (arith, nat_tests, lawful.last) in
    ap (λ (r : Result Phase Refusal). r >>= λ p. number_at BadLength w32 (to_be_bytes w32 point) >>= λ n. where_true (nat_le n.0 65535) TokenOrder (Token p n.0, n.1)) (numbered_is phase)
    ∙ ap (λ (r : Result (ℕ × List ℕ) Refusal). r >>= λ n. where_true (nat_le n.0 65535) TokenOrder (Token phase n.0, n.1)) number
    ∙ ap (λ (b : Bool). where_true b TokenOrder (Token phase point, [])) few

plain_body_again : (entry : Entry) → IsEntry entry → plain_body_at (body_text entry) ≡ Ok (entry, [])
unfolding plain_body_at plain_kind_at
plain_body_again (Commit session writes) lawful = commit_again Second session writes lawful (second_has (Commit session writes))
plain_body_again (Token phase point) lawful = token_again phase point lawful

pub plain_again : (entry : Entry) (rest : List ℕ) → IsEntry entry → plain_entry_at (entry_text entry ++ rest) ≡ Ok (entry, rest)
unfolding plain_entry_at
plain_again entry rest lawful =
    let size = length (body_text entry) in
    ap plain_entry_at (append_assoc (to_be_bytes w32 size) (body_text entry) rest)
    ∙ rw (number_again Short w32 (2 ^ 32) wide32 size (body_text entry ++ rest) (body_fits Second entry lawful), bytes_again Short (body_text entry) rest, plain_body_again entry lawful) refl

one_turn : (turns : ℕ) (bytes : List ℕ) (entry : Entry) (rest : List ℕ) → plain_entry_at bytes ≡ Ok (entry, rest) → plain_entries_at (suc turns) bytes ≡ entry ∷ plain_entries_at turns rest
unfolding plain_entries_at
one_turn turns bytes entry rest e = ap (λ (r : Result (Entry × List ℕ) Refusal). and_behind r (plain_entries_at turns)) e

all_turns : (turns : ℕ) (entries : List Entry) → AllByRecursion IsEntry entries → length (flat_map entry_text entries) ≤ turns → plain_entries_at turns (flat_map entry_text entries) ≡ entries
unfolding plain_entries_at plain_entry_at
all_turns zero [] lawful enough = refl
all_turns (suc turns) [] lawful enough = refl
all_turns zero (entry ∷ entries) lawful enough = absurd (omega (arith, length-append (entry_text entry) (flat_map entry_text entries), text_length entry))
  where
    text_length : (entry : Entry) → 1 ≤ length (entry_text entry)
    text_length entry = omega (arith, length-append (to_be_bytes w32 (length (body_text entry))) (body_text entry), wide32.len (length (body_text entry)))
all_turns (suc turns) (entry ∷ entries) lawful enough =
    let rest = flat_map entry_text entries in
    let shorter : length rest ≤ turns = omega (arith, length-append (entry_text entry) rest, length-append (to_be_bytes w32 (length (body_text entry))) (body_text entry), wide32.len (length (body_text entry))) in
    one_turn turns (entry_text entry ++ rest) entry rest (plain_again entry rest lawful.0) ∙ ap (λ (es : List Entry). entry ∷ es) (all_turns turns entries lawful.1 shorter)

-- the texts of entries are read as these
pub entries_again : (entries : List Entry) → All IsEntry entries → entries_in (flat_map entry_text entries) ≡ entries
entries_again entries lawful = all_turns (length (flat_map entry_text entries)) entries (recursion_from_All IsEntry entries lawful) (omega arith)
