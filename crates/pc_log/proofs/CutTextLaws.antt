-- What is read of a log's text that was truncated.
use Rattle.std.proofs.Common.{◌≡◌, ℕ, zero, suc, ◌-◌, ◌^◌, ◌<◌, ◌≤◌, false, cond, eqb, List, [], ◌∷◌, ◌++◌, length, take, Some, None, Ok, Err, refl, sym, ap, subst, ◌∙◌, append_assoc, add-one, arith, inl, inr}
use Rattle.std.specs.Prelude.{All}
use Rattle.std.specs.List.{flat_map, AllByRecursion}
use Rattle.std.specs.Int.{Width, w32, w64, byte_len, to_be_bytes}
use Rattle.std.proofs.lemmas.Bool.{cases_lt, lt-ltb}
use Rattle.std.proofs.lemmas.Bool.Decides.{nat_tests}
use Rattle.std.proofs.lemmas.List.{length-append, length-take}
use Rattle.std.proofs.Math.Seq.{take-append-add}
use Rattle.std.proofs.lemmas.List.Elements.{recursion_from_All}
use Rattle.pc_types.specs.declared.refusal.Refusal.{Refusal}
use Rattle.pc_types.specs.declared.refusal.Refusal.TheVariants.{Short}
use Rattle.pc_types.specs.declared.Entry.{Entry}
use Rattle.pc_io.specs.declared.Format.{Format}
use Rattle.pc_io.specs.declared.Format.TheVariants.{First, Second}
use Rattle.pc_io.specs.Fields.{bytes_at, number_at, magic_at}
use Rattle.pc_io.proofs.FieldLaws.{wide32, wide64, number_again}
use Rattle.pc_log.specs.declared.order.LastToken.{LastToken}
use Rattle.pc_log.specs.Texts.{log_magic, header_text_in, body_text_in, entry_text_in, log_text_in, IsEntry, HasEntry, HasLog}
use Rattle.pc_log.specs.Orders.{token_after, no_token, FollowFrom, InOrder}
use Rattle.pc_log.specs.Reading.{entry_at, entries_at, header_at, log_at, LogReading, none_more, with_entry, all_at}
use Rattle.pc_log.specs.Laws.{AreCut, cut_read, left_behind}
use Rattle.pc_log.proofs.TokenOrders.{ComesNext, follow_first}
use Rattle.pc_log.proofs.EntriesAgain.{body_fits, body_lawful, entry_again, magic_length, header_length, header_magic, header_parts, header_again}
use Rattle.pc_log.proofs.TurnLaws.{all_go_on, all_stop, read_as}

-- ---- fields that are not there

bytes_short : (missing : Refusal) (count : ℕ) (bytes : List ℕ) → length bytes < count → bytes_at missing count bytes ≡ Err missing
bytes_short missing count bytes lt = rw (lt-ltb (length bytes) count lt) refl

number_short : (missing : Refusal) (w : Width) (bytes : List ℕ) → length bytes < byte_len w → number_at missing w bytes ≡ Err missing
number_short missing w bytes lt = rw (lt-ltb (length bytes) (byte_len w) lt) refl

-- a cut after the first text
take_behind : (first rest : List ℕ) (c : ℕ) → length first ≤ c → take c (first ++ rest) ≡ first ++ take (c - length first) rest
take_behind first rest c le =
    ap (λ (n : ℕ). take n (first ++ rest)) (omega arith) ∙ take-append-add first rest (c - length first)

-- the same if the first text is known to have that many bytes
behind_sized : (n : ℕ) (first rest : List ℕ) (c : ℕ) → length first ≡ n → n ≤ c → take c (first ++ rest) ≡ first ++ take (c - n) rest
behind_sized n first rest c len le = subst (λ (k : ℕ). take c (first ++ rest) ≡ first ++ take (c - k) rest) len (take_behind first rest c (omega (arith, len, le)))

taken_length : (c : ℕ) (bytes : List ℕ) → length (take c bytes) ≤ c
taken_length c bytes = omega (arith, length-take c bytes)

-- ---- an entry that is truncated

entry_cut : (format : Format) (last : LastToken) (entry : Entry) (more : List ℕ) (c : ℕ) → IsEntry entry → c < length (entry_text_in format entry) → entry_at format last (take c (entry_text_in format entry ++ more)) ≡ Err Short
unfolding entry_at
entry_cut format last entry more c lawful cut =
    let size = length (body_text_in format entry) in
    elim (cases_lt c 4) [
      | inl lt ↦ rw (number_short Short w32 (take c (entry_text_in format entry ++ more)) (omega (arith, taken_length c (entry_text_in format entry ++ more)))) refl
      | inr le ↦
          let parts : take c (entry_text_in format entry ++ more) ≡ to_be_bytes w32 size ++ take (c - 4) (body_text_in format entry ++ more) =
          ap (take c) (append_assoc (to_be_bytes w32 size) (body_text_in format entry) more) ∙ take_behind (to_be_bytes w32 size) (body_text_in format entry ++ more) c le in
          let short : length (take (c - 4) (body_text_in format entry ++ more)) < size = omega (arith, taken_length (c - 4) (body_text_in format entry ++ more), cut, length-append (to_be_bytes w32 size) (body_text_in format entry)) in
          ap (entry_at format last) parts ∙ rw (number_again Short w32 (2 ^ 32) wide32 size (take (c - 4) (body_text_in format entry ++ more)) (body_fits format entry lawful), body_lawful format entry lawful, bytes_short Short size (take (c - 4) (body_text_in format entry ++ more)) short) refl
    ]

-- ---- entries that are truncated

-- that many bytes are left after these entries
abbrev left_over : List Entry → ℕ → LogReading
left_over entries rest = record { entries = entries; rest = rest; fault = cond (eqb rest 0) None (Some Short) }

record CutFound (format : Format) (last : LastToken) (entries : List Entry) (c p : ℕ) : Type 0 where
  some : p ≤ length entries
  there : length (flat_map (entry_text_in format) (take p entries)) ≤ c
  next : p < length entries → c < length (flat_map (entry_text_in format) (take (suc p) entries))
  found : all_at format last (take c (flat_map (entry_text_in format) entries)) ≡ left_over (take p entries) (length (take c (flat_map (entry_text_in format) entries)) - length (flat_map (entry_text_in format) (take p entries)))

none_left : (bytes : List ℕ) (rest : ℕ) → rest ≡ length bytes → none_more bytes Short ≡ left_over [] rest
none_left [] rest e = rw e refl
none_left (b ∷ bytes) rest e =
    let some : eqb rest 0 ≡ false = grind (arith, nat_tests, e) in
    rw (some, e) refl

cut_here : (format : Format) (last : LastToken) (entry : Entry) (entries : List Entry) (c : ℕ) → IsEntry entry → c < length (entry_text_in format entry) → CutFound format last (entry ∷ entries) c 0
cut_here format last entry entries c lawful cut =
    let bytes = take c (entry_text_in format entry ++ flat_map (entry_text_in format) entries) in
    record {
      some = omega arith;
      there = omega arith;
      next = λ _. omega (arith, cut, length-append (entry_text_in format entry) (flat_map (entry_text_in format) (take 0 entries)));
      found = all_stop format last bytes Short (entry_cut format last entry (flat_map (entry_text_in format) entries) c lawful cut) ∙ none_left bytes (length bytes - 0) (omega arith);
    }

cut_later : (format : Format) (last : LastToken) (entry : Entry) (entries : List Entry) (c p : ℕ) → IsEntry entry → HasEntry format entry → ComesNext last entry → length (entry_text_in format entry) ≤ c
    → CutFound format (token_after last entry) entries (c - length (entry_text_in format entry)) p → CutFound format last (entry ∷ entries) c (suc p)
cut_later format last entry entries c p lawful has next whole others =
    let texts = flat_map (entry_text_in format) entries in
    let k = c - length (entry_text_in format entry) in
    let before = flat_map (entry_text_in format) (take p entries) in
    let parts : take c (entry_text_in format entry ++ texts) ≡ entry_text_in format entry ++ take k texts = take_behind (entry_text_in format entry) texts c whole in
    let count : length (take k texts) - length before ≡ length (take c (entry_text_in format entry ++ texts)) - length (entry_text_in format entry ++ before) =
    rw (parts) (omega (arith, length-append (entry_text_in format entry) (take k texts), length-append (entry_text_in format entry) before)) in
    record {
      some = omega (arith, others.some);
      there = omega (arith, others.there, length-append (entry_text_in format entry) before);
      next = λ lt. omega (arith, others.next (omega arith), length-append (entry_text_in format entry) (flat_map (entry_text_in format) (take (suc p) entries)));
      found = ap (all_at format last) parts ∙ all_go_on format last (entry_text_in format entry ++ take k texts) entry (take k texts) (entry_again format last entry (take k texts) lawful has next)
          ∙ ap (with_entry entry) others.found ∙ ap (left_over (entry ∷ take p entries)) count;
    }

cut_entries : (format : Format) (entries : List Entry) (last : LastToken) (c : ℕ) → AllByRecursion IsEntry entries → AllByRecursion (HasEntry format) entries → FollowFrom last.phase last.point entries → (p : ℕ) × CutFound format last entries c p
unfolding entries_at
cut_entries format [] last zero lawful has order = (0, record { some = omega arith; there = omega arith; next = λ lt. absurd (omega arith); found = refl })
cut_entries format [] last (suc c) lawful has order = (0, record { some = omega arith; there = omega arith; next = λ lt. absurd (omega arith); found = refl })
cut_entries format (entry ∷ entries) last c lawful has order =
    let next = follow_first last entry entries order in
    elim (cases_lt c (length (entry_text_in format entry))) [
      | inl lt ↦ (0, cut_here format last entry entries c lawful.0 lt)
      | inr le ↦ let others = cut_entries format entries (token_after last entry) (c - length (entry_text_in format entry)) lawful.1 has.1 next.1 in (suc others.0, cut_later format last entry entries c others.0 lawful.0 has.0 next.0 le others.1)
    ]

-- ---- a header that is truncated

magic_short : (first second bytes : List ℕ) → length bytes < 8 → magic_at first second bytes ≡ Err Short
unfolding magic_at
magic_short first second bytes lt = rw (bytes_short Short 8 bytes lt) refl

pub header_cut : (format : Format) (run : ℕ) (rest : List ℕ) (c : ℕ) → run < 2 ^ 64 → c < 20 → log_at (take c (header_text_in format run ++ rest)) ≡ Err Short
unfolding log_at header_at
header_cut format run rest c fits cut =
    let base = to_be_bytes w32 0 ++ rest in
    let numbers = to_be_bytes w64 run ++ base in
    ap (λ (t : List ℕ). log_at (take c t)) (header_parts format run rest) ∙
    elim (cases_lt c 8) as (λ _. log_at (take c (log_magic format ++ numbers)) ≡ Err Short) [
      | inl lt ↦ rw (magic_short (log_magic First) (log_magic Second) (take c (log_magic format ++ numbers)) (omega (arith, taken_length c (log_magic format ++ numbers)))) refl
      | inr le ↦ ap log_at (behind_sized 8 (log_magic format) numbers c (magic_length format) le) ∙ elim (cases_lt c 16) as (λ _. log_at (log_magic format ++ take (c - 8) numbers) ≡ Err Short) [
        | inl lt ↦ rw (header_magic format (take (c - 8) numbers), number_short Short w64 (take (c - 8) numbers) (omega (arith, taken_length (c - 8) numbers))) refl
        | inr le' ↦
            let there : take (c - 8) numbers ≡ to_be_bytes w64 run ++ take (c - 8 - 8) base = take_behind (to_be_bytes w64 run) base (c - 8) (omega arith) in
            ap (λ (t : List ℕ). log_at (log_magic format ++ t)) there
            ∙ rw (header_magic format (to_be_bytes w64 run ++ take (c - 8 - 8) base), number_again Short w64 (2 ^ 64) wide64 run (take (c - 8 - 8) base) fits, number_short Short w32 (take (c - 8 - 8) base) (omega (arith, taken_length (c - 8 - 8) base))) refl
      ]
    ]

-- ---- a log that is truncated

pub log_cut : (format : Format) (run : ℕ) (entries : List Entry) (c : ℕ) → run < 2 ^ 64 → All IsEntry entries → HasLog format entries → InOrder entries → 20 ≤ c
    → (p : ℕ) × AreCut format run entries c p × (log_at (take c (log_text_in format run entries)) ≡ Ok (cut_read format run entries c p))
log_cut format run entries c fits lawful has order le =
    let texts = flat_map (entry_text_in format) entries in
    let cut = cut_entries format entries no_token (c - 20) (recursion_from_All IsEntry entries lawful) (recursion_from_All (HasEntry format) entries has) order in
    let p = cut.0 in
    let header = length-append (header_text_in format run) (flat_map (entry_text_in format) (take p entries)) in
    let size = header_length format run in
    let parts : take c (log_text_in format run entries) ≡ header_text_in format run ++ take (c - 20) texts = behind_sized 20 (header_text_in format run) texts c (header_length format run) le in
    let count : length (take (c - 20) texts) - length (flat_map (entry_text_in format) (take p entries)) ≡ left_behind format run entries c p =
    rw (parts) (omega (arith, length-append (header_text_in format run) (take (c - 20) texts), header, size)) in (
      p,
      record {
        some = cut.1.some;
        there = omega (arith, cut.1.there, header, size);
        next = λ lt. subst (λ (n : ℕ). c < length (log_text_in format run (take n entries))) (sym (add-one p)) (omega (arith, cut.1.next lt, length-append (header_text_in format run) (flat_map (entry_text_in format) (take (suc p) entries)), size));
      },
      ap log_at parts ∙ header_again format run (take (c - 20) texts) fits ∙ ap (read_as run) (cut.1.found ∙ ap (left_over (take p entries)) count),
    )
