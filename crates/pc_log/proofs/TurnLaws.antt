-- Reading entries in order: each takes some of the bytes, so that there are turns enough.
use Rattle.std.proofs.Common.{◌≡◌, ◌≢◌, ℕ, zero, suc, ◌-◌, ◌+◌, ◌≤◌, ◌<◌, Bool, true, false, ltb, eqb, List, [], ◌∷◌, ◌++◌, length, take, drop, Some, None, Result, Ok, Err, refl, sym, ap, subst, ◌∙◌, append_assoc, arith}
use Rattle.std.specs.Prelude.{nat_le, ◌&&◌}
use Rattle.std.specs.Int.{Width, w32, byte_len, from_be_bytes}
use Rattle.std.proofs.lemmas.Bool.{ltb-false, eqb-true}
use Rattle.std.proofs.lemmas.Bool.Decides.{nat_tests}
use Rattle.std.proofs.lemmas.List.{append-nil, length-drop, nil_from_length}
use Rattle.pc_types.specs.declared.refusal.Refusal.{Refusal}
use Rattle.pc_types.specs.declared.refusal.Refusal.TheVariants.{OutOfMemory, Short, BadLength}
use Rattle.pc_types.specs.declared.Entry.{Entry}
use Rattle.pc_io.specs.declared.Format.{Format}
use Rattle.pc_io.specs.Fields.{◌>>=◌, where_true, bytes_at, number_at, Gives}
use Rattle.pc_io.proofs.FieldLaws.{bind_ok, guard_ok}
use Rattle.pc_log.proofs.StepLaws.{where_then, made_ok}
use Rattle.pc_log.specs.declared.order.LastToken.{LastToken}
use Rattle.pc_log.specs.Orders.{token_after}
use Rattle.pc_log.specs.Reading.{body_at, most_body_bytes, entry_at, entries_at, LogReading, none_more, with_entry, reading_from_entry, of_run, log_read, LogRead, all_at}
use Rattle.pc_log.specs.declared.reading.LogText.{LogText}

-- ---- the parts of an entry that was read

pub record EntryParts (format : Format) (last : LastToken) (bytes : List ℕ) (entry : Entry) (after : List ℕ) : Type 0 where
  pub size : ℕ
  pub behind : List ℕ
  pub body : List ℕ
  pub size_read : number_at Short w32 bytes ≡ Ok (size, behind)
  pub lawful : (nat_le 1 size && nat_le size (most_body_bytes format)) ≡ true
  pub body_there : bytes_at Short size behind ≡ Ok (body, after)
  pub body_read : body_at format last body ≡ Ok entry

pub entry_parts : (format : Format) (last : LastToken) (bytes : List ℕ) (entry : Entry) (after : List ℕ) → entry_at format last bytes ≡ Ok (entry, after) → EntryParts format last bytes entry after
unfolding entry_at
entry_parts format last bytes entry after e =
    let a = bind_ok (number_at Short w32 bytes) (λ size. where_true (nat_le 1 size.0 && nat_le size.0 (most_body_bytes format)) BadLength size >>= λ lawful. bytes_at Short lawful.0 lawful.1 >>= λ body. body_at format last body.0 >>= λ x. Ok (x, body.1)) (entry, after) e in
    let g = where_then (nat_le 1 a.0.0 && nat_le a.0.0 (most_body_bytes format)) BadLength a.0 (λ lawful. bytes_at Short lawful.0 lawful.1 >>= λ body. body_at format last body.0 >>= λ x. Ok (x, body.1)) (entry, after) a.2 in
    let c = bind_ok (bytes_at Short a.0.0 a.0.1) (λ body. body_at format last body.0 >>= λ x. Ok (x, body.1)) (entry, after) g.1 in
    let d = made_ok (body_at format last c.0.0) (λ (x : Entry). (x, c.0.1)) (entry, after) c.2 in
    subst (λ (p : Entry × List ℕ). EntryParts format last bytes p.0 p.1) {x = (d.0, c.0.1)} {y = (entry, after)} d.2
    (record { size = a.0.0; behind = a.0.1; body = c.0.0; size_read = a.1; lawful = g.0; body_there = c.1; body_read = d.1 })

-- ---- what is left is shorter

number_shorter : (missing : Refusal) (w : Width) (bytes : List ℕ) (n : ℕ) (rest : List ℕ) → number_at missing w bytes ≡ Ok (n, rest) → length rest + byte_len w ≡ length bytes
number_shorter missing w bytes n rest e =
    let g = guard_ok (ltb (length bytes) (byte_len w)) missing (from_be_bytes w (take (byte_len w) bytes), drop (byte_len w) bytes) (n, rest) e in
    let long : byte_len w ≤ length bytes = ltb-false _ _ g.0 in
    subst (λ (r : List ℕ). length r + byte_len w ≡ length bytes) (ap (λ (p : ℕ × List ℕ). p.1) g.1) (omega (arith, length-drop (byte_len w) bytes))

bytes_shorter : (missing : Refusal) (count : ℕ) (bytes text rest : List ℕ) → bytes_at missing count bytes ≡ Ok (text, rest) → length rest + count ≡ length bytes
bytes_shorter missing count bytes text rest e =
    let g = guard_ok (ltb (length bytes) count) missing (take count bytes, drop count bytes) (text, rest) e in
    let long : count ≤ length bytes = ltb-false _ _ g.0 in
    subst (λ (r : List ℕ). length r + count ≡ length bytes) (ap (λ (p : List ℕ × List ℕ). p.1) g.1) (omega (arith, length-drop count bytes))

pub entry_shorter : (format : Format) (last : LastToken) (bytes : List ℕ) (entry : Entry) (after : List ℕ) → entry_at format last bytes ≡ Ok (entry, after) → length after < length bytes
entry_shorter format last bytes entry after e =
    let parts = entry_parts format last bytes entry after e in
    let a : length parts.behind + 4 ≡ length bytes = number_shorter Short w32 bytes parts.size parts.behind parts.size_read in
    let b = bytes_shorter Short parts.size parts.behind parts.body after parts.body_there in
    omega (arith, a, b)

-- ---- turns enough

-- a turn that reads this
pub turn_is : (format : Format) (turns : ℕ) (last : LastToken) (bytes : List ℕ) (read : Result (Entry × List ℕ) Refusal) → entry_at format last bytes ≡ read
    → entries_at format (suc turns) last bytes ≡ reading_from_entry bytes read (λ entry. entries_at format turns (token_after last entry.0) entry.1)
unfolding entries_at
turn_is format turns last bytes read e = ap (λ (r : Result (Entry × List ℕ) Refusal). reading_from_entry bytes r (λ entry. entries_at format turns (token_after last entry.0) entry.1)) e

same_turn : (format : Format) (n m : ℕ) (last : LastToken) (bytes : List ℕ) (read : Result (Entry × List ℕ) Refusal) → entry_at format last bytes ≡ read
    → ((entry : Entry) (after : List ℕ) → length after < length bytes → entries_at format n (token_after last entry) after ≡ entries_at format m (token_after last entry) after) → entries_at format (suc n) last bytes ≡ entries_at format (suc m) last bytes
same_turn format n m last bytes (Ok x) e again = turn_is format n last bytes (Ok x) e ∙ ap (with_entry x.0) (again x.0 x.1 (entry_shorter format last bytes x.0 x.1 e)) ∙ sym (turn_is format m last bytes (Ok x) e)
same_turn format n m last bytes (Err fault) e again = turn_is format n last bytes (Err fault) e ∙ sym (turn_is format m last bytes (Err fault) e)

pub enough : (format : Format) (n m : ℕ) (last : LastToken) (bytes : List ℕ) → length bytes ≤ n → length bytes ≤ m → entries_at format n last bytes ≡ entries_at format m last bytes
unfolding entries_at entry_at
enough format zero zero last bytes p q = refl
enough format zero (suc m) last [] p q = refl
enough format zero (suc m) last (b ∷ bytes) p q = absurd (omega arith)
enough format (suc n) zero last [] p q = refl
enough format (suc n) zero last (b ∷ bytes) p q = absurd (omega arith)
enough format (suc n) (suc m) last bytes p q = same_turn format n m last bytes (entry_at format last bytes) refl (λ entry after shorter. enough format n m (token_after last entry) after (omega arith) (omega arith))

-- one entry, and then the others
pub all_go_on : (format : Format) (last : LastToken) (bytes : List ℕ) (entry : Entry) (after : List ℕ) → entry_at format last bytes ≡ Ok (entry, after) → all_at format last bytes ≡ with_entry entry (all_at format (token_after last entry) after)
all_go_on format last bytes entry after e =
    let shorter = entry_shorter format last bytes entry after e in
    let some : length bytes ≡ suc (length bytes - 1) = omega arith in
    ap (λ (n : ℕ). entries_at format n last bytes) some ∙ turn_is format (length bytes - 1) last bytes (Ok (entry, after)) e
    ∙ ap (with_entry entry) (enough format (length bytes - 1) (length after) (token_after last entry) after (omega (arith, shorter)) (omega arith))

-- none more
pub all_stop : (format : Format) (last : LastToken) (bytes : List ℕ) (fault : Refusal) → entry_at format last bytes ≡ Err fault → all_at format last bytes ≡ none_more bytes fault
unfolding entries_at
all_stop format last [] fault e = refl
all_stop format last (b ∷ bytes) fault e = turn_is format (length bytes) last (b ∷ bytes) (Err fault) e

-- ---- the loop

-- what was read before, and what is still read
abbrev pub with_front : List Entry → LogReading → LogReading
with_front front found = record found { entries = front ++ found.entries }

regroup : (front : List Entry) (entry : Entry) (found : LogReading) → with_front front (with_entry entry found) ≡ with_front (front ++ entry ∷ []) found
regroup front entry found = ap (λ (es : List Entry). record found { entries = es }) (sym (append_assoc front (entry ∷ []) found.entries))

module _ (format : Format) (front : List Entry) (last : LastToken) (bytes : List ℕ) (total : LogReading) (so_far : with_front front (all_at format last bytes) ≡ total) where
  pub entry_goes_on : (entry : Entry) (after : List ℕ) → entry_at format last bytes ≡ Ok (entry, after) → with_front (front ++ entry ∷ []) (all_at format (token_after last entry) after) ≡ total
  entry_goes_on entry after e = sym (ap (with_front front) (all_go_on format last bytes entry after e) ∙ regroup front entry (all_at format (token_after last entry) after)) ∙ so_far

  pub entry_stops : (fault : Refusal) → entry_at format last bytes ≡ Err fault → length bytes ≢ 0 → total ≡ record { entries = front; rest = length bytes; fault = Some fault }
  entry_stops fault e some = sym so_far ∙ ap (with_front front) (all_stop format last bytes fault e) ∙ left_some bytes some
    where
      left_some : (left : List ℕ) → length left ≢ 0 → with_front front (none_more left fault) ≡ record { entries = front; rest = length left; fault = Some fault }
      left_some [] h = absurd (h refl)
      left_some (b ∷ bs) h = ap (λ (es : List Entry). record { entries = es; rest = length (b ∷ bs); fault = Some fault }) (append-nil front)

  pub entries_done : bytes ≡ [] → total ≡ record { entries = front; rest = 0; fault = None }
  unfolding entries_at
  entries_done none = sym so_far ∙ ap (λ (bs : List ℕ). with_front front (all_at format last bs)) none ∙ ap (λ (es : List Entry). record { entries = es; rest = 0; fault = None }) (append-nil front)

pub not_empty : (b : Bool) (bytes : List ℕ) → b ≡ eqb (length bytes) 0 → b ≡ false → length bytes ≢ 0
not_empty b bytes e f = λ none. grind (arith, nat_tests, e, f, none)

pub is_empty : (b : Bool) (bytes : List ℕ) → b ≡ eqb (length bytes) 0 → b ≡ true → bytes ≡ []
is_empty b bytes e t = nil_from_length bytes (eqb-true (length bytes) 0 (sym e ∙ t))

-- what is read if this was found
abbrev pub read_as : ℕ → LogReading → Result LogRead Refusal
read_as run found = Ok (of_run run found)

-- what a stopped loop gives: what was read, unless an allocation failed
pub stopped_gives : (run : ℕ) (result : Result LogText Refusal) (fault : Refusal) (total : LogReading) (entries : List Entry) (rest : ℕ)
    → Gives log_read result (Ok (record { run = run; entries = entries; rest = rest; fault = Some fault })) → (fault ≡ OutOfMemory → result ≡ Err OutOfMemory)
    → (fault ≢ OutOfMemory → total ≡ record { entries = entries; rest = rest; fault = Some fault }) → Gives log_read result (Ok (of_run run total))
stopped_gives run (Ok text) fault total entries rest given memory read =
    let other : fault ≢ OutOfMemory = λ e. let f = memory e in absurd cc in
    ap (read_as run) (read other) ∙ given
stopped_gives run (Err e) fault total entries rest given memory read = λ other. let f = given other in absurd cc
