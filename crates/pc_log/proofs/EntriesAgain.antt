-- What was written of entries is read again.
use Rattle.std.proofs.Common.{◌≡◌, ℕ, suc, ◌+◌, ◌*◌, ◌^◌, ◌<◌, ◌≤◌, Bool, true, false, List, [], ◌∷◌, ◌++◌, length, get_or, ◌&&◌, ◌||◌, Result, Ok, refl, sym, ap, subst, ◌∙◌, append_assoc, arith}
use Rattle.std.specs.Prelude.{nat_le}
use Rattle.std.specs.List.{flat_map, IsDistinct, AllByRecursion}
use Rattle.std.specs.Int.{w8, w16, w32, w64, to_be_bytes}
use Rattle.std.proofs.lemmas.Bool.Decides.{nat_tests}
use Rattle.std.proofs.lemmas.List.{append-nil, length-append, length-drop}
use Rattle.pc_types.specs.declared.refusal.Refusal.{Refusal}
use Rattle.pc_types.specs.declared.refusal.Refusal.TheVariants.{Short, BadLength, TokenOrder}
use Rattle.pc_types.specs.declared.Entry.{Entry}
use Rattle.pc_io.specs.declared.Format.{Format}
use Rattle.pc_io.specs.declared.Format.TheVariants.{First, Second}
use Rattle.pc_types.specs.declared.Entry.TheVariants.{Commit, Token}
use Rattle.pc_types.specs.declared.Phase.{Phase}
use Rattle.pc_types.specs.declared.Write.{Write}
use Rattle.pc_types.specs.Limits.{IsKey}
use Rattle.pc_io.specs.Fields.{◌>>=◌, where_true, number_at, magic_at, space_bytes, key_text_in, HasKey}
use Rattle.pc_io.proofs.FieldLaws.{wide16, wide32, wide64, bytes_again, number_again, told, magic_again, key_again}
use Rattle.pc_log.specs.declared.order.LastToken.{LastToken}
use Rattle.pc_log.specs.Texts.{log_magic, header_text_in, change_text, write_text_in, phase_number, body_text_in, entry_text_in, same_key, keys_of, IsWrite, IsEntry, IsCommit, IsTokenPoint, HasEntry, HasLog}
use Rattle.pc_log.specs.Orders.{comes_next, token_after, no_token, FollowFrom}
use Rattle.pc_log.specs.Reading.{most_body_bytes, is_written, write_at, writes_at, commit_at, token_at, kind_at, body_at, entry_at, header_at, log_at, with_entry, of_run, all_at}
use Rattle.pc_log.proofs.TokenOrders.{ComesNext, next_holds, numbered_is, follow_first}
use Rattle.pc_log.proofs.EntryTexts.{one_byte, same_key_laws}
use Rattle.pc_log.proofs.ChangeTexts.{change_again, change_length}
use Rattle.pc_log.proofs.TurnLaws.{all_go_on, with_front}

-- ---- what format 02 has

keys_have : (writes : List Write) → AllByRecursion (λ (write : Write). HasKey Second write.key) writes
keys_have [] = tt
keys_have (w ∷ ws) = (tt, keys_have ws)

-- a text of each entry
pub second_has : (entry : Entry) → HasEntry Second entry
second_has (Commit session writes) = keys_have writes
second_has (Token phase point) = tt

-- and so a text of each log
pub second_has_all : (entries : List Entry) → HasLog Second entries
second_has_all entries = λ i default some. second_has (get_or entries i default)

-- ---- writes

write_again : (format : Format) (earlier : List Write) (write : Write) (rest : List ℕ) → IsWrite write → HasKey format write.key → is_written earlier write.key ≡ false → write_at format earlier (write_text_in format write ++ rest) ≡ Ok (write, rest)
unfolding write_at
write_again format earlier write rest limits has new =
    let parts : write_text_in format write ++ rest ≡ key_text_in format write.key ++ (change_text write.change ++ rest) = append_assoc (key_text_in format write.key) (change_text write.change) rest in
    ap (write_at format earlier) parts ∙ rw (key_again format BadLength write.key (change_text write.change ++ rest) limits.0 has, new, change_again write.change rest limits.1) refl

-- what holds of all keys holds of one in the middle
in_middle : (P : List ℕ → Type 0) (earlier : List Write) (write : Write) (more : List Write) → AllByRecursion P (keys_of (earlier ++ write ∷ more)) → P write.key
in_middle P [] write more all = all.0
in_middle P (x ∷ xs) write more all = in_middle P xs write more all.1

-- if no key occurs twice, none is among the earlier ones
not_earlier : (earlier : List Write) (write : Write) (more : List Write) → IsDistinct same_key (keys_of (earlier ++ write ∷ more)) → is_written earlier write.key ≡ false
unfolding IsDistinct
not_earlier [] write more once = refl
not_earlier (x ∷ xs) write more once =
    let other : same_key write.key x.key ≡ false = same_key_laws.symm write.key x.key ∙ in_middle (λ key. same_key x.key key ≡ false) xs write more once.0 in
    ap (λ (b : Bool). b || is_written xs write.key) other ∙ not_earlier xs write more once.1

abbrev writes_read : List ℕ → List Write → Result (List Write × List ℕ) Refusal
writes_read rest writes = Ok (writes, rest)

writes_again : (format : Format) (more earlier : List Write) (rest : List ℕ) → AllByRecursion IsWrite more → AllByRecursion (λ (write : Write). HasKey format write.key) more → IsDistinct same_key (keys_of (earlier ++ more)) → writes_at format (length more) earlier (flat_map (write_text_in format) more ++ rest) ≡ Ok (earlier ++ more, rest)
unfolding writes_at
writes_again format [] earlier rest limits has once = ap (writes_read rest) (sym (append-nil earlier))
writes_again format (w ∷ ws) earlier rest limits has once =
    let same : (earlier ++ w ∷ []) ++ ws ≡ earlier ++ w ∷ ws = append_assoc earlier (w ∷ []) ws in
    let others = writes_again format ws (earlier ++ w ∷ []) rest limits.1 has.1 (subst (λ (l : List Write). IsDistinct same_key (keys_of l)) (sym same) once) in
    ap (writes_at format (suc (length ws)) earlier) (append_assoc (write_text_in format w) (flat_map (write_text_in format) ws) rest)
    ∙ rw (write_again format earlier w (flat_map (write_text_in format) ws ++ rest) limits.0 has.0 (not_earlier earlier w ws once)) (others ∙ ap (writes_read rest) same)

-- ---- how long texts are

-- the longest write has that many bytes
abbrev most_write_bytes : Format → ℕ
most_write_bytes format = 2 + (space_bytes format + 255) + 1 + (4 + 65535)

key_length : (format : Format) (key : List ℕ) → IsKey key → length (key_text_in format key) ≤ 2 + (space_bytes format + 255)
key_length First key limits = omega (arith, length-drop 2 key, limits.1)
key_length Second key limits = omega (arith, limits.1)

write_length : (format : Format) (write : Write) → IsWrite write → length (write_text_in format write) ≤ most_write_bytes format
write_length format write limits =
    omega (arith, length-append (key_text_in format write.key) (change_text write.change), key_length format write.key limits.0, change_length write.change limits.1)

writes_length : (format : Format) (writes : List Write) → AllByRecursion IsWrite writes → length (flat_map (write_text_in format) writes) ≤ most_write_bytes format * length writes
writes_length format [] limits = omega arith
writes_length First (w ∷ ws) limits =
    omega (arith, writes_length First ws limits.1, write_length First w limits.0, length-append (write_text_in First w) (flat_map (write_text_in First) ws))
writes_length Second (w ∷ ws) limits =
    omega (arith, writes_length Second ws limits.1, write_length Second w limits.0, length-append (write_text_in Second w) (flat_map (write_text_in Second) ws))

pub body_length : (format : Format) (entry : Entry) → IsEntry entry → (1 ≤ length (body_text_in format entry)) × (length (body_text_in format entry) ≤ most_body_bytes format)
body_length First (Commit session writes) lawful = (omega arith, omega (arith, writes_length First writes lawful.in_limits, lawful.count))
body_length Second (Commit session writes) lawful = (omega arith, omega (arith, writes_length Second writes lawful.in_limits, lawful.count))
body_length format (Token phase point) lawful = (omega arith, omega arith)

pub body_lawful : (format : Format) (entry : Entry) → IsEntry entry → (nat_le 1 (length (body_text_in format entry)) && nat_le (length (body_text_in format entry)) (most_body_bytes format)) ≡ true
body_lawful format entry lawful = let l = body_length format entry lawful in grind (arith, nat_tests, l.0, l.1)

-- a body's length is written in four bytes
pub body_fits : (format : Format) (entry : Entry) → IsEntry entry → length (body_text_in format entry) < 2 ^ 32
body_fits First entry lawful = omega (arith, (body_length First entry lawful).1)
body_fits Second entry lawful = omega (arith, (body_length Second entry lawful).1)

-- ---- bodies

pub commit_again : (format : Format) (session : ℕ) (writes : List Write) → IsCommit session writes → HasEntry format (Commit session writes) → commit_at format (to_be_bytes w8 session ++ (to_be_bytes w16 (length writes) ++ flat_map (write_text_in format) writes)) ≡ Ok (Commit session writes, [])
unfolding commit_at
commit_again format session writes lawful has =
    let in_limits : (nat_le 1 session && nat_le session 64) ≡ true = grind (arith, nat_tests, lawful.first_session, lawful.last_session) in
    let few : nat_le (length writes) 256 ≡ true = grind (arith, nat_tests, lawful.count) in
    let texts : writes_at format (length writes) [] (flat_map (write_text_in format) writes) ≡ Ok (writes, []) =
    ap (writes_at format (length writes) []) (sym (append-nil (flat_map (write_text_in format) writes))) ∙ writes_again format writes [] [] lawful.in_limits has lawful.once in
    ap (λ (t : List ℕ). commit_at format (t ++ (to_be_bytes w16 (length writes) ++ flat_map (write_text_in format) writes))) (one_byte session (omega (arith, lawful.last_session)))
    ∙ rw (in_limits, number_again BadLength w16 (2 ^ 16) wide16 (length writes) (flat_map (write_text_in format) writes) (omega (arith, lawful.count)), few, texts) refl

token_again : (last : LastToken) (phase : Phase) (point : ℕ) → ComesNext last (Token phase point) → IsTokenPoint point → token_at last (phase_number phase ∷ to_be_bytes w32 point) ≡ Ok (Token phase point, [])
unfolding token_at
token_again last phase point next lawful =
    let number : number_at BadLength w32 (to_be_bytes w32 point) ≡ Ok (point, []) = number_again BadLength w32 (2 ^ 32) wide32 point [] (omega (arith, lawful.last)) in
    ap (λ (r : Result Phase Refusal). r >>= λ p. number_at BadLength w32 (to_be_bytes w32 point) >>= λ n. where_true (comes_next last p n.0) TokenOrder (Token p n.0, n.1)) (numbered_is phase)
    ∙ ap (λ (r : Result (ℕ × List ℕ) Refusal). r >>= λ n. where_true (comes_next last phase n.0) TokenOrder (Token phase n.0, n.1)) number
    ∙ ap (λ (b : Bool). where_true b TokenOrder (Token phase point, [])) (next_holds last phase point next lawful)

body_again : (format : Format) (last : LastToken) (entry : Entry) → IsEntry entry → HasEntry format entry → ComesNext last entry → body_at format last (body_text_in format entry) ≡ Ok entry
unfolding body_at kind_at
body_again format last (Commit session writes) lawful has next = rw (commit_again format session writes lawful has) refl
body_again format last (Token phase point) lawful has next = rw (token_again last phase point next lawful) refl

-- ---- entries

pub entry_again : (format : Format) (last : LastToken) (entry : Entry) (rest : List ℕ) → IsEntry entry → HasEntry format entry → ComesNext last entry → entry_at format last (entry_text_in format entry ++ rest) ≡ Ok (entry, rest)
unfolding entry_at
entry_again format last entry rest lawful has next =
    let size = length (body_text_in format entry) in
    ap (entry_at format last) (append_assoc (to_be_bytes w32 size) (body_text_in format entry) rest)
    ∙ rw (number_again Short w32 (2 ^ 32) wide32 size (body_text_in format entry ++ rest) (body_fits format entry lawful), body_lawful format entry lawful, bytes_again Short (body_text_in format entry) rest, body_again format last entry lawful has next) refl

-- the last token after the entries
abbrev pub last_after : LastToken → List Entry → LastToken
last_after last [] = last
last_after last (entry ∷ entries) = last_after (token_after last entry) entries

pub all_again : (format : Format) (entries : List Entry) (last : LastToken) (left : List ℕ) → AllByRecursion IsEntry entries → AllByRecursion (HasEntry format) entries → FollowFrom last.phase last.point entries
    → all_at format last (flat_map (entry_text_in format) entries ++ left) ≡ with_front entries (all_at format (last_after last entries) left)
all_again format [] last left lawful has order = refl
all_again format (entry ∷ entries) last left lawful has order =
    let next = follow_first last entry entries order in
    ap (all_at format last) (append_assoc (entry_text_in format entry) (flat_map (entry_text_in format) entries) left)
    ∙ all_go_on format last (entry_text_in format entry ++ (flat_map (entry_text_in format) entries ++ left)) entry (flat_map (entry_text_in format) entries ++ left) (entry_again format last entry (flat_map (entry_text_in format) entries ++ left) lawful.0 has.0 next.0)
    ∙ ap (with_entry entry) (all_again format entries (token_after last entry) left lawful.1 has.1 next.1)

-- ---- the header

-- the magic of a format is the one of the two that tells it
pub magic_is : (format : Format) → told format (log_magic First) (log_magic Second) ≡ log_magic format
magic_is First = refl
magic_is Second = refl

pub magic_length : (format : Format) → length (log_magic format) ≡ 8
magic_length First = refl
magic_length Second = refl

pub header_length : (format : Format) (run : ℕ) → length (header_text_in format run) ≡ 20
header_length First run = refl
header_length Second run = refl

pub header_magic : (format : Format) (rest : List ℕ) → magic_at (log_magic First) (log_magic Second) (log_magic format ++ rest) ≡ Ok (format, rest)
header_magic format rest =
    subst (λ (magic : List ℕ). magic_at (log_magic First) (log_magic Second) (magic ++ rest) ≡ Ok (format, rest)) (magic_is format) (magic_again (log_magic First) (log_magic Second) format rest refl (ap length (magic_is format) ∙ magic_length format))

pub header_parts : (format : Format) (run : ℕ) (rest : List ℕ) → header_text_in format run ++ rest ≡ log_magic format ++ (to_be_bytes w64 run ++ (to_be_bytes w32 0 ++ rest))
header_parts format run rest = append_assoc (log_magic format) (to_be_bytes w64 run ++ to_be_bytes w32 0) rest ∙ ap (λ (t : List ℕ). log_magic format ++ t) (append_assoc (to_be_bytes w64 run) (to_be_bytes w32 0) rest)

pub header_again : (format : Format) (run : ℕ) (rest : List ℕ) → run < 2 ^ 64 → log_at (header_text_in format run ++ rest) ≡ Ok (of_run run (all_at format no_token rest))
unfolding log_at header_at
header_again format run rest fits =
    ap log_at (header_parts format run rest)
    ∙ rw (header_magic format (to_be_bytes w64 run ++ (to_be_bytes w32 0 ++ rest)), number_again Short w64 (2 ^ 64) wide64 run (to_be_bytes w32 0 ++ rest) fits, number_again Short w32 (2 ^ 32) wide32 0 rest (omega arith)) refl
