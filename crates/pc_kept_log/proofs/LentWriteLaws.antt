-- The writes of an entry's text are read in order.
use Rattle.std.proofs.Common.{◌≡◌, ℕ, zero, suc, ◌+◌, ◌-◌, ◌*◌, ◌<◌, ◌≤◌, List, [], ◌∷◌, ◌++◌, length, take, drop, get_or, Some, Result, Ok, Err, refl, sym, ap, subst, ◌∙◌, append_assoc, arith}
use Rattle.std.specs.Prelude.{All, slice_get, slice_range}
use Rattle.std.specs.List.{flat_map, AllByRecursion}
use Rattle.std.proofs.lemmas.List.{length-drop}
use Rattle.pc_types.specs.declared.refusal.Refusal.{Refusal}
use Rattle.pc_types.specs.declared.refusal.Refusal.TheVariants.{BadLength}
use Rattle.pc_types.specs.declared.Entry.{Entry}
use Rattle.pc_types.specs.declared.Entry.TheVariants.{Commit, Token}
use Rattle.pc_types.specs.declared.Write.{Write}
use Rattle.pc_io.specs.declared.Format.TheVariants.{Second}
use Rattle.pc_io.specs.Fields.{key_text}
use Rattle.pc_io.proofs.FieldLaws.{wide16, key_again}
use Rattle.pc_log.specs.Texts.{change_text, write_text, entry_text, IsWrite, IsEntry}
use Rattle.pc_log.proofs.ChangeTexts.{change_again}
use Rattle.pc_kept_log.specs.Logs.{writes_of_entry}
use Rattle.pc_kept_log.specs.LentWrites.{plain_write_at, and_more, readable_writes}
use Rattle.pc_kept_log.proofs.ChunkLaws.{take_all, some_is_entry, first_of}

-- ---- one write

-- none of no bytes
pub none_of : (bytes : List ℕ) → readable_writes 0 bytes ≡ []
unfolding readable_writes
none_of bytes = refl

pub one_more : (count : ℕ) (bytes : List ℕ) → (count ≡ 0 → ⊥) → (write : Write) (rest : List ℕ) → plain_write_at bytes ≡ Ok (write, rest) → readable_writes count bytes ≡ write ∷ readable_writes (count - 1) rest
unfolding readable_writes
one_more zero bytes some write rest read = absurd (some refl)
one_more (suc n) bytes some write rest read =
    let fewer : n ≡ suc n - 1 = omega arith in
    ap (λ (r : Result (Write × List ℕ) Refusal). and_more r (readable_writes n)) read ∙ ap (λ (k : ℕ). write ∷ readable_writes k rest) fewer

pub rest_counted : (count : ℕ) (bytes : List ℕ) → (count ≡ 0 → ⊥) → (write : Write) (rest : List ℕ) → plain_write_at bytes ≡ Ok (write, rest) → length (readable_writes count bytes) ≡ count → length (readable_writes (count - 1) rest) ≡ count - 1
rest_counted count bytes some write rest read counted = omega (arith, ap length (one_more count bytes some write rest read), counted)

none_more : (count : ℕ) (bytes : List ℕ) (fault : Refusal) → plain_write_at bytes ≡ Err fault → readable_writes count bytes ≡ []
unfolding readable_writes
none_more zero bytes fault read = refl
none_more (suc n) bytes fault read = ap (λ (r : Result (Write × List ℕ) Refusal). and_more r (readable_writes n)) read

-- if that many can be read, none of them fails
pub never_fails : (count : ℕ) (bytes : List ℕ) → (count ≡ 0 → ⊥) → (fault : Refusal) → plain_write_at bytes ≡ Err fault → length (readable_writes count bytes) ≡ count → ⊥
never_fails count bytes some fault read counted = some (sym counted ∙ ap length (none_more count bytes fault read))

-- ---- the texts of writes

write_again : (write : Write) (rest : List ℕ) → IsWrite write → plain_write_at (write_text write ++ rest) ≡ Ok (write, rest)
unfolding plain_write_at
write_again write rest limits =
    ap plain_write_at (append_assoc (key_text write.key) (change_text write.change) rest)
    ∙ rw (key_again Second BadLength write.key (change_text write.change ++ rest) limits.0 tt, change_again write.change rest limits.1) refl

all_again : (writes : List Write) (rest : List ℕ) → AllByRecursion IsWrite writes → readable_writes (length writes) (flat_map write_text writes ++ rest) ≡ writes
all_again [] rest limits = none_of rest
all_again (w ∷ ws) rest limits =
    let more = flat_map write_text ws ++ rest in
    let fewer : suc (length ws) - 1 ≡ length ws = omega arith in
    ap (readable_writes (suc (length ws))) (append_assoc (write_text w) (flat_map write_text ws) rest)
    ∙ one_more (suc (length ws)) (write_text w ++ more) (λ e. absurd cc) w more (write_again w more limits.0)
    ∙ ap (λ (k : ℕ). w ∷ readable_writes k more) fewer ∙ ap (λ (more : List Write). w ∷ more) (all_again ws rest limits.1)

-- ---- the text of an entry

-- how many writes there are, if the entry is a commit
abbrev count_there : List ℕ → ℕ
count_there text = get_or text 6 0 * 256 + get_or text 7 0

-- the bytes after the first eight
behind_head : (text : List ℕ) → take (length text - 8) (drop 8 text) ≡ drop 8 text
behind_head text = ap (λ (n : ℕ). take n (drop 8 text)) (sym (length-drop 8 text)) ∙ take_all (drop 8 text)

-- the writes viewed in the text of an entry
record Lends (entry : Entry) (text : List ℕ) : Type 0 where
  long : 8 ≤ length text
  writes : get_or text 4 0 ≡ 1 → (readable_writes (count_there text) (drop 8 text) ≡ writes_of_entry (Some entry)) × (length (writes_of_entry (Some entry)) ≡ count_there text)
  others : (get_or text 4 0 ≡ 1 → ⊥) → writes_of_entry (Some entry) ≡ []

lends : (entry : Entry) (rest : List ℕ) → IsEntry entry → Lends entry (entry_text entry ++ rest)
lends (Commit session writes) rest lawful =
    let text = entry_text (Commit session writes) ++ rest in
    let counted : count_there text ≡ length writes = wide16.again (length writes) (omega (arith, lawful.count)) in
    record {
      long = omega arith;
      writes = λ _. (ap (λ (n : ℕ). readable_writes n (flat_map write_text writes ++ rest)) counted ∙ all_again writes rest lawful.in_limits, sym counted);
      others = λ other. absurd (other refl);
    }
lends (Token phase point) rest lawful = record { long = omega arith; writes = λ one. absurd (omega (arith, one)); others = λ _. refl }

module _ (entries : List Entry) (place : ℕ) (text : List ℕ) (lawful : All IsEntry entries) (inside : place < length entries) (is : text ≡ flat_map entry_text (slice_range entries place (length entries))) where
  there : (entry : Entry) × (slice_get entries place ≡ Some entry) × Lends entry text
  there =
      let found = first_of entries place (length entries) inside (omega arith) in
      let behind = flat_map entry_text (slice_range entries (suc place) (length entries)) in
      (found.0, found.1, subst (Lends found.0) (sym (is ∙ ap (flat_map entry_text) found.2)) (lends found.0 behind (some_is_entry entries place found.0 lawful found.1 inside)))

  pub has_head : 8 ≤ length text
  has_head = there.2.long

  pub writes_there : (count : ℕ) → get_or text 4 0 ≡ 1 → count ≡ get_or text 6 0 * 256 + get_or text 7 0 → readable_writes count (take (length text - 8) (drop 8 text)) ≡ writes_of_entry (slice_get entries place)
  writes_there count commit counted =
      ap (λ (n : ℕ). readable_writes n (take (length text - 8) (drop 8 text))) counted ∙ ap (readable_writes (count_there text)) (behind_head text)
      ∙ (there.2.writes commit).0 ∙ ap writes_of_entry (sym there.1)

  pub counted_there : (count : ℕ) → get_or text 4 0 ≡ 1 → count ≡ get_or text 6 0 * 256 + get_or text 7 0 → length (readable_writes count (take (length text - 8) (drop 8 text))) ≡ count
  counted_there count commit counted = ap length (writes_there count commit counted ∙ ap writes_of_entry there.1) ∙ (there.2.writes commit).1 ∙ sym counted

  pub none_there : (get_or text 4 0 ≡ 1 → ⊥) → writes_of_entry (slice_get entries place) ≡ []
  none_there other = ap writes_of_entry there.1 ∙ there.2.others other
