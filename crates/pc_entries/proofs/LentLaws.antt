-- The text of an entry shows the entry.
use Rattle.std.proofs.Common.{◌≡◌, ℕ, ◌+◌, ◌-◌, ◌≤◌, ◌<◌, eqb, cond, Bool, true, false, List, [], ◌∷◌, ◌++◌, length, take, drop, get_or, nat_lt, Option, Some, None, Ok, refl, sym, ap, ◌∙◌, append_assoc, arith, Ordering, Less, Equal, Greater}
use Rattle.std.specs.Cmp.{nat_cmp_is}
use Rattle.std.specs.Int.{w16, w32, to_be_bytes}
use Rattle.std.specs.Ordering.{is_lt, nat_cmp}
use Rattle.std.proofs.lemmas.Bool.{ltb-true, ltb-false}
use Rattle.std.proofs.lemmas.List.{length-append, take_at, drop_at, drop-drop, drop-take, get_or-drop}
use Rattle.pc_types.specs.Bytes.{IsBytes}
use Rattle.pc_io.specs.Fields.{key_text, content_text}
use Rattle.pc_types.specs.declared.Triple.{Triple}
use Rattle.pc_io.specs.declared.formats.Format.{Format}
use Rattle.pc_types.specs.Heads.{head}
use Rattle.pc_io.proofs.FieldLaws.{wide16, wide32}
use Rattle.pc_types.proofs.HeadLaws.{by_heads}
use Rattle.pc_model.specs.Database.{key_cmp}
use Rattle.pc_part.specs.declared.ranges.Range.{Range}
use Rattle.pc_part.specs.Lawful.{HasLimits}
use Rattle.pc_entries.specs.Lent.{IsEntryIn, IsHead, IsEntryText, content_after_key, entry_in}
use Rattle.pc_part.specs.Reading.{next_entry_at}
use Rattle.pc_part.specs.Texts.{triple_text, triple_text_in}
use Rattle.pc_part.proofs.ReadFieldLaws.{next_entry_takes}

-- ---- what was read

-- what is left is no longer
pub rest_within : (bytes text rest : List ℕ) → bytes ≡ text ++ rest → length rest ≤ length bytes
rest_within bytes text rest is = omega (arith, ap length is, length-append text rest)

-- the bytes before it
front_is : (bytes text rest : List ℕ) → bytes ≡ text ++ rest → take (length bytes - length rest) bytes ≡ text
front_is bytes text rest is =
    let whole : length bytes ≡ length text + length rest = ap length is ∙ length-append text rest in
    let place : length bytes - length rest ≡ length text = omega (arith, whole) in
    ap (λ (n : ℕ). take n bytes) place ∙ ap (take (length text)) is ∙ take_at text rest (length text) refl

-- the text of an entry that was read
pub text_read : (format : Format) (ranges : List Range) (last bytes rest : List ℕ) (entry : Triple) → IsBytes bytes → next_entry_at format ranges last bytes ≡ Ok (Some entry, rest) → (length rest ≤ length bytes) × IsEntryIn format (take (length bytes - length rest) bytes) entry
text_read format ranges last bytes rest entry fits read =
    let t = next_entry_takes format ranges last bytes (Some entry, rest) fits read in
    (rest_within bytes (triple_text_in format entry) rest t.0.parts, record { is = front_is bytes (triple_text_in format entry) rest t.0.parts; limits = t.2 })

-- ---- what is kept

pub key_slice : (key_end : ℕ) (text : List ℕ) → 2 ≤ key_end → take (key_end - 2) (drop 2 text) ≡ drop 2 (take key_end text)
key_slice key_end text some = sym (drop-take 2 (key_end - 2) text) ∙ ap (λ (n : ℕ). drop 2 (take n text)) (omega (arith, some))

module _ (entry : Triple) where
  abbrev len : List ℕ
  len = to_be_bytes w16 (length entry.key - 2)

  abbrev front : List ℕ
  front = key_text entry.key

  abbrev number : List ℕ
  number = to_be_bytes w32 entry.point

  abbrev text : List ℕ
  text = triple_text entry

  front_length : length front ≡ 2 + length entry.key
  front_length = length-append len entry.key ∙ ap (λ (n : ℕ). n + length entry.key) (wide16.len (length entry.key - 2))

  key_shown : drop 2 (take (2 + length entry.key) text) ≡ entry.key
  key_shown = ap (drop 2) (take_at front (number ++ content_text entry.content) (2 + length entry.key) front_length) ∙ drop_at len entry.key 2 (wide16.len (length entry.key - 2))

  -- the bytes after the point
  behind : drop (2 + length entry.key + 4) text ≡ content_text entry.content
  behind =
      let parts : text ≡ (front ++ number) ++ content_text entry.content = sym (append_assoc front number (content_text entry.content)) in
      let long : length (front ++ number) ≡ 2 + length entry.key + 4 = length-append front number ∙ omega (arith, front_length, wide32.len entry.point) in
      ap (drop (2 + length entry.key + 4)) parts ∙ drop_at (front ++ number) (content_text entry.content) (2 + length entry.key + 4) long

  first_behind : get_or text (2 + length entry.key + 4) 0 ≡ get_or (content_text entry.content) 0 0
  first_behind = sym (get_or-drop (2 + length entry.key + 4) text 0 0 ∙ ap (λ (n : ℕ). get_or text n 0) (omega arith)) ∙ ap (λ (l : List ℕ). get_or l 0 0) behind

  value_behind : drop (2 + length entry.key + 9) text ≡ drop 5 (content_text entry.content)
  value_behind = ap (λ (n : ℕ). drop n text) (omega arith) ∙ sym (drop-drop 5 (2 + length entry.key + 4) text) ∙ ap (drop 5) behind

  -- what the content's own text shows
  abbrev shown_in : List ℕ → Option (List ℕ)
  shown_in content = cond (eqb (get_or content 0 0) 0) None (Some (drop 5 content))

  content_is : (content : Option (List ℕ)) → shown_in (content_text content) ≡ content
  content_is None = refl
  content_is (Some value) = ap (λ (v : List ℕ). Some v) (drop_at (to_be_bytes w32 (length value)) value 4 (wide32.len (length value)))

  content_shown : content_after_key text (2 + length entry.key) ≡ entry.content
  content_shown =
      ap (λ (n : ℕ). cond (eqb n 0) None (Some (drop (2 + length entry.key + 9) text))) first_behind ∙
      ap (λ (l : List ℕ). cond (eqb (get_or (content_text entry.content) 0 0) 0) None (Some l)) value_behind ∙ content_is entry.content

  text_shows : entry_in text (2 + length entry.key) entry.point ≡ entry
  text_shows = λ i. record { key = key_shown i; point = entry.point; content = content_shown i }

  text_length : length text ≡ 2 + length entry.key + 4 + length (content_text entry.content)
  text_length = length-append front (number ++ content_text entry.content) ∙ omega (arith, front_length, length-append number (content_text entry.content), wide32.len entry.point)

  some_content : (content : Option (List ℕ)) → 1 ≤ length (content_text content)
  some_content None = omega arith
  some_content (Some value) = omega arith

  value_content : (content : Option (List ℕ)) → (get_or (content_text content) 0 0 ≡ 0 → ⊥) → 5 ≤ length (content_text content)
  value_content None some = absurd (some refl)
  value_content (Some value) some = omega (arith, length-append (to_be_bytes w32 (length value)) value, wide32.len (length value))

  kept : HasLimits entry → IsEntryText text (2 + length entry.key) entry.point
  kept limits = record {
    of = rw text_shows (record { is = refl; limits = limits });
    ends = (omega arith, omega (arith, text_length, some_content entry.content));
    value_ends = λ some. let long = value_content entry.content (λ none. some (first_behind ∙ none)) in omega (arith, text_length, long);
  }

-- a text that shows an entry
pub shown : (text : List ℕ) (key_end point : ℕ) (entry : Triple) → text ≡ triple_text entry → key_end ≡ 2 + length entry.key → point ≡ entry.point → entry_in text key_end point ≡ entry
shown text key_end point entry is ends same = rw (is, ends, same) (text_shows entry)

pub is_kept : (text : List ℕ) (key_end point : ℕ) (entry : Triple) → text ≡ triple_text entry → key_end ≡ 2 + length entry.key → point ≡ entry.point → HasLimits entry → IsEntryText text key_end point
is_kept text key_end point entry is ends same limits = rw (is, ends, same) (kept entry limits)

-- the text in format 01, with space 0 after the length
pub widened : (own content : List ℕ) (n : ℕ) → let text : List ℕ = (to_be_bytes w16 n ++ own) ++ content in take 2 text ++ (0 ∷ 0 ∷ drop 2 text) ≡ (to_be_bytes w16 n ++ (0 ∷ 0 ∷ own)) ++ content
widened own content n =
    let len : List ℕ = to_be_bytes w16 n in
    let parts : (len ++ own) ++ content ≡ len ++ (own ++ content) = append_assoc len own content in
    let before : take 2 ((len ++ own) ++ content) ≡ len = ap (take 2) parts ∙ take_at len (own ++ content) 2 (wide16.len n) in
    let after : drop 2 ((len ++ own) ++ content) ≡ own ++ content = ap (drop 2) parts ∙ drop_at len (own ++ content) 2 (wide16.len n) in
    ap (λ (l : List ℕ). l ++ (0 ∷ 0 ∷ drop 2 ((len ++ own) ++ content))) before ∙ ap (λ (l : List ℕ). len ++ (0 ∷ 0 ∷ l)) after ∙ sym (append_assoc len (0 ∷ 0 ∷ own) content)

-- ---- heads

-- if heads differ they tell which key comes first
pub heads_tell : (k l : List ℕ) (h g : ℕ) → IsHead k h → IsHead l g → (g ≡ h → ⊥) → nat_lt h g ≡ is_lt (key_cmp k l)
heads_tell k l h g first second apart = by (nat_lt h g) refl
  where
    decide : (r : Ordering) → nat_cmp (head k) (head l) ≡ r → (r ≡ Equal → ⊥) → key_cmp k l ≡ r
    decide r is some = by_heads k l first.1 second.1 (λ same. some (sym is ∙ same)) ∙ is

    by : (t : Bool) → nat_lt h g ≡ t → t ≡ is_lt (key_cmp k l)
    by true is =
        let less : head k < head l = omega (arith, first.0, second.0, ltb-true h g is) in
        ap is_lt (sym (decide Less (sym (nat_cmp_is (head k) (head l) Less less)) (λ e. cc)))
    by false is =
        let no = ltb-false h g is in
        let more : head l < head k = omega (arith, first.0, second.0, no, apart) in
        ap is_lt (sym (decide Greater (sym (nat_cmp_is (head k) (head l) Greater more)) (λ e. cc)))
