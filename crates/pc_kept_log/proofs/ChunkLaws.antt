-- Pieces of a log: their entries are read of their bytes, and each text begins where it is said.
use Rattle.std.proofs.Common.{◌≡◌, ℕ, zero, suc, ◌+◌, ◌-◌, ◌≤◌, ◌<◌, Bool, true, false, ltb, List, [], ◌∷◌, ◌++◌, length, take, drop, Option, Some, None, Ok, Err, refl, sym, ap, subst, ◌∙◌, append_assoc, length-append, arith}
use Rattle.std.specs.Prelude.{All, slice_get, slice_range, ◌&&◌, if◌then◌else◌}
use Rattle.std.specs.List.{flat_map}
use Rattle.std.proofs.Math.Seq.{take-append_seam, drop-append_seam, take-append-add}
use Rattle.std.proofs.lemmas.Bool.{ltb-true, ltb-false}
use Rattle.std.proofs.lemmas.Bool.Decides.{nat_tests}
use Rattle.std.proofs.lemmas.Grind.{flat_map-append}
use Rattle.std.proofs.lemmas.List.{append-nil, take-append-drop, length-take, length-drop, nil_from_length}
use Rattle.std.proofs.lemmas.List.Elements.{All-append}
use Rattle.std.proofs.lemmas.Option.{get_or_from_slice_get}
use Rattle.pc_types.specs.declared.refusal.Refusal.{Refusal}
use Rattle.pc_types.specs.declared.Entry.{Entry}
use Rattle.pc_io.proofs.FieldLaws.{ok_is}
use Rattle.pc_log.specs.Texts.{entry_text, IsEntry}
use Rattle.pc_log.specs.Plain.{plain_entry_at, plain_entries_at, entries_in}
use Rattle.pc_kept_log.specs.Placing.{ArePut}
use Rattle.pc_kept_log.specs.Chunks.{starts_from, AreTexts, IsFilled, room_behind}
use Rattle.pc_log.proofs.PlainTextLaws.{plain_again, entries_again}

-- ---- where texts begin

starts_length : (at : ℕ) (entries : List Entry) → length (starts_from at entries) ≡ length entries
starts_length at [] = refl
starts_length at (entry ∷ entries) = ap suc (starts_length (at + length (entry_text entry)) entries)

starts_more : (at : ℕ) (entries : List Entry) (last : Entry) → starts_from at (entries ++ last ∷ []) ≡ starts_from at entries ++ (at + length (flat_map entry_text entries)) ∷ []
starts_more at [] last = ap (λ (n : ℕ). n ∷ []) (omega arith)
starts_more at (entry ∷ entries) last =
    let here : at + length (entry_text entry) + length (flat_map entry_text entries) ≡ at + length (entry_text entry ++ flat_map entry_text entries) = omega (arith, length-append (entry_text entry) (flat_map entry_text entries)) in
    ap (λ (ns : List ℕ). at ∷ ns) (starts_more (at + length (entry_text entry)) entries last ∙ ap (λ (n : ℕ). starts_from (at + length (entry_text entry)) entries ++ n ∷ []) here)

start_at : (at : ℕ) (entries : List Entry) (i : ℕ) → i < length entries → slice_get (starts_from at entries) i ≡ Some (at + length (flat_map entry_text (take i entries)))
start_at at [] i lt = absurd (omega arith)
start_at at (entry ∷ entries) zero lt = ap Some (omega arith)
start_at at (entry ∷ entries) (suc i) lt =
    let here : at + length (entry_text entry) + length (flat_map entry_text (take i entries)) ≡ at + length (entry_text entry ++ flat_map entry_text (take i entries)) = omega (arith, length-append (entry_text entry) (flat_map entry_text (take i entries))) in
    start_at (at + length (entry_text entry)) entries i (omega arith) ∙ ap Some here

-- ---- one entry more

module _ (bytes starts : List ℕ) (entry : Entry) (old : AreTexts bytes starts) (lawful : IsEntry entry) where
  all_lawful : All IsEntry (entries_in bytes ++ entry ∷ [])
  all_lawful = All-append IsEntry (entries_in bytes) (entry ∷ []) old.lawful (one lawful)
    where
      one : IsEntry entry → All IsEntry (entry ∷ [])
      one is zero d lt = is
      one is (suc k) d lt = absurd (omega arith)

  text_is : bytes ++ entry_text entry ≡ flat_map entry_text (entries_in bytes ++ entry ∷ [])
  text_is =
      ap (λ (t : List ℕ). t ++ entry_text entry) old.text ∙ ap (λ (t : List ℕ). flat_map entry_text (entries_in bytes) ++ t) (sym (append-nil (entry_text entry)))
      ∙ sym (flat_map-append entry_text (entries_in bytes) (entry ∷ []))

  pub entries_then : entries_in (bytes ++ entry_text entry) ≡ entries_in bytes ++ entry ∷ []
  entries_then = ap entries_in text_is ∙ entries_again (entries_in bytes ++ entry ∷ []) all_lawful

  pub texts_then : AreTexts (bytes ++ entry_text entry) (starts ++ length bytes ∷ [])
  texts_then = record {
    text = text_is ∙ ap (flat_map entry_text) (sym entries_then);
    lawful = subst (All IsEntry) (sym entries_then) all_lawful;
    begin =
        ap (λ (ns : List ℕ). ns ++ length bytes ∷ []) old.begin ∙ ap (λ (n : ℕ). starts_from 0 (entries_in bytes) ++ n ∷ []) (ap length old.text ∙ omega arith)
        ∙ sym (starts_more 0 (entries_in bytes) entry) ∙ ap (starts_from 0) (sym entries_then);
  }

pub filled_entries : (old new : List ℕ) (used end : ℕ) (starts : List ℕ) (entry : Entry) → IsFilled old used starts → IsEntry entry → ArePut old new used (entry_text entry) end
    → entries_in (take end new) ≡ entries_in (take used old) ++ entry ∷ []
filled_entries old new used end starts entry filled lawful put = ap entries_in put.there ∙ entries_then (take used old) starts entry filled.texts lawful

pub filled_then : (old new : List ℕ) (used end : ℕ) (starts : List ℕ) (entry : Entry) → IsFilled old used starts → IsEntry entry → ArePut old new used (entry_text entry) end → used + length (entry_text entry) ≤ length old
    → IsFilled new end (starts ++ used ∷ [])
filled_then old new used end starts entry filled lawful put space =
    let len : length (take used old) ≡ used = omega (arith, length-take used old, filled.inside) in
    record {
      inside = omega (arith, put.ends, put.same_room, space);
      texts = subst (λ (bs : List ℕ). AreTexts bs (starts ++ used ∷ [])) (sym put.there) (subst (λ (n : ℕ). AreTexts (take used old ++ entry_text entry) (starts ++ n ∷ [])) len (texts_then (take used old) starts entry filled.texts lawful));
    }

-- nothing is used yet
pub none_filled : (bytes : List ℕ) → IsFilled bytes 0 []
unfolding plain_entries_at
none_filled bytes = record { inside = omega arith; texts = record { text = refl; lawful = λ k d lt. absurd (omega arith); begin = refl } }

pub none_in : entries_in [] ≡ []
unfolding plain_entries_at
none_in = refl

-- ---- parts of the text

pub take_parts : {X : Type 0} (a b : ℕ) (xs : List X) → a ≤ b → a ≤ length xs → take b xs ≡ take a xs ++ take (b - a) (drop a xs)
take_parts a b xs le inside =
    let len : length (take a xs) ≡ a = omega (arith, length-take a xs, inside) in
    let sum : b ≡ length (take a xs) + (b - a) = omega (arith, len) in
    ap (take b) (sym (take-append-drop a xs)) ∙ ap (λ (n : ℕ). take n (take a xs ++ drop a xs)) sum ∙ take-append-add (take a xs) (drop a xs) (b - a)

pub range_text : {X : Type 0} (f : X → List ℕ) (xs : List X) (rest : List ℕ) (from to : ℕ) → from ≤ to → to ≤ length xs
    → slice_range (flat_map f xs ++ rest) (length (flat_map f (take from xs))) (length (flat_map f (take to xs))) ≡ flat_map f (slice_range xs from to)
range_text f xs rest from to order inside =
    let front = take from xs in
    let part = slice_range xs from to in
    let behind = flat_map f (drop to xs) ++ rest in
    let parts : take to xs ≡ front ++ part = take_parts from to xs order (omega arith) in
    let texts : flat_map f (take to xs) ≡ flat_map f front ++ flat_map f part = ap (flat_map f) parts ∙ flat_map-append f front part in
    let whole : flat_map f xs ++ rest ≡ flat_map f front ++ (flat_map f part ++ behind) =
    ap (λ (ys : List _). flat_map f ys ++ rest) (sym (take-append-drop to xs)) ∙ ap (λ (t : List ℕ). t ++ rest) (flat_map-append f (take to xs) (drop to xs))
    ∙ append_assoc (flat_map f (take to xs)) (flat_map f (drop to xs)) rest ∙ ap (λ (t : List ℕ). t ++ behind) texts ∙ append_assoc (flat_map f front) (flat_map f part) behind in
    let size : length (flat_map f (take to xs)) - length (flat_map f front) ≡ length (flat_map f part) = omega (arith, ap length texts, length-append (flat_map f front) (flat_map f part)) in
    ap (take (length (flat_map f (take to xs)) - length (flat_map f front))) (ap (drop (length (flat_map f front))) whole ∙ drop-append_seam (flat_map f front) (flat_map f part ++ behind))
    ∙ ap (λ (n : ℕ). take n (flat_map f part ++ behind)) size ∙ take-append_seam (flat_map f part) behind

some_is : (a b : ℕ) → Some a ≡ Some b → a ≡ b
some_is a b e = ap (λ (o : Option ℕ). option_or o 0) e
  where
    option_or : Option ℕ → ℕ → ℕ
    option_or None d = d
    option_or (Some n) d = n

pub take_all : {X : Type 0} (xs : List X) → take (length xs) xs ≡ xs
take_all [] = refl
take_all (x ∷ xs) = ap (λ (ys : List _). x ∷ ys) (take_all xs)

module _ (bytes : List ℕ) (used : ℕ) (starts : List ℕ) (filled : IsFilled bytes used starts) where
  abbrev here : List Entry
  here = entries_in (take used bytes)

  pub starts_count : length starts ≡ length here
  starts_count = ap length filled.texts.begin ∙ starts_length 0 here

  used_is : used ≡ length (flat_map entry_text here)
  used_is =
      let len : length (take used bytes) ≡ used = omega (arith, length-take used bytes, filled.inside) in
      sym len ∙ ap length filled.texts.text

  -- where the text of the entry at a place begins, or all of them end
  pub start_is : (place found : ℕ) → place ≤ length here → (place < length starts → slice_get starts place ≡ Some found) → (length starts ≤ place → found ≡ used) → found ≡ length (flat_map entry_text (take place here))
  start_is place found inside within behind = by (ltb place (length starts)) refl
    where
      by : (b : Bool) → ltb place (length starts) ≡ b → found ≡ length (flat_map entry_text (take place here))
      by true e =
          let lt : place < length starts = ltb-true place (length starts) e in
          let known : slice_get (starts_from 0 here) place ≡ Some (length (flat_map entry_text (take place here))) = start_at 0 here place (omega (arith, lt, starts_count)) ∙ ap Some (omega arith) in
          some_is found (length (flat_map entry_text (take place here))) (sym (within lt) ∙ ap (λ (ns : List ℕ). slice_get ns place) filled.texts.begin ∙ known)
      by false e =
          let ge : length starts ≤ place = ltb-false place (length starts) e in
          let all : place ≡ length here = omega (arith, ge, starts_count, inside) in
          behind ge ∙ used_is ∙ ap (λ (es : List Entry). length (flat_map entry_text es)) (sym (ap (λ (n : ℕ). take n here) all ∙ take_all here))

  pub texts_between : (from to begin end : ℕ) → from ≤ to → to ≤ length here → begin ≡ length (flat_map entry_text (take from here)) → end ≡ length (flat_map entry_text (take to here))
      → slice_range bytes begin end ≡ flat_map entry_text (slice_range here from to)
  texts_between from to begin end order inside begins ends =
      let whole : bytes ≡ flat_map entry_text here ++ drop used bytes = sym (take-append-drop used bytes) ∙ ap (λ (t : List ℕ). t ++ drop used bytes) filled.texts.text in
      ap (λ (b : ℕ). slice_range bytes b end) begins ∙ ap (slice_range bytes (length (flat_map entry_text (take from here)))) ends
      ∙ ap (λ (bs : List ℕ). slice_range bs (length (flat_map entry_text (take from here))) (length (flat_map entry_text (take to here)))) whole
      ∙ range_text entry_text here (drop used bytes) from to order inside

  -- the texts of the entries before a place end before those of the entries before a later one, inside the bytes
  pub in_order : (from to begin end : ℕ) → from ≤ to → to ≤ length here → begin ≡ length (flat_map entry_text (take from here)) → end ≡ length (flat_map entry_text (take to here)) → (begin ≤ end) × (end ≤ length bytes)
  in_order from to begin end order inside begins ends =
      let front = flat_map entry_text (take from here) in
      let part = flat_map entry_text (slice_range here from to) in
      let parts : flat_map entry_text (take to here) ≡ front ++ part = ap (flat_map entry_text) (take_parts from to here order (omega (arith, order, inside))) ∙ flat_map-append entry_text (take from here) (slice_range here from to) in
      let all : flat_map entry_text here ≡ flat_map entry_text (take to here) ++ flat_map entry_text (drop to here) = ap (flat_map entry_text) (sym (take-append-drop to here)) ∙ flat_map-append entry_text (take to here) (drop to here) in (
        omega (arith, begins, ends, ap length parts, length-append front part),
        omega (arith, ends, ap length all, length-append (flat_map entry_text (take to here)) (flat_map entry_text (drop to here)), used_is, filled.inside),
      )

-- the same of the entries that are seen
module _ (bytes : List ℕ) (used : ℕ) (starts : List ℕ) (filled : IsFilled bytes used starts) (entries : List Entry) (seen : entries_in (take used bytes) ≡ entries) where
  pub start_seen : (given : List ℕ) (place found : ℕ) → given ≡ starts → place ≤ length entries → (place < length given → slice_get given place ≡ Some found) → (length given ≤ place → found ≡ used)
      → found ≡ length (flat_map entry_text (take place entries))
  start_seen given place found is inside within behind =
      start_is bytes used starts filled place found (omega (arith, inside, ap length seen)) (subst (λ (ns : List ℕ). place < length ns → slice_get ns place ≡ Some found) is within) (subst (λ (ns : List ℕ). length ns ≤ place → found ≡ used) is behind)
      ∙ ap (λ (es : List Entry). length (flat_map entry_text (take place es))) seen

  module _ (from to begin end : ℕ) (order : from ≤ to) (inside : to ≤ length entries) (begins : begin ≡ length (flat_map entry_text (take from entries))) (ends : end ≡ length (flat_map entry_text (take to entries))) where
    back : (place at : ℕ) → at ≡ length (flat_map entry_text (take place entries)) → at ≡ length (flat_map entry_text (take place (entries_in (take used bytes))))
    back place at is = is ∙ ap (λ (es : List Entry). length (flat_map entry_text (take place es))) (sym seen)

    pub part_inside : (given : List ℕ) → given ≡ bytes → (begin ≤ end) × (end ≤ length given)
    part_inside given is = subst (λ (bs : List ℕ). (begin ≤ end) × (end ≤ length bs)) (sym is) (in_order bytes used starts filled from to begin end order (omega (arith, inside, ap length seen)) (back from begin begins) (back to end ends))

    pub part_seen : (given : List ℕ) → given ≡ bytes → slice_range given begin end ≡ flat_map entry_text (slice_range entries from to)
    part_seen given is =
        ap (λ (bs : List ℕ). slice_range bs begin end) is ∙ texts_between bytes used starts filled from to begin end order (omega (arith, inside, ap length seen)) (back from begin begins) (back to end ends)
        ∙ ap (λ (es : List Entry). flat_map entry_text (slice_range es from to)) seen

-- ---- an entry by itself

pub some_is_entry : (entries : List Entry) (place : ℕ) (entry : Entry) → All IsEntry entries → slice_get entries place ≡ Some entry → place < length entries → IsEntry entry
some_is_entry entries place entry lawful at lt = subst IsEntry (get_or_from_slice_get entries place entry entry at) (lawful place entry lt)

reads : (entries : List Entry) (text : List ℕ) (place : ℕ) (entry : Entry) (behind : List Entry) → All IsEntry entries → place < length entries → slice_get entries place ≡ Some entry → text ≡ flat_map entry_text (entry ∷ behind) → plain_entry_at text ≡ Ok (entry, flat_map entry_text behind)
reads entries text place entry behind lawful lt at is = ap plain_entry_at is ∙ plain_again entry (flat_map entry_text behind) (some_is_entry entries place entry lawful at lt)

pub first_of : {X : Type 0} (xs : List X) (place n : ℕ) → place < n → n ≤ length xs → (x : X) × (slice_get xs place ≡ Some x) × (slice_range xs place n ≡ x ∷ slice_range xs (suc place) n)
first_of [] place n lt inside = absurd (omega (arith, lt, inside))
first_of (x ∷ xs) zero n lt inside =
    let some : n - 0 ≡ suc (n - 1) = omega (arith, lt) in
    (x, refl, ap (λ (k : ℕ). take k (x ∷ xs)) some)
first_of (x ∷ xs) (suc place) n lt inside =
    let found = first_of xs place (n - 1) (omega (arith, lt)) (omega (arith, lt, inside)) in
    let here : n - suc place ≡ n - 1 - place = omega (arith, lt) in
    let behind : n - 1 - suc place ≡ n - suc (suc place) = omega (arith, lt) in
    (found.0, found.1, ap (λ (k : ℕ). take k (drop place xs)) here ∙ found.2 ∙ ap (λ (k : ℕ). found.0 ∷ take k (drop (suc place) xs)) behind)

-- the text of an entry is read as that entry
pub read_at : (entries : List Entry) (text : List ℕ) (place : ℕ) (entry : Entry) (rest : List ℕ) → All IsEntry entries → place < length entries → text ≡ flat_map entry_text (slice_range entries place (length entries))
    → plain_entry_at text ≡ Ok (entry, rest) → slice_get entries place ≡ Some entry
read_at entries text place entry rest lawful lt is read =
    let found = first_of entries place (length entries) lt (omega arith) in
    let behind = slice_range entries (suc place) (length entries) in
    let there : plain_entry_at text ≡ Ok (found.0, flat_map entry_text behind) = reads entries text place found.0 behind lawful lt found.1 (is ∙ ap (flat_map entry_text) found.2) in
    found.1 ∙ ap Some (sym (ap (λ (x : Entry × List ℕ). x.0) (ok_is (entry, rest) (found.0, flat_map entry_text behind) (sym read ∙ there))))

-- and nothing else is said of it
pub never_else : (entries : List Entry) (text : List ℕ) (place : ℕ) (fault : Refusal) → All IsEntry entries → place < length entries → text ≡ flat_map entry_text (slice_range entries place (length entries)) → plain_entry_at text ≡ Err fault → ⊥
never_else entries text place fault lawful lt is read =
    let found = first_of entries place (length entries) lt (omega arith) in
    let behind = slice_range entries (suc place) (length entries) in
    let there : plain_entry_at text ≡ Ok (found.0, flat_map entry_text behind) = reads entries text place found.0 behind lawful lt found.1 (is ∙ ap (flat_map entry_text) found.2) in
    absurd cc

-- ---- room for one entry more

-- there is room for an entry of that many bytes
pub record HasRoomBehind (size used places n : ℕ) : Type 0 where
  pub few : used < 32768
  pub place : 0 < places
  pub space : used + n ≤ size

pub room_fits : (size used places n : ℕ) → 1 ≤ n → n ≤ room_behind size used places → HasRoomBehind size used places n
room_fits size used places n some = by (ltb used 32768) (ltb 0 places) refl refl
  where
    by : (a b : Bool) → ltb used 32768 ≡ a → ltb 0 places ≡ b → n ≤ (if a && b then size - used else 0) → HasRoomBehind size used places n
    by true true few place fits = record { few = ltb-true used 32768 few; place = ltb-true 0 places place; space = omega (arith, fits, some) }
    by true false few place fits = absurd (omega (arith, fits, some))
    by false b few place fits = absurd (omega (arith, fits, some))

-- the same of what is seen
pub room_seen : (size used places room n : ℕ) → room_behind size used places ≡ room → n ≤ room → 1 ≤ n → HasRoomBehind size used places n
room_seen size used places room n seen fits some = room_fits size used places n some (omega (arith, seen, fits))

pub fresh_room : (size places n : ℕ) → n ≤ size → 0 < places → n ≤ room_behind size 0 places
fresh_room size places n fits place = grind (arith, nat_tests, fits, place)

-- ---- an entry was put into the bytes of a vector

-- what was written into all of a vector's bytes is there
written_back : (len : ℕ) (new old : List ℕ) → length new ≡ length old → len ≡ length old → take len (new ++ drop (length new) old) ≡ new
written_back len new old same all =
    let none : drop (length new) old ≡ [] = nil_from_length (drop (length new) old) (omega (arith, length-drop (length new) old, same)) in
    ap (λ (bs : List ℕ). take len (new ++ bs)) none ∙ ap (take len) (append-nil new) ∙ ap (λ (n : ℕ). take n new) (all ∙ sym same) ∙ take_all new

module _ (bytes room new : List ℕ) (len used end : ℕ) (starts : List ℕ) (entry : Entry) (filled : IsFilled bytes used starts) (lawful : IsEntry entry) (opened : room ≡ bytes) (all : len ≡ length bytes) (put : ArePut room new used (entry_text entry) end) where
  in_bytes : ArePut bytes new used (entry_text entry) end
  in_bytes = subst (λ (bs : List ℕ). ArePut bs new used (entry_text entry) end) opened put

  written : take len (new ++ drop (length new) bytes) ≡ new
  written = written_back len new bytes in_bytes.same_room all

  pub appended : (more : List ℕ) → used + length (entry_text entry) ≤ length bytes → more ≡ starts ++ used ∷ [] → IsFilled (take len (new ++ drop (length new) bytes)) end more
  appended more space is =
      subst (λ (bs : List ℕ). IsFilled bs end more) (sym written) (subst (IsFilled new end) (sym is) (filled_then bytes new used end starts entry filled lawful in_bytes space))

  pub appended_entries : entries_in (take end (take len (new ++ drop (length new) bytes))) ≡ entries_in (take used bytes) ++ entry ∷ []
  appended_entries = ap (λ (bs : List ℕ). entries_in (take end bs)) written ∙ filled_entries bytes new used end starts entry filled lawful in_bytes
