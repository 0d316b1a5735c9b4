-- A failed read is reported by Device, and nothing else is.
use Rattle.std.proofs.Common.{◌≡◌, ◌≢◌, ◌⊎◌, ◌<◌, ◌≤◌, ◌||◌, ℕ, zero, suc, nat_lt, Bool, true, false, List, [], ◌∷◌, ◌++◌, length, map, take, drop, Option, Some, None, Err, refl, sym, ap, subst, ◌∙◌, inl, inr, arith}
use Rattle.std.specs.List.{All, list_any}
use Rattle.std.proofs.lemmas.Bool.Decides.{nat_tests}
use Rattle.std.specs.Vec.{with_items}
use Rattle.std.specs.declared.alloc.Global.{Global}
use Rattle.std.specs.declared.vec.Vec.{Vec}
use Rattle.std.proofs.lemmas.List.{length-map, map-append, take-map, with_items_is}
use Rattle.std.proofs.lemmas.List.Elements.{All-get_or, All-head, All-nil, All-push, All-tail}
use Rattle.pc_io.specs.Counted.{HasRisen}
use Rattle.pc_types.specs.declared.Refusal.{Refusal}
use Rattle.pc_types.specs.declared.Refusal.TheVariants.{Device, OutOfMemory}
use Rattle.pc_merge.specs.Coming.{Standing}
use Rattle.pc_merge.specs.Standings.{AllStand, HasFailed, standing_at}
use Rattle.pc_streams.specs.declared.reader.PartReader.{PartReader}
use Rattle.pc_streams.specs.Readers.{standing_of}
use Rattle.pc_stream_join.specs.Joining.{JoinStands}
use Rattle.pc_stream_join.proofs.AgreeLaws.{cons_is}
use Rattle.pc_collapse_files.specs.Reads.{AreSound, TellsReads, has_failed_read, sound}

abbrev failed : Standing → Bool
failed standing = nat_lt 0 standing.failures

abbrev failures : Standing → ℕ
failures standing = standing.failures

abbrev IsSound : Standing → Type 0
IsSound standing = standing ≡ sound

lt_true : (a b : ℕ) → a < b → nat_lt a b ≡ true
lt_true a b less = grind (arith, nat_tests, less)

zero_of : (n : ℕ) → nat_lt 0 n ≡ false → n ≡ 0
zero_of n none = grind (arith, nat_tests, none)

either : (a b : Bool) → b ≡ true → (a || b) ≡ true
either true b e = refl
either false b e = e

risen_above : (n : ℕ) → HasRisen 0 n → 0 < n
risen_above n risen = let one : 1 ≤ n = risen in omega (arith, one)

-- in the first `count` of them, and others
at_any : (count : ℕ) (now others : List Standing) (place : ℕ) → place < count → 0 < (standing_at now place).failures → list_any failed (take count (now ++ others)) ≡ true
at_any zero now others place less above = absurd (omega (arith, less))
at_any (suc count) [] others zero less above = absurd (omega (arith, above))
at_any (suc count) [] others (suc place) less above = absurd (omega (arith, above))
at_any (suc count) (s ∷ now) others zero less above = ap (λ (t : Bool). t || list_any failed (take count (now ++ others))) (lt_true 0 s.failures above)
at_any (suc count) (s ∷ now) others (suc place) less above = either (failed s) (list_any failed (take count (now ++ others))) (at_any count now others place (omega (arith, less)) above)

failed_tells : (was now others : List Standing) → All IsSound was → HasFailed was now → list_any failed (take (length was) (now ++ others)) ≡ true
failed_tells was now others all has = by has.2
  where
    is : standing_at was has.0 ≡ sound
    is = All-get_or IsSound was has.0 sound has.1 all

    by : ((standing_at was has.0).refused ≡ Some Device) ⊎ HasRisen (standing_at was has.0).failures (standing_at now has.0).failures → list_any failed (take (length was) (now ++ others)) ≡ true
    by (inl told) = let bad : None ≡ Some Device = sym (ap (λ (s : Standing). s.refused) is) ∙ told in absurd cc
    by (inr risen) = at_any (length was) now others has.0 has.1 (risen_above (standing_at now has.0).failures (subst (λ (s : Standing). HasRisen s.failures (standing_at now has.0).failures) is risen))

none_tells : (was now : List Standing) → All IsSound was → map failures now ≡ map failures was → list_any failed now ≡ false
none_tells [] [] all same = refl
none_tells [] (n ∷ now) all same = absurd cc
none_tells (w ∷ was) [] all same = absurd cc
none_tells (w ∷ was) (n ∷ now) all same =
    let parts = cons_is n.failures w.failures (map failures now) (map failures was) same in
    let none : n.failures ≡ 0 = parts.0 ∙ ap failures (All-head IsSound w was all) in
    ap (λ (k : ℕ). nat_lt 0 k || list_any failed now) none ∙ none_tells was now (All-tail IsSound w was all) parts.1

module _ {R : Type 0} (v : Vec (PartReader R) Global) (now : List (PartReader R)) (why : Refusal) (all : AreSound v.items) where
  abbrev before : List Standing
  before = map standing_of v.items

  abbrev after : List Standing
  after = map standing_of now

  abbrev others : List (PartReader R)
  others = drop (length now) v.items

  device_tells : HasFailed before after → has_failed_read (with_items v now).items ≡ true
  device_tells has =
      let many : v.len ≡ length before = v.ok.0 ∙ sym (length-map v.items standing_of) in
      let these : map standing_of (take v.len (now ++ others)) ≡ take (length before) (after ++ map standing_of others) = sym (take-map standing_of v.len (now ++ others)) ∙ ap (take v.len) (map-append standing_of now others) ∙ ap (λ (n : ℕ). take n (after ++ map standing_of others)) many in
      ap (list_any failed) these ∙ failed_tells before after (map standing_of others) all has

  other_tells : map failures after ≡ map failures before → has_failed_read (with_items v now).items ≡ false
  other_tells same =
      let many : length now ≡ length v.items = sym (length-map now standing_of) ∙ sym (length-map after failures) ∙ ap length same ∙ length-map before failures ∙ length-map v.items standing_of in
      ap (λ (readers : List (PartReader R)). has_failed_read readers) (with_items_is v now (many ∙ sym v.ok.0)) ∙ none_tells before after all same

  -- a call on all of them
  pub tells : (X : Type 0) → AllStand {X = X} before after (Err why) → TellsReads (with_items v now).items why
  tells X stands = (λ device. device_tells (stands.0 device), λ other. other_tells (stands.1 other))

  -- the same of a join that is written to a file none of whose calls failed
  pub join_tells : (file : ℕ) → nat_lt 0 file ≡ false → JoinStands {X = ℕ} before after 0 file (Err why) → TellsReads (with_items v now).items why
  join_tells file none stands = (λ device. by (stands.0 device), λ other. other_tells ((stands.1 other).0.1 other))
    where
      by : HasFailed before after ⊎ HasRisen 0 file → has_failed_read (with_items v now).items ≡ true
      by (inl has) = device_tells has
      by (inr risen) = let above = risen_above file risen in let nothing = zero_of file none in absurd (omega (arith, above, nothing))

-- one that was just made is
pub standing_is : (refused : Option Refusal) (count : ℕ) → refused ≡ None → count ≡ 0 → (record { refused = refused; failures = count }) ≡ sound
standing_is refused count none zero_long = rw (none, zero_long) refl

-- the empty list
pub none_sound : (R : Type 0) → AreSound {R = R} []
none_sound R = All-nil IsSound

-- without inputs a failed allocation reports no read
pub memory_tells : (R : Type 0) → TellsReads {R = R} [] OutOfMemory
memory_tells R = (λ device. absurd (let bad : OutOfMemory ≡ Device = device in cc), λ other. refl)

-- one more
pub sound_push : {R : Type 0} (readers : List (PartReader R)) (reader : PartReader R) → AreSound readers → standing_of reader ≡ sound → AreSound (readers ++ reader ∷ [])
sound_push readers reader all is = subst (All IsSound) (sym (map-append standing_of readers (reader ∷ []))) (All-push IsSound (map standing_of readers) (standing_of reader) all is)
