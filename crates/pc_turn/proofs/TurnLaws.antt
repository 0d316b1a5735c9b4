-- What is appended of a log, piece after piece.
use Rattle.std.proofs.Common.{◌≡◌, ◌≤◌, ◌+◌, ◌-◌, ℕ, Bool, true, false, List, [], ◌++◌, length, length-append, take, take_all, drop, append-nil, Option, Some, None, refl, sym, ap, subst, ◌∙◌, arith}
use Rattle.std.specs.Prelude.{Result, Ok, Err, OnOk, MatchBool, IsTrue, is_ok, slice_range}
use Rattle.std.specs.Io.KnownBytes.{Appends}
use Rattle.std.specs.List.{flat_map}
use Rattle.std.proofs.lemmas.Bool.Decides.{nat_tests}
use Rattle.std.proofs.lemmas.List.{take-append-le, drop_all}
use Rattle.std.proofs.lemmas.List.Concat.{flat_map-append}
use Rattle.pc_io.specs.Counted.{AppendsBeginning}
use Rattle.pc_types.specs.declared.Entry.{Entry}
use Rattle.pc_io.proofs.KnownBytesLaws.{appends_nothing, appends_then, begins_after}
use Rattle.pc_types.proofs.SliceLaws.{ranges, to_end}
use Rattle.pc_log.specs.Texts.{entry_text}
use Rattle.pc_turn.specs.Devices.{Grows}
use Rattle.pc_turn.specs.Turns.{IsAppended, IsUpToDate, IsLogOut, exceeds_lag, rest_text}
use Rattle.pc_turn.specs.declared.turn.Marks.{Marks}

-- a prefix of a text is one of a longer text
begins_longer : (a b : Option (List ℕ)) (x y : List ℕ) → AppendsBeginning a b x → AppendsBeginning a b (x ++ y)
begins_longer None b x y p = tt
begins_longer (Some a) None x y p = absurd p
begins_longer (Some a) (Some b) x y p = (p.0, omega (arith, p.1, length-append x y), p.2 ∙ ap (λ (t : List ℕ). a ++ t) (sym (take-append-le p.0 x y p.1)))

-- all of a text is a prefix of it
all_begins : (a b : Option (List ℕ)) (x : List ℕ) → Appends a b x → AppendsBeginning a b x
all_begins None b x p = tt
all_begins (Some a) None x p = absurd p
all_begins (Some a) (Some b) x p = (length x, omega arith, p ∙ ap (λ (t : List ℕ). a ++ t) (sym (take_all (length x) x (omega arith))))

-- what holds of a call that succeeded
pub when_ok : {E P : Type 0} (result : Result (Unit {0}) E) → OnOk result P → is_ok result ≡ true → P
when_ok (Ok u) p e = p
when_ok (Err why) p e = cc

-- what grows, and then grows again
pub grows_on : (a b c : Option (List ℕ)) → Grows a b → Grows b c → Grows a c
grows_on a b c p q = (p.0 ++ q.0, appends_then a b c p.0 q.0 p.1 q.1)

-- what stays
pub grows_by_nothing : (a : Option (List ℕ)) → Grows a a
grows_by_nothing a = ([], appends_nothing a)

module _ {T : Type 0} (written kept : T → Option (List ℕ)) where
  -- some of the entries after the first ones were appended, and then more of them
  pub rest_goes_on : (a b c : T) (log : List Entry) (from done count : ℕ) (text : List ℕ) → text ≡ flat_map entry_text (slice_range log done (done + count)) → from ≤ done
      → IsAppended written kept (flat_map entry_text (slice_range log from done)) a b true → Appends (written b) (written c) text → Grows (kept b) (kept c)
      → IsAppended written kept (flat_map entry_text (slice_range log from (done + count))) a c true
  rest_goes_on a b c log from done count text is order p q grown =
      subst (λ (t : List ℕ). IsAppended written kept t a c true)
      (ap (λ (t : List ℕ). flat_map entry_text (slice_range log from done) ++ t) is ∙ (sym (flat_map-append entry_text (slice_range log from done) (slice_range log done (done + count)))
      ∙ ap (flat_map entry_text) (ranges log from done (done + count) order (omega arith))))
      (appends_then (written a) (written b) (written c) (flat_map entry_text (slice_range log from done)) text p.0 q, grows_on (kept a) (kept b) (kept c) p.1 grown)

  -- or of these in part
  pub rest_stops : (a b c : T) (log : List Entry) (from done count : ℕ) (text : List ℕ) → text ≡ flat_map entry_text (slice_range log done (done + count)) → from ≤ done
      → IsAppended written kept (flat_map entry_text (slice_range log from done)) a b true → AppendsBeginning (written b) (written c) text → Grows (kept b) (kept c)
      → IsAppended written kept (rest_text from log) a c false
  rest_stops a b c log from done count text is order p q grown =
      let front = flat_map entry_text (slice_range log from done) in
      let left = drop (done + count) log in
      let behind : drop done log ≡ slice_range log done (done + count) ++ left = to_end log done (done + count) (omega arith) in
      let all : drop from log ≡ slice_range log from done ++ drop done log = to_end log from done order in
      subst (λ (t : List ℕ). IsAppended written kept t a c false)
      (ap (λ (t : List ℕ). front ++ (t ++ flat_map entry_text left)) is
      ∙ (ap (λ (t : List ℕ). front ++ t) (sym (flat_map-append entry_text (slice_range log done (done + count)) left) ∙ ap (flat_map entry_text) (sym behind))
      ∙ (sym (flat_map-append entry_text (slice_range log from done) (drop done log)) ∙ ap (flat_map entry_text) (sym all)))) (
        begins_after (written a) (written b) (written c) front (text ++ flat_map entry_text left) p.0 (begins_longer (written b) (written c) text (flat_map entry_text left) q),
        grows_on (kept a) (kept b) (kept c) p.1 grown,
      )

  -- or all of them
  pub rest_is_out : (a b : T) (log : List Entry) (from done : ℕ) → length log ≤ done → from ≤ done → IsAppended written kept (flat_map entry_text (slice_range log from done)) a b true
      → IsAppended written kept (rest_text from log) a b true
  rest_is_out a b log from done all order p =
      let none : drop done log ≡ [] = drop_all done log all in
      let same : slice_range log from done ≡ drop from log = sym (to_end log from done order ∙ (ap (λ (l : List Entry). slice_range log from done ++ l) none ∙ append-nil (slice_range log from done))) in
      subst (λ (l : List Entry). IsAppended written kept (flat_map entry_text l) a b true) same p

  -- nothing was appended yet
  pub none_is_out : (a : T) (log : List Entry) (from : ℕ) → IsAppended written kept (flat_map entry_text (slice_range log from from)) a a true
  none_is_out a log from =
      let none : from - from ≡ 0 = omega arith in
      subst (λ (n : ℕ). IsAppended written kept (flat_map entry_text (take n (drop from log))) a a true) (sym none) (appends_nothing (written a), grows_by_nothing (kept a))

  -- all was appended, and what must be kept is
  pub put_and_kept : (a b c : T) (log : List Entry) (lag all : ℕ) (before : Marks) (after : ℕ) → all ≡ length log → IsAppended written kept (rest_text before.written log) a b true → (length log ≤ before.written → b ≡ a) → written c ≡ written b → Grows (kept b) (kept c)
      → MatchBool (exceeds_lag lag before.kept all) ((kept c ≡ written c) × (after ≡ all)) ((c ≡ b) × (after ≡ before.kept)) → IsLogOut written kept log lag before (record { written = all; kept = after }) a c true
  put_and_kept a b c log lag all before after whole p idle same grown is = (
    out,
    whole,
    by (exceeds_lag lag before.kept (length log)) (subst (λ (n : ℕ). MatchBool (exceeds_lag lag before.kept n) ((kept c ≡ written c) × (after ≡ n)) ((c ≡ b) × (after ≡ before.kept))) whole is),
    still (exceeds_lag lag before.kept (length log)) refl (subst (λ (n : ℕ). MatchBool (exceeds_lag lag before.kept n) ((kept c ≡ written c) × (after ≡ n)) ((c ≡ b) × (after ≡ before.kept))) whole is),
  )
    where
      out : IsAppended written kept (rest_text before.written log) a c true
      out = (subst (λ (o : Option (List ℕ)). Appends (written a) o (rest_text before.written log)) (sym same) p.0, grows_on (kept a) (kept b) (kept c) p.1 grown)

      by : (due : Bool) → MatchBool due ((kept c ≡ written c) × (after ≡ length log)) ((c ≡ b) × (after ≡ before.kept)) → MatchBool due ((kept c ≡ written c) × (after ≡ length log)) (after ≡ before.kept)
      by true is = is
      by false is = is.1

      still : (due : Bool) → exceeds_lag lag before.kept (length log) ≡ due → MatchBool due ((kept c ≡ written c) × (after ≡ length log)) ((c ≡ b) × (after ≡ before.kept)) → IsUpToDate lag log before → c ≡ a
      still true e is none = absurd (grind (arith, nat_tests, e, none.1))
      still false e is none = is.0 ∙ idle none.0

  -- or the device fails
  pub put_and_cut : (a b c : T) (log : List Entry) (lag all : ℕ) (before : Marks) → all ≡ length log → IsAppended written kept (rest_text before.written log) a b true → written c ≡ written b → Grows (kept b) (kept c) → IsTrue (exceeds_lag lag before.kept all)
      → IsLogOut written kept log lag before before a c false
  put_and_cut a b c log lag all before whole p same grown due = (
    (all_begins (written a) (written c) (rest_text before.written log) (subst (λ (o : Option (List ℕ)). Appends (written a) o (rest_text before.written log)) (sym same) p.0), grows_on (kept a) (kept b) (kept c) p.1 grown),
    refl,
    λ none. absurd (grind (arith, nat_tests, due, whole, none.1)),
  )
