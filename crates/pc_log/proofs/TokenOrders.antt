-- The order of tokens, entry by entry.
use Rattle.std.proofs.Common.{◌≡◌, ℕ, zero, suc, ◌≤◌, true, eqb, List, ◌∷◌, ◌&&◌, Ok, refl, sym, ap, arith}
use Rattle.std.specs.Prelude.{nat_le, ⊤}
use Rattle.std.proofs.lemmas.Bool.{and_parts, and_from, eqb-true}
use Rattle.std.proofs.lemmas.Bool.Decides.{nat_tests}
use Rattle.pc_types.specs.declared.Entry.{Entry}
use Rattle.pc_types.specs.declared.Entry.TheVariants.{Commit, Token}
use Rattle.pc_types.specs.declared.Phase.{Phase}
use Rattle.pc_types.specs.declared.Phase.TheVariants.{Rest, Prepare, Resolve, Capture, Complete}
use Rattle.pc_io.proofs.FieldLaws.{ok_is}
use Rattle.pc_log.specs.declared.order.LastToken.{LastToken}
use Rattle.pc_log.specs.Texts.{phase_number, IsEntry, IsTokenPoint}
use Rattle.pc_log.specs.Orders.{FollowFrom, comes_next, token_after}
use Rattle.pc_types.specs.Phases.{same_phase, next_phase, next_point}
use Rattle.pc_log.specs.Reading.{phase_numbered}

-- the entry keeps the order after the last token
abbrev pub ComesNext : LastToken → Entry → Type 0
ComesNext last (Commit session writes) = ⊤
ComesNext last (Token phase point) = (phase ≡ next_phase last.phase) × (point ≡ next_point last.phase last.point)

-- the last token may be followed: the next one's point is 1 at least
abbrev pub HasBegun : LastToken → Type 0
HasBegun last = 1 ≤ next_point last.phase last.point

point_stays : (phase : Phase) (point : ℕ) → 1 ≤ point → 1 ≤ next_point phase point
point_stays Rest point some = omega arith
point_stays Prepare point some = some
point_stays Resolve point some = some
point_stays Capture point some = some
point_stays Complete point some = some

pub begun_after : (last : LastToken) (entry : Entry) → HasBegun last → IsEntry entry → HasBegun (token_after last entry)
begun_after last (Commit session writes) begun lawful = begun
begun_after last (Token phase point) begun lawful = point_stays phase point lawful.first

-- one entry and then the others keep the order
pub follow_more : (last : LastToken) (entry : Entry) (entries : List Entry) → ComesNext last entry → FollowFrom (token_after last entry).phase (token_after last entry).point entries → FollowFrom last.phase last.point (entry ∷ entries)
follow_more last (Commit session writes) entries next more = more
follow_more last (Token phase point) entries next more = (next.0, next.1, more)

pub follow_first : (last : LastToken) (entry : Entry) (entries : List Entry) → FollowFrom last.phase last.point (entry ∷ entries) → ComesNext last entry × FollowFrom (token_after last entry).phase (token_after last entry).point entries
follow_first last (Commit session writes) entries order = (tt, order)
follow_first last (Token phase point) entries order = ((order.0, order.1), order.2)

-- ---- the test of a token

same_true : (a b : Phase) → same_phase a b ≡ true → a ≡ b
same_true Rest Rest e = refl
same_true Prepare Prepare e = refl
same_true Resolve Resolve e = refl
same_true Capture Capture e = refl
same_true Complete Complete e = refl
same_true Rest Prepare e = absurd cc
same_true Rest Resolve e = absurd cc
same_true Rest Capture e = absurd cc
same_true Rest Complete e = absurd cc
same_true Prepare Rest e = absurd cc
same_true Prepare Resolve e = absurd cc
same_true Prepare Capture e = absurd cc
same_true Prepare Complete e = absurd cc
same_true Resolve Rest e = absurd cc
same_true Resolve Prepare e = absurd cc
same_true Resolve Capture e = absurd cc
same_true Resolve Complete e = absurd cc
same_true Capture Rest e = absurd cc
same_true Capture Prepare e = absurd cc
same_true Capture Resolve e = absurd cc
same_true Capture Complete e = absurd cc
same_true Complete Rest e = absurd cc
same_true Complete Prepare e = absurd cc
same_true Complete Resolve e = absurd cc
same_true Complete Capture e = absurd cc

same_itself : (a : Phase) → same_phase a a ≡ true
same_itself Rest = refl
same_itself Prepare = refl
same_itself Resolve = refl
same_itself Capture = refl
same_itself Complete = refl

pub next_is : (last : LastToken) (phase : Phase) (point : ℕ) → HasBegun last → comes_next last phase point ≡ true → ComesNext last (Token phase point) × IsTokenPoint point
next_is last phase point begun e =
    let a = and_parts (same_phase phase (next_phase last.phase) && eqb point (next_point last.phase last.point)) (nat_le point 65535) e in
    let b = and_parts (same_phase phase (next_phase last.phase)) (eqb point (next_point last.phase last.point)) a.0 in
    let point_is : point ≡ next_point last.phase last.point = eqb-true _ _ b.1 in
    ((same_true phase (next_phase last.phase) b.0, point_is), record { first = omega arith; last = grind (arith, nat_tests, a.1) })

pub next_holds : (last : LastToken) (phase : Phase) (point : ℕ) → ComesNext last (Token phase point) → IsTokenPoint point → comes_next last phase point ≡ true
next_holds last phase point next lawful =
    let a : same_phase phase (next_phase last.phase) ≡ true = rw next.0 (same_itself (next_phase last.phase)) in
    let b : eqb point (next_point last.phase last.point) ≡ true = grind (arith, nat_tests, next.1) in
    let c : nat_le point 65535 ≡ true = grind (arith, nat_tests, lawful.last) in
    and_from (same_phase phase (next_phase last.phase) && eqb point (next_point last.phase last.point)) (nat_le point 65535) (and_from (same_phase phase (next_phase last.phase)) (eqb point (next_point last.phase last.point)) a b) c

-- ---- the numbers of phases

pub number_is : (number : ℕ) (phase : Phase) → phase_numbered number ≡ Ok phase → phase_number phase ≡ number
number_is zero phase e = ap phase_number (sym (ok_is Rest phase e))
number_is (suc zero) phase e = ap phase_number (sym (ok_is Prepare phase e))
number_is (suc (suc zero)) phase e = ap phase_number (sym (ok_is Resolve phase e))
number_is (suc (suc (suc zero))) phase e = ap phase_number (sym (ok_is Capture phase e))
number_is (suc (suc (suc (suc zero)))) phase e = ap phase_number (sym (ok_is Complete phase e))
number_is (suc (suc (suc (suc (suc number))))) phase e = absurd cc

pub numbered_is : (phase : Phase) → phase_numbered (phase_number phase) ≡ Ok phase
numbered_is Rest = refl
numbered_is Prepare = refl
numbered_is Resolve = refl
numbered_is Capture = refl
numbered_is Complete = refl
