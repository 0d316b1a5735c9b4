-- Whether a session has a transaction open, and whether a request of it waits, by what the world has and by the history.
use Rattle.std.proofs.Common.{◌≡◌, ℕ, ◌-◌, ◌≤◌, Bool, true, false, ◌&&◌, length, Some, None, cond, eqb, refl, ap, ◌∙◌, arith}
use Rattle.std.specs.Prelude.{is_some}
use Rattle.std.proofs.lemmas.Bool.Decides.{nat_tests}
use Rattle.std.proofs.lemmas.List.{get_or_past}
use Rattle.pc_model.specs.History.{History, is_open, transaction_number_of, class_of, has_died, writes_of}
use Rattle.pc_model.specs.Locks.{is_waiting}
use Rattle.pc_model.specs.Replies.{no_session}
use Rattle.pc_model.proofs.LegalEffectLaws.{legal_has_legal_effects}
use Rattle.pc_model.proofs.RightReadLaws.{locked}
use Rattle.pc_records.proofs.WaitingLaws.{waiting_now}
use Rattle.pc_engine.specs.Store.{Store, setting_of, active, active_of}
use Rattle.pc_transactions.specs.Actives.{Active}
use Rattle.pc_transactions.specs.Sessions.{waits_in}
use Rattle.pc_engine.specs.Stands.{Stands}
use Rattle.pc_engine.specs.Waiting.{opens_after, waits_after}

-- a session's open transaction is the one that its number has
pub one_there : (w : Store) (s : ℕ) → no_session (setting_of w) s ≡ false → active_of w s ≡ active w s
one_there w s there = ap (λ b. cond b None (active w s)) (let some : eqb s 0 ≡ false = grind (arith, nat_tests, there) in some)

-- if no session has the number, nothing is open under it
none_there : (w : Store) (s : ℕ) → no_session (setting_of w) s ≡ true → active_of w s ≡ None
none_there w s past = by_zero (eqb s 0) refl
  where
    by_zero : (b : Bool) → eqb s 0 ≡ b → cond b None (active w s) ≡ None
    by_zero true e = refl
    by_zero false e = get_or_past w.sessions (s - 1) None (let behind : length w.sessions ≤ s - 1 = grind (arith, nat_tests, e, past) in behind)

-- what the world says of a session's request, the history says too
pub waits_told : (w : Store) (h : History) (s : ℕ) → Stands w h → waits_in w.kept.rows (active_of w s) ≡ waits_after (setting_of w) s h
waits_told w h s stands = by_session (no_session (setting_of w) s) refl
  where
    latest : Active
    latest = record { number = transaction_number_of s h; class = class_of s h; has_died = has_died s h; writes = writes_of s h }

    by_open : (b : Bool) → is_open s h ≡ b → waits_in w.kept.rows (cond b (Some latest) None) ≡ (b && is_waiting s h)
    by_open true e = waiting_now w.base.pairs w.kept.rows h s (locked (setting_of w) h (legal_has_legal_effects (setting_of w) h stands.legal)) stands.parts.records e
    by_open false e = refl

    by_session : (b : Bool) → no_session (setting_of w) s ≡ b → waits_in w.kept.rows (active_of w s) ≡ cond b false (is_open s h && is_waiting s h)
    by_session true e = ap (waits_in w.kept.rows) (none_there w s e)
    by_session false e = ap (waits_in w.kept.rows) (one_there w s e ∙ stands.parts.sessions s e) ∙ by_open (is_open s h) refl

-- whether the world has an open transaction of the session, the history says too
pub opens_told : (w : Store) (h : History) (s : ℕ) → Stands w h → is_some (active_of w s) ≡ opens_after (setting_of w) s h
opens_told w h s stands = by_session (no_session (setting_of w) s) refl
  where
    latest : Active
    latest = record { number = transaction_number_of s h; class = class_of s h; has_died = has_died s h; writes = writes_of s h }

    by_open : (b : Bool) → is_some (cond b (Some latest) None) ≡ b
    by_open true = refl
    by_open false = refl

    by_session : (b : Bool) → no_session (setting_of w) s ≡ b → is_some (active_of w s) ≡ cond b false (is_open s h)
    by_session true e = ap is_some (none_there w s e)
    by_session false e = ap is_some (one_there w s e ∙ stands.parts.sessions s e) ∙ by_open (is_open s h)
