-- The session's history determines whether a read is of an own write.
use Rattle.std.proofs.Common.{◌≡◌, ℕ, Bool, true, false, true≢false, Some, None, refl, ap, sym, ◌∙◌, cond, arith}
use Rattle.std.proofs.lemmas.Bool.Decides.{nat_tests}
use Rattle.pc_model.specs.History.{History, is_open}
use Rattle.pc_model.specs.Replies.{Setting, no_session}
use Rattle.pc_model.specs.Calls.{HasCallsOf}
use Rattle.pc_model.specs.Receipts.{Own, own_of}
use Rattle.pc_model.proofs.OwnCallLaws.{own_own, own_open, own_writes}
use Rattle.pc_engine.specs.Store.{Store, setting_of, active_of}
use Rattle.pc_transactions.specs.Actives.{Active}
use Rattle.pc_transactions.specs.Sessions.{writes_in}
use Rattle.pc_engine.specs.Stands.{Stands}
use Rattle.pc_tie.specs.declared.sight.Sitting.{Sitting}
use Rattle.pc_tie.specs.Seats.{IsSession}
use Rattle.pc_engine.proofs.WaitingLaws.{one_there}

-- a session's number is one of the store's
pub is_known : (st : Setting) (s : Sitting) → IsSession st s → no_session st s.number ≡ false
is_known st s is = let a = is.from_one in let b = is.within in grind (arith, nat_tests)

writes_when : (is : Bool) (t : Active) → is ≡ true → writes_in (cond is (Some t) None) ≡ t.writes
writes_when true t e = refl
writes_when false t e = absurd (true≢false (sym e))

-- the session's own calls determine what its open transaction has written
module _ (w : Store) (hist seen : History) (s : ℕ) (stands : Stands w hist) (known : no_session (setting_of w) s ≡ false) (has : HasCallsOf hist s seen) (opened : is_open s seen ≡ true) where
  same : own_of s hist ≡ own_of s seen
  same = sym (own_own s hist) ∙ (ap (own_of s) has.1 ∙ own_own s seen)

  still : is_open s hist ≡ true
  still = sym (own_open s hist) ∙ (ap (λ (o : Own). o.is_open) same ∙ (own_open s seen ∙ opened))

  pub writes_known : writes_in (active_of w s) ≡ (own_of s seen).writes
  writes_known = ap writes_in (one_there w s known ∙ stands.parts.sessions s known) ∙ (writes_when (is_open s hist) _ still ∙ (sym (own_writes s hist) ∙ ap (λ (o : Own). o.writes) same))
