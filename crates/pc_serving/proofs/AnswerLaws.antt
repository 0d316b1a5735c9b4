-- What the answers to events are by the history.
use Rattle.std.proofs.Common.{◌≡◌, ◌≢◌, ◌≤◌, ℕ, Bool, true, false, ◌&&◌, ◌||◌, List, ◌∷◌, ◌++◌, Option, Ok, Err, cond, eqb, refl, sym, ap, subst, ◌∙◌, arith}
use Rattle.std.specs.Prelude.{Result, OnOk, MatchBool, codes}
use Rattle.std.proofs.lemmas.Bool.Decides.{nat_tests}
use Rattle.pc_io.specs.Tallies.{Puts}
use Rattle.pc_types.specs.declared.Event.{Event}
use Rattle.pc_types.specs.declared.Event.TheVariants as asked
use Rattle.pc_types.specs.declared.Reply.{Reply}
use Rattle.pc_types.specs.declared.Step.{Step}
use Rattle.pc_types.specs.declared.limits.TheConstants.{MOST_SESSIONS}
use Rattle.pc_types.specs.declared.refusal.Refusal.{Refusal}
use Rattle.pc_io.specs.declared.tally.Tally.{Tally}
use Rattle.pc_io.proofs.PutsLaws.{puts_then}
use Rattle.pc_sessions.specs.SessionSets.{has_session, is_number}
use Rattle.pc_model.specs.Calls.{session_of}
use Rattle.pc_model.specs.History.{History, is_open}
use Rattle.pc_model.specs.Locks.{is_waiting}
use Rattle.pc_model.specs.Replies.{Setting, IsLegal, no_session}
use Rattle.pc_engine.specs.Stands.{Stands, Follows}
use Rattle.pc_engine.specs.Store.{Store, setting_of}
use Rattle.pc_engine.specs.Waiting.{waits_after}
use Rattle.pc_engine.proofs.WaitingLaws.{waits_told}
use Rattle.pc_lines.specs.declared.lines.Line.{Line}
use Rattle.pc_lines.specs.declared.lines.Line.TheVariants as line
use Rattle.pc_script.specs.declared.script.LineAnswer.{LineAnswer}
use Rattle.pc_script.specs.Scripts.{AnswersLine, answer_text}
use Rattle.pc_texts.specs.Texts.{reply_text}
use Rattle.pc_serving.specs.Points.{is_checkpoint}
use Rattle.pc_serving.specs.Serving.{AnswersEvent, AnswersServed, Serves, awaits, granted_text, is_of_client, is_wait}
use Rattle.pc_serving.specs.Sweeps.{IsTextSent, swept_to, waits_now}
use Rattle.pc_serving.proofs.SweepLaws.{sweep_is_granting}

-- a client's event is none of the checkpointer's
no_checkpoint : (event : Event) → is_of_client event ≡ true → is_checkpoint event ≡ false
no_checkpoint (asked.Begin s) e = refl
no_checkpoint (asked.Get s key) e = refl
no_checkpoint (asked.Put s key value) e = refl
no_checkpoint (asked.Del s key) e = refl
no_checkpoint (asked.Add s key delta) e = refl
no_checkpoint (asked.Commit s) e = refl
no_checkpoint (asked.Abort s) e = refl
no_checkpoint asked.StartPoint e = cc
no_checkpoint asked.Seal e = cc
no_checkpoint asked.OpenCapture e = cc
no_checkpoint asked.Take e = cc
no_checkpoint asked.Done e = cc
no_checkpoint asked.Rest e = cc
no_checkpoint (asked.Join first second) e = refl

-- who waits has a session's number
numbered : (st : Setting) (s : ℕ) (h : History) → st.sessions ≤ MOST_SESSIONS → waits_after st s h ≡ true → is_number s ≡ true
numbered st s h few waits = by_session (no_session st s) refl waits
  where
    by_session : (b : Bool) → no_session st s ≡ b → cond b false (is_open s h && is_waiting s h) ≡ true → is_number s ≡ true
    by_session true e waits = cc
    by_session false e waits = grind (arith, nat_tests, few, e)

-- who was answered that it waits, or is answered so now, and waits
still_waits : (there wait number own waits : Bool) → (waits ≡ true → own ≡ true → number ≡ true) → ((there || (wait && (number && own))) && waits) ≡ (waits && ((wait && own) || there))
still_waits there wait number own false known = none (there || (wait && (number && own)))
  where
    none : (b : Bool) → (b && false) ≡ false
    none true = refl
    none false = refl
still_waits there wait number own true known = all (there || (wait && (number && own))) ∙ by_own own refl
  where
    all : (b : Bool) → (b && true) ≡ b
    all true = refl
    all false = refl

    turned : (a b : Bool) → (a || b) ≡ (b || a)
    turned true true = refl
    turned true false = refl
    turned false true = refl
    turned false false = refl

    none : (b : Bool) → (b && false) ≡ false
    none true = refl
    none false = refl

    by_own : (b : Bool) → own ≡ b → (there || (wait && (number && own))) ≡ ((wait && own) || there)
    by_own true e = ap (λ n. there || (wait && (n && own))) (known refl e) ∙ turned there (wait && own)
    by_own false e =
        ap (λ b. there || (wait && (number && b))) e ∙ (ap (λ b. there || (wait && b)) (none number) ∙ (turned there (wait && false) ∙ ap (λ b. (wait && b) || there) (sym e)))

-- what is so if the test is true
asked_by : (Then Else : Type 0) (b : Bool) → b ≡ true → Then → MatchBool b Then Else
asked_by Then Else true e so = so
asked_by Then Else false e so = cc

module _ {T : Type 0} (contents : T → Option (List ℕ)) where
  -- a text that went out, and then one that is printed
  pub told_then : (a b c : Tally T) (result : Result (Unit {0}) Refusal) (x y : List ℕ) → Puts contents a b (Ok tt) x → IsTextSent contents b c result y → IsTextSent contents a c result (x ++ y)
  told_then a b c (Ok u) x y p q = puts_then contents a b c (Ok tt) x y p q
  told_then a b c (Err e) x y p q = (q.0, omega (arith, q.1, p.1))

  -- An event of a client that was asked of a world, and whose reply was then printed.
  pub event_answered : (st : Setting) (h : History) (event : Event) (reply : Reply) (own : ℕ) (old world new : Store) (was left : ℕ) (a b : Tally T) (result : Result (Unit {0}) Refusal) → Serves st old was h → Follows (setting_of old) h event reply world
      → setting_of world ≡ setting_of old → is_of_client event ≡ true → own ≡ session_of event → new ≡ world
      → OnOk result ((s : ℕ) → has_session left s ≡ ((has_session was s || (is_wait reply && (is_number own && (eqb s own)))) && waits_now world s))
      → IsTextSent contents a b result ((reply_text reply ++ codes "\n") ++ swept_to (waits_now world) (λ s. has_session was s || (is_wait reply && (is_number own && (eqb s own)))) own MOST_SESSIONS)
      → OnOk result ((next : History) × (text : List ℕ) × Serves st new left next × AnswersEvent st h event text next × Puts contents a b (Ok tt) text)
  event_answered st h event reply own old world new was left a b (Err e) serves follows kept client asks same swept told = tt
  event_answered st h event reply own old world new was left a b (Ok u) serves follows kept client asks same swept told = (
    step ∷ h,
    answer,
    subst (λ (w : Store). Serves st w left (step ∷ h)) (sym same) (record { stands = follows.stands; setting = kept ∙ serves.setting; awaited = awaited }),
    asked_by _ _ (is_of_client event) client told_so,
    subst (λ (t : List ℕ). Puts contents a b (Ok tt) ((reply_text reply ++ codes "\n") ++ t)) granted told,
  )
    where
      step : Step
      step = record { event = event; reply = reply }

      answer : List ℕ
      answer = (reply_text reply ++ codes "\n") ++ granted_text st step h

      told_so : (given : Reply) × IsLegal st h event given × ((step ∷ h) ≡ record { event = event; reply = given } ∷ h) × (answer ≡ (reply_text given ++ codes "\n") ++ granted_text st (record { event = event; reply = given }) h)
      told_so = (reply, subst (λ (t : Setting). IsLegal t h event reply) serves.setting follows.legal, refl, refl)

      now : (s : ℕ) → waits_now world s ≡ waits_after st s (step ∷ h)
      now s = waits_told world (step ∷ h) s follows.stands ∙ ap (λ (t : Setting). waits_after t s (step ∷ h)) (kept ∙ serves.setting)

      few : st.sessions ≤ MOST_SESSIONS
      few = subst (λ (t : Setting). t.sessions ≤ MOST_SESSIONS) (kept ∙ serves.setting) follows.stands.sessions

      awaited : (s : ℕ) → has_session left s ≡ awaits st s (step ∷ h)
      awaited s =
          swept s
          ∙ (still_waits (has_session was s) (is_wait reply) (is_number own) (eqb s own) (waits_now world s) (λ waits mine. ap is_number (let one : own ≡ s = grind (arith, nat_tests, mine) in one) ∙ numbered st s (step ∷ h) few (sym (now s) ∙ waits))
          ∙ (ap (λ k. k && ((is_wait reply && eqb s own) || has_session was s)) (now s)
          ∙ (ap (λ k. waits_after st s (step ∷ h) && ((is_wait reply && eqb s k) || has_session was s)) asks
          ∙ (ap (λ k. waits_after st s (step ∷ h) && ((is_wait reply && eqb s (session_of event)) || k)) (serves.awaited s)
          ∙ ap (λ k. cond k (awaits st s h) (waits_after st s (step ∷ h) && ((is_wait reply && eqb s (session_of event)) || awaits st s h))) (sym (no_checkpoint event client))))))

      before : (s : ℕ) → eqb s own ≡ false → (has_session was s || (is_wait reply && (is_number own && (eqb s own)))) ≡ awaits st s h
      before s other = ap (λ k. has_session was s || (is_wait reply && (is_number own && k))) other ∙ (by_none (has_session was s) (is_wait reply) (is_number own) ∙ serves.awaited s)
        where
          by_none : (x y z : Bool) → (x || (y && (z && false))) ≡ x
          by_none true y z = refl
          by_none false true true = refl
          by_none false true false = refl
          by_none false false z = refl

      granted : swept_to (waits_now world) (λ s. has_session was s || (is_wait reply && (is_number own && (eqb s own)))) own MOST_SESSIONS ≡ granted_text st step h
      granted = sweep_is_granting st step h (waits_now world) (λ s. has_session was s || (is_wait reply && (is_number own && (eqb s own)))) own asks now before MOST_SESSIONS

-- a line that asks no event changes nothing
same_history : (st : Setting) (h next : History) (l : Line) (said : LineAnswer) → ((event : Event) → l ≢ line.Asks event) → AnswersLine st h l said next → next ≡ h
same_history st h next line.Silent said other a = a.1
same_history st h next line.Malformed said other a = a.1
same_history st h next (line.Sets key value) said other a = a.1
same_history st h next (line.SetsRefused why) said other a = a.1
same_history st h next (line.AsksRefused why) said other a = a.1
same_history st h next (line.Asks event) said other a = absurd (other event refl)
same_history st h next (line.Shows view) said other a = a.1

-- and is answered as in a script
served_as : (st : Setting) (h next : History) (l : Line) (said : LineAnswer) → ((event : Event) → l ≢ line.Asks event) → AnswersLine st h l said next → AnswersServed st h l (answer_text said) next
served_as st h next line.Silent said other a = (said, a, refl)
served_as st h next line.Malformed said other a = (said, a, refl)
served_as st h next (line.Sets key value) said other a = (said, a, refl)
served_as st h next (line.SetsRefused why) said other a = (said, a, refl)
served_as st h next (line.AsksRefused why) said other a = (said, a, refl)
served_as st h next (line.Asks event) said other a = absurd (other event refl)
served_as st h next (line.Shows view) said other a = (said, a, refl)

module _ {T : Type 0} (contents : T → Option (List ℕ)) where
  -- A line that asks no event was answered by a world, and the answer was then printed.
  pub line_answered : (st : Setting) (h next : History) (l : Line) (said : LineAnswer) (old new : Store) (was left : ℕ) (a b : Tally T) (result : Result (Unit {0}) Refusal) → ((event : Event) → l ≢ line.Asks event) → Serves st old was h → Stands new next → setting_of new ≡ setting_of old
      → left ≡ was → AnswersLine (setting_of old) h l said next → Puts contents a b result (answer_text said)
      → OnOk result ((after : History) × (text : List ℕ) × Serves st new left after × AnswersServed st h l text after × Puts contents a b (Ok tt) text)
  line_answered st h next l said old new was left a b (Err e) other serves stands kept same answers told = tt
  line_answered st h next l said old new was left a b (Ok u) other serves stands kept same answers told =
      let by_it : AnswersLine st h l said next = subst (λ (t : Setting). AnswersLine t h l said next) serves.setting answers in (
        next,
        answer_text said,
        record { stands = stands; setting = kept ∙ serves.setting; awaited = λ s. ap (λ k. has_session k s) same ∙ (serves.awaited s ∙ ap (awaits st s) (sym (same_history st h next l said other by_it))) },
        served_as st h next l said other by_it,
        told,
      )
