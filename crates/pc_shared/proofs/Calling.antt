-- The answer to a call.
use Rattle.std.proofs.Common.{◌≡◌, ℕ, List, Bool, true, false, true≢false, sym, subst}
use Rattle.std.specs.Prelude.{◌≢◌, Result, Ok, Err, IfOk, IfErr, OnErr}
use Rattle.pc_types.specs.declared.Event.{Event}
use Rattle.pc_types.specs.declared.Event.TheVariants as event
use Rattle.pc_types.specs.declared.Outcome.{Outcome}
use Rattle.pc_types.specs.declared.Outcome.TheVariants.{Granted, Queued, Died}
use Rattle.pc_types.specs.declared.Refusal.{Refusal}
use Rattle.pc_types.specs.declared.Refusal.TheVariants as why
use Rattle.pc_types.specs.declared.Reply.{Reply}
use Rattle.pc_types.specs.declared.Reply.TheVariants as told
use Rattle.pc_model.specs.Replies.{Setting}
use Rattle.pc_model.specs.Calls.{step_of, Extends, IsAnswered}
use Rattle.pc_answers.specs.declared.answers.GetAnswer.{GetAnswer}
use Rattle.pc_answers.specs.declared.answers.GetAnswer.TheVariants as read
use Rattle.pc_answers.specs.declared.answers.AddAnswer.{AddAnswer}
use Rattle.pc_answers.specs.declared.answers.AddAnswer.TheVariants as added
use Rattle.pc_answers.specs.Replies.{begin_reply, get_reply, write_reply, add_reply, commit_reply, abort_reply}
use Rattle.pc_txn.specs.declared.got.Got.{Got}
use Rattle.pc_tie.specs.declared.sight.Sitting.{Sitting}
use Rattle.pc_tie.specs.Rules.{sitting}
use Rattle.pc_latch.specs.Asked.{IsAsked}
use Rattle.pc_shared.specs.Asked.{is_waiting_reply, IsGot, IsWriteMade, IsAdded, got_in, made_in, answered_sum}

-- a refusal that doesn't say that the request still waits
not_still : (e : Refusal) → is_waiting_reply (told.Refused e) ≡ false → e ≢ why.StillWaiting
not_still e calm is = absurd (true≢false (subst (λ (x : Refusal). is_waiting_reply (told.Refused x) ≡ false) is calm))

-- if the request waits nothing has changed for the session
pub still : (st : Setting) (before after : Sitting) (event : Event) (reply : Reply) → is_waiting_reply reply ≡ true → IsAsked st before event reply after → after ≡ before
still st before after event told.Wait waits asked = λ k. sitting (asked.number k) (asked.moves k)
still st before after event (told.Refused e) waits asked = λ k. sitting (asked.number k) (asked.moves k)
still st before after event (told.Begun t) waits asked = absurd (true≢false (sym waits))
still st before after event (told.Found value) waits asked = absurd (true≢false (sym waits))
still st before after event told.Absent waits asked = absurd (true≢false (sym waits))
still st before after event told.Ok waits asked = absurd (true≢false (sym waits))
still st before after event (told.Sum sum) waits asked = absurd (true≢false (sym waits))
still st before after event told.Died waits asked = absurd (true≢false (sym waits))
still st before after event (told.Committed n) waits asked = absurd (true≢false (sym waits))
still st before after event told.Aborted waits asked = absurd (true≢false (sym waits))
still st before after event (told.Phase phase point) waits asked = absurd (true≢false (sym waits))
still st before after event (told.NotYet count) waits asked = absurd (true≢false (sym waits))
still st before after event (told.Took key content) waits asked = absurd (true≢false (sym waits))
still st before after event told.NoneLeft waits asked = absurd (true≢false (sym waits))
still st before after event (told.PartDone point file entries) waits asked = absurd (true≢false (sym waits))
still st before after event (told.File file points entries) waits asked = absurd (true≢false (sym waits))

module _ (st : Setting) (before after : Sitting) where
  -- the fact of a call that gives this or is refused
  abbrev Told : {T : Type 0} → Event → (T → Type 0) → Result T Refusal → Type 0
  Told event Gives r =
      IfOk r Gives
      × IfErr r (λ e. IsAnswered st before.number before.seen event (told.Refused e))
      × IfErr r (λ e. e ≢ why.StillWaiting)
      × OnErr r (after.seen ≡ before.seen)

  pub begin_told : (r : Result ℕ Refusal) → is_waiting_reply (begin_reply r) ≡ false → IsAsked st before (event.Begin before.number) (begin_reply r) after →
      Told (event.Begin before.number) (λ t. Extends st before.seen (step_of (event.Begin before.number) (told.Begun t)) after.seen) r
  begin_told (Ok t) calm asked = (asked.moves, tt, tt, tt)
  begin_told (Err e) calm asked = (tt, asked.answered, not_still e calm, asked.moves)

  pub get_told : (key : List ℕ) (own : Bool) (r : Result GetAnswer Refusal) → is_waiting_reply (get_reply r) ≡ false → IsAsked st before (event.Get before.number key) (get_reply r) after →
      Told (event.Get before.number key) (λ (g : Got × Bool). IsGot st before.seen before.number key g.0 after.seen) (got_in own r)
  get_told key own (Ok (read.Found value)) calm asked = (asked.moves, tt, tt, tt)
  get_told key own (Ok read.Absent) calm asked = (asked.moves, tt, tt, tt)
  get_told key own (Ok read.Wait) calm asked = absurd (true≢false calm)
  get_told key own (Ok read.Died) calm asked = (asked.moves, tt, tt, tt)
  get_told key own (Err e) calm asked = (tt, asked.answered, not_still e calm, asked.moves)

  pub write_told : (write : Event) (r : Result Outcome Refusal) → is_waiting_reply (write_reply r) ≡ false → IsAsked st before write (write_reply r) after →
      Told write (λ made. IsWriteMade st before.seen write made after.seen) (made_in r)
  write_told write (Ok Granted) calm asked = (asked.moves, tt, tt, tt)
  write_told write (Ok Queued) calm asked = absurd (true≢false calm)
  write_told write (Ok Died) calm asked = (asked.moves, tt, tt, tt)
  write_told write (Err e) calm asked = (tt, asked.answered, not_still e calm, asked.moves)

  pub add_told : (add : Event) (r : Result AddAnswer Refusal) → is_waiting_reply (add_reply r) ≡ false → IsAsked st before add (add_reply r) after →
      Told add (λ sum. IsAdded st before.seen add sum after.seen) (answered_sum r)
  add_told add (Ok (added.Sum sum)) calm asked = (asked.moves, tt, tt, tt)
  add_told add (Ok added.Wait) calm asked = absurd (true≢false calm)
  add_told add (Ok added.Died) calm asked = (asked.moves, tt, tt, tt)
  add_told add (Err e) calm asked = (tt, asked.answered, not_still e calm, asked.moves)

  pub commit_told : (r : Result ℕ Refusal) → is_waiting_reply (commit_reply r) ≡ false → IsAsked st before (event.Commit before.number) (commit_reply r) after →
      Told (event.Commit before.number) (λ n. Extends st before.seen (step_of (event.Commit before.number) (told.Committed n)) after.seen) r
  commit_told (Ok n) calm asked = (asked.moves, tt, tt, tt)
  commit_told (Err e) calm asked = (tt, asked.answered, not_still e calm, asked.moves)

  pub abort_told : (r : Result (Unit {0}) Refusal) → is_waiting_reply (abort_reply r) ≡ false → IsAsked st before (event.Abort before.number) (abort_reply r) after →
      Told (event.Abort before.number) (λ made. Extends st before.seen (step_of (event.Abort before.number) told.Aborted) after.seen) r
  abort_told (Ok made) calm asked = (asked.moves, tt, tt, tt)
  abort_told (Err e) calm asked = (tt, asked.answered, not_still e calm, asked.moves)

-- a fact of each read that gives something
pub room_in : (own : Bool) (r : Result GetAnswer Refusal) (Fact : Type 0) → IfOk r (λ a. Fact) → IfOk (got_in own r) (λ g. Fact)
room_in own (Ok (read.Found value)) Fact fact = fact
room_in own (Ok read.Absent) Fact fact = fact
room_in own (Ok read.Wait) Fact fact = fact
room_in own (Ok read.Died) Fact fact = fact
room_in own (Err e) Fact fact = tt

-- whether it was of an own write
pub own_in : (own is : Bool) (r : Result GetAnswer Refusal) → own ≡ is → IfOk (got_in own r) (λ (g : Got × Bool). g.1 ≡ is)
own_in own is (Ok (read.Found value)) same = same
own_in own is (Ok read.Absent) same = same
own_in own is (Ok read.Wait) same = same
own_in own is (Ok read.Died) same = same
own_in own is (Err e) same = tt
