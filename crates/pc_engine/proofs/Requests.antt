-- What a read and a write leave of a world that represents a history.
use Rattle.std.specs.Prelude.{ℤ}
use Rattle.pc_types.specs.declared.Change.TheVariants.{Add}
use Rattle.pc_types.specs.Changes.{added, fits_i64, change_to}
use Rattle.pc_transactions.specs.Adds.{sum_causes}
use Rattle.std.proofs.Common.{◌≡◌, ℕ, List, [], ◌∷◌, ◌++◌, length, subst, Option, Some, None, is_some, is_none, refl, sym, ap, ◌∙◌, cond, true, false, Bool, not, eqb, ◌&&◌}
use Rattle.std.proofs.lemmas.List.{length-set}
use Rattle.pc_types.specs.declared.Mode.{Mode}
use Rattle.pc_types.specs.declared.Mode.TheVariants.{Shared, Exclusive}
use Rattle.pc_types.specs.declared.Event.{Event}
use Rattle.pc_types.specs.declared.Event.TheVariants as asked_for
use Rattle.pc_types.specs.declared.Reply.{Reply}
use Rattle.pc_types.specs.declared.Reply.TheVariants as told
use Rattle.pc_types.specs.declared.Refusal.{Refusal}
use Rattle.pc_types.specs.declared.Refusal.TheVariants as why
use Rattle.pc_types.specs.Limits.{IsKey, IsValue}
use Rattle.pc_model.specs.Database.{same_bytes, written, seen, write_of}
use Rattle.pc_model.specs.Log.{after}
use Rattle.pc_model.specs.History.{History, Effect, effect_of, effect_of_get, effect_of_write, is_open, transaction_number_of, writes_of, has_died, effect_of_add}
use Rattle.pc_model.specs.History.Effect.{Reads, Writes, Waits, Dies, Adds}
use Rattle.pc_model.specs.Headline.{ValueBy}
use Rattle.pc_model.specs.Standing.{HasLegalEffects}
use Rattle.pc_types.specs.declared.Outcome.{Outcome}
use Rattle.pc_model.specs.Locks.{Queue, outcome, queue_of, queue_by, queue_after, is_waiting}
use Rattle.pc_types.specs.declared.Outcome.TheVariants.{Granted, Queued, Died}
use Rattle.pc_model.specs.Replies.{first_refusal, no_session, too_many, is_full, read_reply, by_outcome, seen_by, sum_or_zero, write_causes as causes_of_write, add_causes as causes_of_add}
use Rattle.pc_records.specs.RowSteps.{is_full_for, rows_after}
use Rattle.pc_records.specs.Following.{AreRecords}
use Rattle.pc_records.specs.NewKeys.{is_one_too_many}
use Rattle.pc_records.proofs.FollowingLaws.{asked_records}
use Rattle.pc_records.proofs.OccupiedLaws.{full_now}
use Rattle.pc_transactions.specs.Sessions.{number_in, writes_in, seen_in, with_session, after_writing, after_dying, if_granted}
use Rattle.pc_engine.specs.Store.{Store, setting_of, active}
use Rattle.pc_transactions.specs.Actives.{active_in as session_at}
use Rattle.pc_transactions.specs.Actives.{Active}
use Rattle.pc_engine.specs.Steps.{open_causes, write_refusal_causes, after_asking, outcome_in, Gets, WritesKey, AddsTo, adding_causes}
use Rattle.pc_engine.specs.Stands.{IsReadOff, Stands, Follows, active_now}
use Rattle.pc_engine.proofs.ActiveSessions.{is_past, active_by, same_number, one_session}
use Rattle.pc_engine.proofs.LocalSteps.{IsLocal, local_left, log_stays, keys_stay, closed_set_stays, state_stays_at}
use Rattle.pc_engine.proofs.Owing.{with_step, IsLeft, IsOpenIn, open_then, owes_follows, refused_idle, in_transaction}

-- the effect of a request, by its outcome and the effect that it has if it is granted
abbrev asked_effect : ℕ → List ℕ → Mode → Effect → Outcome → Effect
asked_effect s key mode granted Granted = granted
asked_effect s key mode granted Queued = Waits s key mode
asked_effect s key mode granted Died = Dies s key mode

get_effect : (s : ℕ) (key : List ℕ) (answer : Option (List ℕ)) (o : Outcome) → effect_of_get s key (by_outcome o (read_reply answer)) ≡ asked_effect s key Shared (Reads s key answer) o
get_effect s key None Granted = refl
get_effect s key (Some v) Granted = refl
get_effect s key answer Queued = refl
get_effect s key answer Died = refl

write_effect : (s : ℕ) (key : List ℕ) (content : Option (List ℕ)) (o : Outcome) → effect_of_write s key content (by_outcome o told.Ok) ≡ asked_effect s key Exclusive (Writes s key content) o
write_effect s key content Granted = refl
write_effect s key content Queued = refl
write_effect s key content Died = refl

add_effect : (s : ℕ) (key : List ℕ) (delta sum : ℤ) (o : Outcome) → effect_of_add s key delta (by_outcome o (told.Sum sum)) ≡ asked_effect s key Exclusive (Adds s key delta sum) o
add_effect s key delta sum Granted = refl
add_effect s key delta sum Queued = refl
add_effect s key delta sum Died = refl

-- what a granted request does: it takes the lock, and leaves these sessions
record IsGrant (w : Store) (h : History) (s : ℕ) (key : List ℕ) (mode : Mode) (granted : Effect) (sessions : List (Option Active)) : Type 0 where
  stays : IsLocal w.base.run h granted
  queues : (q : List ℕ) → queue_by q granted h (queue_of q h) ≡ cond (same_bytes key q) (queue_after (queue_of q h) (transaction_number_of s h) mode Granted) (queue_of q h)
  same : length sessions ≡ length w.sessions
  are : (t : ℕ) → is_past w.sessions t ≡ false → session_at sessions t ≡ active_by t granted h
  value : ValueBy w.base.pairs granted h

either : (b : Bool) (queue : Queue) → queue ≡ cond b queue queue
either true queue = refl
either false queue = refl

-- the records once the request is answered, whatever its effect
asked_rows : (w : Store) (h : History) (s : ℕ) (key : List ℕ) (mode : Mode) (event : Event) (reply : Reply) (e : Effect) (o : Outcome) → effect_of event reply ≡ e → IsLocal w.base.run h e → HasLegalEffects (setting_of w) (with_step h event reply) →
    ((q : List ℕ) → queue_by q e h (queue_of q h) ≡ cond (same_bytes key q) (queue_after (queue_of q h) (transaction_number_of s h) mode o) (queue_of q h)) → IsOpenIn w h s → IsReadOff w h →
    AreRecords w.base.pairs (rows_after w.kept.rows key (number_in (active w s)) mode o) (with_step h event reply)
asked_rows w h s key mode event reply e o is stays legal queues at parts =
    subst (λ n. AreRecords w.base.pairs (rows_after w.kept.rows key n mode o) (with_step h event reply)) (sym (ap number_in at.same))
    (asked_records w.base.pairs w.kept.rows h (with_step h event reply) key (transaction_number_of s h) mode o (ap (after w.base.pairs) (log_stays w h event reply e is stays legal)) (λ q. ap (λ d. queue_by q d h (queue_of q h)) is ∙ queues q)
    (keys_stay w h event reply e is stays legal) (closed_set_stays w h event reply e is stays legal) (state_stays_at w h event reply e is stays legal) parts.records)

-- after a request, by its outcome
asked_left : (w : Store) (h : History) (s : ℕ) (key : List ℕ) (mode : Mode) (event : Event) (reply : Reply) (granted : Effect) (sessions : List (Option Active)) (o : Outcome) → effect_of event reply ≡ asked_effect s key mode granted o →
    IsGrant w h s key mode granted sessions → HasLegalEffects (setting_of w) (with_step h event reply) → IsOpenIn w h s → IsReadOff w h → IsLeft w (after_asking w s key mode o (if_granted o sessions w.sessions)) h event reply
asked_left w h s key mode event reply granted sessions Granted is grant legal at parts =
    local_left w h event reply granted is grant.stays legal (rows_after w.kept.rows key (number_in (active w s)) mode Granted) sessions grant.same (asked_rows w h s key mode event reply granted Granted is grant.stays legal grant.queues at parts) grant.are grant.value parts
asked_left w h s key mode event reply granted sessions Queued is grant legal at parts =
    let stays : IsLocal w.base.run h (Waits s key mode) = record { no_entry = refl; no_begin = refl; same_phase = refl; same_point = refl; no_key = refl; same_closed = refl; none_taken = refl; none_shelved = refl } in
    local_left w h event reply (Waits s key mode) is stays legal (rows_after w.kept.rows key (number_in (active w s)) mode Queued) w.sessions refl (asked_rows w h s key mode event reply (Waits s key mode) Queued is stays legal (λ q. refl) at parts)
    (λ t there. parts.sessions t there) tt parts
asked_left w h s key mode event reply granted sessions Died is grant legal at parts =
    let stays : IsLocal w.base.run h (Dies s key mode) = record { no_entry = refl; no_begin = refl; same_phase = refl; same_point = refl; no_key = refl; same_closed = refl; none_taken = refl; none_shelved = refl } in
    local_left w h event reply (Dies s key mode) is stays legal w.kept.rows (with_session w.sessions s (after_dying (active w s))) (length-set w.sessions _ _)
    (asked_rows w h s key mode event reply (Dies s key mode) Died is stays legal (λ q. either (same_bytes key q) (queue_of q h)) at parts)
    (one_session w.sessions s (after_dying (active w s)) (Dies s key mode) h at.there (ap after_dying at.same ∙ rw (at.opened, same_number s) refl) (λ t other. rw other refl) parts.sessions) tt parts

-- what is granted to the session's transaction by the world is what the history grants
outcome_same : (w : Store) (h : History) (s : ℕ) (key : List ℕ) (mode : Mode) → IsOpenIn w h s → IsReadOff w h → outcome_in w s key mode ≡ outcome (queue_of key h) (transaction_number_of s h) mode
outcome_same w h s key mode at parts = ap (λ q. outcome q (number_in (active w s)) mode) (parts.records.requests key) ∙ ap (λ a. outcome (queue_of key h) (number_in a) mode) at.same

same_either : (o : Outcome) (sessions : List (Option Active)) → if_granted o sessions sessions ≡ sessions
same_either Granted sessions = refl
same_either Queued sessions = refl
same_either Died sessions = refl

is_none-some : {A : Type 0} (o : Option A) → is_none o ≡ not (is_some o)
is_none-some None = refl
is_none-some (Some x) = refl

read_grant : (w : Store) (h : History) (s : ℕ) (key : List ℕ) (answer : Option (List ℕ)) → IsReadOff w h → IsGrant w h s key Shared (Reads s key answer) w.sessions
read_grant w h s key answer parts = record {
  stays = record { no_entry = refl; no_begin = refl; same_phase = refl; same_point = refl; no_key = refl; same_closed = refl; none_taken = refl; none_shelved = refl };
  queues = λ q. refl;
  same = refl;
  are = λ t there. parts.sessions t there;
  value = tt;
}

write_grant : (w : Store) (h : History) (s : ℕ) (key : List ℕ) (content : Option (List ℕ)) → IsOpenIn w h s → IsReadOff w h → IsGrant w h s key Exclusive (Writes s key content) (with_session w.sessions s (after_writing (active w s) (write_of key (change_to content))))
write_grant w h s key content at parts = record {
  stays = record { no_entry = refl; no_begin = refl; same_phase = refl; same_point = refl; no_key = refl; same_closed = refl; none_taken = refl; none_shelved = refl };
  queues = λ q. refl;
  same = length-set w.sessions _ _;
  are = one_session w.sessions s (after_writing (active w s) (write_of key (change_to content))) (Writes s key content) h at.there (ap (λ a. after_writing a (write_of key (change_to content))) at.same ∙ rw (at.opened, same_number s) refl) (λ t other. rw other refl) parts.sessions;
  value = tt;
}

add_grant : (w : Store) (h : History) (s : ℕ) (key : List ℕ) (delta sum : ℤ) → IsOpenIn w h s → IsReadOff w h → IsGrant w h s key Exclusive (Adds s key delta sum) (with_session w.sessions s (after_writing (active w s) (write_of key (Add delta))))
add_grant w h s key delta sum at parts = record {
  stays = record { no_entry = refl; no_begin = refl; same_phase = refl; same_point = refl; no_key = refl; same_closed = refl; none_taken = refl; none_shelved = refl };
  queues = λ q. refl;
  same = length-set w.sessions _ _;
  are = one_session w.sessions s (after_writing (active w s) (write_of key (Add delta))) (Adds s key delta sum) h at.there (ap (λ a. after_writing a (write_of key (Add delta))) at.same ∙ rw (at.opened, same_number s) refl) (λ t other. rw other refl) parts.sessions;
  value = tt;
}

module _ (old new : Store) (h : History) (s : ℕ) (reply : Reply) (stands : Stands old h) where
  pub gets_follows : (key : List ℕ) → Gets old s key reply new → Follows (setting_of old) h (asked_for.Get s key) reply new
  gets_follows key step =
      let mine : List (Bool × Refusal) = (is_full_for old.kept key, why.Full) ∷ [] in
      let answer : Option (List ℕ) = seen_in old.kept.rows (active old s) key in
      let o : Outcome = outcome_in old s key Shared in
      owes_follows old new h (asked_for.Get s key) reply _ (first_refusal (open_causes old s mine)) stands tt
      (in_transaction old h s mine ((is_full (setting_of old) key h, why.Full) ∷ []) stands (λ there opened. ap (λ b. first_refusal ((b, why.Full) ∷ [])) (full_now (setting_of old) old.kept h key refl stands.parts.records)))
      (refused_idle (asked_for.Get s key) (open_causes old s mine)) step
      (λ none d.
      let at = open_then old h s mine stands none in
      d.0 ∙ ap (λ o. by_outcome o (read_reply answer)) (outcome_same old h s key Shared at stands.parts)
      ∙ ap (λ a. by_outcome (outcome (queue_of key h) (transaction_number_of s h) Shared) (read_reply (seen_in old.kept.rows a key))) at.same
      ∙ ap (λ v. by_outcome (outcome (queue_of key h) (transaction_number_of s h) Shared) (read_reply (seen (written (writes_of s h) key) v))) (stands.parts.records.stored key))
      (λ none d legal.
      let now = rw d.0 at legal in
      rw (d.0, d.1) (subst (λ sessions. IsLeft old (after_asking old s key Shared o sessions) h (asked_for.Get s key) (by_outcome o (read_reply answer))) (same_either o old.sessions)
      (asked_left old h s key Shared (asked_for.Get s key) (by_outcome o (read_reply answer)) (Reads s key answer) old.sessions o (get_effect s key answer o) (read_grant old h s key answer stands.parts) now (open_then old h s mine stands none) stands.parts)))

  -- the causes of a write's refusals are those of the history
  write_causes_are : (key : List ℕ) → first_refusal (write_refusal_causes old s key) ≡ first_refusal ((no_session (setting_of old) s, why.NoSession) ∷ (not (is_open s h), why.NoTransaction) ∷ (is_waiting s h, why.StillWaiting) ∷ (has_died s h, why.MustAbort) ∷ (too_many s key h, why.TooManyWrites) ∷ (is_full (setting_of old) key h, why.Full) ∷ [])
  write_causes_are key =
      in_transaction old h s ((is_one_too_many (writes_in (active old s)) key, why.TooManyWrites) ∷ (is_full_for old.kept key, why.Full) ∷ []) ((too_many s key h, why.TooManyWrites) ∷ (is_full (setting_of old) key h, why.Full) ∷ []) stands
      (λ there opened.
      let same : active old s ≡ Some (active_now s h) = stands.parts.sessions s there ∙ ap (λ b. cond b (Some (active_now s h)) None) opened in
      ap (λ b. first_refusal ((b, why.TooManyWrites) ∷ (is_full_for old.kept key, why.Full) ∷ [])) (ap (λ a. is_one_too_many (writes_in a) key) same ∙ ap (λ b. eqb (length (writes_of s h)) 256 && b) (is_none-some (written (writes_of s h) key)))
      ∙ ap (λ b. first_refusal ((too_many s key h, why.TooManyWrites) ∷ (b, why.Full) ∷ [])) (full_now (setting_of old) old.kept h key refl stands.parts.records))

  write_open : (key : List ℕ) → first_refusal (write_refusal_causes old s key) ≡ None → IsOpenIn old h s
  write_open key none = open_then old h s ((is_one_too_many (writes_in (active old s)) key, why.TooManyWrites) ∷ (is_full_for old.kept key, why.Full) ∷ []) stands none

  write_left : (key : List ℕ) (content : Option (List ℕ)) (event : Event) → ((r : Reply) → effect_of event r ≡ effect_of_write s key content r) → first_refusal (write_refusal_causes old s key) ≡ None →
      HasLegalEffects (setting_of old) (with_step h event (by_outcome (outcome_in old s key Exclusive) told.Ok)) →
      IsLeft old (after_asking old s key Exclusive (outcome_in old s key Exclusive) (if_granted (outcome_in old s key Exclusive) (with_session old.sessions s (after_writing (active old s) (write_of key (change_to content)))) old.sessions)) h event (by_outcome (outcome_in old s key Exclusive) told.Ok)
  write_left key content event same none legal =
      let o : Outcome = outcome_in old s key Exclusive in
      let at = write_open key none in
      asked_left old h s key Exclusive event (by_outcome o told.Ok) (Writes s key content) (with_session old.sessions s (after_writing (active old s) (write_of key (change_to content)))) o (same (by_outcome o told.Ok) ∙ write_effect s key content o) (write_grant old h s key content at stands.parts) legal at stands.parts

  pub puts_follows : (key value : List ℕ) → IsKey key × IsValue value → WritesKey old s key (Some value) reply new → Follows (setting_of old) h (asked_for.Put s key value) reply new
  puts_follows key value limits step =
      owes_follows old new h (asked_for.Put s key value) reply _ (first_refusal (write_refusal_causes old s key)) stands limits (write_causes_are key) (refused_idle (asked_for.Put s key value) (write_refusal_causes old s key)) step
      (λ none d. d.0 ∙ ap (λ o. by_outcome o told.Ok) (outcome_same old h s key Exclusive (write_open key none) stands.parts))
      (λ none d legal. let now = rw d.0 at legal in rw (d.0, d.1) (write_left key (Some value) (asked_for.Put s key value) (λ r. refl) none now))

  pub dels_follows : (key : List ℕ) → IsKey key → WritesKey old s key None reply new → Follows (setting_of old) h (asked_for.Del s key) reply new
  dels_follows key limits step =
      owes_follows old new h (asked_for.Del s key) reply _ (first_refusal (write_refusal_causes old s key)) stands limits (write_causes_are key) (refused_idle (asked_for.Del s key) (write_refusal_causes old s key)) step
      (λ none d. d.0 ∙ ap (λ o. by_outcome o told.Ok) (outcome_same old h s key Exclusive (write_open key none) stands.parts))
      (λ none d legal. let now = rw d.0 at legal in rw (d.0, d.1) (write_left key None (asked_for.Del s key) (λ r. refl) none now))

  -- what the session's transaction sees, and how its request is answered, is what the history says
  add_seen : (key : List ℕ) → IsOpenIn old h s → seen_in old.kept.rows (active old s) key ≡ seen_by (setting_of old) s key h
  add_seen key at = ap (λ a. seen_in old.kept.rows a key) at.same ∙ ap (seen (written (writes_of s h) key)) (stands.parts.records.stored key)

  -- the causes of an add's refusals are those of the history
  adding_causes_are : (key : List ℕ) (delta : ℤ) → first_refusal (adding_causes old s key delta) ≡ first_refusal (causes_of_write (setting_of old) s key h ++ causes_of_add (setting_of old) s key delta h)
  adding_causes_are key delta =
      let mine = sum_causes (outcome_in old s key Exclusive) (seen_in old.kept.rows (active old s) key) (written (writes_in (active old s)) key) delta in
      in_transaction old h s ((is_one_too_many (writes_in (active old s)) key, why.TooManyWrites) ∷ (is_full_for old.kept key, why.Full) ∷ mine) ((too_many s key h, why.TooManyWrites) ∷ (is_full (setting_of old) key h, why.Full) ∷ causes_of_add (setting_of old) s key delta h) stands
      (λ there opened.
      let same : active old s ≡ Some (active_now s h) = stands.parts.sessions s there ∙ ap (λ b. cond b (Some (active_now s h)) None) opened in
      let at : IsOpenIn old h s = record { there = there; opened = opened; same = same } in
      ap (λ b. first_refusal ((b, why.TooManyWrites) ∷ (is_full_for old.kept key, why.Full) ∷ mine)) (ap (λ a. is_one_too_many (writes_in a) key) same ∙ ap (λ b. eqb (length (writes_of s h)) 256 && b) (is_none-some (written (writes_of s h) key)))
      ∙ ap (λ b. first_refusal ((too_many s key h, why.TooManyWrites) ∷ (b, why.Full) ∷ mine)) (full_now (setting_of old) old.kept h key refl stands.parts.records)
      ∙ (λ i. first_refusal ((too_many s key h, why.TooManyWrites) ∷ (is_full (setting_of old) key h, why.Full) ∷ sum_causes (outcome_same old h s key Exclusive at stands.parts i) (add_seen key at i) (written (writes_in (same i)) key) delta)))

  pub adds_follows : (key : List ℕ) (delta : ℤ) → IsKey key × (fits_i64 delta ≡ true) → AddsTo old s key delta reply new → Follows (setting_of old) h (asked_for.Add s key delta) reply new
  adds_follows key delta limits step =
      let o : Outcome = outcome_in old s key Exclusive in
      let there : Option (List ℕ) = seen_in old.kept.rows (active old s) key in
      let sum : ℤ = sum_or_zero (added delta there) in
      let then : List (Option Active) = with_session old.sessions s (after_writing (active old s) (write_of key (Add delta))) in
      owes_follows old new h (asked_for.Add s key delta) reply _ (first_refusal (adding_causes old s key delta)) stands limits (adding_causes_are key delta) (refused_idle (asked_for.Add s key delta) (adding_causes old s key delta)) step
      (λ none d.
      let at = add_open key delta none in
      let O : Outcome = outcome (queue_of key h) (transaction_number_of s h) Exclusive in
      d.0 ∙ ap (λ o. by_outcome o (told.Sum sum)) (outcome_same old h s key Exclusive at stands.parts) ∙ ap (λ v. by_outcome O (told.Sum (sum_or_zero (added delta v)))) (add_seen key at))
      (λ none d legal.
      let now = rw d.0 at legal in
      let at = add_open key delta none in
      rw (d.0, d.1) (asked_left old h s key Exclusive (asked_for.Add s key delta) (by_outcome o (told.Sum sum)) (Adds s key delta sum) then o (add_effect s key delta sum o) (add_grant old h s key delta sum at stands.parts) now at stands.parts))
    where
      add_open : (key : List ℕ) (delta : ℤ) → first_refusal (adding_causes old s key delta) ≡ None → IsOpenIn old h s
      add_open key delta none =
          open_then old h s ((is_one_too_many (writes_in (active old s)) key, why.TooManyWrites) ∷ (is_full_for old.kept key, why.Full) ∷ sum_causes (outcome_in old s key Exclusive) (seen_in old.kept.rows (active old s) key) (written (writes_in (active old s)) key) delta) stands none
