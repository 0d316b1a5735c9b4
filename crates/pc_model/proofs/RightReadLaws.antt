-- In a legal history each committed transaction has read correctly: while it is open, no other commit changes what it
-- has read, since it holds a lock there.
use Rattle.pc_types.specs.Changes.{added}
use Rattle.std.proofs.Common.{◌≡◌, ℕ, List, [], ◌∷◌, ◌++◌, append-nil, eqb, not, ◌||◌, Option, Some, None, is_some, is_none, refl, sym, ap, subst, ◌∙◌, cond, Bool, true, false, ◌⊎◌, inl, inr, arith}
use Rattle.std.specs.Prelude.{⊤, MatchOption, IfSome, MatchBool, ℤ}
use Rattle.std.proofs.lemmas.Bool.Decides.{nat_tests}
use Rattle.std.proofs.lemmas.Cmp.{eq_by_cmp_equiv}
use Rattle.pc_types.specs.declared.Entry.{Entry}
use Rattle.pc_types.specs.declared.Entry.TheVariants.{Token}
use Rattle.pc_types.specs.declared.Event.{Event}
use Rattle.pc_types.specs.declared.Event.TheVariants as asked
use Rattle.pc_types.specs.declared.Reply.{Reply}
use Rattle.pc_types.specs.declared.Reply.TheVariants as told
use Rattle.pc_types.specs.declared.Refusal.{Refusal}
use Rattle.pc_types.specs.declared.Refusal.TheVariants as why
use Rattle.pc_types.specs.declared.Step.{Step}
use Rattle.pc_types.specs.declared.Mode.TheVariants.{Shared, Exclusive}
use Rattle.pc_model.specs.Maps.{get}
use Rattle.pc_model.specs.Database.{Database, key_order, same_bytes, written, seen}
use Rattle.pc_model.specs.Log.{after}
use Rattle.pc_model.specs.History.{History, Effect, effect, contents, log_of, begun, is_open, transaction_number_of, writes_of, has_died, effect_of, effect_of_get, effect_of_write, entries_by, open_by, effect_of_add}
use Rattle.pc_model.specs.History.Effect.{Begins, Reads, Writes, Adds, Waits, Dies, Commits, Aborts, Moves, Takes, Shelves, Joins, Nothing}
use Rattle.pc_types.specs.declared.Outcome.{Outcome}
use Rattle.pc_model.specs.Locks.{outcome, queue_of, is_waiting}
use Rattle.pc_types.specs.declared.Outcome.TheVariants.{Granted, Queued, Died}
use Rattle.pc_model.specs.Points.{is_among}
use Rattle.pc_model.specs.Reads.{HasRightReads, HasReadFrom, ReadBy, RightBy}
use Rattle.pc_model.specs.Standing.{HasLegalEffects}
use Rattle.pc_model.specs.Replies.{Setting, first_refusal, or_else, transaction_causes, write_causes, too_many, is_full, log_is_full, no_session, read_reply, by_outcome, Answers, IsLegal, IsLegalHistory, add_causes, seen_by, sum_or_zero}
use Rattle.pc_model.proofs.EffectLaws.{refused_does_nothing, first_refusal_refuses, no_first, no_other}
use Rattle.pc_model.proofs.EffectCases.{move_case, take_case, done_case, join_case}
use Rattle.pc_model.proofs.CertainReplies.{answer_or_refusal}
use Rattle.pc_model.proofs.LegalEffectLaws.{turned, legal_has_legal_effects}
use Rattle.pc_model.proofs.AddLaws.{add_stands}
use Rattle.pc_model.proofs.LogLaws.{after-append}
use Rattle.pc_model.proofs.WrittenKeyLaws.{unwritten_stays}
use Rattle.pc_model.proofs.Holding.{alone}
use Rattle.pc_model.proofs.SessionLocks.{MayAsk, IsAllowed, allowed_locked, locked_first}
use Rattle.pc_model.specs.SessionLocks.{read_by, keys_read, Locked}

itself : (key : List ℕ) → same_bytes key key ≡ true
itself key = (eq_by_cmp_equiv key_order.total).refl key

-- what a legal effect says: what locking allows, that a read gave the content, and an add the sum with it
abbrev IsAnswer : Database → History → Effect → Type 0
IsAnswer base history (Reads s key answer) = answer ≡ seen (written (writes_of s history) key) (get (contents base history) key)
IsAnswer base history (Adds s key delta sum) = added delta (seen (written (writes_of s history) key) (get (contents base history) key)) ≡ Some sum
IsAnswer base history other = ⊤

abbrev IsSound : Database → History → Effect → Type 0
IsSound base history e = IsAllowed history e × IsAnswer base history e

-- a refusal is sound
refused_sound : (base : Database) (history : History) (event : Event) (reply : Reply) → ((r : Refusal) × (reply ≡ told.Refused r)) → IsSound base history (effect_of event reply)
refused_sound base history event reply refused = let P : Effect → Type 0 = IsSound base history in subst P (sym (ap (effect_of event) refused.1 ∙ refused_does_nothing event refused.0)) (tt, tt)

module _ (st : Setting) (history : History) where
  -- if no cause of a transaction's refusals applies, it may ask
  may_ask : (s : ℕ) (causes : List (Bool × Refusal)) → first_refusal (transaction_causes st s history ++ causes) ≡ None → MayAsk s history
  may_ask s causes none =
      let died = (has_died s history, why.MustAbort) ∷ causes in
      let waits = (is_waiting s history, why.StillWaiting) ∷ died in
      let closed = (not (is_open s history), why.NoTransaction) ∷ waits in
      let first = no_other (no_session st s, why.NoSession) closed none in
      let second = no_other (not (is_open s history), why.NoTransaction) waits first in
      (turned (is_open s history) (no_first (not (is_open s history), why.NoTransaction) waits first), no_first (is_waiting s history, why.StillWaiting) died second)

  read_sound : (s : ℕ) (key : List ℕ) (o : Outcome) (answer : Option (List ℕ)) → MayAsk s history → outcome (queue_of key history) (transaction_number_of s history) Shared ≡ o →
      answer ≡ seen (written (writes_of s history) key) (get (contents st.base history) key) → IsSound st.base history (effect_of_get s key (by_outcome o (read_reply answer)))
  read_sound s key Granted None may is answer = ((may, is), answer)
  read_sound s key Granted (Some v) may is answer = ((may, is), answer)
  read_sound s key Queued answer may is right = ((may, is), tt)
  read_sound s key Died answer may is right = (tt, tt)

  write_sound : (s : ℕ) (key : List ℕ) (content : Option (List ℕ)) (o : Outcome) → MayAsk s history → outcome (queue_of key history) (transaction_number_of s history) Exclusive ≡ o → IsSound st.base history (effect_of_write s key content (by_outcome o told.Ok))
  write_sound s key content Granted may is = ((may, is), tt)
  write_sound s key content Queued may is = ((may, is), tt)
  write_sound s key content Died may is = (tt, tt)

  sum_sound : (s : ℕ) (key : List ℕ) (delta : ℤ) (o : Outcome) (sum : Option ℤ) → (o ≡ Granted → is_none sum ≡ false) → MayAsk s history → outcome (queue_of key history) (transaction_number_of s history) Exclusive ≡ o →
      added delta (seen_by st s key history) ≡ sum → IsSound st.base history (effect_of_add s key delta (by_outcome o (told.Sum (sum_or_zero sum))))
  sum_sound s key delta Granted None some may is right = absurd (let no : true ≡ false = some refl in cc)
  sum_sound s key delta Granted (Some n) some may is right = ((may, is), right)
  sum_sound s key delta Queued sum some may is right = ((may, is), tt)
  sum_sound s key delta Died sum some may is right = (tt, tt)

  begin_sound : (s : ℕ) (reply : Reply) → IsLegal st history (asked.Begin s) reply → IsSound st.base history (effect_of (asked.Begin s) reply)
  begin_sound s reply legal =
      let full : List (Bool × Refusal) = (eqb (begun history) 1099511627776, why.LogFull) ∷ [] in
      let opened : List (Bool × Refusal) = (is_open s history, why.AlreadyBegun) ∷ full in
      elim (answer_or_refusal ((no_session st s, why.NoSession) ∷ opened) (Answers st history (asked.Begin s) reply) reply legal) [
        | inl answered ↦ let P : Reply → Type 0 = (λ r. IsSound st.base history (effect_of (asked.Begin s) r)) in
            subst P (sym answered.1) (no_first (is_open s history, why.AlreadyBegun) full (no_other (no_session st s, why.NoSession) opened answered.0), tt)
        | inr refused ↦ refused_sound st.base history (asked.Begin s) reply refused
      ]

  abort_sound : (s : ℕ) (reply : Reply) → IsLegal st history (asked.Abort s) reply → IsSound st.base history (effect_of (asked.Abort s) reply)
  abort_sound s reply legal = by_cause (first_refusal causes) refl (first_refusal_refuses causes) legal
    where
      causes : List (Bool × Refusal)
      causes = (no_session st s, why.NoSession) ∷ (not (is_open s history), why.NoTransaction) ∷ []

      P : Reply → Type 0
      P r = IsSound st.base history (effect_of (asked.Abort s) r)

      by_cause : (o : Option Reply) → first_refusal causes ≡ o → IfSome o (λ due. (r : Refusal) × (due ≡ told.Refused r)) →
          MatchOption (or_else o (Some told.Aborted)) (⊥ ⊎ (reply ≡ told.Refused why.OutOfMemory)) (λ due. reply ≡ due) → P reply
      by_cause (Some due) is refuses same = refused_sound st.base history (asked.Abort s) reply (refuses.0, same ∙ refuses.1)
      by_cause None is refuses same = subst P (sym same) (opened is, tt)
        where
          opened : first_refusal ((no_session st s, why.NoSession) ∷ (not (is_open s history), why.NoTransaction) ∷ []) ≡ None → is_open s history ≡ true
          opened none = turned (is_open s history) (no_first (not (is_open s history), why.NoTransaction) [] (no_other (no_session st s, why.NoSession) ((not (is_open s history), why.NoTransaction) ∷ []) none))

  -- a write that was legally answered
  written_sound : (s : ℕ) (key : List ℕ) (content : Option (List ℕ)) (event : Event) (reply : Reply) →
      ((r : Reply) → effect_of event r ≡ effect_of_write s key content r) →
      MatchOption (first_refusal (write_causes st s key history)) ((reply ≡ by_outcome (outcome (queue_of key history) (transaction_number_of s history) Exclusive) told.Ok) ⊎ (reply ≡ told.Refused why.OutOfMemory)) (λ due. reply ≡ due) →
      IsSound st.base history (effect_of event reply)
  written_sound s key content event reply same legal =
      elim (answer_or_refusal (write_causes st s key history) (reply ≡ by_outcome (outcome (queue_of key history) (transaction_number_of s history) Exclusive) told.Ok) reply legal) [
        | inl answered ↦ let P : Effect → Type 0 = IsSound st.base history in
            let may = may_ask s ((too_many s key history, why.TooManyWrites) ∷ (is_full st key history, why.Full) ∷ []) answered.0 in
            subst P (sym (ap (effect_of event) answered.1 ∙ same (by_outcome (outcome (queue_of key history) (transaction_number_of s history) Exclusive) told.Ok)))
            (write_sound s key content (outcome (queue_of key history) (transaction_number_of s history) Exclusive) may refl)
        | inr refused ↦ refused_sound st.base history event reply refused
      ]

  legal_sound : (event : Event) (reply : Reply) → IsLegal st history event reply → IsSound st.base history (effect_of event reply)
  legal_sound (asked.Begin s) reply legal = begin_sound s reply legal
  legal_sound (asked.Get s key) reply legal = elim (answer_or_refusal (transaction_causes st s history ++ (is_full st key history, why.Full) ∷ []) (Answers st history (asked.Get s key) reply) reply legal) [
    | inl answered ↦ let P : Reply → Type 0 = (λ r. IsSound st.base history (effect_of (asked.Get s key) r)) in
        subst P (sym answered.1) (read_sound s key (outcome (queue_of key history) (transaction_number_of s history) Shared) (seen (written (writes_of s history) key) (get (contents st.base history) key))
        (may_ask s ((is_full st key history, why.Full) ∷ []) answered.0) refl refl)
    | inr refused ↦ refused_sound st.base history (asked.Get s key) reply refused
  ]
  legal_sound (asked.Put s key value) reply legal = written_sound s key (Some value) (asked.Put s key value) reply (λ r. refl) legal
  legal_sound (asked.Del s key) reply legal = written_sound s key None (asked.Del s key) reply (λ r. refl) legal
  legal_sound (asked.Add s key delta) reply legal = elim (answer_or_refusal (write_causes st s key history ++ add_causes st s key delta history) (Answers st history (asked.Add s key delta) reply) reply legal) [
    | inl answered ↦ let P : Reply → Type 0 = (λ r. IsSound st.base history (effect_of (asked.Add s key delta) r)) in
        subst P (sym answered.1) (sum_sound s key delta (outcome (queue_of key history) (transaction_number_of s history) Exclusive) (added delta (seen_by st s key history))
        (λ granted. (add_stands st history s key delta answered.0 granted).0) (may_ask s ((too_many s key history, why.TooManyWrites) ∷ (is_full st key history, why.Full) ∷ add_causes st s key delta history) answered.0) refl refl)
    | inr refused ↦ refused_sound st.base history (asked.Add s key delta) reply refused
  ]
  legal_sound (asked.Commit s) reply legal = elim (answer_or_refusal (transaction_causes st s history ++ (log_is_full history, why.LogFull) ∷ []) (Answers st history (asked.Commit s) reply) reply legal) [
    | inl answered ↦ let P : Reply → Type 0 = (λ r. IsSound st.base history (effect_of (asked.Commit s) r)) in
        subst P (sym answered.1) ((may_ask s ((log_is_full history, why.LogFull) ∷ []) answered.0).0, tt)
    | inr refused ↦ refused_sound st.base history (asked.Commit s) reply refused
  ]
  legal_sound (asked.Abort s) reply legal = abort_sound s reply legal
  legal_sound asked.StartPoint reply legal = move_case (IsSound st.base history) (tt, tt) reply (λ phase point. (tt, tt))
  legal_sound asked.Seal reply legal = move_case (IsSound st.base history) (tt, tt) reply (λ phase point. (tt, tt))
  legal_sound asked.OpenCapture reply legal = move_case (IsSound st.base history) (tt, tt) reply (λ phase point. (tt, tt))
  legal_sound asked.Take reply legal = take_case (IsSound st.base history) (tt, tt) reply (λ key content. (tt, tt))
  legal_sound asked.Done reply legal = done_case (IsSound st.base history) (tt, tt) reply (λ point. (tt, tt))
  legal_sound asked.Rest reply legal = move_case (IsSound st.base history) (tt, tt) reply (λ phase point. (tt, tt))
  legal_sound (asked.Join a b) reply legal = join_case (IsSound st.base history) (tt, tt) a b reply (tt, tt)

effect_sound : (st : Setting) (history : History) (step : Step) → (IsLegal st history step.event step.reply ⊎ (effect step ≡ Nothing)) → IsSound st.base history (effect step)
effect_sound st history step (inl legal) = legal_sound st history step.event step.reply legal
effect_sound st history step (inr none) = rw none (tt, tt)

-- what locking keeps holds after every history with legal effects
pub locked : (st : Setting) (history : History) → HasLegalEffects st history → Locked history
locked st [] legal = locked_first
locked st (step ∷ history) legal = allowed_locked history (effect step) (effect_sound st history step legal.0).0 (locked st history legal.1)

-- an effect that adds no commit to the log leaves the contents
abbrev AddsNoCommit : List Entry → Type 0
AddsNoCommit entries = (db : Database) → after db entries ≡ db

same_reads : (base : Database) (s : ℕ) (history : History) (entries : List Entry) → AddsNoCommit entries → HasReadFrom (contents base history) s history → HasReadFrom (after base (log_of history ++ entries)) s history
same_reads base s history entries none reads = let P : Database → Type 0 = (λ db. HasReadFrom db s history) in subst P (sym (after-append base (log_of history) entries ∙ none (after base (log_of history)))) reads

or_second : (a b : Bool) → b ≡ true → (a || b) ≡ true
or_second true b e = refl
or_second false b e = e

-- reads stay correct if the keys read have what they had
reads_stay : (old new : Database) (s : ℕ) (history : History) → ((key : List ℕ) → is_among (keys_read s history) key ≡ true → get old key ≡ get new key) → HasReadFrom old s history → HasReadFrom new s history
reads_stay old new s [] same reads = tt
reads_stay old new s (step ∷ history) same reads = by_effect (effect step) same reads (reads_stay old new s history)
  where
    Later : Type 0
    Later = ((key : List ℕ) → is_among (keys_read s history) key ≡ true → get old key ≡ get new key) → HasReadFrom old s history → HasReadFrom new s history

    begun_by_own : (b : Bool) → ((key : List ℕ) → is_among (cond b [] (keys_read s history)) key ≡ true → get old key ≡ get new key) → MatchBool b ⊤ (HasReadFrom old s history) → Later → MatchBool b ⊤ (HasReadFrom new s history)
    begun_by_own true same reads later = tt
    begun_by_own false same reads later = later same reads

    more : (t : ℕ) (k key : List ℕ) (b : Bool) → is_among (keys_read s history) key ≡ true → is_among (cond b (k ∷ keys_read s history) (keys_read s history)) key ≡ true
    more t k key true there = or_second (same_bytes key k) (is_among (keys_read s history) key) there
    more t k key false there = there

    by_effect : (e : Effect) → ((key : List ℕ) → is_among (read_by s e (keys_read s history)) key ≡ true → get old key ≡ get new key) → ReadBy s old e history (HasReadFrom old s history) → Later → ReadBy s new e history (HasReadFrom new s history)
    by_effect (Begins t) same reads later = begun_by_own (eqb t s) same reads later
    by_effect (Reads t k answer) same reads later = (
      λ own. reads.0 own ∙ ap (seen (written (writes_of s history) k)) (same k (first own)),
      later (λ key there. same key (more t k key (eqb t s) there)) reads.1,
    )
      where
        first : t ≡ s → is_among (cond (eqb t s) (k ∷ keys_read s history) (keys_read s history)) k ≡ true
        first own = let is : eqb t s ≡ true = grind (arith, nat_tests, own) in rw is (ap (λ b. b || is_among (keys_read s history) k) (itself k))
    by_effect (Writes t k v) same reads later = later same reads
    by_effect (Adds t k d n) same reads later = (
      λ own. ap (λ there. added d (seen (written (writes_of s history) k) there)) (sym (same k (first own))) ∙ reads.0 own,
      later (λ key there. same key (more t k key (eqb t s) there)) reads.1,
    )
      where
        first : t ≡ s → is_among (cond (eqb t s) (k ∷ keys_read s history) (keys_read s history)) k ≡ true
        first own = let is : eqb t s ≡ true = grind (arith, nat_tests, own) in rw is (ap (λ b. b || is_among (keys_read s history) k) (itself k))
    by_effect (Waits t k x) same reads later = later same reads
    by_effect (Dies t k x) same reads later = later same reads
    by_effect (Commits t) same reads later = later same reads
    by_effect (Aborts t) same reads later = later same reads
    by_effect (Moves phase n) same reads later = later same reads
    by_effect (Takes k c) same reads later = later same reads
    by_effect (Shelves n) same reads later = later same reads
    by_effect (Joins a b) same reads later = later same reads
    by_effect Nothing same reads later = later same reads

-- what another session commits it has written while this one had no lock of it
commit_leaves : (h : History) (s t : ℕ) (key : List ℕ) → Locked h → is_open s h ≡ true → is_open t h ≡ true → eqb t s ≡ false → is_among (keys_read s h) key ≡ true → is_some (written (writes_of t h) key) ≡ false
commit_leaves h s t key l is_s is_t other read = by_test (is_some (written (writes_of t h) key)) refl
  where
    by_test : (b : Bool) → is_some (written (writes_of t h) key) ≡ b → b ≡ false
    by_test false e = refl
    by_test true e = sym (alone (queue_of key h) (transaction_number_of t h) (transaction_number_of s h) (l.settled key) (l.writes t key is_t e) (l.reads s key is_s read)) ∙ l.apart t s is_t is_s other

-- the reads so far are still correct after one more effect
still_right : (base : Database) (s : ℕ) (history : History) (e : Effect) → IsSound base history e → Locked history → (is_open s history ≡ true → HasReadFrom (contents base history) s history) → open_by s e (is_open s history) ≡ true →
    ReadBy s (after base (log_of history ++ entries_by e history)) e history (HasReadFrom (after base (log_of history ++ entries_by e history)) s history)
still_right base s history (Begins t) sound l before is = elim (eqb t s) as (λ b. cond b true (is_open s history) ≡ true → MatchBool b ⊤ (HasReadFrom (after base (log_of history ++ [])) s history)) [ true ↦ λ e. tt | false ↦ λ e. rw append-nil (before e) ] is
still_right base s history (Reads t key answer) sound l before is = (λ own. rw append-nil (rw own at sound.1), rw append-nil (before is))
still_right base s history (Adds t key delta sum) sound l before is = (λ own. rw append-nil (rw own at sound.1), rw append-nil (before is))
still_right base s history (Commits t) sound l before is = by_own (eqb t s) refl is
  where
    entries : List Entry
    entries = entries_by (Commits t) history

    by_own : (b : Bool) → eqb t s ≡ b → cond b false (is_open s history) ≡ true → HasReadFrom (after base (log_of history ++ entries_by (Commits t) history)) s history
    by_own true e is = cc
    by_own false e is = reads_stay (contents base history) (after base (log_of history ++ entries_by (Commits t) history)) s history
        (λ key read. sym (ap (λ db. get db key) (after-append base (log_of history) (entries_by (Commits t) history)) ∙ unwritten_stays (contents base history) (writes_of t history) key (commit_leaves history s t key l is sound.0 e read)))
        (before is)
still_right base s history (Aborts t) sound l before is = rw append-nil (before (was_open (eqb t s) is))
  where
    was_open : (b : Bool) → cond b false (is_open s history) ≡ true → is_open s history ≡ true
    was_open true e = cc
    was_open false e = e
still_right base s history (Moves phase point) sound l before is = same_reads base s history (Token phase point ∷ []) (λ db. refl) (before is)
still_right base s history (Shelves point) sound l before is = same_reads base s history (entries_by (Shelves point) history) (λ db. refl) (before is)
still_right base s history other sound l before is = rw append-nil (before is)

module _ (st : Setting) where
  has_read : (s : ℕ) (history : History) → HasLegalEffects st history → is_open s history ≡ true → HasReadFrom (contents st.base history) s history
  has_read s [] legal is = tt
  has_read s (step ∷ history) legal is = still_right st.base s history (effect step) (effect_sound st history step legal.0) (locked st history legal.1) (has_read s history legal.1) is

  right_by : (history : History) (e : Effect) → IsSound st.base history e → HasLegalEffects st history → RightBy st.base e history
  right_by history (Commits s) sound legal = has_read s history legal sound.0
  right_by history other sound legal = tt

-- in a history with legal effects the reads of each committed transaction are correct
pub effects_read_right : (st : Setting) (history : History) → HasLegalEffects st history → HasRightReads st.base history
effects_read_right st [] legal = tt
effects_read_right st (step ∷ history) legal = (right_by st history (effect step) (effect_sound st history step legal.0) legal.1, effects_read_right st history legal.1)

-- and so they are in a legal one
pub reads_right : (st : Setting) (history : History) → IsLegalHistory st history → HasRightReads st.base history
reads_right st history legal = effects_read_right st history (legal_has_legal_effects st history legal)
