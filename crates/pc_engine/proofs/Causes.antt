-- The reply that is owed if a cause applies.
use Rattle.pc_transactions.specs.Adds.{sum_causes, AddProceeds, IsRefusedFor}
use Rattle.std.specs.Option.{option_and_then}
use Rattle.pc_types.specs.Changes.{content_number, sum_of, added, can_add, change_to}
use Rattle.pc_types.specs.declared.Outcome.TheVariants.{Granted, Queued, Died}
use Rattle.pc_types.specs.declared.Change.TheVariants.{Add}
use Rattle.pc_types.specs.declared.Change.{Change}
use Rattle.std.proofs.Common.{◌≡◌, ℕ, List, [], ◌∷◌, Bool, true, false, Option, Some, None, refl, sym, ap, ◌∙◌, inl, inr, ◌++◌, is_some, is_none, not, ◌&&◌, ◌||◌}
use Rattle.std.specs.Prelude.{MatchOption, if◌then◌else◌, ℤ, Result, Ok, Err, IfOk, IfErr, OnErr}
use Rattle.pc_types.specs.declared.Reply.{Reply}
use Rattle.pc_types.specs.declared.Reply.TheVariants as told
use Rattle.pc_types.specs.declared.Refusal.{Refusal}
use Rattle.pc_types.specs.declared.Refusal.TheVariants as why
use Rattle.pc_engine.specs.Store.{Store, active}
use Rattle.pc_types.specs.declared.Mode.TheVariants.{Exclusive}
use Rattle.pc_types.specs.declared.Outcome.{Outcome}
use Rattle.pc_model.specs.Database.{write_of, written}
use Rattle.pc_model.specs.Replies.{first_refusal, by_outcome, is_granted, sum_or_zero}
use Rattle.pc_answers.specs.Replies.{write_reply}
use Rattle.pc_transactions.specs.Ongoing.{Ongoing, own_transaction, after_answer}
use Rattle.pc_transactions.specs.Sessions.{with_session, after_writing, if_granted, writes_in, seen_in}
use Rattle.pc_engine.specs.Steps.{OpenCause, WriteCause, Gets, WritesKey, Commits, is_log_full, Owes, outcome_in, after_asking, write_refusal_causes, adding_causes, AddsTo}
use Rattle.pc_records.specs.RowSteps.{is_full_for, why_refused}

-- the refusal of an open transaction's event is due, whatever else the event asks
pub get_refused : (w : Store) (s : ℕ) (key : List ℕ) (r : Refusal) → OpenCause w s (Some r) → Gets w s key (told.Refused r) w
get_refused w s key r due = rw (due ((is_full_for w.kept key, why.Full) ∷ [])) (refl, refl)

pub commit_refused : (w : Store) (s : ℕ) (r : Refusal) → OpenCause w s (Some r) → Commits w s (told.Refused r) w
commit_refused w s r due = rw (due ((is_log_full w, why.LogFull) ∷ [])) (refl, refl)

-- what was refused was due, or an allocation failed
pub owed_refusal : (o : Option Reply) (e : Refusal) (old new : Store) (Done : Type 0) → MatchOption o (e ≡ why.OutOfMemory) (λ due. due ≡ told.Refused e) → new ≡ old → Owes o old (told.Refused e) new Done
owed_refusal None e old new Done is same = inr (ap told.Refused is, same)
owed_refusal (Some due) e old new Done is same = (sym is, same)

-- of one cause that is left: it applies, or an allocation failed
full_or_memory : (full : Bool) (old : Store) (Done : Type 0) → Owes (first_refusal ((full, why.Full) ∷ [])) old (told.Refused (if full then why.Full else why.OutOfMemory)) old Done
full_or_memory true old Done = (refl, refl)
full_or_memory false old Done = inr (refl, refl)

-- what goes on once the request of a write is answered
abbrev asked_so : Ongoing → ℕ → List ℕ → Option (List ℕ) → Outcome → Ongoing
asked_so was s key content o = after_answer was s key Exclusive o (if_granted o (with_session was.sessions s (after_writing (own_transaction was s) (write_of key (change_to content)))) was.sessions)

-- a write that is answered
pub write_answered : (old new : Store) (s : ℕ) (key : List ℕ) (content : Option (List ℕ)) (reply : Reply) (o : Outcome) → WriteCause old s key None → is_full_for old.kept key ≡ false → o ≡ outcome_in old s key Exclusive → reply ≡ by_outcome o told.Ok
    → new ≡ after_asking old s key Exclusive o (if_granted o (with_session old.sessions s (after_writing (active old s) (write_of key (change_to content)))) old.sessions) → WritesKey old s key content reply new
write_answered old new s key content reply o may room asked is leaves =
    rw (may.0.known, may.0.opened, may.0.ready, may.0.alive, may.1, room) (inl (
      is ∙ ap (λ p. by_outcome p told.Ok) asked,
      leaves ∙ ap (λ p. after_asking old s key Exclusive p (if_granted p (with_session old.sessions s (after_writing (active old s) (write_of key (change_to content)))) old.sessions)) asked,
    ))

-- a write that isn't answered, if nothing else prevents it
pub write_unanswered : (w : Store) (s : ℕ) (key : List ℕ) (content : Option (List ℕ)) → WriteCause w s key None → WritesKey w s key content (told.Refused (why_refused w.kept key)) w
write_unanswered w s key content may = rw (may.0.known, may.0.opened, may.0.ready, may.0.alive, may.1) (full_or_memory (is_full_for w.kept key) w _)

-- a write whose request was answered so, or refused, if nothing prevented it before; the world holds what goes on
pub write_requested : (W : Ongoing → Store) (was new : Ongoing) (s : ℕ) (key : List ℕ) (content : Option (List ℕ)) (r : Result Outcome Refusal) → WriteCause (W was) s key None →
    ((o : Outcome) → W (asked_so was s key content o) ≡ after_asking (W was) s key Exclusive o (if_granted o (with_session (W was).sessions s (after_writing (active (W was) s) (write_of key (change_to content)))) (W was).sessions)) →
    IfOk r (λ o. o ≡ outcome_in (W was) s key Exclusive) → IfOk r (λ o. new ≡ asked_so was s key content o) → IfOk r (λ o. is_full_for (W was).kept key ≡ false) →
    IfErr r (λ e. e ≡ why_refused (W was).kept key) → OnErr r (new ≡ was) → WritesKey (W was) s key content (write_reply r) (W new)
write_requested W was new s key content (Ok o) may same asked leaves room refusal stays = write_answered (W was) (W new) s key content (by_outcome o told.Ok) o may room asked refl (ap W leaves ∙ same o)
write_requested W was new s key content (Err e) may same asked leaves room refusal stays = rw (refusal, stays) (write_unanswered (W was) s key content may)

-- if the first of a list of causes applies, so it does before others
stands_before : (causes more : List (Bool × Refusal)) (r : Reply) → first_refusal causes ≡ Some r → first_refusal (causes ++ more) ≡ Some r
stands_before [] more r e = absurd (let no : false ≡ true = ap is_some e in cc)
stands_before (c ∷ causes) more r e = by_test c.0 refl e (stands_before causes more r)
  where
    by_test : (b : Bool) → c.0 ≡ b → (if b then Some (told.Refused c.1) else first_refusal causes) ≡ Some r → (first_refusal causes ≡ Some r → first_refusal (causes ++ more) ≡ Some r) → (if c.0 then Some (told.Refused c.1) else first_refusal (causes ++ more)) ≡ Some r
    by_test true is e later = rw is e
    by_test false is e later = rw is (later e)

-- an add that goes on: nothing prevents it, and it has this sum if its request is granted
record Goes (full : Bool) (o : Outcome) (there : Option (List ℕ)) (own : Option Change) (delta : ℤ) (sum : Option ℤ) : Type 0 where
  room : full ≡ false
  none : first_refusal (sum_causes o there own delta) ≡ None
  told_so : by_outcome o (told.Sum (sum_or_zero sum)) ≡ by_outcome o (told.Sum (sum_or_zero (added delta there)))

goes : (full : Bool) (o : Outcome) (there : Option (List ℕ)) (own : Option Change) (delta : ℤ) (sum : Option ℤ) → AddProceeds full o there own delta sum → Goes full o there own delta sum
goes full o there own delta None g = record {
  room = g.0;
  none = ap (λ b. first_refusal ((b && is_none (content_number there), why.NotNumber) ∷ (b && (is_none (added delta there) || not (can_add own delta)), why.OutOfRange) ∷ [])) g.1;
  told_so = by_outcome_of o g.1;
}
  where
    by_outcome_of : (o : Outcome) → is_granted o ≡ false → by_outcome o (told.Sum (sum_or_zero None)) ≡ by_outcome o (told.Sum (sum_or_zero (added delta there)))
    by_outcome_of Granted e = absurd (let no : true ≡ false = e in cc)
    by_outcome_of Queued e = refl
    by_outcome_of Died e = refl
goes full o there own delta (Some sum) g = record {
  room = g.0;
  none =
      ap (λ o. first_refusal (sum_causes o there own delta)) g.1
      ∙ ap (λ b. first_refusal ((b, why.NotNumber) ∷ (is_none (added delta there) || not (can_add own delta), why.OutOfRange) ∷ [])) (has_number (content_number there) g.2)
      ∙ ap (λ (x : Option ℤ). first_refusal ((is_none x || not (can_add own delta), why.OutOfRange) ∷ [])) g.2
      ∙ ap (λ b. first_refusal ((not b, why.OutOfRange) ∷ [])) g.3;
  told_so = ap (λ x. by_outcome o (told.Sum (sum_or_zero x))) (sym g.2);
}
  where
    has_number : (n : Option ℤ) → option_and_then (λ x. sum_of x delta) n ≡ Some sum → is_none n ≡ false
    has_number None e = absurd (let no : false ≡ true = ap is_some e in cc)
    has_number (Some n) e = refl

-- a cause that refuses a write refuses an add too
pub add_stopped : (w : Store) (s : ℕ) (key : List ℕ) (delta : ℤ) (r : Refusal) → WriteCause w s key (Some r) → AddsTo w s key delta (told.Refused r) w
add_stopped w s key delta r due = rw (stands_before (write_refusal_causes w s key) (sum_causes (outcome_in w s key Exclusive) (seen_in w.kept.rows (active w s) key) (written (writes_in (active w s)) key) delta) (told.Refused r) due) (refl, refl)

module _ (w : Store) (s : ℕ) (key : List ℕ) (delta : ℤ) (may : WriteCause w s key None) where
  abbrev mine : List (Bool × Refusal)
  mine = sum_causes (outcome_in w s key Exclusive) (seen_in w.kept.rows (active w s) key) (written (writes_in (active w s)) key) delta

  left_causes : first_refusal (adding_causes w s key delta) ≡ first_refusal ((is_full_for w.kept key, why.Full) ∷ mine)
  left_causes = rw (may.0.known, may.0.opened, may.0.ready, may.0.alive, may.1) refl

  -- the causes of an add itself
  pub add_refused : (r : Refusal) → IsRefusedFor (is_full_for w.kept key) (outcome_in w s key Exclusive) (seen_in w.kept.rows (active w s) key) (written (writes_in (active w s)) key) delta r → AddsTo w s key delta (told.Refused r) w
  add_refused r due = rw (left_causes ∙ due) (refl, refl)

  module _ (sum : Option ℤ) (on : AddProceeds (is_full_for w.kept key) (outcome_in w s key Exclusive) (seen_in w.kept.rows (active w s) key) (written (writes_in (active w s)) key) delta sum) where
    none_stands : first_refusal (adding_causes w s key delta) ≡ None
    none_stands =
        let g = goes _ _ _ _ _ _ on in
        left_causes ∙ ap (λ b. first_refusal ((b, why.Full) ∷ mine)) g.room ∙ g.none

    -- an allocation failed
    pub add_unanswered : AddsTo w s key delta (told.Refused why.OutOfMemory) w
    add_unanswered = rw none_stands (inr (refl, refl))

    pub add_refusal_is : why_refused w.kept key ≡ why.OutOfMemory
    add_refusal_is = ap (λ b. if b then why.Full else why.OutOfMemory) (goes _ _ _ _ _ _ on).room

    -- an add that is answered
    pub add_answered : (new : Store) (reply : Reply) (o : Outcome) → o ≡ outcome_in w s key Exclusive → reply ≡ by_outcome o (told.Sum (sum_or_zero sum)) →
        new ≡ after_asking w s key Exclusive o (if_granted o (with_session w.sessions s (after_writing (active w s) (write_of key (Add delta)))) w.sessions) → AddsTo w s key delta reply new
    add_answered new reply o asked is leaves =
        rw none_stands (inl (
          is ∙ ap (λ p. by_outcome p (told.Sum (sum_or_zero sum))) asked ∙ (goes _ _ _ _ _ _ on).told_so,
          leaves ∙ ap (λ p. after_asking w s key Exclusive p (if_granted p (with_session w.sessions s (after_writing (active w s) (write_of key (Add delta)))) w.sessions)) asked,
        ))
