-- What a begin and the two ends of a transaction leave of a world that represents a history.
use Rattle.std.proofs.Common.{◌≡◌, ℕ, ◌+◌, List, [], ◌∷◌, ◌++◌, length, append-nil, subst, Option, Some, None, is_some, is_none, refl, sym, ap, ◌∙◌, cond, true, false, Bool, not, eqb, nat_lt, ◌||◌, map}
use Rattle.std.specs.Prelude.{MatchOption, IfSome, ◌⊎◌, option_map}
use Rattle.std.proofs.lemmas.List.{length-set}
use Rattle.pc_types.specs.declared.Event.TheVariants as asked
use Rattle.pc_types.specs.declared.Reply.{Reply}
use Rattle.pc_types.specs.declared.Reply.TheVariants as told
use Rattle.pc_types.specs.declared.Refusal.{Refusal}
use Rattle.pc_types.specs.declared.Refusal.TheVariants as why
use Rattle.pc_types.specs.declared.Step.{Step}
use Rattle.pc_types.specs.declared.Entry.{Entry}
use Rattle.pc_types.specs.declared.Entry.TheVariants.{Commit}
use Rattle.pc_model.specs.Log.{after}
use Rattle.pc_model.specs.Files.{shelf}
use Rattle.pc_model.specs.History.{History, class_in, effect_of, contents, log_of, begun, is_open, transaction_number_of, writes_of}
use Rattle.pc_model.specs.History.Effect.{Begins, Commits, Aborts, Nothing}
use Rattle.pc_model.specs.Standing.{HasLegalEffects}
use Rattle.pc_model.specs.Replies.{Setting, IsLegal, first_refusal, or_else, no_session, open_set}
use Rattle.pc_model.proofs.LogLaws.{after-append}
use Rattle.pc_model.proofs.StandingLaws.{closed_stays}
use Rattle.pc_types.specs.declared.Write.{Write}
use Rattle.pc_model.specs.Maps as map_of
use Rattle.pc_model.specs.Database.{Database, applied_all, written, seen}
use Rattle.pc_model.specs.DistinctWrites.{AreDistinct}
use Rattle.pc_records.specs.Rows.{Row, record_of, stored}
use Rattle.pc_records.specs.RowSteps.{released_rows, written_row}
use Rattle.pc_records.specs.NewKeys.{new_keys}
use Rattle.pc_records.proofs.FollowingLaws.{same_records}
use Rattle.pc_records.proofs.DistinctLaws.{distinct_writes}
use Rattle.pc_records.proofs.NewKeyLaws.{with_keys_new}
use Rattle.pc_records.proofs.ReleaseLaws.{now_or, released_records, let_go_records}
use Rattle.pc_transactions.proofs.PlacedWrites.{is_left}
use Rattle.pc_types.specs.declared.Change.{Change}
use Rattle.pc_types.specs.Changes.{changed_content}
use Rattle.pc_model.proofs.DistinctWriteLaws.{seen_of}
use Rattle.pc_records.proofs.WaitingLaws.{held_writes}
use Rattle.pc_transactions.specs.Sessions.{number_in, writes_in, left_by, with_session}
use Rattle.pc_engine.specs.Store.{Store, setting_of, active}
use Rattle.pc_transactions.specs.Actives.{Active, active_in as session_at}
use Rattle.pc_engine.specs.Steps.{open_causes, begin_causes, abort_causes, Begins as BeginsIn, Commits as CommitsIn, Aborts as AbortsIn}
use Rattle.pc_engine.specs.Stands.{Stands, Follows, active_now}
use Rattle.pc_engine.proofs.ActiveSessions.{is_past, active_by, same_number, one_session}
use Rattle.pc_engine.proofs.LocalSteps.{same_setting, IsLocal, local_left, log_stays, keys_stay, closed_set_stays, state_stays_at}
use Rattle.pc_engine.proofs.Owing.{states_stay, with_step, IsLeft, IsOpenIn, open_in, open_then, owes_follows, goes_on, unmoved, legal_then, refused_idle, same_cycle, not_first, by_session, in_transaction, locked_now}

-- the history determines whether a session has a transaction
some_of : (b : Bool) (a : Active) → is_some (cond b (Some a) None) ≡ b
some_of true a = refl
some_of false a = refl

none_of : (b : Bool) (a : Active) → is_none (cond b (Some a) None) ≡ not b
none_of true a = refl
none_of false a = refl

-- one session has changed, so what is said of the others stays
sessions_with : (w : Store) (s : ℕ) (x : Option Active) (fact : (t : ℕ) → Option Active) → ((t : ℕ) → is_past w.sessions t ≡ false → session_at (with_session w.sessions s x) t ≡ fact t) →
    (t : ℕ) → is_past (with_session w.sessions s x) t ≡ false → session_at (with_session w.sessions s x) t ≡ fact t
sessions_with w s x fact are t there = are t (sym (ap (λ n. eqb t 0 || nat_lt n t) (length-set w.sessions _ _)) ∙ there)

-- the reply to an abort, by what is due before it
abbrev ToldOfAbort : Reply → Option Reply → Type 0
ToldOfAbort reply o = MatchOption (or_else o (Some told.Aborted)) (⊥ ⊎ (reply ≡ told.Refused why.OutOfMemory)) (λ due. reply ≡ due)

told_of_abort : (o : Option Reply) (reply : Reply) → MatchOption o (reply ≡ told.Aborted) (λ due. reply ≡ due) → ToldOfAbort reply o
told_of_abort None reply fact = fact
told_of_abort (Some due) reply fact = fact

-- what distinct writes leave of a key, if the rows have what the database has of it
left_of_writes : (rows : List Row) (db : Database) (ws : List Write) (q : List ℕ) → AreDistinct ws → stored (record_of rows q) ≡ map_of.get db q → map_of.get (applied_all db ws) q ≡ now_or (left_by ws rows q) (map_of.get db q)
left_of_writes rows db ws q distinct is = seen_of db ws q distinct ∙ by_change (written ws q) ∙ ap (λ c. now_or (option_map (λ change. changed_content change c) (written ws q)) (map_of.get db q)) (sym is)
  where
    by_change : (o : Option Change) → seen o (map_of.get db q) ≡ now_or (option_map (λ change. changed_content change (map_of.get db q)) o) (map_of.get db q)
    by_change None = refl
    by_change (Some change) = refl

module _ (old new : Store) (h : History) (s : ℕ) (reply : Reply) (stands : Stands old h) where
  abbrev st : Setting
  st = setting_of old

  pub begins_follows : BeginsIn old s reply new → Follows (setting_of old) h (asked.Begin s) reply new
  begins_follows step =
      let full : List (Bool × Refusal) = (eqb old.begun 1099511627776, why.LogFull) ∷ [] in
      let mine : List (Bool × Refusal) = (is_some (active old s), why.AlreadyBegun) ∷ full in
      let theirs : List (Bool × Refusal) = (is_open s h, why.AlreadyBegun) ∷ (eqb (begun h) 1099511627776, why.LogFull) ∷ [] in
      owes_follows old new h (asked.Begin s) reply _ (first_refusal (begin_causes old s)) stands tt
      (by_session st s mine theirs
      (λ there.
      ap (λ b. first_refusal ((b, why.AlreadyBegun) ∷ full)) (ap is_some (stands.parts.sessions s there) ∙ some_of (is_open s h) (active_now s h)) ∙ ap (λ n. first_refusal ((is_open s h, why.AlreadyBegun) ∷ (eqb n 1099511627776, why.LogFull) ∷ [])) stands.parts.begun))
      (refused_idle (asked.Begin s) (begin_causes old s)) step
      (λ none d. d.0 ∙ ap (λ n. told.Begun (n + 1)) stands.parts.begun)
      (λ none d legal.
      let now = rw d.0 at legal in
      rw (d.0, d.1) (begun_off (not_first (no_session st s) why.NoSession mine none).0 now))
    where
      begun_off : no_session st s ≡ false → HasLegalEffects st (with_step h (asked.Begin s) (told.Begun (old.begun + 1))) →
          IsLeft old (record old { begun = old.begun + 1; sessions = with_session old.sessions s (Some (record { number = old.begun + 1; class = class_in old.cycle.phase; has_died = false; writes = [] })) }) h (asked.Begin s) (told.Begun (old.begun + 1))
      begun_off there legal =
          let step : Step = record { event = asked.Begin s; reply = told.Begun (old.begun + 1) } in
          let first : Option Active = Some (record { number = old.begun + 1; class = class_in old.cycle.phase; has_died = false; writes = [] }) in
          let is : first ≡ active_by s (Begins s) h =
          ap (λ n. let a : Active = record { number = n + 1; class = class_in old.cycle.phase; has_died = false; writes = [] } in Some a) stands.parts.begun
          ∙ ap (λ p. let a : Active = record { number = begun h + 1; class = class_in p; has_died = false; writes = [] } in Some a) stands.parts.cycle.phase ∙ rw (same_number s) refl in (
            same_setting old _ (length-set old.sessions _ _),
            record {
              records = same_records old.base.pairs old.kept.rows h (step ∷ h) (ap (after old.base.pairs) (append-nil (log_of h))) (λ q. refl) refl (closed_stays st h step legal refl) (states_stay st h step legal) stands.parts.records;
              log = rw append-nil stands.parts.log;
              begun = ap (λ n. n + 1) stands.parts.begun;
              sessions = sessions_with old s first (λ t. active_by t (Begins s) h) (one_session old.sessions s first (Begins s) h there is (λ t other. rw other refl) stands.parts.sessions);
              start = stands.parts.start;
              cycle = same_cycle st old.cycle old.shelf h step legal refl refl refl refl refl (append-nil (shelf old.base.run h)) stands.parts.cycle;
            },
            tt,
          )

  pub commits_follows : CommitsIn old s reply new → Follows (setting_of old) h (asked.Commit s) reply new
  commits_follows step =
      let mine : List (Bool × Refusal) = (eqb (length old.log) 16777216, why.LogFull) ∷ [] in
      owes_follows old new h (asked.Commit s) reply _ (first_refusal (open_causes old s mine)) stands tt
      (in_transaction old h s mine ((eqb (length (log_of h)) 16777216, why.LogFull) ∷ []) stands (λ there opened. ap (λ (l : List Entry). first_refusal ((eqb (length l) 16777216, why.LogFull) ∷ [])) stands.parts.log))
      (refused_idle (asked.Commit s) (open_causes old s mine)) step
      (λ none d. d.0 ∙ ap (λ (log : List Entry). told.Committed (length log + 1)) stands.parts.log)
      (λ none d legal.
      let now = rw d.0 at legal in
      let at = open_then old h s mine stands none in
      let left : Option Active → Store = λ a. record old {
        kept = record old.kept { rows = released_rows (number_in a) (map (written_row (left_by (writes_in a) old.kept.rows)) old.kept.rows) };
        log = old.log ++ Commit s (writes_in a) ∷ [];
        sessions = with_session old.sessions s None;
        cycle = record old.cycle { open_set = old.cycle.open_set ++ new_keys old.kept.rows (writes_in a) };
      } in
      rw (d.0, d.1) (subst (λ a. IsLeft old (left a) h (asked.Commit s) (told.Committed (length old.log + 1))) (sym at.same) (committed_off at now)))
    where
      committed_off : IsOpenIn old h s → HasLegalEffects st (with_step h (asked.Commit s) (told.Committed (length old.log + 1))) →
          IsLeft old (record old {
            kept = record old.kept { rows = released_rows (transaction_number_of s h) (map (written_row (left_by (writes_of s h) old.kept.rows)) old.kept.rows) };
            log = old.log ++ Commit s (writes_of s h) ∷ [];
            sessions = with_session old.sessions s None;
            cycle = record old.cycle { open_set = old.cycle.open_set ++ new_keys old.kept.rows (writes_of s h) };
          }) h (asked.Commit s) (told.Committed (length old.log + 1))
      committed_off at legal =
          let step : Step = record { event = asked.Commit s; reply = told.Committed (length old.log + 1) } in
          let locks = locked_now old h stands in
          let closed = closed_stays st h step legal refl in (
            same_setting old _ (length-set old.sessions _ _),
            record {
              records = released_records old.base.pairs old.kept.rows h (step ∷ h) (writes_of s h) (left_by (writes_of s h) old.kept.rows) (transaction_number_of s h) (is_left (writes_of s h) old.kept.rows) locks.settled (held_writes h s locks at.opened)
                  (λ q. ap (λ (db : Database). map_of.get db q) (after-append old.base.pairs (log_of h) (Commit s (writes_of s h) ∷ [])) ∙ left_of_writes old.kept.rows (contents old.base.pairs h) (writes_of s h) q (distinct_writes s h) (stands.parts.records.stored q)) (λ q. refl) refl closed (states_stay st h step legal) stands.parts.records;
              log = ap (λ (log : List Entry). log ++ Commit s (writes_of s h) ∷ []) stands.parts.log;
              begun = stands.parts.begun;
              sessions = sessions_with old s None (λ t. active_by t (Commits s) h) (one_session old.sessions s None (Commits s) h at.there (rw (same_number s) refl) (λ t other. rw other refl) stands.parts.sessions);
              start = stands.parts.start;
              cycle = record {
                phase = stands.parts.cycle.phase;
                point = stands.parts.cycle.point;
                open_set = ap (λ (ks : List (List ℕ)). ks ++ new_keys old.kept.rows (writes_of s h)) stands.parts.cycle.open_set ∙ sym (with_keys_new (open_set h) old.kept.rows (writes_of s h) (distinct_writes s h) (λ q there. stands.parts.records.open_set q));
                closed_set = stands.parts.cycle.closed_set ∙ sym closed;
                taken = stands.parts.cycle.taken;
                shelved = stands.parts.cycle.shelved ∙ sym (append-nil (shelf old.base.run h));
              };
            },
            tt,
          )

  pub aborts_follows : AbortsIn old s reply new → Follows (setting_of old) h (asked.Abort s) reply new
  aborts_follows step = by_due (first_refusal (abort_causes old s)) refl (refused_idle (asked.Abort s) (abort_causes old s)) step
    where
      causes_are : first_refusal (abort_causes old s) ≡ first_refusal ((no_session st s, why.NoSession) ∷ (not (is_open s h), why.NoTransaction) ∷ [])
      causes_are = by_session st s ((is_none (active old s), why.NoTransaction) ∷ []) ((not (is_open s h), why.NoTransaction) ∷ [])
          (λ there. ap (λ b. first_refusal ((b, why.NoTransaction) ∷ [])) (ap is_none (stands.parts.sessions s there) ∙ none_of (is_open s h) (active_now s h)))

      legal_by : (o : Option Reply) → first_refusal (abort_causes old s) ≡ o → MatchOption o (reply ≡ told.Aborted) (λ due. reply ≡ due) → IsLegal st h (asked.Abort s) reply
      legal_by o is fact = subst (ToldOfAbort reply) (sym is ∙ causes_are) (told_of_abort o reply fact)

      aborted_off : IsOpenIn old h s → HasLegalEffects st (with_step h (asked.Abort s) told.Aborted) →
          IsLeft old (record old { kept = record old.kept { rows = released_rows (transaction_number_of s h) old.kept.rows }; sessions = with_session old.sessions s None }) h (asked.Abort s) told.Aborted
      aborted_off at legal =
          let stays : IsLocal old.base.run h (Aborts s) = record { no_entry = refl; no_begin = refl; same_phase = refl; same_point = refl; no_key = refl; same_closed = refl; none_taken = refl; none_shelved = refl } in
          local_left old h (asked.Abort s) told.Aborted (Aborts s) refl stays legal (released_rows (transaction_number_of s h) old.kept.rows) (with_session old.sessions s None) (length-set old.sessions _ _)
          (let_go_records old.base.pairs old.kept.rows h (with_step h (asked.Abort s) told.Aborted) (transaction_number_of s h) (locked_now old h stands).settled (ap (after old.base.pairs) (log_stays old h (asked.Abort s) told.Aborted (Aborts s) refl stays legal)) (λ q. refl)
          (keys_stay old h (asked.Abort s) told.Aborted (Aborts s) refl stays legal) (closed_set_stays old h (asked.Abort s) told.Aborted (Aborts s) refl stays legal) (state_stays_at old h (asked.Abort s) told.Aborted (Aborts s) refl stays legal) stands.parts.records)
          (one_session old.sessions s None (Aborts s) h at.there (rw (same_number s) refl) (λ t other. rw other refl) stands.parts.sessions) tt stands.parts

      by_due : (o : Option Reply) → first_refusal (abort_causes old s) ≡ o → IfSome o (λ d. effect_of (asked.Abort s) d ≡ Nothing) →
          MatchOption o ((reply ≡ told.Aborted) × (new ≡ record old { kept = record old.kept { rows = released_rows (number_in (active old s)) old.kept.rows }; sessions = with_session old.sessions s None })) (λ due. (reply ≡ due) × (new ≡ old)) →
          Follows st h (asked.Abort s) reply new
      by_due (Some due) is idle step = unmoved old new h (asked.Abort s) reply stands tt (ap (effect_of (asked.Abort s)) step.0 ∙ idle) step.1 (legal_by (Some due) is step.0)
      by_due None is idle step =
          let legal : IsLegal st h (asked.Abort s) reply = legal_by None is step.0 in
          let first = not_first (no_session st s) why.NoSession ((is_none (active old s), why.NoTransaction) ∷ []) is in
          let at = open_in old h s stands first.0 (not_first (is_none (active old s)) why.NoTransaction [] first.1).0 in
          let effects : HasLegalEffects st (with_step h (asked.Abort s) reply) = legal_then old h (asked.Abort s) reply stands legal in
          let now = rw step.0 at effects in
          let left : Option Active → Store = λ a. record old { kept = record old.kept { rows = released_rows (number_in a) old.kept.rows }; sessions = with_session old.sessions s None } in
          goes_on old new h (asked.Abort s) reply stands tt legal (rw (step.0, step.1) (subst (λ a. IsLeft old (left a) h (asked.Abort s) told.Aborted) (sym at.same) (aborted_off at now)))
