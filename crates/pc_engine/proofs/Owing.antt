-- What is owed to an event, and what follows once it is paid.
use Rattle.std.proofs.Common.{◌≡◌, ℕ, List, [], ◌∷◌, ◌++◌, append-nil, subst, Option, Some, None, is_none, refl, sym, ap, ◌∙◌, ◌≤◌, cond, true, false, Bool, not, ◌⊎◌, inl, inr}
use Rattle.std.specs.Prelude.{MatchOption, IfSome}
use Rattle.pc_types.specs.declared.Event.{Event}
use Rattle.pc_types.specs.declared.Reply.{Reply}
use Rattle.pc_types.specs.declared.Reply.TheVariants as told
use Rattle.pc_types.specs.declared.Refusal.{Refusal}
use Rattle.pc_types.specs.declared.Refusal.TheVariants as why
use Rattle.pc_types.specs.declared.Step.{Step}
use Rattle.pc_model.specs.Maps as map_of
use Rattle.pc_model.specs.Log.{after, state_at}
use Rattle.pc_model.specs.Files.{File, shelf, shelved_by}
use Rattle.pc_model.specs.History.{History, effect, effect_of, log_of, is_open, transaction_number_of, has_died, entries_by, begun_by, phase_by, point_by, begun, phase_of, point_of}
use Rattle.pc_model.specs.History.Effect.{Nothing}
use Rattle.pc_model.specs.Points.{is_among, taken, taken_by}
use Rattle.pc_model.specs.Locks.{queue_of, queue_by, is_waiting}
use Rattle.pc_model.specs.Replies.{Setting, IsLegal, IsLegalHistory, certain, Answers, first_refusal, no_session, open_set, written_by, closed_set}
use Rattle.pc_model.specs.Headline.{TakesPointValue, ValueBy, is_taking}
use Rattle.pc_model.specs.Standing.{HasLegalEffects}
use Rattle.pc_model.specs.Limits.{IsInLimits}
use Rattle.pc_model.proofs.EffectLaws.{refused_does_nothing, first_refusal_refuses}
use Rattle.pc_model.proofs.LegalEffectLaws.{legal_has_legal_effects}
use Rattle.pc_model.proofs.PointStateLaws.{state_stays}
use Rattle.pc_model.proofs.RightReadLaws.{locked}
use Rattle.pc_model.specs.SessionLocks.{Locked}
use Rattle.pc_model.proofs.StandingLaws.{closed_stays, each_key_once, none_left}
use Rattle.pc_model.specs.LegalEffects.{changes_closed}
use Rattle.pc_model.proofs.ShelfFileLaws.{headline}
use Rattle.pc_records.specs.RowSteps.{is_waiting_in_rows as waits_in_rows}
use Rattle.pc_records.proofs.FollowingLaws.{same_records}
use Rattle.pc_records.proofs.WaitingLaws.{waiting_now}
use Rattle.pc_transactions.specs.Sessions.{number_in, has_died_in}
use Rattle.pc_engine.specs.Store.{Store, Cycle, setting_of, active}
use Rattle.pc_transactions.specs.Actives.{Active}
use Rattle.pc_engine.specs.Steps.{open_causes, Owes}
use Rattle.pc_engine.specs.Stands.{IsCycle, IsReadOff, Stands, KeepsPoints, Follows, by_key, active_now}
use Rattle.pc_engine.proofs.ActiveSessions.{active_by}
use Rattle.pc_engine.proofs.Serial.{is_serial}

-- the history with one more step
abbrev pub with_step : History → Event → Reply → History
with_step h event reply = record { event = event; reply = reply } ∷ h

-- a step leaves what each key that is left to take has at the point
pub states_stay : (st : Setting) (h : History) (step : Step) → HasLegalEffects st (step ∷ h) → (q : List ℕ) → is_among (closed_set h) q ≡ true →
    map_of.get (state_at st.base (log_of (step ∷ h)) (point_of (step ∷ h))) q ≡ map_of.get (state_at st.base (log_of h) (point_of h)) q
states_stay st h step legal q there = by_taking (is_taking (phase_of h)) refl
  where
    empty_has_none : (ks : List (List ℕ)) → ks ≡ [] → is_among ks q ≡ true → ⊥
    empty_has_none ks none there = cc_of (ap (λ ks. is_among ks q) none) there
      where
        cc_of : {b : Bool} → b ≡ false → b ≡ true → ⊥
        cc_of e f = cc

    by_taking : (b : Bool) → is_taking (phase_of h) ≡ b → map_of.get (state_at st.base (log_of (step ∷ h)) (point_of (step ∷ h))) q ≡ map_of.get (state_at st.base (log_of h) (point_of h)) q
    by_taking true e = ap (λ db. map_of.get db q) (state_stays st h step legal e)
    by_taking false e = absurd (empty_has_none (closed_set h) (none_left st h legal.1 e) there)

-- if the step does nothing to it the cycle stays
pub same_cycle : (st : Setting) (c : Cycle) (files : List File) (h : History) (step : Step) → HasLegalEffects st (step ∷ h) → phase_of (step ∷ h) ≡ phase_of h → point_of (step ∷ h) ≡ point_of h → open_set (step ∷ h) ≡ open_set h →
    changes_closed (effect step) ≡ false → taken (step ∷ h) ≡ taken h → shelf st.run (step ∷ h) ≡ shelf st.run h → IsCycle st.run c files h → IsCycle st.run c files (step ∷ h)
same_cycle st c files h step legal phase point written same takes shelved was = record {
  phase = was.phase ∙ sym phase;
  point = was.point ∙ sym point;
  open_set = was.open_set ∙ sym written;
  closed_set = was.closed_set ∙ sym (closed_stays st h step legal same);
  taken = λ t. was.taken (rw phase at t) ∙ sym (ap by_key takes);
  shelved = was.shelved ∙ sym shelved;
}

-- after what does nothing the world's parts are as before
still : (w : Store) (h : History) (step : Step) → HasLegalEffects (setting_of w) (step ∷ h) → effect step ≡ Nothing → IsReadOff w h → IsReadOff w (step ∷ h)
still w h step legal e parts =
    let same : log_of (step ∷ h) ≡ log_of h = ap (λ d. log_of h ++ entries_by d h) e ∙ append-nil (log_of h) in
    let written : open_set (step ∷ h) ≡ open_set h = ap (λ d. written_by d h (open_set h)) e in
    let closed : changes_closed (effect step) ≡ false = ap changes_closed e in
    record {
      records = same_records w.base.pairs w.kept.rows h (step ∷ h) (ap (after w.base.pairs) same) (λ q. ap (λ d. queue_by q d h (queue_of q h)) e) written (closed_stays (setting_of w) h step legal closed) (states_stay (setting_of w) h step legal) parts.records;
      log = parts.log ∙ sym same;
      begun = parts.begun ∙ sym (ap (λ d. begun_by d (begun h)) e);
      sessions = λ t there. parts.sessions t there ∙ sym (ap (λ d. active_by t d h) e);
      start = parts.start;
      cycle = same_cycle (setting_of w) w.cycle w.shelf h step legal (ap (λ d. phase_by d (phase_of h)) e) (ap (λ d. point_by d (point_of h)) e) written closed (ap (λ d. taken_by d (taken h)) e)
          (ap (λ d. shelf w.base.run h ++ shelved_by w.base.run d h (shelf w.base.run h)) e ∙ append-nil (shelf w.base.run h)) parts.cycle;
    }

-- a world that represents a history keeps what checkpoints promise
pub keeps_points : (w : Store) (h : History) → Stands w h → KeepsPoints w h
keeps_points w h stands =
    let legal : HasLegalEffects (setting_of w) h = legal_has_legal_effects (setting_of w) h stands.legal in
    record { once = each_key_once (setting_of w) h legal; values = stands.values; headline = headline (setting_of w) h legal stands.values }

-- and what locking keeps
pub locked_now : (w : Store) (h : History) → Stands w h → Locked h
locked_now w h stands = locked (setting_of w) h (legal_has_legal_effects (setting_of w) h stands.legal)

-- what an event leaves if it is done
abbrev pub IsLeft : Store → Store → History → Event → Reply → Type 0
IsLeft old new h event reply = (setting_of new ≡ setting_of old) × IsReadOff new (with_step h event reply) × ValueBy old.base.pairs (effect_of event reply) h

-- the history with the step has legal effects
pub legal_then : (w : Store) (h : History) (event : Event) (reply : Reply) → Stands w h → IsLegal (setting_of w) h event reply → HasLegalEffects (setting_of w) (with_step h event reply)
legal_then w h event reply stands legal = legal_has_legal_effects (setting_of w) (with_step h event reply) (legal, stands.legal)

-- a legal reply, given what it leaves
pub goes_on : (old new : Store) (h : History) (event : Event) (reply : Reply) → Stands old h → IsInLimits event → IsLegal (setting_of old) h event reply → IsLeft old new h event reply → Follows (setting_of old) h event reply new
goes_on old new h event reply stands limits legal left =
    let then : Stands new (with_step h event reply) = record {
      sessions = subst (λ (st : Setting). st.sessions ≤ 64) (sym left.0) stands.sessions;
      limits = (limits, stands.limits);
      legal = subst (λ st. IsLegalHistory st (with_step h event reply)) (sym left.0) (legal, stands.legal);
      values = subst (λ (st : Setting). TakesPointValue st.base (with_step h event reply)) (sym left.0) (left.2, stands.values);
      parts = left.1;
    } in
    record { legal = legal; stands = then; serial = is_serial new (with_step h event reply) then; points = keeps_points new (with_step h event reply) then }

-- a legal reply that does nothing
pub unmoved : (old new : Store) (h : History) (event : Event) (reply : Reply) → Stands old h → IsInLimits event → effect_of event reply ≡ Nothing → new ≡ old → IsLegal (setting_of old) h event reply → Follows (setting_of old) h event reply new
unmoved old new h event reply stands limits none unchanged legal =
    goes_on old new h event reply stands limits legal (
      ap setting_of unchanged,
      subst (λ w. IsReadOff w (with_step h event reply)) (sym unchanged) (still old h (record { event = event; reply = reply }) (legal_then old h event reply stands legal) none stands.parts),
      subst (λ e. ValueBy old.base.pairs e h) (sym none) tt,
    )

-- what an event leaves, given what it leaves if it is done
pub owes_follows : (old new : Store) (h : History) (event : Event) (reply : Reply) (Done : Type 0) (due : Option Reply) → Stands old h → IsInLimits event → due ≡ certain (setting_of old) h event → IfSome due (λ d. effect_of event d ≡ Nothing) → Owes due old reply new Done →
    (due ≡ None → Done → Answers (setting_of old) h event reply) → (due ≡ None → Done → HasLegalEffects (setting_of old) (with_step h event reply) → IsLeft old new h event reply) → Follows (setting_of old) h event reply new
owes_follows old new h event reply Done due stands limits same idle step answers leaves = by_due due refl idle step
  where
    st : Setting
    st = setting_of old

    legal_by : (o : Option Reply) → due ≡ o → MatchOption o (Answers st h event reply ⊎ (reply ≡ told.Refused why.OutOfMemory)) (λ d. reply ≡ d) → IsLegal st h event reply
    legal_by o is fact = (subst (λ o. MatchOption o (Answers st h event reply ⊎ (reply ≡ told.Refused why.OutOfMemory)) (λ d. reply ≡ d)) (sym is ∙ same) fact)

    by_due : (o : Option Reply) → due ≡ o → IfSome o (λ d. effect_of event d ≡ Nothing) → Owes o old reply new Done → Follows st h event reply new
    by_due (Some d) is none owes = unmoved old new h event reply stands limits (ap (effect_of event) owes.0 ∙ none) owes.1 (legal_by (Some d) is owes.0)
    by_due None is none (inl d) =
        let legal : IsLegal st h event reply = legal_by None is (inl (answers is d)) in
        goes_on old new h event reply stands limits legal (leaves is d (legal_then old h event reply stands legal))
    by_due None is none (inr out) = unmoved old new h event reply stands limits (ap (effect_of event) out.0 ∙ refused_does_nothing event why.OutOfMemory) out.1 (legal_by None is (inr out.0))

-- a refusal does nothing
pub refused_idle : (event : Event) (causes : List (Bool × Refusal)) → IfSome (first_refusal causes) (λ d. effect_of event d ≡ Nothing)
refused_idle event causes = by_first (first_refusal causes) (first_refusal_refuses causes)
  where
    by_first : (o : Option Reply) → IfSome o (λ due. (r : Refusal) × (due ≡ told.Refused r)) → IfSome o (λ d. effect_of event d ≡ Nothing)
    by_first None refuses = tt
    by_first (Some due) refuses = ap (effect_of event) refuses.1 ∙ refused_does_nothing event refuses.0

-- if the first cause does not apply
pub not_first : (b : Bool) (r : Refusal) (cs : List (Bool × Refusal)) → first_refusal ((b, r) ∷ cs) ≡ None → (b ≡ false) × (first_refusal cs ≡ None)
not_first true r cs e = cc
not_first false r cs e = (refl, e)

pub not_not : (b : Bool) → not b ≡ false → b ≡ true
not_not true e = refl
not_not false e = cc

-- the same first refusal, if the causes after NoSession are checked for an existing session
pub by_session : (st : Setting) (s : ℕ) (mine theirs : List (Bool × Refusal)) → (no_session st s ≡ false → first_refusal mine ≡ first_refusal theirs) →
    first_refusal ((no_session st s, why.NoSession) ∷ mine) ≡ first_refusal ((no_session st s, why.NoSession) ∷ theirs)
by_session st s mine theirs then = by_test (no_session st s) refl
  where
    by_test : (b : Bool) → no_session st s ≡ b → cond b (Some (told.Refused why.NoSession)) (first_refusal mine) ≡ cond b (Some (told.Refused why.NoSession)) (first_refusal theirs)
    by_test true e = refl
    by_test false e = then e

-- the causes of an open transaction's events after NoSession, by what the session has and by the history
abbrev causes_by : Store → List (Bool × Refusal) → Option Active → List (Bool × Refusal)
causes_by w mine a = (is_none a, why.NoTransaction) ∷ (waits_in_rows w.kept.rows (number_in a), why.StillWaiting) ∷ (has_died_in a, why.MustAbort) ∷ mine

abbrev causes_after : History → ℕ → List (Bool × Refusal) → List (Bool × Refusal)
causes_after h s theirs = (not (is_open s h), why.NoTransaction) ∷ (is_waiting s h, why.StillWaiting) ∷ (has_died s h, why.MustAbort) ∷ theirs

-- the causes of an open transaction's events
pub in_transaction : (w : Store) (h : History) (s : ℕ) (mine theirs : List (Bool × Refusal)) → Stands w h → (no_session (setting_of w) s ≡ false → is_open s h ≡ true → first_refusal mine ≡ first_refusal theirs) →
    first_refusal (open_causes w s mine) ≡ first_refusal ((no_session (setting_of w) s, why.NoSession) ∷ (not (is_open s h), why.NoTransaction) ∷ (is_waiting s h, why.StillWaiting) ∷ (has_died s h, why.MustAbort) ∷ theirs)
in_transaction w h s mine theirs stands then = by_session (setting_of w) s (causes_by w mine (active w s)) (causes_after h s theirs) (λ there. ap (λ a. first_refusal (causes_by w mine a)) (stands.parts.sessions s there) ∙ by_open (is_open s h) refl (then there))
  where
    waits : is_open s h ≡ true → waits_in_rows w.kept.rows (transaction_number_of s h) ≡ is_waiting s h
    waits opened = waiting_now w.base.pairs w.kept.rows h s (locked_now w h stands) stands.parts.records opened

    by_open : (b : Bool) → is_open s h ≡ b → (is_open s h ≡ true → first_refusal mine ≡ first_refusal theirs) →
        first_refusal (causes_by w mine (cond b (Some (active_now s h)) None)) ≡ first_refusal ((not b, why.NoTransaction) ∷ (is_waiting s h, why.StillWaiting) ∷ (has_died s h, why.MustAbort) ∷ theirs)
    by_open true e then_open =
        ap (λ b. first_refusal ((b, why.StillWaiting) ∷ (has_died s h, why.MustAbort) ∷ mine)) (waits e)
        ∙ ap (λ o. cond (is_waiting s h) (Some (told.Refused why.StillWaiting)) (cond (has_died s h) (Some (told.Refused why.MustAbort)) o)) (then_open e)
    by_open false e then_open = refl

-- an open session, and what the world has of its transaction
pub record IsOpenIn (w : Store) (h : History) (s : ℕ) : Type 0 where
  pub there : no_session (setting_of w) s ≡ false
  pub opened : is_open s h ≡ true
  pub same : active w s ≡ Some (active_now s h)

-- a session that has a transaction is open
pub open_in : (w : Store) (h : History) (s : ℕ) → Stands w h → no_session (setting_of w) s ≡ false → is_none (active w s) ≡ false → IsOpenIn w h s
open_in w h s stands there some = by_open (is_open s h) refl (stands.parts.sessions s there)
  where
    by_open : (b : Bool) → is_open s h ≡ b → active w s ≡ cond b (Some (active_now s h)) None → IsOpenIn w h s
    by_open true e same = record { there = there; opened = e; same = same }
    by_open false e same = absurd (no (is_none (active w s)) (ap is_none same) some)
      where
        no : (b : Bool) → b ≡ true → b ≡ false → ⊥
        no true t f = cc
        no false t f = cc

-- if no cause applies the session is open
pub open_then : (w : Store) (h : History) (s : ℕ) (causes : List (Bool × Refusal)) → Stands w h → first_refusal (open_causes w s causes) ≡ None → IsOpenIn w h s
open_then w h s causes stands none =
    let first = not_first (no_session (setting_of w) s) why.NoSession (causes_by w causes (active w s)) none in
    open_in w h s stands first.0 (not_first (is_none (active w s)) why.NoTransaction ((waits_in_rows w.kept.rows (number_in (active w s)), why.StillWaiting) ∷ (has_died_in (active w s), why.MustAbort) ∷ causes) first.1).0

-- what was refused was due, or an allocation failed
pub owed_refusal : (o : Option Reply) (e : Refusal) (old new : Store) (Done : Type 0) → MatchOption o (e ≡ why.OutOfMemory) (λ due. due ≡ told.Refused e) → new ≡ old → Owes o old (told.Refused e) new Done
owed_refusal None e old new Done is same = inr (ap told.Refused is, same)
owed_refusal (Some due) e old new Done is same = (sym is, same)
