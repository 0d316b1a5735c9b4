-- The log of a run has a text.
use Rattle.std.proofs.Common.{◌≡◌, ℕ, ◌≤◌, eqb, ◌&&◌, not, Bool, true, false, cond, List, [], ◌∷◌, ◌++◌, length, Some, None, is_some, refl, sym, ap, subst, ◌∙◌, arith, ◌⊎◌, inl, inr}
use Rattle.std.specs.Prelude.{IfSome, ⊤}
use Rattle.std.specs.List.{AllByRecursion}
use Rattle.std.proofs.lemmas.Bool.Decides.{nat_tests}
use Rattle.std.proofs.lemmas.List.{append-nil}
use Rattle.std.proofs.lemmas.List.Elements.{All-from_recursion}
use Rattle.pc_types.specs.declared.Change.{Change}
use Rattle.pc_types.specs.declared.Change.TheVariants.{Add}
use Rattle.pc_types.specs.declared.Write.{Write}
use Rattle.pc_types.specs.Changes.{fits_i64, CanMerge, change_to}
use Rattle.pc_types.specs.declared.Entry.{Entry}
use Rattle.pc_types.specs.declared.Entry.TheVariants.{Commit, Token}
use Rattle.pc_types.specs.declared.Event.{Event}
use Rattle.pc_types.specs.declared.Event.TheVariants as asked
use Rattle.pc_types.specs.declared.Reply.{Reply}
use Rattle.pc_types.specs.declared.Refusal.TheVariants as why
use Rattle.pc_types.specs.declared.Phase.{Phase}
use Rattle.pc_types.specs.declared.Phase.TheVariants.{Rest, Prepare, Resolve, Capture, Complete}
use Rattle.pc_types.specs.declared.Class.TheVariants.{Before, During, After}
use Rattle.pc_types.specs.Limits.{IsKey, IsValue}
use Rattle.pc_types.specs.Phases.{next_phase, next_point}
use Rattle.pc_model.specs.History.{History, Effect, effect, effect_of, log_of, entries_by, phase_of, phase_by, point_of, point_by, writes_of, writes_by, is_open, has_died}
use Rattle.pc_model.specs.History.Effect.{Begins, Reads, Writes, Adds, Waits, Dies, Commits, Aborts, Moves, Takes, Shelves, Joins, Nothing}
use Rattle.pc_model.specs.Database.{write_of, written, with_write}
use Rattle.pc_model.specs.Replies.{Setting, certain, Answers, IsLegal, first_refusal, no_session, is_in_phase, log_is_full, too_many, is_full, write_causes, add_causes, transaction_causes, wrong_phase}
use Rattle.pc_model.specs.Standing.{HasLegalEffects}
use Rattle.pc_model.specs.Limits.{IsInLimits, AreInLimits}
use Rattle.pc_model.proofs.EffectCases.{begin_case, get_case, write_case, add_case, commit_case, abort_case, take_case, done_case, join_case}
use Rattle.pc_model.proofs.EffectLaws.{no_first, no_other, no_firsts}
use Rattle.pc_model.proofs.LegalEffectLaws.{settled, causes_idle, or_else_idle, or_else_none, held_back_idle, is_a_session, effect_fits}
use Rattle.pc_model.specs.LegalEffects.{Fits, FitsMove, IsIdle}
use Rattle.pc_model.specs.Locks.{is_waiting}
use Rattle.pc_log.specs.Texts.{IsChange, IsEntry}
use Rattle.pc_log.specs.Orders.{FollowFrom}
use Rattle.pc_log.specs.Laws.{LogsOfRunsHaveTexts}
use Rattle.pc_log.proofs.LawfulWrites.{AreLawful, none_lawful, lawful_change, merges_to, lawful_with}

-- ---- what is valid of an effect

abbrev pub IsLawfulMove : History → Phase → Type 0
IsLawfulMove h Prepare = eqb (point_of h) 65535 ≡ false
IsLawfulMove h other = ⊤

-- a write or an add is within its limits and not one too many, a commit is of a session from 1 to 64, and a cycle begins before the last point
abbrev pub IsLawful : History → Effect → Type 0
IsLawful h (Writes s key content) = ((eqb (length (writes_of s h)) 256 && not (is_some (written (writes_of s h) key))) ≡ false) × IsKey key × IfSome content IsValue
IsLawful h (Adds s key delta sum) = ((eqb (length (writes_of s h)) 256 && not (is_some (written (writes_of s h) key))) ≡ false) × IsKey key × (fits_i64 delta ≡ true)
IsLawful h (Commits s) = (1 ≤ s) × (s ≤ 64)
IsLawful h (Moves phase n) = IsLawfulMove h phase
IsLawful h other = ⊤

module _ (st : Setting) (h : History) (few : st.sessions ≤ 64) where
  idle_lawful : (event : Event) (reply : Reply) → IsIdle reply → IsLawful h (effect_of event reply)
  idle_lawful event reply idle = let P : Effect → Type 0 = IsLawful h in subst P (sym (idle event)) tt

  not_too_many : (s : ℕ) (key : List ℕ) → first_refusal (write_causes st s key h) ≡ None → too_many s key h ≡ false
  not_too_many s key none =
      let full = (is_full st key h, why.Full) ∷ [] in
      let many = (too_many s key h, why.TooManyWrites) ∷ full in
      let died = (has_died s h, why.MustAbort) ∷ many in
      let waits = (is_waiting s h, why.StillWaiting) ∷ died in
      let closed = (not (is_open s h), why.NoTransaction) ∷ waits in
      no_first (too_many s key h, why.TooManyWrites) full (no_other (has_died s h, why.MustAbort) many (no_other (is_waiting s h, why.StillWaiting) died
      (no_other (not (is_open s h), why.NoTransaction) waits (no_other (no_session st s, why.NoSession) closed none))))

  legal_lawful : (event : Event) (reply : Reply) → IsLegal st h event reply → IsInLimits event → IsLawful h (effect_of event reply)
  legal_lawful (asked.Begin s) reply legal limits = begin_case (IsLawful h) tt s reply (λ counts. tt)
  legal_lawful (asked.Get s key) reply legal limits = get_case (IsLawful h) tt s key reply (λ answer counts. tt) tt tt
  legal_lawful (asked.Put s key value) reply legal limits =
      elim (settled (certain st h (asked.Put s key value)) (Answers st h (asked.Put s key value) reply) reply (causes_idle (write_causes st s key h)) legal) [
        | inl answered ↦ write_case (IsLawful h) tt s key (Some value) reply (λ counts. (not_too_many s key answered.0, limits.0, limits.1)) tt tt
        | inr idle ↦ idle_lawful (asked.Put s key value) reply idle
      ]
  legal_lawful (asked.Del s key) reply legal limits =
      elim (settled (certain st h (asked.Del s key)) (Answers st h (asked.Del s key) reply) reply (causes_idle (write_causes st s key h)) legal) [
        | inl answered ↦ write_case (IsLawful h) tt s key None reply (λ counts. (not_too_many s key answered.0, limits, tt)) tt tt
        | inr idle ↦ idle_lawful (asked.Del s key) reply idle
      ]
  legal_lawful (asked.Add s key delta) reply legal limits =
      let causes = write_causes st s key h ++ add_causes st s key delta h in
      elim (settled (certain st h (asked.Add s key delta)) (Answers st h (asked.Add s key delta) reply) reply (causes_idle causes) legal) [
        | inl answered ↦ add_case (IsLawful h) tt s key delta reply (λ sum counts. (not_too_many s key (no_firsts (write_causes st s key h) (add_causes st s key delta h) answered.0), limits.0, limits.1)) tt tt
        | inr idle ↦ idle_lawful (asked.Add s key delta) reply idle
      ]
  legal_lawful (asked.Commit s) reply legal limits =
      elim (settled (certain st h (asked.Commit s)) (Answers st h (asked.Commit s) reply) reply (causes_idle (transaction_causes st s h ++ (log_is_full h, why.LogFull) ∷ [])) legal) [
        | inl answered ↦
            let session = is_a_session st h s (no_first (no_session st s, why.NoSession) ((not (is_open s h), why.NoTransaction) ∷ (is_waiting s h, why.StillWaiting) ∷ (has_died s h, why.MustAbort) ∷ (log_is_full h, why.LogFull) ∷ []) answered.0) in
            commit_case (IsLawful h) tt s reply (λ counts. (session.0, omega (arith, session.1, few)))
        | inr idle ↦ idle_lawful (asked.Commit s) reply idle
      ]
  legal_lawful (asked.Abort s) reply legal limits = abort_case (IsLawful h) tt s reply (λ counts. tt)
  legal_lawful asked.StartPoint reply legal limits =
      elim (settled (certain st h asked.StartPoint) (Answers st h asked.StartPoint reply) reply
      (or_else_idle (wrong_phase Rest h) _ (causes_idle ((not (is_in_phase Rest h), why.WrongPhase) ∷ [])) (causes_idle ((eqb (point_of h) 65535, why.PointsFull) ∷ (log_is_full h, why.LogFull) ∷ []))) legal) [
        | inl answered ↦
            let P : Reply → Type 0 = (λ r. IsLawful h (effect_of asked.StartPoint r)) in
            subst P (sym answered.1) (no_first (eqb (point_of h) 65535, why.PointsFull) ((log_is_full h, why.LogFull) ∷ []) (or_else_none (wrong_phase Rest h) _ answered.0).1)
        | inr idle ↦ idle_lawful asked.StartPoint reply idle
      ]
  legal_lawful asked.Seal reply legal limits =
      elim (settled (certain st h asked.Seal) (Answers st h asked.Seal reply) reply (held_back_idle st Prepare Before h) legal) [
        | inl answered ↦ let P : Reply → Type 0 = (λ r. IsLawful h (effect_of asked.Seal r)) in subst P (sym answered.1) tt
        | inr idle ↦ idle_lawful asked.Seal reply idle
      ]
  legal_lawful asked.OpenCapture reply legal limits =
      elim (settled (certain st h asked.OpenCapture) (Answers st h asked.OpenCapture reply) reply (held_back_idle st Resolve During h) legal) [
        | inl answered ↦ let P : Reply → Type 0 = (λ r. IsLawful h (effect_of asked.OpenCapture r)) in subst P (sym answered.1) tt
        | inr idle ↦ idle_lawful asked.OpenCapture reply idle
      ]
  legal_lawful asked.Take reply legal limits = take_case (IsLawful h) tt reply (λ key content. tt)
  legal_lawful asked.Done reply legal limits = done_case (IsLawful h) tt reply (λ point. tt)
  legal_lawful asked.Rest reply legal limits =
      elim (settled (certain st h asked.Rest) (Answers st h asked.Rest reply) reply (held_back_idle st Complete After h) legal) [
        | inl answered ↦ let P : Reply → Type 0 = (λ r. IsLawful h (effect_of asked.Rest r)) in subst P (sym answered.1) tt
        | inr idle ↦ idle_lawful asked.Rest reply idle
      ]
  legal_lawful (asked.Join a b) reply legal limits = join_case (IsLawful h) tt a b reply tt

  pub effect_lawful : (event : Event) (reply : Reply) → IsLegal st h event reply ⊎ (effect_of event reply ≡ Nothing) → IsInLimits event → IsLawful h (effect_of event reply)
  effect_lawful event reply (inl legal) limits = legal_lawful event reply legal limits
  effect_lawful event reply (inr nothing) limits = let P : Effect → Type 0 = IsLawful h in subst P (sym nothing) tt

-- ---- the log

-- from one phase and point the entries' tokens lead to another, each the next one
abbrev Lead : Phase → ℕ → List Entry → Phase → ℕ → Type 0
Lead last n [] phase point = (last ≡ phase) × (n ≡ point)
Lead last n (Commit session writes ∷ log) phase point = Lead last n log phase point
Lead last n (Token to m ∷ log) phase point = (to ≡ next_phase last) × (m ≡ next_point last n) × Lead to m log phase point

lead_follow : (last : Phase) (n : ℕ) (log : List Entry) (phase : Phase) (point : ℕ) → Lead last n log phase point → FollowFrom last n log
lead_follow last n [] phase point lead = tt
lead_follow last n (Commit session writes ∷ log) phase point lead = lead_follow last n log phase point lead
lead_follow last n (Token to m ∷ log) phase point lead = (lead.0, lead.1, lead_follow to m log phase point lead.2)

lead_commit : (last : Phase) (n : ℕ) (log : List Entry) (phase : Phase) (point s : ℕ) (ws : List Write) → Lead last n log phase point → Lead last n (log ++ Commit s ws ∷ []) phase point
lead_commit last n [] phase point s ws lead = lead
lead_commit last n (Commit session writes ∷ log) phase point s ws lead = lead_commit last n log phase point s ws lead
lead_commit last n (Token to m ∷ log) phase point s ws lead = (lead.0, lead.1, lead_commit to m log phase point s ws lead.2)

lead_token : (last : Phase) (n : ℕ) (log : List Entry) (phase : Phase) (point : ℕ) (to : Phase) (m : ℕ) → Lead last n log phase point → to ≡ next_phase phase → m ≡ next_point phase point
    → Lead last n (log ++ Token to m ∷ []) to m
lead_token last n [] phase point to m lead is_to is_m = (is_to ∙ ap next_phase (sym lead.0), is_m ∙ ap (λ p. next_point p point) (sym lead.0) ∙ ap (next_point last) (sym lead.1), (refl, refl))
lead_token last n (Commit session writes ∷ log) phase point to m lead is_to is_m = lead_token last n log phase point to m lead is_to is_m
lead_token last n (Token at k ∷ log) phase point to m lead is_to is_m = (lead.0, lead.1, lead_token at k log phase point to m lead.2 is_to is_m)

all_push : (log : List Entry) (entry : Entry) → AllByRecursion IsEntry log → IsEntry entry → AllByRecursion IsEntry (log ++ entry ∷ [])
all_push [] entry all is = (is, tt)
all_push (e ∷ log) entry all is = (all.0, all_push log entry all.1 is)

-- a cycle has begun, or the phase is rest
abbrev HasBegun : Phase → ℕ → Type 0
HasBegun Rest point = ⊤
HasBegun other point = 1 ≤ point

-- what stands after a history
record IsSound (log : List Entry) (phase : Phase) (point : ℕ) (written : ℕ → List Write) : Type 0 where
  pub leads : Lead Rest 0 log phase point
  pub entries : AllByRecursion IsEntry log
  pub last : point ≤ 65535
  pub begun : HasBegun phase point
  pub writes : (s : ℕ) → AreLawful (written s)

first_sound : IsSound [] Rest 0 (λ s. [])
first_sound = record { leads = (refl, refl); entries = tt; last = omega arith; begun = tt; writes = λ s. none_lawful }

module _ (st : Setting) (h : History) (before : IsSound (log_of h) (phase_of h) (point_of h) (λ s. writes_of s h)) where
  abbrev SoundAfter : Effect → Type 0
  SoundAfter e = IsSound (log_of h ++ entries_by e h) (phase_by e (phase_of h)) (point_by e (point_of h)) (λ s. writes_by s e (writes_of s h))

  -- nothing is added to the log, and no write is forgotten or added
  unlogged : IsSound (log_of h ++ []) (phase_of h) (point_of h) (λ s. writes_of s h)
  unlogged = subst (λ log. IsSound log (phase_of h) (point_of h) (λ s. writes_of s h)) (sym (append-nil (log_of h))) before

  begun_anew : (t : ℕ) → SoundAfter (Begins t)
  begun_anew t = record { leads = unlogged.leads; entries = unlogged.entries; last = unlogged.last; begun = unlogged.begun; writes = λ s. by s (eqb t s) }
    where
      by : (s : ℕ) (b : Bool) → AreLawful (cond b [] (writes_of s h))
      by s true = none_lawful
      by s false = before.writes s

  one_more : (t : ℕ) (key : List ℕ) (change : Change) → (eqb (length (writes_of t h)) 256 && not (is_some (written (writes_of t h) key))) ≡ false → IsKey key → IsChange change → CanMerge (written (writes_of t h) key) change
      → IsSound (log_of h ++ []) (phase_of h) (point_of h) (λ s. cond (eqb t s) (with_write (writes_of s h) (write_of key change)) (writes_of s h))
  one_more t key change few is_key is can = record { leads = unlogged.leads; entries = unlogged.entries; last = unlogged.last; begun = unlogged.begun; writes = λ s. by s (eqb t s) refl }
    where
      by : (s : ℕ) (b : Bool) → eqb t s ≡ b → AreLawful (cond b (with_write (writes_of s h) (write_of key change)) (writes_of s h))
      by s true same =
          let own : t ≡ s = grind (arith, nat_tests) in
          subst (λ k. AreLawful (with_write (writes_of k h) (write_of key change))) own (lawful_with key change (writes_of t h) is_key is can few (before.writes t))
      by s false other = before.writes s

  commits : (s : ℕ) → IsLawful h (Commits s) → SoundAfter (Commits s)
  commits s is = record {
    leads = lead_commit Rest 0 (log_of h) (phase_of h) (point_of h) s (writes_of s h) before.leads;
    entries = all_push (log_of h) (Commit s (writes_of s h)) before.entries (record { first_session = is.0; last_session = is.1; count = (before.writes s).count; in_limits = (before.writes s).in_limits; once = (before.writes s).once });
    last = before.last;
    begun = before.begun;
    writes = before.writes;
  }

  moves : (to : Phase) (n : ℕ) → to ≡ next_phase (phase_of h) → n ≡ next_point (phase_of h) (point_of h) → (1 ≤ n) × (n ≤ 65535) → HasBegun to n → IsSound (log_of h ++ Token to n ∷ []) to n (λ s. writes_of s h)
  moves to n is_to is_n limits begun = record {
    leads = lead_token Rest 0 (log_of h) (phase_of h) (point_of h) to n before.leads is_to is_n;
    entries = all_push (log_of h) (Token to n) before.entries (record { first = limits.0; last = limits.1 });
    last = limits.1;
    begun = begun;
    writes = before.writes;
  }

  -- in a phase that isn't rest the point is 1 at least
  begun_in : (phase : Phase) → phase_of h ≡ phase → HasBegun phase (point_of h)
  begun_in phase is = subst (λ p. HasBegun p (point_of h)) is before.begun

  same_point : (phase : Phase) (n : ℕ) → 1 ≤ point_of h → n ≡ point_of h → (1 ≤ n) × (n ≤ 65535)
  same_point phase n low is = (omega (arith, low, is), omega (arith, is, before.last))

  moved : (to : Phase) (n : ℕ) → FitsMove h to n → IsLawfulMove h to → IsSound (log_of h ++ Token to n ∷ []) to n (λ s. writes_of s h)
  moved Rest n fits is =
      moves Rest n (ap next_phase (sym fits.0)) (fits.1 ∙ ap (λ p. next_point p (point_of h)) (sym fits.0)) (same_point Complete n (begun_in Complete fits.0) fits.1) tt
  moved Prepare n fits is =
      let below : point_of h ≤ 65534 = less (point_of h) before.last is in
      let limits : (1 ≤ n) × (n ≤ 65535) = (omega (arith, fits.1), omega (arith, fits.1, below)) in
      moves Prepare n (ap next_phase (sym fits.0)) (fits.1 ∙ ap (λ p. next_point p (point_of h)) (sym fits.0)) limits limits.0
    where
      less : (p : ℕ) → p ≤ 65535 → eqb p 65535 ≡ false → p ≤ 65534
      less p most other = grind (arith, nat_tests)
  moved Resolve n fits is =
      let limits = same_point Prepare n (begun_in Prepare fits.0) fits.1 in
      moves Resolve n (ap next_phase (sym fits.0)) (fits.1 ∙ ap (λ p. next_point p (point_of h)) (sym fits.0)) limits limits.0
  moved Capture n fits is =
      let limits = same_point Resolve n (begun_in Resolve fits.0) fits.1 in
      moves Capture n (ap next_phase (sym fits.0)) (fits.1 ∙ ap (λ p. next_point p (point_of h)) (sym fits.0)) limits limits.0
  moved Complete n fits is = absurd fits

  after_effect : (e : Effect) → Fits st h e → IsLawful h e → SoundAfter e
  after_effect (Begins t) fits is = begun_anew t
  after_effect (Reads t key content) fits is = unlogged
  after_effect (Writes t key content) fits is = one_more t key (change_to content) is.0 is.1 (lawful_change content is.2) (merges_to (written (writes_of t h) key) content)
  after_effect (Adds t key delta sum) fits is = one_more t key (Add delta) is.0 is.1 is.2 fits
  after_effect (Waits t key exclusive) fits is = unlogged
  after_effect (Dies t key exclusive) fits is = unlogged
  after_effect (Commits t) fits is = commits t is
  after_effect (Aborts t) fits is = unlogged
  after_effect (Moves to n) fits is = moved to n fits is
  after_effect (Takes key content) fits is = unlogged
  after_effect (Shelves n) fits is =
      let limits = same_point Capture n (begun_in Capture fits.0) fits.1 in
      moves Complete n (ap next_phase (sym fits.0)) (fits.1 ∙ ap (λ p. next_point p (point_of h)) (sym fits.0)) limits limits.0
  after_effect (Joins a b) fits is = unlogged
  after_effect Nothing fits is = unlogged

sound : (st : Setting) (h : History) → HasLegalEffects st h → st.sessions ≤ 64 → AreInLimits h → IsSound (log_of h) (phase_of h) (point_of h) (λ s. writes_of s h)
sound st [] legal few limits = first_sound
sound st (step ∷ h) legal few limits =
    after_effect st h (sound st h legal.1 few limits.1) (effect step) (effect_fits st h step.event step.reply legal.0) (effect_lawful st h few step.event step.reply legal.0 limits.0)

-- the log of a run has a text
pub logs_have_texts : LogsOfRunsHaveTexts
logs_have_texts st h legal few limits =
    let s = sound st h legal few limits in
    record { lawful = All-from_recursion IsEntry (log_of h) s.entries; in_order = lead_follow Rest 0 (log_of h) (phase_of h) (point_of h) s.leads }
