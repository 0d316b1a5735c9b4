-- Steps of one session that leave the log, the phase and the shelf as they are.
use Rattle.std.proofs.Common.{◌≡◌, ℕ, List, [], ◌++◌, length, append-nil, subst, Option, sym, ap, ◌∙◌, true, false, eqb, nat_lt, ◌||◌}
use Rattle.pc_types.specs.declared.Event.{Event}
use Rattle.pc_types.specs.declared.Reply.{Reply}
use Rattle.pc_types.specs.declared.Step.{Step}
use Rattle.pc_model.specs.Files.{shelf, shelved_by}
use Rattle.pc_model.specs.History.{History, Effect, effect_of, log_of, begun, phase_of, point_of, entries_by, begun_by, phase_by, point_by}
use Rattle.pc_model.specs.Maps as map_of
use Rattle.pc_model.specs.Log.{state_at}
use Rattle.pc_model.specs.Points.{is_among, taken, taken_by}
use Rattle.pc_model.specs.Replies.{Setting, open_set, written_by, closed_set}
use Rattle.pc_model.specs.Headline.{ValueBy}
use Rattle.pc_model.specs.Standing.{HasLegalEffects}
use Rattle.pc_model.proofs.StandingLaws.{closed_stays}
use Rattle.pc_model.specs.LegalEffects.{changes_closed}
use Rattle.pc_records.specs.Rows.{Row}
use Rattle.pc_records.specs.Following.{AreRecords}
use Rattle.pc_engine.specs.Store.{Store, setting_of}
use Rattle.pc_transactions.specs.Actives.{active_in as session_at}
use Rattle.pc_transactions.specs.Actives.{Active}
use Rattle.pc_engine.specs.Stands.{IsReadOff}
use Rattle.pc_engine.proofs.ActiveSessions.{is_past, active_by}
use Rattle.pc_engine.proofs.Owing.{with_step, IsLeft, same_cycle, states_stay}

-- the setting stays if there are as many sessions
pub same_setting : (w : Store) (n : ℕ) → n ≡ length w.sessions → (let st : Setting = record { run = w.base.run; base = w.base.pairs; sessions = n; capacity = w.kept.capacity } in st) ≡ setting_of w
same_setting w n same = ap (λ n. let st : Setting = record { run = w.base.run; base = w.base.pairs; sessions = n; capacity = w.kept.capacity } in st) same

-- the effect leaves all but the locks and the sessions
pub record IsLocal (run : ℕ) (h : History) (e : Effect) : Type 0 where
  pub no_entry : entries_by e h ≡ []
  pub no_begin : begun_by e (begun h) ≡ begun h
  pub same_phase : phase_by e (phase_of h) ≡ phase_of h
  pub same_point : point_by e (point_of h) ≡ point_of h
  pub no_key : written_by e h (open_set h) ≡ open_set h
  pub same_closed : changes_closed e ≡ false
  pub none_taken : taken_by e (taken h) ≡ taken h
  pub none_shelved : shelved_by run e h (shelf run h) ≡ []

module _ (w : Store) (h : History) (event : Event) (reply : Reply) (e : Effect) (is : effect_of event reply ≡ e) (stays : IsLocal w.base.run h e) (legal : HasLegalEffects (setting_of w) (with_step h event reply)) where
  abbrev step : Step
  step = record { event = event; reply = reply }

  pub log_stays : log_of (with_step h event reply) ≡ log_of h
  log_stays = ap (λ d. log_of h ++ entries_by d h) is ∙ ap (λ l. log_of h ++ l) stays.no_entry ∙ append-nil (log_of h)

  pub keys_stay : open_set (with_step h event reply) ≡ open_set h
  keys_stay = ap (λ d. written_by d h (open_set h)) is ∙ stays.no_key

  closed_by : changes_closed (effect_of event reply) ≡ false
  closed_by = ap changes_closed is ∙ stays.same_closed

  pub state_stays_at : (q : List ℕ) → is_among (closed_set h) q ≡ true → map_of.get (state_at w.base.pairs (log_of (with_step h event reply)) (point_of (with_step h event reply))) q ≡ map_of.get (state_at w.base.pairs (log_of h) (point_of h)) q
  state_stays_at = states_stay (setting_of w) h step legal

  pub closed_set_stays : closed_set (with_step h event reply) ≡ closed_set h
  closed_set_stays = closed_stays (setting_of w) h step legal closed_by

  -- the world with these records and sessions
  pub local_left : (rows : List Row) (sessions : List (Option Active)) → length sessions ≡ length w.sessions → AreRecords w.base.pairs rows (with_step h event reply) → ((t : ℕ) → is_past w.sessions t ≡ false → session_at sessions t ≡ active_by t e h) →
      ValueBy w.base.pairs e h → IsReadOff w h → IsLeft w (record w { kept = record w.kept { rows = rows }; sessions = sessions }) h event reply
  local_left rows sessions same records are value parts = (
    same_setting w _ same,
    record {
      records = records;
      log = parts.log ∙ sym log_stays;
      begun = parts.begun ∙ sym (ap (λ d. begun_by d (begun h)) is ∙ stays.no_begin);
      sessions = λ t there. are t (sym (ap (λ n. eqb t 0 || nat_lt n t) same) ∙ there) ∙ sym (ap (λ d. active_by t d h) is);
      start = parts.start;
      cycle = same_cycle (setting_of w) w.cycle w.shelf h step legal (ap (λ d. phase_by d (phase_of h)) is ∙ stays.same_phase) (ap (λ d. point_by d (point_of h)) is ∙ stays.same_point) keys_stay closed_by
          (ap (λ d. taken_by d (taken h)) is ∙ stays.none_taken)
          (ap (λ d. shelf w.base.run h ++ shelved_by w.base.run d h (shelf w.base.run h)) is ∙ ap (λ l. shelf w.base.run h ++ l) stays.none_shelved ∙ append-nil (shelf w.base.run h)) parts.cycle;
    },
    subst (λ d. ValueBy w.base.pairs d h) (sym is) value,
  )
