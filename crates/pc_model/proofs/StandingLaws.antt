-- The invariant of every history with legal effects: tokens in order, and each key once.
use Rattle.std.proofs.Common.{◌≡◌, ℕ, zero, suc, ◌+◌, List, [], ◌∷◌, ◌++◌, append-nil, map, refl, sym, ap, subst, ◌∙◌, true, false, ◌≤◌, ◌&&◌, arith, Option}
use Rattle.std.specs.Prelude.{nat_lt, nat_le}
use Rattle.std.proofs.lemmas.Bool.Decides.{nat_tests}
use Rattle.std.proofs.lemmas.List.{map-append}
use Rattle.pc_types.specs.declared.Entry.{Entry}
use Rattle.pc_types.specs.declared.Entry.TheVariants.{Commit, Token}
use Rattle.pc_types.specs.declared.Phase.{Phase}
use Rattle.pc_types.specs.declared.Phase.TheVariants.{Rest, Prepare, Resolve, Capture, Complete}
use Rattle.pc_types.specs.declared.Step.{Step}
use Rattle.pc_model.specs.Log.{log_after_point, has_token}
use Rattle.pc_model.specs.History.{History, Effect, effect, log_of, phase_of, point_of, entries_by, phase_by, point_by, writes_of}
use Rattle.pc_model.specs.History.Effect.{Commits, Moves, Takes, Shelves}
use Rattle.pc_model.specs.Points.{cycle, with_written, touched, taken, taken_by}
use Rattle.pc_model.specs.Replies.{Setting, closed_set, written_by, open_set}
use Rattle.pc_model.specs.Headline.{TakesEachKeyOnce, is_taking, taken_keys}
use Rattle.pc_model.specs.Standing.{HasLegalEffects, HasTokensInOrder, last_sealed, is_past_token}
use Rattle.pc_model.proofs.LegalEffectLaws.{effect_fits}
use Rattle.pc_model.specs.LegalEffects.{Fits, changes_closed}
use Rattle.pc_model.proofs.LogPieceLaws.{front_whole, cycle_open}
use Rattle.pc_model.proofs.TouchedKeyLaws.{touched_distinct}
use Rattle.pc_model.proofs.Tokens.{TokensStand, left_of, at_first, stands_commit, stands_token, stands_start, stands_seal, stands_take, none_next, left_kept, no_token, left_after_take, sealed_keys, sealed_left}

-- the invariant of a history
abbrev pub HasStanding : History → Type 0
HasStanding h = TokensStand (phase_of h) (point_of h) (log_of h) (open_set h) (taken_keys h)

-- the same after one more effect
abbrev StandsBy : History → Effect → Type 0
StandsBy h e = TokensStand (phase_by e (phase_of h)) (point_by e (point_of h)) (log_of h ++ entries_by e h) (written_by e h (open_set h)) (map (λ t. t.0) (taken_by e (taken h)))

module _ (h : History) (s : HasStanding h) where
  same_log : TokensStand (phase_of h) (point_of h) (log_of h ++ []) (open_set h) (taken_keys h)
  same_log = subst (λ log. TokensStand (phase_of h) (point_of h) log (open_set h) (taken_keys h)) (sym (append-nil (log_of h))) s

  pub in_phase : (phase : Phase) → phase_of h ≡ phase → TokensStand phase (point_of h) (log_of h) (open_set h) (taken_keys h)
  in_phase phase is = subst (λ (ph : Phase). TokensStand ph (point_of h) (log_of h) (open_set h) (taken_keys h)) is s

  by_rest : phase_of h ≡ Complete → StandsBy h (Moves Rest (point_of h))
  by_rest is = stands_token Complete (point_of h) (log_of h) (open_set h) (taken_keys h) (in_phase Complete is) Rest refl refl (λ e. cc) (λ e. (in_phase Complete is).idle refl)

  by_start : phase_of h ≡ Rest → StandsBy h (Moves Prepare (point_of h + 1))
  by_start is = stands_start (point_of h) (log_of h) (open_set h) (taken_keys h) (in_phase Rest is)

  by_seal : phase_of h ≡ Prepare → StandsBy h (Moves Resolve (point_of h))
  by_seal is = stands_seal (point_of h) (log_of h) (open_set h) (taken_keys h) (in_phase Prepare is)

  by_open : phase_of h ≡ Resolve → StandsBy h (Moves Capture (point_of h))
  by_open is = stands_token Resolve (point_of h) (log_of h) (open_set h) (taken_keys h) (in_phase Resolve is) Capture refl refl (λ e. refl) (λ e. cc)

  by_done : phase_of h ≡ Capture → closed_set h ≡ [] → StandsBy h (Shelves (point_of h))
  by_done is none = stands_token Capture (point_of h) (log_of h) (open_set h) (taken_keys h) (in_phase Capture is) Complete refl refl (λ e. refl) (λ e. none)

  by_take : (key : List ℕ) (content : Option (List ℕ)) (keys : List (List ℕ)) → phase_of h ≡ Capture → closed_set h ≡ key ∷ keys → StandsBy h (Takes key content)
  by_take key content keys is first =
      let taking : is_taking (phase_of h) ≡ true = ap is_taking is in
      let after = stands_take (phase_of h) (point_of h) (log_of h) (open_set h) (taken_keys h) s key keys first taking in
      subst (λ gone. TokensStand (phase_of h) (point_of h) (log_of h ++ []) (open_set h) gone) (sym (map-append (λ t. t.0) (taken h) ((key, content) ∷ [])))
      (subst (λ log. TokensStand (phase_of h) (point_of h) log (open_set h) (taken_keys h ++ key ∷ [])) (sym (append-nil (log_of h))) after)

  stands_by : (st : Setting) (e : Effect) → Fits st h e → StandsBy h e
  stands_by st (Commits session) fits = stands_commit (phase_of h) (point_of h) (log_of h) (open_set h) (taken_keys h) s session (writes_of session h)
  stands_by st (Moves Rest n) fits = rw fits.1 (by_rest fits.0)
  stands_by st (Moves Prepare n) fits = rw fits.1 (by_start fits.0)
  stands_by st (Moves Resolve n) fits = rw fits.1 (by_seal fits.0)
  stands_by st (Moves Capture n) fits = rw fits.1 (by_open fits.0)
  stands_by st (Moves Complete n) fits = absurd fits
  stands_by st (Takes key content) fits = by_take key content fits.1 fits.0 fits.2
  stands_by st (Shelves n) fits = rw fits.1 (by_done fits.0 fits.2)
  stands_by st other fits = same_log

-- the invariant of a history with legal effects
pub has_standing : (st : Setting) (h : History) → HasLegalEffects st h → HasStanding h
has_standing st [] legal = at_first
has_standing st (step ∷ h) legal = stands_by h (has_standing st h legal.1) st (effect step) (effect_fits st h step.event step.reply legal.0)

-- the log has its tokens in order
pub tokens_in_order : (st : Setting) (h : History) → HasLegalEffects st h → HasTokensInOrder h
tokens_in_order st h legal = let s = has_standing st h legal in record { has = s.has; in_order = s.in_order }

-- outside resolve and capture no key is left to take
pub none_left : (st : Setting) (h : History) → HasLegalEffects st h → is_taking (phase_of h) ≡ false → closed_set h ≡ []
none_left st h legal none = (has_standing st h legal).idle none

-- each touched key is taken once
pub each_key_once : (st : Setting) (h : History) → HasLegalEffects st h → TakesEachKeyOnce h
each_key_once st h legal =
    let s = has_standing st h legal in
    record {
      taken_and_left = s.all_keys;
      none_left = s.idle;
      all_taken = λ there none. sym (append-nil (taken_keys h)) ∙ ap (λ left. taken_keys h ++ left) (sym (s.idle none)) ∙ s.all_keys there;
      once = touched_distinct (point_of h) (log_of h);
    }

-- from the point's token to the end of its cycle the log has it
pub past_token : (st : Setting) (h : History) → HasLegalEffects st h → is_past_token (phase_of h) ≡ true → has_token (point_of h) (log_of h) ≡ true
past_token st h legal past = by_phase (phase_of h) past (has_standing st h legal)
  where
    has_own : (n : ℕ) → 1 ≤ n → has_token n (log_of h) ≡ (nat_lt 0 n && nat_le n n) → has_token n (log_of h) ≡ true
    has_own n low e = e ∙ both n low
      where
        both : (n : ℕ) → 1 ≤ n → (nat_lt 0 n && nat_le n n) ≡ true
        both n low = grind (arith, nat_tests)

    by_phase : (phase : Phase) → is_past_token phase ≡ true → TokensStand phase (point_of h) (log_of h) (open_set h) (taken_keys h) → has_token (point_of h) (log_of h) ≡ true
    by_phase Resolve past s = has_own (point_of h) (s.begun refl) (s.has (point_of h))
    by_phase Capture past s = has_own (point_of h) (s.begun refl) (s.has (point_of h))
    by_phase Complete past s = has_own (point_of h) (s.begun refl) (s.has (point_of h))
    by_phase Rest past s = cc
    by_phase Prepare past s = cc

-- the keys written since the last token are those of the next point's cycle so far
pub written_is : (st : Setting) (h : History) → HasLegalEffects st h → open_set h ≡ touched (last_sealed h + 1) (log_of h)
written_is st h legal = (has_standing st h legal).open_keys

-- the log after the token of the last sealed point: all of it if there is none
abbrev pub behind_last : ℕ → List Entry → List Entry
behind_last zero log = log
behind_last (suc n) log = log_after_point (suc n) log

-- they are the keys of the log after the last token
pub written_behind : (st : Setting) (h : History) → HasLegalEffects st h → open_set h ≡ with_written [] (behind_last (last_sealed h) (log_of h))
written_behind st h legal = written_is st h legal ∙ ap (with_written []) (by_last (last_sealed h) (none_next (phase_of h) (point_of h) (log_of h) (open_set h) (taken_keys h) (has_standing st h legal)))
  where
    by_last : (n : ℕ) → has_token (n + 1) (log_of h) ≡ false → cycle (n + 1) (log_of h) ≡ behind_last n (log_of h)
    by_last zero none = front_whole 1 (log_of h) none
    by_last (suc n) none = cycle_open n (log_of h) none

-- the closed set after one more effect
abbrev pub closed_by : Effect → History → List (List ℕ)
closed_by e h = left_of (point_by e (point_of h)) (log_of h ++ entries_by e h) (map (λ t. t.0) (taken_by e (taken h)))

-- after a Take of its first key the closed set is the rest
pub take_leaves : (st : Setting) (h : History) (step : Step) → HasLegalEffects st h → (key : List ℕ) (content : Option (List ℕ)) (keys : List (List ℕ)) → effect step ≡ Takes key content → closed_set h ≡ key ∷ keys →
    closed_set (step ∷ h) ≡ keys
take_leaves st h step legal key content keys is first =
    ap (λ e. closed_by e h) is
    ∙ ap (λ log. left_of (point_of h) log (map (λ t. t.0) (taken h ++ (key, content) ∷ []))) (append-nil (log_of h))
    ∙ ap (left_of (point_of h) (log_of h)) (map-append (λ t. t.0) (taken h) ((key, content) ∷ []))
    ∙ left_after_take (phase_of h) (point_of h) (log_of h) (open_set h) (taken_keys h) (has_standing st h legal) key keys first

-- after the point's token the closed set is the keys written before it, which are the touched ones
pub seal_closes : (st : Setting) (h : History) (step : Step) → HasLegalEffects st (step ∷ h) → (n : ℕ) → effect step ≡ Moves Resolve n →
    (closed_set (step ∷ h) ≡ touched n (log_of (step ∷ h))) × (touched n (log_of (step ∷ h)) ≡ open_set h)
seal_closes st h step legal n is =
    let s = has_standing st h legal.1 in
    let fits : Fits st h (Moves Resolve n) = subst (Fits st h) is (effect_fits st h step.event step.reply legal.0) in
    let sealed = in_phase h s Prepare fits.0 in
    let keys : touched n (log_of (step ∷ h)) ≡ touched n (log_of h ++ Token Resolve n ∷ []) = ap (λ e. touched n (log_of h ++ entries_by e h)) is in
    let left : closed_by (Moves Resolve n) h ≡ touched n (log_of h ++ Token Resolve n ∷ []) = rw fits.1 (sealed_left (point_of h) (log_of h) (open_set h) (taken_keys h) sealed) in
    let before : touched n (log_of h ++ Token Resolve n ∷ []) ≡ open_set h = rw fits.1 (sealed_keys (point_of h) (log_of h) (open_set h) (taken_keys h) sealed) in
    (ap (λ e. closed_by e h) is ∙ left ∙ sym keys, keys ∙ before)

module _ (st : Setting) (h : History) (s : HasStanding h) where
  kept_by : (more : List Entry) → ((p : ℕ) → has_token p more ≡ false) → left_of (point_of h) (log_of h ++ more) (taken_keys h) ≡ closed_set h
  kept_by more none = left_kept (phase_of h) (point_of h) (log_of h) (open_set h) (taken_keys h) s more (taken_keys h) none

  closed_stays_by : (e : Effect) → Fits st h e → changes_closed e ≡ false → closed_by e h ≡ closed_set h
  closed_stays_by (Commits session) fits same = kept_by (Commit session (writes_of session h) ∷ []) (λ q. refl)
  closed_stays_by (Moves Rest n) fits same = rw fits.1 (kept_by (Token Rest (point_of h) ∷ []) (no_token Rest (point_of h) refl))
  closed_stays_by (Moves Prepare n) fits same = rw fits.1 ((by_start h s fits.0).idle refl ∙ sym (s.idle (ap is_taking fits.0)))
  closed_stays_by (Moves Resolve n) fits same = cc
  closed_stays_by (Moves Capture n) fits same = rw fits.1 (kept_by (Token Capture (point_of h) ∷ []) (no_token Capture (point_of h) refl))
  closed_stays_by (Moves Complete n) fits same = absurd fits
  closed_stays_by (Takes key content) fits same = cc
  closed_stays_by (Shelves n) fits same = rw fits.1 (kept_by (Token Complete (point_of h) ∷ []) (no_token Complete (point_of h) refl))
  closed_stays_by other fits same = kept_by [] (λ q. refl)

-- every other step leaves the closed set
pub closed_stays : (st : Setting) (h : History) (step : Step) → HasLegalEffects st (step ∷ h) → changes_closed (effect step) ≡ false → closed_set (step ∷ h) ≡ closed_set h
closed_stays st h step legal same = closed_stays_by st h (has_standing st h legal.1) (effect step) (effect_fits st h step.event step.reply legal.0) same
