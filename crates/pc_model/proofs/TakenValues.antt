-- What was taken, if each Take carried its key's content at the point: the part of the point.
use Rattle.std.proofs.Common.{◌≡◌, ℕ, List, [], ◌∷◌, ◌++◌, append-nil, map, refl, sym, ap, subst, ◌∙◌, true, inr, Option}
use Rattle.std.specs.List.{AllByRecursion}
use Rattle.pc_types.specs.declared.Entry.{Entry}
use Rattle.pc_types.specs.declared.Entry.TheVariants.{Commit, Token}
use Rattle.pc_types.specs.declared.Phase.TheVariants.{Rest, Prepare, Resolve, Capture, Complete}
use Rattle.pc_model.specs.Maps.{get}
use Rattle.pc_model.specs.Database.{Database}
use Rattle.pc_model.specs.Log.{state_at}
use Rattle.pc_model.specs.History.{History, Effect, effect, log_of, phase_of, point_of, entries_by, phase_by, point_by, writes_of}
use Rattle.pc_model.specs.History.Effect.{Commits, Moves, Takes, Shelves}
use Rattle.pc_model.specs.Points.{taken, taken_by, triples_at_point}
use Rattle.pc_model.specs.Files.{triples_taken}
use Rattle.pc_model.specs.Replies.{Setting}
use Rattle.pc_model.specs.Headline.{TakesPointValue, ValueBy}
use Rattle.pc_model.specs.Standing.{HasLegalEffects, is_past_token}
use Rattle.pc_model.specs.Maps as map_of
use Rattle.pc_model.proofs.LogPieceLaws.{state_at_kept}
use Rattle.pc_model.proofs.LegalEffectLaws.{effect_fits}
use Rattle.pc_model.specs.LegalEffects.{Fits}
use Rattle.pc_model.proofs.StandingLaws.{past_token}

-- each key was taken with what it has in the database
abbrev pub AllFrom : Database → List (List ℕ × Option (List ℕ)) → Type 0
AllFrom db ts = AllByRecursion (λ t. t.1 ≡ get db t.0) ts

all_and_one : (db : Database) (ts : List (List ℕ × Option (List ℕ))) (key : List ℕ) (content : Option (List ℕ)) → AllFrom db ts → content ≡ get db key → AllFrom db (ts ++ (key, content) ∷ [])
all_and_one db [] key content all is = (is, tt)
all_and_one db (t ∷ ts) key content all is = (all.0, all_and_one db ts key content all.1 is)

-- such keys make the triples of the keys at the point
pub triples_are : (point : ℕ) (db : Database) (ts : List (List ℕ × Option (List ℕ))) → AllFrom db ts → triples_taken point ts ≡ triples_at_point point db (map (λ t. t.0) ts)
triples_are point db [] all = refl
triples_are point db (t ∷ ts) all =
    ap (λ m. map_of.insert m t.0 (record { point = point; content = t.1 })) (triples_are point db ts all.1)
    ∙ ap (λ (c : Option (List ℕ)). map_of.insert (triples_at_point point db (map (λ x. x.0) ts)) t.0 (record { point = point; content = c })) all.0

module _ (st : Setting) (h : History) (legal : HasLegalEffects st h) (before : is_past_token (phase_of h) ≡ true → AllFrom (state_at st.base (log_of h) (point_of h)) (taken h)) where
  stays : (more : List Entry) → is_past_token (phase_of h) ≡ true → AllFrom (state_at st.base (log_of h ++ more) (point_of h)) (taken h)
  stays more past = subst (λ db. AllFrom db (taken h)) (sym (state_at_kept st.base (point_of h) (log_of h) more (inr (past_token st h legal past)))) (before past)

  taken_by_effect : (e : Effect) → Fits st h e → ValueBy st.base e h → is_past_token (phase_by e (phase_of h)) ≡ true → AllFrom (state_at st.base (log_of h ++ entries_by e h) (point_by e (point_of h))) (taken_by e (taken h))
  taken_by_effect (Commits session) fits value past = stays (Commit session (writes_of session h) ∷ []) past
  taken_by_effect (Moves Rest n) fits value past = cc
  taken_by_effect (Moves Prepare n) fits value past = cc
  taken_by_effect (Moves Resolve n) fits value past = tt
  taken_by_effect (Moves Capture n) fits value past = rw fits.1 (stays (Token Capture (point_of h) ∷ []) (ap is_past_token fits.0))
  taken_by_effect (Moves Complete n) fits value past = absurd fits
  taken_by_effect (Takes key content) fits value past =
      subst (λ log. AllFrom (state_at st.base log (point_of h)) (taken h ++ (key, content) ∷ [])) (sym (append-nil (log_of h)))
      (all_and_one (state_at st.base (log_of h) (point_of h)) (taken h) key content (before past) value)
  taken_by_effect (Shelves n) fits value past = rw fits.1 (stays (Token Complete (point_of h) ∷ []) (ap is_past_token fits.0))
  taken_by_effect other fits value past = stays [] past

-- from the point's token to the end of its cycle the keys were taken with what they have in the state of the point
pub taken_values : (st : Setting) (h : History) → HasLegalEffects st h → TakesPointValue st.base h → is_past_token (phase_of h) ≡ true → AllFrom (state_at st.base (log_of h) (point_of h)) (taken h)
taken_values st [] legal values past = tt
taken_values st (step ∷ h) legal values past =
    taken_by_effect st h legal.1 (taken_values st h legal.1 values.1) (effect step) (effect_fits st h step.event step.reply legal.0) values.0 past
