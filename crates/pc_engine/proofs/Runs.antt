-- Histories of whole runs.
use Rattle.std.proofs.Common.{◌≡◌, ℕ, ◌+◌, ◌<◌, ◌≤◌, List, [], ◌∷◌, ◌++◌, length, take, get_or, sym, ap, ◌∙◌, arith, subst}
use Rattle.std.proofs.lemmas.List.{take_more, take_all}
use Rattle.std.proofs.lemmas.Grind.{common_steps}
use Rattle.pc_types.specs.declared.Event.{Event}
use Rattle.pc_types.specs.declared.Reply.{Reply}
use Rattle.pc_model.specs.History.{History}
use Rattle.pc_model.specs.Replies.{IsLegalHistory, Setting}
use Rattle.pc_engine.proofs.Owing.{keeps_points}
use Rattle.pc_engine.proofs.Serial.{is_serial}
use Rattle.pc_engine.specs.Store.{Store, setting_of}
use Rattle.pc_engine.specs.Stands.{Stands, Follows}
use Rattle.pc_engine.specs.Runs.{IsRun, history_after}

-- one more event with its reply comes on top
history_after-push : (history : History) (events : List Event) (replies : List Reply) (e : Event) (r : Reply) → length replies ≡ length events →
    history_after history (events ++ e ∷ []) (replies ++ r ∷ []) ≡ record { event = e; reply = r } ∷ history_after history events replies
history_after-push history [] [] e r same = refl_of
  where
    refl_of : history_after history ([] ++ e ∷ []) ([] ++ r ∷ []) ≡ record { event = e; reply = r } ∷ history
    refl_of = cc
history_after-push history [] (y ∷ ys) e r same = absurd (omega (arith, same))
history_after-push history (x ∷ xs) [] e r same = absurd (omega (arith, same))
history_after-push history (x ∷ xs) (y ∷ ys) e r same = history_after-push (record { event = x; reply = y } ∷ history) xs ys e r (omega (arith, same))

-- a run goes on by one event
pub goes_on : (w new : Store) (events : List Event) (i : ℕ) (replies more : List Reply) (e : Event) (r : Reply) → i < length events → e ≡ get_or events i e → more ≡ replies ++ r ∷ [] →
    length replies ≡ length (take i events) → Stands w (history_after [] (take i events) replies) →
    ((history : History) → Stands w history → Follows (setting_of w) history e r new) →
    (length more ≡ length (take (i + 1) events)) × Stands new (history_after [] (take (i + 1) events) more)
goes_on w new events i replies more e r lt is pushed even stands follows =
    let longer : take (i + 1) events ≡ take i events ++ e ∷ [] = take_more events i e lt ∙ ap (λ x. take i events ++ x ∷ []) (sym is) in
    let next : history_after [] (take (i + 1) events) more ≡ record { event = e; reply = r } ∷ history_after [] (take i events) replies =
    ap (λ es. history_after [] es more) longer ∙ ap (history_after [] (take i events ++ e ∷ [])) pushed ∙ history_after-push [] (take i events) replies e r even in
    (rw (longer, pushed) (grind (arith, common_steps, even)), rw next (follows (history_after [] (take i events) replies) stands).stands)

-- and ends after the last
pub ended : (st : Setting) (w : Store) (events : List Event) (i : ℕ) (replies : List Reply) → length events ≤ i → setting_of w ≡ st → length replies ≡ length (take i events) →
    Stands w (history_after [] (take i events) replies) → IsRun st events replies w
ended st w events i replies le same even stands =
    let all : take i events ≡ events = take_all i events le in
    let then : Stands w (history_after [] events replies) = rw all at stands in
    record {
      answered = rw all at even;
      setting = same;
      legal = subst (λ s. IsLegalHistory s (history_after [] events replies)) same then.legal;
      stands = then;
      serial = is_serial w (history_after [] events replies) then;
      points = keeps_points w (history_after [] events replies) then;
    }
