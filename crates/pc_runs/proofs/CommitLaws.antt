-- The commits of a session in the log are those of its receipts.
use Rattle.std.proofs.Common.{◌≡◌, ◌==◌, ℕ, Bool, true, false, List, [], ◌∷◌, ◌++◌, map, refl, ap, sym, ◌∙◌, arith}
use Rattle.std.specs.Prelude.{Some, None, if◌then◌else◌}
use Rattle.std.proofs.lemmas.List.{append-nil, map-append}
use Rattle.std.proofs.lemmas.Bool.Decides.{nat_tests}
use Rattle.pc_types.specs.declared.Phase.{Phase}
use Rattle.pc_types.specs.declared.Event.{Event}
use Rattle.pc_types.specs.declared.Event.TheVariants as asked
use Rattle.pc_types.specs.declared.Reply.{Reply}
use Rattle.pc_types.specs.declared.Reply.TheVariants as told
use Rattle.pc_types.specs.declared.Entry.{Entry}
use Rattle.pc_types.specs.declared.Entry.TheVariants as logged
use Rattle.pc_types.specs.declared.Receipt.{Receipt}
use Rattle.pc_types.specs.declared.Write.{Write}
use Rattle.pc_model.specs.History.{History, Effect, effect_of, entries_by, log_of, writes_of}
use Rattle.pc_model.specs.History.Effect.{Moves}
use Rattle.pc_model.specs.Receipts.{receipts_by, own_of, receipt_of}
use Rattle.pc_model.proofs.EffectCases.{begin_case, get_case, write_case, abort_case, move_case, take_case, done_case, join_case, add_case}
use Rattle.pc_model.proofs.OwnCallLaws.{own_writes}
use Rattle.pc_runs.specs.Worked.{commits_of}

pub commits_of-append : (s : ℕ) (log more : List Entry) → commits_of s (log ++ more) ≡ commits_of s log ++ commits_of s more
commits_of-append s [] more = refl
commits_of-append s (logged.Token phase point ∷ log) more = commits_of-append s log more
commits_of-append s (logged.Commit session writes ∷ log) more = by (session == s) (commits_of-append s log more)
  where
    by : (mine : Bool) → commits_of s (log ++ more) ≡ commits_of s log ++ commits_of s more
        → (if mine then writes ∷ commits_of s (log ++ more) else commits_of s (log ++ more)) ≡ (if mine then writes ∷ commits_of s log else commits_of s log) ++ commits_of s more
    by true behind = ap (λ (ws : List (List Write)). writes ∷ ws) behind
    by false behind = behind

-- the writes of the receipts
abbrev pub written_in : List Receipt → List (List Write)
written_in receipts = map (λ (r : Receipt). r.writes) receipts

module _ (s : ℕ) (h : History) (so_far : commits_of s (log_of h) ≡ written_in (own_of s h).receipts) where
  abbrev Goal : Event → Reply → Type 0
  Goal e r = commits_of s (log_of h ++ entries_by (effect_of e r) h) ≡ written_in (receipts_by s e r (own_of s h))

  -- entries that are none of its commits
  more : (es : List Entry) → commits_of s es ≡ [] → commits_of s (log_of h ++ es) ≡ written_in (own_of s h).receipts
  more es none = commits_of-append s (log_of h) es ∙ ap (λ (ws : List (List Write)). commits_of s (log_of h) ++ ws) none ∙ append-nil (commits_of s (log_of h)) ∙ so_far

  committed : (t number : ℕ) → Goal (asked.Commit t) (told.Committed number)
  committed t number = by (t == s) refl
    where
      by : (b : Bool) → (t == s) ≡ b
          → commits_of s (log_of h ++ logged.Commit t (writes_of t h) ∷ [])
          ≡ written_in (if b then (own_of s h).receipts ++ receipt_of s number (own_of s h) ∷ [] else (own_of s h).receipts)
      by true e =
          let is : t ≡ s = grind (arith, nat_tests) in
          let one : commits_of s (logged.Commit t (writes_of t h) ∷ []) ≡ writes_of t h ∷ [] = ap (λ b. if b then writes_of t h ∷ [] else []) e in
          let writes : writes_of t h ≡ (own_of s h).writes = ap (λ n. writes_of n h) is ∙ sym (own_writes s h) in
          commits_of-append s (log_of h) (logged.Commit t (writes_of t h) ∷ [])
          ∙ ap (λ (ws : List (List Write)). ws ++ commits_of s (logged.Commit t (writes_of t h) ∷ [])) so_far
          ∙ ap (λ (ws : List (List Write)). written_in (own_of s h).receipts ++ ws) (one ∙ ap (λ (ws : List Write). ws ∷ []) writes)
          ∙ sym (map-append (λ (r : Receipt). r.writes) (own_of s h).receipts (receipt_of s number (own_of s h) ∷ []))
      by false e = more (logged.Commit t (writes_of t h) ∷ []) (ap (λ b. if b then writes_of t h ∷ [] else []) e)

  abbrev Then : Effect → Type 0
  Then e = commits_of s (entries_by e h) ≡ []

  moved : (phase : Phase) (point : ℕ) → Then (Moves phase point)
  moved phase point = refl

  answered : (t : ℕ) (r : Reply) → Goal (asked.Commit t) r
  answered t (told.Committed number) = committed t number
  answered t other = more [] refl

  step : (e : Event) (r : Reply) → Goal e r
  step (asked.Begin t) r = more _ (begin_case Then refl t r (λ counts. refl))
  step (asked.Get t key) r = more _ (get_case Then refl t key r (λ answer counts. refl) refl refl)
  step (asked.Put t key value) r = more _ (write_case Then refl t key (Some value) r (λ counts. refl) refl refl)
  step (asked.Del t key) r = more _ (write_case Then refl t key None r (λ counts. refl) refl refl)
  step (asked.Add t key delta) r = more _ (add_case Then refl t key delta r (λ sum counts. refl) refl refl)
  step (asked.Commit t) r = answered t r
  step (asked.Abort t) r = more _ (abort_case Then refl t r (λ counts. refl))
  step asked.StartPoint r = more _ (move_case Then refl r moved)
  step asked.Seal r = more _ (move_case Then refl r moved)
  step asked.OpenCapture r = more _ (move_case Then refl r moved)
  step asked.Take r = more _ (take_case Then refl r (λ key content. refl))
  step asked.Done r = more _ (done_case Then refl r (λ point. refl))
  step asked.Rest r = more _ (move_case Then refl r moved)
  step (asked.Join a b) r = more _ (join_case Then refl a b r refl)

-- each commit of the session has its receipt, with its writes, in their order
pub receipts_are_commits : (s : ℕ) (h : History) → commits_of s (log_of h) ≡ written_in (own_of s h).receipts
receipts_are_commits s [] = refl
receipts_are_commits s (c ∷ h) = step s h (receipts_are_commits s h) c.event c.reply
