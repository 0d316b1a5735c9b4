-- What is read off a session's own calls.
use Rattle.std.proofs.Common.{◌≡◌, ◌==◌, ◌&&◌, ℕ, Bool, true, false, cond, List, [], ◌∷◌, refl, ap, sym, ◌∙◌}
use Rattle.std.specs.Prelude.{⊤, Some, None}
use Rattle.pc_types.specs.declared.Event.{Event}
use Rattle.pc_types.specs.declared.Event.TheVariants as asked
use Rattle.pc_types.specs.declared.Reply.{Reply}
use Rattle.pc_types.specs.declared.Reply.TheVariants as told
use Rattle.pc_types.specs.declared.Step.{Step}
use Rattle.pc_types.specs.declared.Write.{Write}
use Rattle.pc_model.specs.History.{History, Effect, effect, effect_of, writes_by, writes_of, open_by, is_open}
use Rattle.pc_model.specs.History.Effect.{Begins, Reads, Writes, Adds, Commits, Aborts}
use Rattle.pc_model.specs.Calls.{counts, session_of, is_call_of, calls_of}
use Rattle.pc_model.specs.Receipts.{Read, reads_by, Own, own_record, receipts_by_commit, receipts_by, own_by, own_of}
use Rattle.pc_model.proofs.EffectCases.{begin_case, get_case, write_case, commit_case, abort_case, move_case, take_case, done_case, join_case, add_case}

keep : {A : Type 0} (b : Bool) (x y : A) → b ≡ false → cond b x y ≡ y
keep b x y e = ap (λ (t : Bool). cond t x y) e

-- an effect that leaves what this session keeps: no begin, read, write or end of a transaction of its own
abbrev IsOthers : ℕ → Effect → Type 0
IsOthers s (Begins t) = (t == s) ≡ false
IsOthers s (Reads t key answer) = (t == s) ≡ false
IsOthers s (Writes t key value) = (t == s) ≡ false
IsOthers s (Adds t key delta sum) = (t == s) ≡ false
IsOthers s (Commits t) = (t == s) ≡ false
IsOthers s (Aborts t) = (t == s) ≡ false
IsOthers s other = ⊤

not_both : (b c : Bool) → (b && c) ≡ false → b ≡ true → c ≡ false
not_both true c e counted = e
not_both false c e counted = cc

module _ (s : ℕ) where
  -- another's step has such an effect
  step_is_others : (e : Event) (r : Reply) → (counts r && (session_of e == s)) ≡ false → IsOthers s (effect_of e r)
  step_is_others (asked.Begin t) r is = begin_case (IsOthers s) tt t r (not_both (counts r) (t == s) is)
  step_is_others (asked.Get t key) r is = get_case (IsOthers s) tt t key r (λ answer. not_both (counts r) (t == s) is) tt tt
  step_is_others (asked.Put t key value) r is = write_case (IsOthers s) tt t key (Some value) r (not_both (counts r) (t == s) is) tt tt
  step_is_others (asked.Del t key) r is = write_case (IsOthers s) tt t key None r (not_both (counts r) (t == s) is) tt tt
  step_is_others (asked.Add t key delta) r is = add_case (IsOthers s) tt t key delta r (λ sum. not_both (counts r) (t == s) is) tt tt
  step_is_others (asked.Commit t) r is = commit_case (IsOthers s) tt t r (not_both (counts r) (t == s) is)
  step_is_others (asked.Abort t) r is = abort_case (IsOthers s) tt t r (not_both (counts r) (t == s) is)
  step_is_others asked.StartPoint r is = move_case (IsOthers s) tt r (λ phase point. tt)
  step_is_others asked.Seal r is = move_case (IsOthers s) tt r (λ phase point. tt)
  step_is_others asked.OpenCapture r is = move_case (IsOthers s) tt r (λ phase point. tt)
  step_is_others asked.Take r is = take_case (IsOthers s) tt r (λ key content. tt)
  step_is_others asked.Done r is = done_case (IsOthers s) tt r (λ point. tt)
  step_is_others asked.Rest r is = move_case (IsOthers s) tt r (λ phase point. tt)
  step_is_others (asked.Join a b) r is = join_case (IsOthers s) tt a b r tt

  -- it leaves whether the session's transaction is open
  open_other : (was : Bool) (e : Effect) → IsOthers s e → open_by s e was ≡ was
  open_other was (Begins t) is = keep (t == s) true was is
  open_other was (Commits t) is = keep (t == s) false was is
  open_other was (Aborts t) is = keep (t == s) false was is
  open_other was other is = refl

  -- its writes
  writes_other : (ws : List Write) (e : Effect) → IsOthers s e → writes_by s e ws ≡ ws
  writes_other ws (Begins t) is = keep (t == s) [] ws is
  writes_other ws (Writes t key value) is = keep (t == s) _ ws is
  writes_other ws (Adds t key delta sum) is = keep (t == s) _ ws is
  writes_other ws other is = refl

  -- its reads
  reads_other : (ws : List Write) (rs : List Read) (e : Effect) → IsOthers s e → reads_by s e ws rs ≡ rs
  reads_other ws rs (Begins t) is = keep (t == s) [] rs is
  reads_other ws rs (Reads t key answer) is = keep (t == s) _ rs is
  reads_other ws rs other is = refl

module _ (s : ℕ) (o : Own) where
  kept_commit : (t : ℕ) (r : Reply) → (counts r && (t == s)) ≡ false → receipts_by_commit s t r o ≡ o.receipts
  kept_commit t (told.Committed n) e = keep (t == s) _ o.receipts e
  kept_commit t other e = refl

  -- and its receipts
  kept_other : (e : Event) (r : Reply) → (counts r && (session_of e == s)) ≡ false → receipts_by s e r o ≡ o.receipts
  kept_other (asked.Commit t) r is = kept_commit t r is
  kept_other other r is = refl

  pub own_other : (c : Step) → is_call_of s c ≡ false → own_by s c o ≡ o
  own_other c e =
      let others = step_is_others s c.event c.reply e in
      (λ i. own_record (open_other s o.is_open (effect c) others i) (writes_other s o.writes (effect c) others i) (reads_other s o.writes o.reads (effect c) others i) (kept_other c.event c.reply e i))

pub own_own : (s : ℕ) (history : History) → own_of s (calls_of s history) ≡ own_of s history
own_own s [] = refl
own_own s (c ∷ h) = by_case (own_own s h) (is_call_of s c) refl
  where
    by_case : own_of s (calls_of s h) ≡ own_of s h → (b : Bool) → is_call_of s c ≡ b → own_of s (cond b (c ∷ calls_of s h) (calls_of s h)) ≡ own_by s c (own_of s h)
    by_case before true e = ap (own_by s c) before
    by_case before false e = before ∙ sym (own_other s (own_of s h) c e)

-- its transaction is open if the history says so
pub own_open : (s : ℕ) (history : History) → (own_of s history).is_open ≡ is_open s history
own_open s [] = refl
own_open s (c ∷ h) = ap (open_by s (effect c)) (own_open s h)

-- what it has written is what the history says
pub own_writes : (s : ℕ) (history : History) → (own_of s history).writes ≡ writes_of s history
own_writes s [] = refl
own_writes s (c ∷ h) = ap (writes_by s (effect c)) (own_writes s h)

pub writes_own : (s : ℕ) (history : History) → writes_of s (calls_of s history) ≡ writes_of s history
writes_own s history = sym (own_writes s (calls_of s history)) ∙ ap (λ (o : Own). o.writes) (own_own s history) ∙ own_writes s history
