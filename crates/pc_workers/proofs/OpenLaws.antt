-- Whether a session's transaction is open, call by call; and that just an open one is aborted.
use Rattle.std.proofs.Common.{◌≡◌, ◌==◌, ◌⊎◌, not, ℕ, Bool, true, false, true≢false, cond, List, [], ◌∷◌, ◌++◌, refl, ap, sym, ◌∙◌, subst, eq-eqb, arith}
use Rattle.std.specs.Prelude.{Option, Some, None, MatchOption, IfSome, ℤ}
use Rattle.std.proofs.lemmas.Bool.Decides.{nat_tests}
use Rattle.pc_types.specs.declared.Event.{Event}
use Rattle.pc_types.specs.declared.Event.TheVariants as asked
use Rattle.pc_types.specs.declared.Refusal.{Refusal}
use Rattle.pc_types.specs.declared.Refusal.TheVariants as why
use Rattle.pc_types.specs.declared.Reply.{Reply}
use Rattle.pc_types.specs.declared.Reply.TheVariants as told
use Rattle.pc_model.specs.History.{History, effect_of, is_open, open_by}
use Rattle.pc_model.specs.Replies.{Setting, first_refusal, or_else, no_session, certain, IsLegal, IsLegalHistory}
use Rattle.pc_model.specs.Calls.{counts, step_of, session_of, calls_of, Extends, IsAnswered}
use Rattle.pc_model.specs.Receipts.{Own, own_of}
use Rattle.pc_model.proofs.BeginningLaws.{calls_of-append}
use Rattle.pc_model.proofs.EffectCases.{begin_case, get_case, write_case, commit_case, abort_case, move_case, take_case, done_case, join_case, add_case}
use Rattle.pc_model.proofs.EffectLaws.{first_refusal_refuses, no_first}
use Rattle.pc_model.proofs.OwnCallLaws.{own_own, own_open}
use Rattle.pc_model.proofs.SessionCallLaws.{makes_own}

itself : (s : ℕ) → (s == s) ≡ true
itself s = eq-eqb s s refl

-- the session's own calls determine it
pub open_by_calls : (s : ℕ) (one other : History) → calls_of s one ≡ calls_of s other → is_open s one ≡ is_open s other
open_by_calls s one other same =
    let by_own : own_of s one ≡ own_of s other = sym (own_own s one) ∙ ap (own_of s) same ∙ own_own s other in
    sym (own_open s one) ∙ ap (λ (o : Own). o.is_open) by_own ∙ own_open s other

module _ (st : Setting) (s : ℕ) (before after : History) where
  after_call : (event : Event) (reply : Reply) → session_of event ≡ s → Extends st before (step_of event reply) after → is_open s after ≡ open_by s (effect_of event reply) (is_open s before)
  after_call event reply mine ext =
      let n : ℕ = session_of event in
      let is : is_open n after ≡ open_by n (effect_of event reply) (is_open n before) =
      sym (own_open n after) ∙ ap (λ (o : Own). o.is_open) (makes_own st before (step_of event reply) after ext) ∙ ap (open_by n (effect_of event reply)) (own_open n before) in
      subst (λ (m : ℕ). is_open m after ≡ open_by m (effect_of event reply) (is_open m before)) mine is

  pub begun_open : (t : ℕ) → Extends st before (step_of (asked.Begin s) (told.Begun t)) after → is_open s after ≡ true
  begun_open t ext = after_call (asked.Begin s) (told.Begun t) refl ext ∙ ap (λ b. cond b true (is_open s before)) (itself s)

  pub committed_closed : (n : ℕ) → Extends st before (step_of (asked.Commit s) (told.Committed n)) after → is_open s after ≡ false
  committed_closed n ext = after_call (asked.Commit s) (told.Committed n) refl ext ∙ ap (λ b. cond b false (is_open s before)) (itself s)

  pub aborted_closed : Extends st before (step_of (asked.Abort s) told.Aborted) after → is_open s after ≡ false
  aborted_closed ext = after_call (asked.Abort s) told.Aborted refl ext ∙ ap (λ b. cond b false (is_open s before)) (itself s)

  -- a read or a write leaves it
  pub read_stays : (key : List ℕ) (reply : Reply) → Extends st before (step_of (asked.Get s key) reply) after → is_open s after ≡ is_open s before
  read_stays key reply ext = after_call (asked.Get s key) reply refl ext ∙ get_case (λ e. open_by s e (is_open s before) ≡ is_open s before) refl s key reply (λ answer counted. refl) refl refl

  pub put_stays : (key value : List ℕ) (reply : Reply) → Extends st before (step_of (asked.Put s key value) reply) after → is_open s after ≡ is_open s before
  put_stays key value reply ext = after_call (asked.Put s key value) reply refl ext ∙ write_case (λ e. open_by s e (is_open s before) ≡ is_open s before) refl s key (Some value) reply (λ counted. refl) refl refl

  pub del_stays : (key : List ℕ) (reply : Reply) → Extends st before (step_of (asked.Del s key) reply) after → is_open s after ≡ is_open s before
  del_stays key reply ext = after_call (asked.Del s key) reply refl ext ∙ write_case (λ e. open_by s e (is_open s before) ≡ is_open s before) refl s key None reply (λ counted. refl) refl refl

  pub add_stays : (key : List ℕ) (delta : ℤ) (reply : Reply) → Extends st before (step_of (asked.Add s key delta) reply) after → is_open s after ≡ is_open s before
  add_stays key delta reply ext = after_call (asked.Add s key delta) reply refl ext ∙ add_case (λ e. open_by s e (is_open s before) ≡ is_open s before) refl s key delta reply (λ sum counted. refl) refl refl

-- ---- who has a transaction open is a session of the store

-- if the reply counts no refusal is certain
none_certain : (o : Option Reply) (Answer : Type 0) (reply : Reply) → IfSome o (λ due. (r : Refusal) × (due ≡ told.Refused r)) → counts reply ≡ true → MatchOption o (Answer ⊎ (reply ≡ told.Refused why.OutOfMemory)) (λ due. reply ≡ due) → o ≡ None
none_certain None Answer reply refusal counted legal = refl
none_certain (Some due) Answer reply refusal counted legal = absurd (true≢false (sym counted ∙ ap counts (legal ∙ refusal.1)))

module _ (st : Setting) (s : ℕ) where
  begin_known : (h : History) (t : ℕ) (reply : Reply) → counts reply ≡ true → IsLegal st h (asked.Begin t) reply → no_session st t ≡ false
  begin_known h t reply counted legal =
      let causes = (is_open t h, why.AlreadyBegun) ∷ (_, why.LogFull) ∷ [] in
      no_first (no_session st t, why.NoSession) causes (none_certain (certain st h (asked.Begin t)) _ reply (first_refusal_refuses ((no_session st t, why.NoSession) ∷ causes)) counted legal)

  abbrev Tells : History → Bool → Type 0
  Tells h is = is ≡ true → no_session st s ≡ false

  known_by : (h : History) → Tells h (is_open s h) → (event : Event) (reply : Reply) → IsLegal st h event reply → Tells h (open_by s (effect_of event reply) (is_open s h))
  known_by h was (asked.Begin t) reply legal = begin_case (λ e. Tells h (open_by s e (is_open s h))) was t reply (λ counted. by_test (t == s) refl (begin_known h t reply counted legal))
    where
      by_test : (b : Bool) → (t == s) ≡ b → no_session st t ≡ false → Tells h (cond b true (is_open s h))
      by_test true is known = λ _. subst (λ (n : ℕ). no_session st n ≡ false) (grind (arith, nat_tests)) known
      by_test false is known = was
  known_by h was (asked.Get t key) reply legal = get_case (λ e. Tells h (open_by s e (is_open s h))) was t key reply (λ answer counted. was) was was
  known_by h was (asked.Put t key value) reply legal = write_case (λ e. Tells h (open_by s e (is_open s h))) was t key (Some value) reply (λ counted. was) was was
  known_by h was (asked.Del t key) reply legal = write_case (λ e. Tells h (open_by s e (is_open s h))) was t key None reply (λ counted. was) was was
  known_by h was (asked.Add t key delta) reply legal = add_case (λ e. Tells h (open_by s e (is_open s h))) was t key delta reply (λ sum counted. was) was was
  known_by h was (asked.Commit t) reply legal = commit_case (λ e. Tells h (open_by s e (is_open s h))) was t reply (λ counted. closes h was (t == s))
    where
      closes : (h : History) → Tells h (is_open s h) → (b : Bool) → Tells h (cond b false (is_open s h))
      closes h was true = λ is. absurd (true≢false (sym is))
      closes h was false = was
  known_by h was (asked.Abort t) reply legal = abort_case (λ e. Tells h (open_by s e (is_open s h))) was t reply (λ counted. closes h was (t == s))
    where
      closes : (h : History) → Tells h (is_open s h) → (b : Bool) → Tells h (cond b false (is_open s h))
      closes h was true = λ is. absurd (true≢false (sym is))
      closes h was false = was
  known_by h was asked.StartPoint reply legal = move_case (λ e. Tells h (open_by s e (is_open s h))) was reply (λ phase point. was)
  known_by h was asked.Seal reply legal = move_case (λ e. Tells h (open_by s e (is_open s h))) was reply (λ phase point. was)
  known_by h was asked.OpenCapture reply legal = move_case (λ e. Tells h (open_by s e (is_open s h))) was reply (λ phase point. was)
  known_by h was asked.Take reply legal = take_case (λ e. Tells h (open_by s e (is_open s h))) was reply (λ key content. was)
  known_by h was asked.Done reply legal = done_case (λ e. Tells h (open_by s e (is_open s h))) was reply (λ point. was)
  known_by h was asked.Rest reply legal = move_case (λ e. Tells h (open_by s e (is_open s h))) was reply (λ phase point. was)
  known_by h was (asked.Join a b) reply legal = join_case (λ e. Tells h (open_by s e (is_open s h))) was a b reply was

  pub open_is_known : (h : History) → IsLegalHistory st h → is_open s h ≡ true → no_session st s ≡ false
  open_is_known [] legal is = absurd (true≢false (sym is))
  open_is_known (c ∷ h) legal is = known_by h (open_is_known h legal.1) c.event c.reply legal.0 is

  -- ---- an abort

  abbrev WhenKnown : Bool → Bool → Option Reply
  WhenKnown unknown is = or_else (first_refusal ((unknown, why.NoSession) ∷ (not is, why.NoTransaction) ∷ [])) (Some told.Aborted)

  only_aborted : (unknown is : Bool) → unknown ≡ false → is ≡ true → (r : Refusal) (A : Type 0) → MatchOption (WhenKnown unknown is) A (λ due. told.Refused r ≡ due) → ⊥
  only_aborted false true known open_now r A legal = absurd cc
  only_aborted true is known open_now r A legal = absurd (true≢false known)
  only_aborted false false known open_now r A legal = absurd (true≢false (sym open_now))

  only_refused : (unknown is : Bool) → is ≡ false → (A : Type 0) → MatchOption (WhenKnown unknown is) A (λ due. told.Aborted ≡ due) → ⊥
  only_refused true false idle A legal = absurd cc
  only_refused false false idle A legal = absurd cc
  only_refused unknown true idle A legal = absurd (true≢false idle)

  -- of an open transaction it isn't refused
  pub open_is_aborted : (seen : History) → is_open s seen ≡ true → (r : Refusal) → IsAnswered st s seen (asked.Abort s) (told.Refused r) → ⊥
  open_is_aborted seen is r (h, legal, calls, answer) =
      let there : is_open s h ≡ true = open_by_calls s h seen calls.1 ∙ is in
      only_aborted (no_session st s) (is_open s h) (open_is_known h legal there) there r _ answer

  -- and if none is open no abort is answered
  pub idle_is_not_aborted : (before after : History) → is_open s before ≡ false → Extends st before (step_of (asked.Abort s) told.Aborted) after → ⊥
  idle_is_not_aborted before after idle ext =
      let between : History = ext.1.0 in
      let same : calls_of s (between ++ before) ≡ calls_of s before = calls_of-append s between before ∙ ap (λ l. l ++ calls_of s before) ext.1.2 in
      let legal : IsLegalHistory st (step_of (asked.Abort s) told.Aborted ∷ (between ++ before)) = subst (IsLegalHistory st) ext.1.1 ext.0 in
      only_refused (no_session st s) (is_open s (between ++ before)) (open_by_calls s (between ++ before) before same ∙ idle) _ legal.0
