-- What each call makes of what its session kept, and what is answered to a session that has no transaction open.
use Rattle.pc_types.specs.declared.Change.TheVariants.{Add}
use Rattle.std.proofs.Common.{◌≡◌, ◌⊎◌, ◌==◌, not, ℕ, Bool, true, false, true≢false, cond, List, [], ◌∷◌, ◌++◌, refl, ap, sym, ◌∙◌, subst, eq-eqb}
use Rattle.std.specs.Prelude.{Option, Some, None, MatchOption, ℤ}
use Rattle.pc_types.specs.declared.Event.{Event}
use Rattle.pc_types.specs.declared.Event.TheVariants as asked
use Rattle.pc_types.specs.declared.Reply.{Reply}
use Rattle.pc_types.specs.declared.Reply.TheVariants as told
use Rattle.pc_types.specs.declared.Refusal.{Refusal}
use Rattle.pc_types.specs.declared.Refusal.TheVariants as why
use Rattle.pc_types.specs.declared.Receipt.{Receipt}
use Rattle.pc_types.specs.declared.Step.{Step}
use Rattle.pc_types.specs.declared.Write.{Write}
use Rattle.pc_types.specs.Changes.{change_to}
use Rattle.pc_model.specs.Database.{with_write, write_of}
use Rattle.pc_model.specs.History.{History, is_open, has_died}
use Rattle.pc_model.specs.Locks.{is_waiting}
use Rattle.pc_model.specs.Replies.{Setting, first_refusal, or_else, no_session, is_full, too_many, log_is_full, certain, Answers, IsLegal, IsLegalHistory, add_causes}
use Rattle.pc_model.specs.Calls.{step_of, session_of, calls_of, Extends, IsAnswered, AsksOpen}
use Rattle.pc_model.specs.Calls.AsksOpen.{Gets, Puts, Dels, Commits, Aborts, Adds}
use Rattle.pc_model.specs.Receipts.{Read, with_read, Own, own_record, receipt_of, own_by, own_of}
use Rattle.pc_model.proofs.BeginningLaws.{calls_of-append, beginning_self}
use Rattle.pc_model.proofs.OwnCallLaws.{own_own}

pub makes_own : (st : Setting) (before : History) (c : Step) (after : History) → Extends st before c after → own_of (session_of c.event) after ≡ own_by (session_of c.event) c (own_of (session_of c.event) before)
makes_own st before c after x =
    let n : ℕ = session_of c.event in
    let between : History = x.1.0 in
    let calls : calls_of n (between ++ before) ≡ calls_of n before = calls_of-append n between before ∙ ap (λ l. l ++ calls_of n before) x.1.2 in
    ap (own_of n) x.1.1 ∙ ap (own_by n c) (sym (own_own n (between ++ before)) ∙ (ap (own_of n) calls ∙ own_own n before))

own_case : {A : Type 0} (n : ℕ) (x y : A) → x ≡ cond (n == n) x y
own_case n x y = sym (ap (λ (b : Bool). cond b x y) (eq-eqb n n refl))

module _ (st : Setting) (n : ℕ) (before after : History) (o : Bool) (ws : List Write) (rs : List Read) (ks : List Receipt) (is : own_record o ws rs ks ≡ own_of n before) where
  after_call : (e : Event) (r : Reply) → session_of e ≡ n → Extends st before (step_of e r) after → own_by n (step_of e r) (own_record o ws rs ks) ≡ own_of n after
  after_call e r mine x = ap (own_by n (step_of e r)) is ∙ sym (subst (λ (m : ℕ). own_of m after ≡ own_by m (step_of e r) (own_of m before)) mine (makes_own st before (step_of e r) after x))

  pub found_own : (key value : List ℕ) → Extends st before (step_of (asked.Get n key) (told.Found value)) after → own_record o ws (with_read ws rs key (Some value)) ks ≡ own_of n after
  found_own key value x = (λ i. own_record o ws (own_case n (with_read ws rs key (Some value)) rs i) ks) ∙ after_call (asked.Get n key) (told.Found value) refl x

  pub absent_own : (key : List ℕ) → Extends st before (step_of (asked.Get n key) told.Absent) after → own_record o ws (with_read ws rs key None) ks ≡ own_of n after
  absent_own key x = (λ i. own_record o ws (own_case n (with_read ws rs key None) rs i) ks) ∙ after_call (asked.Get n key) told.Absent refl x

  pub get_died_own : (key : List ℕ) → Extends st before (step_of (asked.Get n key) told.Died) after → own_record o ws rs ks ≡ own_of n after
  get_died_own key x = after_call (asked.Get n key) told.Died refl x

  pub put_own : (key value : List ℕ) → Extends st before (step_of (asked.Put n key value) told.Ok) after → own_record o (with_write ws (write_of key (change_to (Some value)))) rs ks ≡ own_of n after
  put_own key value x = (λ i. own_record o (own_case n (with_write ws (write_of key (change_to (Some value)))) ws i) rs ks) ∙ after_call (asked.Put n key value) told.Ok refl x

  pub put_died_own : (key value : List ℕ) → Extends st before (step_of (asked.Put n key value) told.Died) after → own_record o ws rs ks ≡ own_of n after
  put_died_own key value x = after_call (asked.Put n key value) told.Died refl x

  pub del_own : (key : List ℕ) → Extends st before (step_of (asked.Del n key) told.Ok) after → own_record o (with_write ws (write_of key (change_to None))) rs ks ≡ own_of n after
  del_own key x = (λ i. own_record o (own_case n (with_write ws (write_of key (change_to None))) ws i) rs ks) ∙ after_call (asked.Del n key) told.Ok refl x

  pub del_died_own : (key : List ℕ) → Extends st before (step_of (asked.Del n key) told.Died) after → own_record o ws rs ks ≡ own_of n after
  del_died_own key x = after_call (asked.Del n key) told.Died refl x

  pub add_own : (key : List ℕ) (delta sum : ℤ) → Extends st before (step_of (asked.Add n key delta) (told.Sum sum)) after → own_record o (with_write ws (write_of key (Add delta))) rs ks ≡ own_of n after
  add_own key delta sum x = (λ i. own_record o (own_case n (with_write ws (write_of key (Add delta))) ws i) rs ks) ∙ after_call (asked.Add n key delta) (told.Sum sum) refl x

  pub add_died_own : (key : List ℕ) (delta : ℤ) → Extends st before (step_of (asked.Add n key delta) told.Died) after → own_record o ws rs ks ≡ own_of n after
  add_died_own key delta x = after_call (asked.Add n key delta) told.Died refl x

  pub committed_own : (number : ℕ) → Extends st before (step_of (asked.Commit n) (told.Committed number)) after → own_record false ws rs (ks ++ receipt_of n number (own_record o ws rs ks) ∷ []) ≡ own_of n after
  committed_own number x = (λ i. own_record (own_case n false o i) ws rs (own_case n (ks ++ receipt_of n number (own_record o ws rs ks) ∷ []) ks i)) ∙ after_call (asked.Commit n) (told.Committed number) refl x

  pub aborted_own : Extends st before (step_of (asked.Abort n) told.Aborted) after → own_record false ws rs ks ≡ own_of n after
  aborted_own x = (λ i. own_record (own_case n false o i) ws rs ks) ∙ after_call (asked.Abort n) told.Aborted refl x

pub begun_own : (st : Setting) (n : ℕ) (before after : History) (ks : List Receipt) (t : ℕ) → ks ≡ (own_of n before).receipts → Extends st before (step_of (asked.Begin n) (told.Begun t)) after → own_record true [] [] ks ≡ own_of n after
begun_own st n before after ks t is x =
    let o : Own = own_of n before in
    (λ i. own_record (own_case n true o.is_open i) (own_case n [] o.writes i) (own_case n [] o.reads i) (is i)) ∙ after_call st n before after o.is_open o.writes o.reads o.receipts refl (asked.Begin n) (told.Begun t) refl x

-- the second cause is the reply if the first doesn't apply
second : (a b : Bool) (more : List (Bool × Refusal)) → a ≡ false → b ≡ false → first_refusal ((a, why.NoSession) ∷ (not b, why.NoTransaction) ∷ more) ≡ Some (told.Refused why.NoTransaction)
second false false more known idle = refl
second false true more known idle = absurd (true≢false idle)
second true b more known idle = absurd (true≢false known)

module _ (st : Setting) (s : ℕ) (h : History) (known : no_session st s ≡ false) (idle : is_open s h ≡ false) where
  due : (o : Option Reply) (X : Type 0) → o ≡ Some (told.Refused why.NoTransaction) → MatchOption o (X ⊎ (told.Refused why.NoTransaction ≡ told.Refused why.OutOfMemory)) (λ due. told.Refused why.NoTransaction ≡ due)
  due o X is = subst (λ (p : Option Reply). MatchOption p (X ⊎ (told.Refused why.NoTransaction ≡ told.Refused why.OutOfMemory)) (λ due. told.Refused why.NoTransaction ≡ due)) (sym is) refl

  abbrev waiting : List (Bool × Refusal)
  waiting = (is_waiting s h, why.StillWaiting) ∷ (has_died s h, why.MustAbort) ∷ []

  -- if an existing session has no open transaction, the reply says so
  pub idle_is_told : (e : Event) → AsksOpen s e → IsLegal st h e (told.Refused why.NoTransaction)
  idle_is_told e (Gets key) = due (certain st h e) (Answers st h e (told.Refused why.NoTransaction)) (second (no_session st s) (is_open s h) (waiting ++ (is_full st key h, why.Full) ∷ []) known idle)
  idle_is_told e (Puts key value) =
      due (certain st h e) (Answers st h e (told.Refused why.NoTransaction)) (second (no_session st s) (is_open s h) (waiting ++ (too_many s key h, why.TooManyWrites) ∷ (is_full st key h, why.Full) ∷ []) known idle)
  idle_is_told e (Dels key) =
      due (certain st h e) (Answers st h e (told.Refused why.NoTransaction)) (second (no_session st s) (is_open s h) (waiting ++ (too_many s key h, why.TooManyWrites) ∷ (is_full st key h, why.Full) ∷ []) known idle)
  idle_is_told e (Adds key delta) =
      due (certain st h e) (Answers st h e (told.Refused why.NoTransaction)) (second (no_session st s) (is_open s h) (waiting ++ (too_many s key h, why.TooManyWrites) ∷ (is_full st key h, why.Full) ∷ add_causes st s key delta h) known idle)
  idle_is_told e Commits = due (certain st h e) (Answers st h e (told.Refused why.NoTransaction)) (second (no_session st s) (is_open s h) (waiting ++ (log_is_full h, why.LogFull) ∷ []) known idle)
  idle_is_told e Aborts = due (certain st h e) ⊥ (ap (λ o. or_else o (Some told.Aborted)) (second (no_session st s) (is_open s h) [] known idle))

  pub idle_is_answered : IsLegalHistory st h → (e : Event) → AsksOpen s e → IsAnswered st s h e (told.Refused why.NoTransaction)
  idle_is_answered legal e asks = (h, legal, (beginning_self h, refl), idle_is_told e asks)
