-- The facts of its commits that a client has once it has waited for the log.
use Rattle.std.proofs.Common.{◌≡◌, ◌<◌, ◌-◌, ℕ, Bool, true, false, true≢false, List, [], ◌∷◌, ◌++◌, length, length-append, append-nil, Option, Some, None, refl, sym, ap, subst, ◌∙◌, inl, inr, arith}
use Rattle.std.specs.Prelude.{IfSome, MatchOption, ◌+◌, ◌⊎◌, map}
use Rattle.pc_types.specs.declared.Entry.TheVariants as logged
use Rattle.pc_types.specs.declared.Event.TheVariants as asked
use Rattle.pc_types.specs.declared.Reply.{Reply}
use Rattle.pc_types.specs.declared.Reply.TheVariants as told
use Rattle.pc_types.specs.declared.Refusal.{Refusal}
use Rattle.pc_types.specs.declared.Refusal.TheVariants as why
use Rattle.pc_types.specs.declared.Receipt.{Receipt}
use Rattle.pc_types.specs.declared.Write.{Write}
use Rattle.pc_model.specs.History.{History, log_of, writes_of}
use Rattle.pc_model.specs.Replies.{Setting, IsLegalHistory, first_refusal, transaction_causes, log_is_full}
use Rattle.pc_model.specs.Calls.{step_of, Extends, IsBeginning}
use Rattle.pc_model.proofs.BeginningLaws.{beginning_self, beginning_trans}
use Rattle.pc_model.proofs.EffectLaws.{first_refusal_refuses}
use Rattle.pc_shared.specs.Sitters.{Sitter, sitter}
use Rattle.pc_shared.specs.Written.{AreOut}
use Rattle.pc_workers.specs.Clients.{HasCommitted, done_by}
use Rattle.pc_workers.specs.Waits.{IsHeld, IsSeatedOut, HasWaited, KeepsMark, AreHeld}
use Rattle.pc_workers.specs.declared.clients.EndedTransaction.{EndedTransaction}
use Rattle.pc_workers.specs.declared.clients.EndedTransaction.TheVariants.{Committed, Died, Refused}

-- a commit is answered with one number
commit_answer : (n m : ℕ) (o : Option Reply) → IfSome o (λ due. (r : Refusal) × (due ≡ told.Refused r)) → MatchOption o ((told.Committed n ≡ told.Committed m) ⊎ (told.Committed n ≡ told.Refused why.OutOfMemory)) (λ due. told.Committed n ≡ due) → n ≡ m
commit_answer n m None is (inl e) = cc (e)
commit_answer n m None is (inr e) = cc (e)
commit_answer n m (Some due) is e = let f = e ∙ is.1 in cc (f)

-- which is that of the last entry of the log
pub last_number : (st : Setting) (before after : History) (s n : ℕ) → Extends st before (step_of (asked.Commit s) (told.Committed n)) after → n ≡ length (log_of after)
last_number st before after s n x =
    let h : History = x.1.0 ++ before in
    let legal : IsLegalHistory st (step_of (asked.Commit s) (told.Committed n) ∷ h) = subst (IsLegalHistory st) x.1.1 x.0 in
    let causes = transaction_causes st s h ++ (log_is_full h, why.LogFull) ∷ [] in
    commit_answer n (length (log_of h) + 1) (first_refusal causes) (first_refusal_refuses causes) legal.0
    ∙ (sym (length-append (log_of h) (logged.Commit s (writes_of s h) ∷ [])) ∙ ap (λ (l : History). length (log_of l)) (sym x.1.1))

-- the mark of the log's end, over more than one call
pub keeps_self : {X : Type 0} (P : X → Type 0) (a : Option X) → KeepsMark P a a
keeps_self P a = record { stays = λ e. e; ours = λ h. h }

pub keeps_then : {X : Type 0} (P : X → Type 0) (a b c : Option X) → KeepsMark P a b → KeepsMark P b c → KeepsMark P a c
keeps_then P a b c p q = record { stays = λ e. q.stays (p.stays e); ours = λ h. q.ours (p.ours h) }

module _ (out : List ℕ → Type 0) (st : Setting) where
  -- after a commit and the wait for it
  pub waited : (lag : Option ℕ) (ended : Bool) (s t : Sitter) (m n : ℕ) (made : History) → t ≡ s → Extends st made (step_of (asked.Commit m) (told.Committed n)) s.seen
      → IfSome lag (λ most. ended ≡ false → IsSeatedOut out st.run s (n - most)) → HasWaited out st lag ended t
  waited lag ended s t m n made same x gone = subst (λ (y : Sitter). IfSome lag (λ most. ended ≡ false → IsHeld out st most y)) (sym same) (by_case lag gone)
    where
      by_case : (o : Option ℕ) → IfSome o (λ most. ended ≡ false → IsSeatedOut out st.run s (n - most)) → IfSome o (λ most. ended ≡ false → IsHeld out st most s)
      by_case None h = tt
      by_case (Some most) h = λ on. let q = h on in record { legal = x.0; receipts = q.0; gone = subst (λ (k : ℕ). AreOut out st.run s.seen (k - most)) (last_number st made s.seen m n x) q.1 }

  not_before : (old new : Bool) → (old ≡ true → new ≡ true) → new ≡ false → old ≡ false
  not_before true new on e = absurd (true≢false (sym (on refl) ∙ e))
  not_before false new on e = refl

  -- before the first job
  pub none_held : (lag : Option ℕ) (ended : Bool) (s : Sitter) → IfSome lag (λ most. 0 < 0 → ended ≡ false → AreHeld out st most s)
  none_held None ended s = tt
  none_held (Some most) ended s = λ lt. absurd (omega (arith, lt))

  nothing_more : (done more : List Receipt) → map (λ (r : Receipt). r.writes) more ≡ [] → done ++ more ≡ done
  nothing_more done [] e = append-nil done
  nothing_more done (r ∷ rs) e = absurd (no_list (r.writes) (map (λ (x : Receipt). x.writes) rs) e)
    where
      no_list : (w : List Write) (ws : List (List Write)) → w ∷ ws ≡ [] → ⊥
      no_list w ws e = cc (e)

  -- without another commit
  still_held : (old new : Bool) (a b : Sitter) (most : ℕ) → (old ≡ true → new ≡ true) → HasCommitted [] a b → IsBeginning a.seen b.seen → (old ≡ false → AreHeld out st most a) → new ≡ false → AreHeld out st most b
  still_held old new a b most on done begins held ended =
      let h = held (not_before old new on ended) in
      let receipts : b.receipts ≡ a.receipts = done.receipts ∙ nothing_more a.receipts done.more done.writes in
      (h.0, beginning_trans h.0 a.seen b.seen h.1 begins, subst (λ (y : ℕ × List Receipt). IsHeld out st most (sitter y.0 h.0 y.1)) (λ i. (sym done.number i, sym receipts i)) h.2)

  -- after the next job
  pub next_held : (lag mine : Option ℕ) (old new : Bool) (a b : Sitter) (ended : EndedTransaction) (writes : List Write) (commits more : ℕ) → mine ≡ lag → (old ≡ true → new ≡ true) → HasCommitted (done_by ended writes) a b → IsBeginning a.seen b.seen
      → (ended ≡ Committed → HasWaited out st mine new b) → more ≡ commits + length (done_by ended []) → IfSome lag (λ most. 0 < commits → old ≡ false → AreHeld out st most a)
      → IfSome lag (λ most. 0 < more → new ≡ false → AreHeld out st most b)
  next_held None mine old new a b ended writes commits more is on done begins waits count held = tt
  next_held (Some most) mine old new a b Committed writes commits more is on done begins waits count held =
      λ some unended. (b.seen, beginning_self b.seen, subst (λ (o : Option ℕ). IfSome o (λ n. new ≡ false → IsHeld out st n b)) is (waits refl) unended)
  next_held (Some most) mine old new a b Died writes commits more is on done begins waits count held = λ some. still_held old new a b most on done begins (held (omega (arith, some, count)))
  next_held (Some most) mine old new a b Refused writes commits more is on done begins waits count held = λ some. still_held old new a b most on done begins (held (omega (arith, some, count)))
