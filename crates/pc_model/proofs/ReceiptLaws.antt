-- After a legal history each session's receipts are exact.
use Rattle.std.proofs.Common.{◌≡◌, ◌≢◌, ◌==◌, ◌||◌, ℕ, ◌+◌, ◌<◌, Bool, true, false, true≢false, cond, List, [], ◌∷◌, ◌++◌, length, length-append, refl, ap, sym, ◌∙◌, subst, ⊎_elim, arith, append_assoc, All, eq-eqb}
use Rattle.std.specs.Prelude.{⊤, Option, Some, None, is_some, MatchBool, get_or}
use Rattle.std.proofs.lemmas.List.{append-nil}
use Rattle.std.proofs.lemmas.List.Elements.{All-nil, All-push}
use Rattle.std.proofs.lemmas.List.Quantifiers.{all_pairs_push}
use Rattle.std.proofs.lemmas.Bool.Decides.{nat_tests}
use Rattle.pc_types.specs.declared.Phase.{Phase}
use Rattle.pc_types.specs.declared.Event.{Event}
use Rattle.pc_types.specs.declared.Event.TheVariants as asked
use Rattle.pc_types.specs.declared.Reply.{Reply}
use Rattle.pc_types.specs.declared.Reply.TheVariants as told
use Rattle.pc_types.specs.declared.Refusal.{Refusal}
use Rattle.pc_types.specs.declared.Refusal.TheVariants as why
use Rattle.pc_types.specs.declared.Entry.{Entry}
use Rattle.pc_types.specs.declared.Entry.TheVariants as logged
use Rattle.pc_types.specs.declared.Step.{Step}
use Rattle.pc_types.specs.declared.Change.{Change}
use Rattle.pc_types.specs.declared.Write.{Write}
use Rattle.pc_types.proofs.ListEndLaws.{at_end}
use Rattle.pc_model.specs.Maps.{get}
use Rattle.pc_model.specs.Database.{Database, written, seen}
use Rattle.pc_model.specs.Log.{after}
use Rattle.pc_model.specs.History.{History, Effect, effect, effect_of, effect_of_commit, entries_by, log_of, writes_of, contents}
use Rattle.pc_model.specs.History.Effect.{Begins, Reads, Commits, Moves, Adds}
use Rattle.pc_model.specs.Reads.{HasRightReads, HasReadFrom, ReadBy, RightBy}
use Rattle.pc_model.specs.Replies.{Setting, transaction_causes, log_is_full, IsLegal, IsLegalHistory}
use Rattle.pc_model.proofs.EffectCases.{begin_case, get_case, write_case, abort_case, move_case, take_case, done_case, join_case, add_case}
use Rattle.pc_model.proofs.CertainReplies.{answer_or_refusal}
use Rattle.pc_model.proofs.RightReadLaws.{reads_right}
use Rattle.pc_types.specs.declared.Receipt.{Receipt}
use Rattle.pc_model.specs.Receipts.{Read, is_read, with_read, reads_by, Own, receipt_of, receipts_by, own_of, AreRight, IsReceipt, IsEarlier, AreExact}
use Rattle.pc_model.proofs.OwnCallLaws.{own_writes}

-- what an effect adds to the log: nothing, a token, or a commit
data AddsTo (s : ℕ) : List Entry → Type 0 where
  Nought : AddsTo s []
  Other : (e : Entry) → ((ws : List Write) → e ≢ logged.Commit s ws) → AddsTo s (e ∷ [])

module _ (base : Database) (log : List Entry) (s : ℕ) (rs : List Receipt) where
  still : (e : Entry) (r : Receipt) → IsReceipt base log s r → IsReceipt base (log ++ e ∷ []) s r
  still e r i = (i.0, i.1 ++ e ∷ [], ap (λ l. l ++ e ∷ []) i.2 ∙ append_assoc i.0 (logged.Commit s r.writes ∷ i.1) (e ∷ []), i.3)

  all_still : (e : Entry) → All (IsReceipt base log s) rs → All (IsReceipt base (log ++ e ∷ []) s) rs
  all_still e all k d lt = still e (get_or rs k d) (all k d lt)

  -- another entry leaves them exact
  exact_more : (es : List Entry) → AddsTo s es → AreExact base log s rs → AreExact base (log ++ es) s rs
  exact_more es Nought x = subst (λ (l : List Entry). AreExact base l s rs) (sym (append-nil log)) x
  exact_more es (Other e other) x = record {
    each = all_still e x.each;
    rise = x.rise;
    reach = λ front behind ws is.
        ⊎_elim (λ (t : (log ≡ front) × (e ≡ logged.Commit s ws)). absurd (other ws t.1)) (λ (t : (rest : List Entry) × (log ≡ front ++ logged.Commit s ws ∷ rest)). x.reach front t.0 ws t.1)
        (at_end log e front (logged.Commit s ws) behind is);
  }

  low : All (IsReceipt base log s) rs → (number : ℕ) → length log < number → (k : ℕ) (d : Receipt) → k < length rs → (get_or rs k d).number < number
  low all number above k d lt =
      let i = all k d lt in
      let len = ap length i.2 ∙ length-append i.0 (logged.Commit s (get_or rs k d).writes ∷ i.1) in
      omega (arith, len, i.3.number, above)

  -- a commit adds its receipt
  exact_commit : (o : Own) → AreRight (after base log) o.reads → AreExact base log s rs → AreExact base (log ++ logged.Commit s o.writes ∷ []) s (rs ++ receipt_of s (length log + 1) o ∷ [])
  exact_commit o right x =
      let r : Receipt = receipt_of s (length log + 1) o in record {
        each = All-push (IsReceipt base (log ++ logged.Commit s o.writes ∷ []) s) rs r (all_still (logged.Commit s o.writes) x.each) (log, [], refl, record { number = refl; session = refl; reads = right });
        rise = all_pairs_push IsEarlier rs r x.rise (low x.each (length log + 1) (omega arith));
        reach = λ front behind ws is.
            ⊎_elim (λ (t : (log ≡ front) × (logged.Commit s o.writes ≡ logged.Commit s ws)). (rs, r, [], refl, ap (λ l. length l + 1) t.0))
            (λ (t : (rest : List Entry) × (log ≡ front ++ logged.Commit s ws ∷ rest)).
            let h = x.reach front t.0 ws t.1 in (h.0, h.1, h.2 ++ r ∷ [], ap (λ l. l ++ r ∷ []) h.3 ∙ append_assoc h.0 (h.1 ∷ h.2) (r ∷ []), h.4))
            (at_end log (logged.Commit s o.writes) front (logged.Commit s ws) behind is);
      }

-- what is read of a key that was not written is its content
module _ (db : Database) (s : ℕ) where
  one_right : (own : Option Change) (b : Bool) (reads : List Read) (key : List ℕ) (answer : Option (List ℕ)) → AreRight db reads → answer ≡ seen own (get db key)
      → AreRight db (cond (is_some own || b) reads (reads ++ (key, answer) ∷ []))
  one_right (Some own) b reads key answer right is = right
  one_right None true reads key answer right is = right
  one_right None false reads key answer right is = All-push (λ (r : Read). r.1 ≡ get db r.0) reads (key, answer) right is

  module _ (h : History) (ws : List Write) (rs : List Read) (Earlier : Type 0) (same : ws ≡ writes_of s h) (right : Earlier → AreRight db rs) where
    begins_right : (b : Bool) → MatchBool b ⊤ Earlier → AreRight db (cond b [] rs)
    begins_right true m = All-nil (λ (r : Read). r.1 ≡ get db r.0)
    begins_right false m = right m

    reads_right_by : (b : Bool) (key : List ℕ) (answer : Option (List ℕ)) → (b ≡ true → answer ≡ seen (written (writes_of s h) key) (get db key)) → Earlier → AreRight db (cond b (with_read ws rs key answer) rs)
    reads_right_by true key answer is m = one_right (written ws key) (is_read rs key) rs key answer (right m) (is refl ∙ ap (λ l. seen (written l key) (get db key)) (sym same))
    reads_right_by false key answer is m = right m

    by_effect : (e : Effect) → ReadBy s db e h Earlier → AreRight db (reads_by s e ws rs)
    by_effect (Begins t) m = begins_right (t == s) m
    by_effect (Adds t key delta sum) m = right m.1
    by_effect (Reads t key answer) m = reads_right_by (t == s) key answer (λ e. m.0 (grind (arith, nat_tests))) m.1
    by_effect other m = right m

  has_read : (h : History) → HasReadFrom db s h → AreRight db (own_of s h).reads
  has_read [] m = All-nil (λ (r : Read). r.1 ≡ get db r.0)
  has_read (c ∷ h) m = by_effect h (own_of s h).writes (own_of s h).reads (HasReadFrom db s h) (own_writes s h) (λ e. has_read h e) (effect c) m

module _ (st : Setting) (s : ℕ) (h : History) (x : AreExact st.base (log_of h) s (own_of s h).receipts) where
  abbrev Goal : Event → Reply → Type 0
  Goal e r = AreExact st.base (log_of h ++ entries_by (effect_of e r) h) s (receipts_by s e r (own_of s h))

  more : (es : List Entry) → AddsTo s es → AreExact st.base (log_of h ++ es) s (own_of s h).receipts
  more es adds = exact_more st.base (log_of h) s (own_of s h).receipts es adds x

  committed : (t : ℕ) → HasReadFrom (contents st.base h) t h → Goal (asked.Commit t) (told.Committed (length (log_of h) + 1))
  committed t read = by_case (t == s) refl
    where
      by_case : (b : Bool) → (t == s) ≡ b
          → AreExact st.base (log_of h ++ logged.Commit t (writes_of t h) ∷ []) s (cond b ((own_of s h).receipts ++ receipt_of s (length (log_of h) + 1) (own_of s h) ∷ []) (own_of s h).receipts)
      by_case true e =
          let is : t ≡ s = grind (arith, nat_tests) in
          subst (λ (y : ℕ × List Write). AreExact st.base (log_of h ++ logged.Commit y.0 y.1 ∷ []) s ((own_of s h).receipts ++ receipt_of s (length (log_of h) + 1) (own_of s h) ∷ []))
          (λ k. (sym is k, (own_writes s h ∙ ap (λ n. writes_of n h) (sym is)) k))
          (exact_commit st.base (log_of h) s (own_of s h).receipts (own_of s h) (has_read (contents st.base h) s h (subst (λ (n : ℕ). HasReadFrom (contents st.base h) n h) is read)) x)
      by_case false e = more (logged.Commit t (writes_of t h) ∷ []) (Other _ (λ ws is. absurd (true≢false (sym (eq-eqb t s (cc (is))) ∙ e))))

  abbrev Then : Effect → Type 0
  Then e = AddsTo s (entries_by e h)

  moved : (phase : Phase) (point : ℕ) → Then (Moves phase point)
  moved phase point = Other _ (λ ws is. cc (is))

  exact_step : (e : Event) (r : Reply) → IsLegal st h e r → ((t : ℕ) → effect_of e r ≡ Commits t → HasReadFrom (contents st.base h) t h) → Goal e r
  exact_step (asked.Begin t) r legal read = more _ (begin_case Then Nought t r (λ counts. Nought))
  exact_step (asked.Get t key) r legal read = more _ (get_case Then Nought t key r (λ answer counts. Nought) Nought Nought)
  exact_step (asked.Put t key value) r legal read = more _ (write_case Then Nought t key (Some value) r (λ counts. Nought) Nought Nought)
  exact_step (asked.Del t key) r legal read = more _ (write_case Then Nought t key None r (λ counts. Nought) Nought Nought)
  exact_step (asked.Add t key delta) r legal read = more _ (add_case Then Nought t key delta r (λ sum counts. Nought) Nought Nought)
  exact_step (asked.Commit t) r legal read =
      ⊎_elim (λ answered. subst (λ (q : Reply). Goal (asked.Commit t) q) (sym answered.1) (committed t (read t (ap (effect_of_commit t) answered.1))))
      (λ (is : (w : Refusal) × (r ≡ told.Refused w)). subst (λ (q : Reply). Goal (asked.Commit t) q) (sym is.1) (more [] Nought))
      (answer_or_refusal (transaction_causes st t h ++ (log_is_full h, why.LogFull) ∷ []) (r ≡ told.Committed (length (log_of h) + 1)) r legal)
  exact_step (asked.Abort t) r legal read = more _ (abort_case Then Nought t r (λ counts. Nought))
  exact_step asked.StartPoint r legal read = more _ (move_case Then Nought r moved)
  exact_step asked.Seal r legal read = more _ (move_case Then Nought r moved)
  exact_step asked.OpenCapture r legal read = more _ (move_case Then Nought r moved)
  exact_step asked.Take r legal read = more _ (take_case Then Nought r (λ key content. Nought))
  exact_step asked.Done r legal read = more _ (done_case Then Nought r (λ point. Other _ (λ ws is. cc (is))))
  exact_step asked.Rest r legal read = more _ (move_case Then Nought r moved)
  exact_step (asked.Join a b) r legal read = more _ (join_case Then Nought a b r Nought)

right_now : (base : Database) (c : Step) (h : History) → HasRightReads base (c ∷ h) → (t : ℕ) → effect c ≡ Commits t → HasReadFrom (contents base h) t h
right_now base c h right t is = subst (λ (e : Effect). RightBy base e h) is right.0

nothing_yet : (base : Database) (s : ℕ) → AreExact base [] s []
nothing_yet base s = record { each = All-nil (IsReceipt base [] s); rise = λ i j d lt lt'. absurd (omega arith); reach = λ front behind ws is. absurd (no_front front ws behind is) }
  where
    no_front : (front : List Entry) (ws : List Write) (behind : List Entry) → [] ≡ front ++ logged.Commit s ws ∷ behind → ⊥
    no_front [] ws behind is = cc (is)
    no_front (f ∷ fs) ws behind is = cc (is)

pub exact : (st : Setting) (s : ℕ) (h : History) → IsLegalHistory st h → AreExact st.base (log_of h) s (own_of s h).receipts
exact st s [] legal = nothing_yet st.base s
exact st s (c ∷ h) legal = exact_step st s h (exact st s h legal.1) c.event c.reply legal.0 (right_now st.base c h (reads_right st (c ∷ h) legal))
