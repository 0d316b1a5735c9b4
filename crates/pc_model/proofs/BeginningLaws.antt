-- Beginnings of histories, and sessions' calls in them.
use Rattle.std.proofs.Common.{◌≡◌, ◌≢◌, ◌==◌, ◌&&◌, ℕ, Bool, true, false, cond, List, [], ◌∷◌, ◌++◌, length, length-append, refl, ap, sym, ◌∙◌, subst, arith, ne_eqb, append_assoc}
use Rattle.std.proofs.lemmas.List.{append-nil}
use Rattle.std.proofs.lemmas.List.Elements.{filter-append}
use Rattle.pc_types.specs.declared.Entry.{Entry}
use Rattle.pc_types.specs.declared.Step.{Step}
use Rattle.pc_model.specs.History.{History, effect, entries_by, log_of}
use Rattle.pc_model.specs.Files.{File}
use Rattle.pc_model.specs.Standing.{IsOfItsPoints}
use Rattle.pc_model.specs.Replies.{Setting, IsLegalHistory}
use Rattle.pc_model.specs.Calls.{counts, session_of, is_call_of, calls_of, IsBeginning, Extends}
use Rattle.pc_model.proofs.LegalEffectLaws.{legal_has_legal_effects}
use Rattle.pc_model.proofs.ShelfFileLaws.{is_ordered, file_stays}

pub beginning_self : (h : History) → IsBeginning h h
beginning_self h = ([], refl)

pub beginning_none : (h : History) → IsBeginning [] h
beginning_none h = (h, sym (append-nil h))

pub beginning_trans : (a b c : History) → IsBeginning a b → IsBeginning b c → IsBeginning a c
beginning_trans a b c p q = (q.0 ++ p.0, q.1 ∙ (ap (λ l. q.0 ++ l) p.1 ∙ sym (append_assoc q.0 p.0 a)))

pub beginning_on : (early late : History) (c : Step) → IsBeginning early late → IsBeginning early (c ∷ late)
beginning_on early late c p = (c ∷ p.0, ap (λ l. c ∷ l) p.1)

pub legal_before : (st : Setting) (since early : History) → IsLegalHistory st (since ++ early) → IsLegalHistory st early
legal_before st [] early legal = legal
legal_before st (c ∷ since) early legal = legal_before st since early legal.1

pub legal_beginning : (st : Setting) (early late : History) → IsLegalHistory st late → IsBeginning early late → IsLegalHistory st early
legal_beginning st early late legal p = legal_before st p.0 early (subst (IsLegalHistory st) p.1 legal)

pub calls_of-append : (n : ℕ) (xs ys : History) → calls_of n (xs ++ ys) ≡ calls_of n xs ++ calls_of n ys
calls_of-append n xs ys = filter-append (is_call_of n) xs ys

pub calls_on : (n : ℕ) (log : History) (c : Step) → (counts c.reply ≡ true → session_of c.event ≢ n) → calls_of n (c ∷ log) ≡ calls_of n log
calls_on n log c other = by_case (counts c.reply) refl
  where
    by_case : (b : Bool) → counts c.reply ≡ b → cond (counts c.reply && (session_of c.event == n)) (c ∷ calls_of n log) (calls_of n log) ≡ calls_of n log
    by_case true e = ap (λ (t : Bool). cond (t && (session_of c.event == n)) (c ∷ calls_of n log) (calls_of n log)) e ∙ ap (λ (t : Bool). cond t (c ∷ calls_of n log) (calls_of n log)) (ne_eqb (session_of c.event) n (other e))
    by_case false e = ap (λ (t : Bool). cond (t && (session_of c.event == n)) (c ∷ calls_of n log) (calls_of n log)) e

nothing_left : {A : Type 0} (xs : List A) → length xs ≡ 0 → xs ≡ []
nothing_left [] e = refl
nothing_left (x ∷ xs) e = absurd (omega arith)

front_none : {A : Type 0} (xs ys : List A) → xs ++ ys ≡ ys → xs ≡ []
front_none xs ys e = nothing_left xs (omega (arith, length-append xs ys, ap length e))

-- what a session has then seen
pub extends : (st : Setting) (hist before : History) (c : Step) → IsLegalHistory st (c ∷ hist) → IsBeginning before hist → calls_of (session_of c.event) hist ≡ calls_of (session_of c.event) before → Extends st before c (c ∷ hist)
extends st hist before c legal p same =
    let n : ℕ = session_of c.event in
    let since : History = p.0 in
    let split : calls_of n since ++ calls_of n before ≡ calls_of n before = sym (calls_of-append n since before) ∙ (sym (ap (calls_of n) p.1) ∙ same) in
    (legal, (since, ap (λ l. c ∷ l) p.1, front_none (calls_of n since) (calls_of n before) split))

log_since : (since early : History) → (more : List Entry) × (log_of (since ++ early) ≡ log_of early ++ more)
log_since [] early = ([], sym (append-nil (log_of early)))
log_since (c ∷ since) early =
    let h = log_since since early in
    let e : List Entry = entries_by (effect c) (since ++ early) in
    (h.0 ++ e, ap (λ l. l ++ e) h.1 ∙ append_assoc (log_of early) h.0 e)

pub logs_grow : (early late : History) → IsBeginning early late → (more : List Entry) × (log_of late ≡ log_of early ++ more)
logs_grow early late p = let h = log_since p.0 early in (h.0, ap log_of p.1 ∙ h.1)

pub files_stay : (st : Setting) (early late : History) (f : File) → IsLegalHistory st late → IsBeginning early late → IsOfItsPoints st.run st.base (log_of early) f → IsOfItsPoints st.run st.base (log_of late) f
files_stay st early late f legal p of =
    let g = logs_grow early late p in
    subst (λ (l : List Entry). IsOfItsPoints st.run st.base l f) (sym g.1)
    (file_stays st.run st.base (log_of early) g.0 f (is_ordered st early (legal_has_legal_effects st early (legal_beginning st early late legal p))) of)
