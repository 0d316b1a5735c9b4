-- Histories that grow at their end, and prefixes of them.
use Rattle.std.proofs.Common.{◌≡◌, ◌+◌, ◌≤◌, ℕ, List, [], ◌∷◌, ◌++◌, refl, ap, sym, ◌∙◌, subst, ⊎_elim, append_assoc, arith}
use Rattle.std.proofs.lemmas.List.{append-nil}
use Rattle.std.proofs.lemmas.List.Elements.{All-cons}
use mathlib.Core.List.{IsPrefix}
use Rattle.pc_types.proofs.ListEndLaws.{at_end}
use Rattle.pc_board.specs.declared.calls.CallKind.{CallKind}
use Rattle.pc_board.specs.declared.calls.CallKind.TheVariants.{Publish, Look}
use Rattle.pc_board.specs.declared.calls.Call.{Call}
use Rattle.pc_board.specs.Calls.{claims_in, claims_of, greatest_of, point_in, AnswersCall, AreLegalCalls, NoneAbove}
use Rattle.pc_board.specs.Laws.{StandIn, ClaimsRise, LooksNeverFall}
use Rattle.pc_board.proofs.Sums.{claims_of-append, greatest_of-append}

pub none_is_legal : AreLegalCalls []
none_is_legal [] c after e = absurd (cc (e))
none_is_legal (x ∷ xs) c after e = absurd (cc (e))

-- one more call that gives the correct result
pub longer_is_legal : (log : List Call) (c : Call) → AreLegalCalls log → AnswersCall c.kind log c.value → AreLegalCalls (log ++ c ∷ [])
longer_is_legal log c all last before d after e =
    ⊎_elim (λ (t : (log ≡ before) × (c ≡ d)). subst (λ (x : List Call × Call). AnswersCall x.1.kind x.0 x.1.value) (λ i. (t.0 i, t.1 i)) last)
    (λ (t : (rest : List Call) × (log ≡ before ++ d ∷ rest)). all before d t.0 t.1) (at_end log c before d after e)

pub prefix_self : {A : Type 0} (xs : List A) → IsPrefix xs xs
prefix_self xs = ([], append-nil xs)

pub prefix_none : {A : Type 0} (xs : List A) → IsPrefix [] xs
prefix_none xs = (xs, refl)

pub prefix_more : {A : Type 0} (xs ys zs : List A) → IsPrefix xs ys → IsPrefix xs (ys ++ zs)
prefix_more xs ys zs p = (p.0 ++ zs, sym (append_assoc xs p.0 zs) ∙ ap (λ w. w ++ zs) p.1)

-- what comes after a list that is the whole is nothing
pub rest_none : {A : Type 0} (xs ys : List A) → xs ++ ys ≡ xs → ys ≡ []
rest_none [] ys e = e
rest_none (x ∷ xs) ys e = rest_none xs ys (cc (e))

-- every point is at most the greatest
pub none_above_greatest : (calls : List Call) (point : ℕ) → greatest_of calls ≤ point → NoneAbove calls point
none_above_greatest [] point le = λ k d lt. absurd (omega arith)
none_above_greatest (c ∷ cs) point le = All-cons (λ (d : Call). point_in d.kind d.value ≤ point) c cs (omega arith) (none_above_greatest cs point (omega arith))

-- the later call comes after all that the earlier one comes after, and after the earlier one
behind : (calls : List Call) (earlier later : Call) → AreLegalCalls calls → (s : StandIn calls earlier later) → AnswersCall later.kind (s.0 ++ earlier ∷ s.1) later.value
behind calls earlier later legal s =
    legal (s.0 ++ earlier ∷ s.1) later s.2 (s.3 ∙ sym (append_assoc s.0 (earlier ∷ s.1) (later ∷ s.2)))

ahead : (calls : List Call) (earlier later : Call) → AreLegalCalls calls → (s : StandIn calls earlier later) → AnswersCall earlier.kind s.0 earlier.value
ahead calls earlier later legal s = legal s.0 earlier (s.1 ++ later ∷ s.2) s.3

pub claims_rise : ClaimsRise
claims_rise calls earlier later legal s claim claim' =
    let a : earlier.value ≡ claims_of s.0 = subst (λ (k : CallKind). AnswersCall k s.0 earlier.value) claim (ahead calls earlier later legal s) in
    let b : later.value ≡ claims_of (s.0 ++ earlier ∷ s.1) = subst (λ (k : CallKind). AnswersCall k (s.0 ++ earlier ∷ s.1) later.value) claim' (behind calls earlier later legal s) in
    let c : claims_of (earlier ∷ s.1) ≡ 1 + claims_of s.1 = ap (λ (k : CallKind). claims_in k + claims_of s.1) claim in
    omega (arith, claims_of-append s.0 (earlier ∷ s.1))

pub looks_never_fall : LooksNeverFall
looks_never_fall calls earlier later legal s shown look =
    let b : later.value ≡ greatest_of (s.0 ++ earlier ∷ s.1) = subst (λ (k : CallKind). AnswersCall k (s.0 ++ earlier ∷ s.1) later.value) look (behind calls earlier later legal s) in
    let whole = greatest_of-append s.0 (earlier ∷ s.1) in
    ⊎_elim (λ (e : earlier.kind ≡ Publish). let c : point_in earlier.kind earlier.value ≡ earlier.value = ap (λ (k : CallKind). point_in k earlier.value) e in omega (arith, whole))
    (λ (e : earlier.kind ≡ Look). let a : earlier.value ≡ greatest_of s.0 = subst (λ (k : CallKind). AnswersCall k s.0 earlier.value) e (ahead calls earlier later legal s) in omega (arith, whole)) shown
