-- The facts of the sessions after a comparison at the end.
use Rattle.std.proofs.Common.{◌≡◌, ℕ, zero, suc, length, get_or, List, [], ◌∷◌, ◌++◌, map, All, refl, ap, sym, ◌∙◌, subst, arith}
use Rattle.std.proofs.lemmas.List.{append-nil}
use Rattle.std.proofs.lemmas.List.Elements.{All-head, All-tail, All-cons}
use Rattle.pc_types.specs.declared.Receipt.{Receipt}
use Rattle.pc_model.specs.History.{History, log_of}
use Rattle.pc_model.specs.Replies.{Setting, IsLegalHistory}
use Rattle.pc_model.specs.Receipts.{Own, own_of, AreExact}
use Rattle.pc_model.proofs.OwnCallLaws.{own_own}
use Rattle.pc_model.proofs.ReceiptLaws.{exact}
use Rattle.pc_tie.specs.declared.sight.Sitting.{Sitting}
use Rattle.pc_tie.specs.Rules.{Speaks}
use Rattle.pc_tie.specs.Seats.{IsFrontOf, NoTwoAlike}
use Rattle.pc_shared.specs.Sitters.{Sitter, sitting_of, IsSeated, IsSitterSettled, AreSittersApart}

one : (st : Setting) (hist : History) (s : Sitter) → IsLegalHistory st hist → IsSeated s → IsFrontOf hist (sitting_of s) → IsSitterSettled st hist s
one st hist s legal seated front =
    let n : ℕ = s.number in
    let has = front.1 seated.0 in
    let same : own_of n hist ≡ own_of n s.seen = sym (own_own n hist) ∙ (ap (own_of n) has.1 ∙ own_own n s.seen) in
    let own : s.receipts ≡ (own_of n hist).receipts = seated.1 ∙ ap (λ (o : Own). o.receipts) (sym same) in
    record { calls = has; own = own; exact = subst (λ (rs : List Receipt). AreExact st.base (log_of hist) n rs) (sym own) (exact st n hist legal) }

settled : (st : Setting) (hist : History) (ss : List Sitter) → IsLegalHistory st hist → All IsSeated ss → All (IsFrontOf hist) (map sitting_of ss) → All (IsSitterSettled st hist) ss
settled st hist [] legal seated fronts = λ k d lt. absurd (omega arith)
settled st hist (s ∷ ss) legal seated fronts =
    All-cons (IsSitterSettled st hist) s ss (one st hist s legal (All-head IsSeated s ss seated) (All-head (IsFrontOf hist) (sitting_of s) (map sitting_of ss) fronts))
    (settled st hist ss legal (All-tail IsSeated s ss seated) (All-tail (IsFrontOf hist) (sitting_of s) (map sitting_of ss) fronts))

pub nothing_left : {A : Type 0} (xs : List A) → length xs ≡ 0 → xs ≡ []
nothing_left [] e = refl
nothing_left (x ∷ xs) e = absurd (omega arith)

same_length : (ss : List Sitter) → length (map sitting_of ss) ≡ length ss
same_length [] = refl
same_length (s ∷ ss) = ap suc (same_length ss)

at : (ss : List Sitter) (k : ℕ) (d : Sitter) → get_or (map sitting_of ss) k (sitting_of d) ≡ sitting_of (get_or ss k d)
at [] k d = refl
at (s ∷ ss) zero d = refl
at (s ∷ ss) (suc k) d = at ss k d

-- if the keeper had compared none before them
pub all_settled : (st : Setting) (hist : History) (ss : List Sitter) (guests : List Sitting) → guests ≡ [] → IsLegalHistory st hist → All IsSeated ss → All (IsFrontOf hist) (map sitting_of ss ++ guests) → All (IsSitterSettled st hist) ss
all_settled st hist ss guests none legal seated fronts =
    settled st hist ss legal seated (subst (All (IsFrontOf hist)) (ap (λ (gs : List Sitting). map sitting_of ss ++ gs) none ∙ append-nil (map sitting_of ss)) fronts)

pub all_apart : (ss : List Sitter) (guests : List Sitting) → guests ≡ [] → All IsSeated ss → NoTwoAlike (map sitting_of ss ++ guests) → AreSittersApart ss
all_apart ss guests none seated apart i j d lt lt' same =
    let t : NoTwoAlike (map sitting_of ss) = subst NoTwoAlike (ap (λ (gs : List Sitting). map sitting_of ss ++ gs) none ∙ append-nil (map sitting_of ss)) apart in
    let len = same_length ss in
    let speaks : Speaks (get_or (map sitting_of ss) i (sitting_of d)).number = subst (λ (s : Sitting). Speaks s.number) (sym (at ss i d)) (seated i d lt).0 in
    t i j (sitting_of d) (omega (arith, lt, len)) (omega (arith, lt', len)) speaks (ap (λ (s : Sitting). s.number) (at ss i d) ∙ (same ∙ ap (λ (s : Sitting). s.number) (sym (at ss j d))))
