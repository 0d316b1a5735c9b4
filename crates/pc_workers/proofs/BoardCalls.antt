-- The calls of a loop on a board, call after call.
use Rattle.std.proofs.Common.{◌≡◌, ◌≢◌, ◌==◌, ◌≤◌, ℕ, Bool, cond, List, [], ◌∷◌, ◌++◌, refl, ap, sym, subst, ◌∙◌, eq-eqb, append_assoc, arith}
use Rattle.std.proofs.lemmas.List.{append-nil, map-append}
use Rattle.std.proofs.lemmas.List.Elements.{All-nil, All-cons, All-append, filter-append}
use mathlib.Core.List.{IsPrefix}
use Rattle.pc_types.specs.declared.Phase.{Phase}
use Rattle.pc_board.specs.declared.calls.CallKind.{CallKind}
use Rattle.pc_board.specs.declared.calls.CallKind.TheVariants.{Claim, Publish, Look}
use Rattle.pc_board.specs.declared.calls.Call.{Call}
use Rattle.pc_board.specs.Calls.{call, calls_by, greatest_of}
use Rattle.pc_board.specs.Passes.{Pass, MakesCall}
use Rattle.pc_latch.specs.Cycles.{done_in, done_among}
use Rattle.pc_workers.specs.Boards.{own_calls, MakesCalls, publications, claimed_by, numbers_in, HasClaimed}
use Rattle.pc_workers.specs.Checkpointing.{HasPublished}

by_append : (n : ℕ) (xs ys : List Call) → calls_by n (xs ++ ys) ≡ calls_by n xs ++ calls_by n ys
by_append n xs ys = filter-append (λ (c : Call). c.by == n) xs ys

by_itself : (c : Call) → calls_by c.by (c ∷ []) ≡ c ∷ []
by_itself c = ap (λ (b : Bool). cond b (c ∷ []) []) (eq-eqb c.by c.by refl)

prefix_on : {A : Type 0} (xs ys zs : List A) → IsPrefix xs ys → IsPrefix ys zs → IsPrefix xs zs
prefix_on xs ys zs p q = (p.0 ++ q.0, sym (append_assoc xs p.0 q.0) ∙ (ap (λ w. w ++ q.0) p.1 ∙ q.1))

makes_none : (pass : Pass) → MakesCalls pass pass []
makes_none pass = record { same = (refl, refl); seen = ([], append-nil pass.seen); own = sym (append-nil (own_calls pass)) }

makes_one : (before after : Pass) (kind : CallKind) (value : ℕ) → MakesCall before kind value after → MakesCalls before after (call before.number kind value ∷ [])
makes_one before after kind value m =
    let c = call before.number kind value in
    let between = m.last.0 in
    let none : calls_by c.by (before.seen ++ between) ≡ own_calls before = by_append c.by before.seen between ∙ (ap (λ l. own_calls before ++ l) m.last.2 ∙ append-nil (own_calls before)) in
    record {
      same = m.same;
      seen = (between ++ c ∷ [], sym (append_assoc before.seen between (c ∷ [])) ∙ sym m.last.1);
      own =
          (λ i. calls_by (m.same.1 i) (m.last.1 i))
          ∙ (by_append c.by (before.seen ++ between) (c ∷ []) ∙ ((λ i. none i ++ calls_by c.by (c ∷ [])) ∙ ap (λ l. own_calls before ++ l) (by_itself c)));
    }

makes_on : (first middle last : Pass) (xs ys : List Call) → MakesCalls first middle xs → MakesCalls middle last ys → MakesCalls first last (xs ++ ys)
makes_on first middle last xs ys a b = record {
  same = (b.same.0 ∙ a.same.0, b.same.1 ∙ a.same.1);
  seen = prefix_on first.seen middle.seen last.seen a.seen b.seen;
  own = b.own ∙ (ap (λ l. l ++ ys) a.own ∙ append_assoc (own_calls first) xs ys);
}

pub published_none : (pass : Pass) → HasPublished [] pass pass
published_none pass = makes_none pass

pub published_one : (before after : Pass) (point : ℕ) → MakesCall before Publish point after → MakesCalls before after (publications before.number (point ∷ []))
published_one before after point m = makes_one before after Publish point m

pub done_append : (xs ys : List (Phase × ℕ)) → done_among (xs ++ ys) ≡ done_among xs ++ done_among ys
done_append [] ys = refl
done_append (x ∷ xs) ys = ap (λ l. done_in x.0 x.1 ++ l) (done_append xs ys) ∙ sym (append_assoc (done_in x.0 x.1) (done_among xs) (done_among ys))

pub published_on : (xs ys : List (Phase × ℕ)) (first middle last : Pass) → HasPublished xs first middle → HasPublished ys middle last → HasPublished (xs ++ ys) first last
published_on xs ys first middle last a b =
    let by = first.number in
    let both : publications by (done_among xs) ++ publications middle.number (done_among ys) ≡ publications by (done_among (xs ++ ys)) =
    (λ i. publications by (done_among xs) ++ publications (a.same.1 i) (done_among ys))
    ∙ (sym (map-append (λ point. call by Publish point) (done_among xs) (done_among ys)) ∙ ap (publications by) (sym (done_append xs ys))) in
    subst (MakesCalls first last) both (makes_on first middle last (publications by (done_among xs)) (publications middle.number (done_among ys)) a b)

-- a pass that has seen a point published has still seen it
greatest_of_more : (xs ys : List Call) → greatest_of xs ≤ greatest_of (xs ++ ys)
greatest_of_more [] ys = omega arith
greatest_of_more (x ∷ xs) ys = omega (arith, greatest_of_more xs ys)

greatest_with_look : (xs : List Call) (by value : ℕ) → greatest_of (xs ++ call by Look value ∷ []) ≡ greatest_of xs
greatest_with_look [] by value = omega arith
greatest_with_look (x ∷ xs) by value = omega (arith, greatest_with_look xs by value)

-- a look gives the greatest point that the pass has then seen
pub look_is_greatest : (before after : Pass) (value : ℕ) → MakesCall before Look value after → value ≡ greatest_of after.seen
look_is_greatest before after value m =
    let c = call before.number Look value in
    let earlier = before.seen ++ m.last.0 in
    m.legal earlier c [] m.last.1 ∙ (sym (greatest_with_look earlier before.number value) ∙ ap greatest_of (sym m.last.1))

claimed_on_call : (kind : CallKind) (value : ℕ) (xs ys zs : List ℕ) → zs ≡ xs ++ ys → claimed_by kind value zs ≡ claimed_by kind value xs ++ ys
claimed_on_call Claim value xs ys zs e = ap (λ l. value ∷ l) e
claimed_on_call Publish value xs ys zs e = e
claimed_on_call Look value xs ys zs e = e

numbers_append : (xs ys : List Call) → numbers_in (xs ++ ys) ≡ numbers_in xs ++ numbers_in ys
numbers_append [] ys = refl
numbers_append (c ∷ xs) ys = claimed_on_call c.kind c.value (numbers_in xs) (numbers_in ys) (numbers_in (xs ++ ys)) (numbers_append xs ys)

abbrev NoPublish : Call → Type 0
NoPublish c = c.kind ≢ Publish

pub claimed_none : (pass : Pass) → HasClaimed pass pass []
claimed_none pass = record { calls = []; made = makes_none pass; unpublished = All-nil NoPublish; claims = refl }

pub claimed_one : (before after : Pass) (number : ℕ) → MakesCall before Claim number after → HasClaimed before after (number ∷ [])
claimed_one before after number m = record {
  calls = call before.number Claim number ∷ [];
  made = makes_one before after Claim number m;
  unpublished = All-cons NoPublish (call before.number Claim number) [] (λ e. absurd (cc e)) (All-nil NoPublish);
  claims = refl;
}

pub looked : (before after : Pass) (point : ℕ) → MakesCall before Look point after → HasClaimed before after []
looked before after point m = record {
  calls = call before.number Look point ∷ [];
  made = makes_one before after Look point m;
  unpublished = All-cons NoPublish (call before.number Look point) [] (λ e. absurd (cc e)) (All-nil NoPublish);
  claims = refl;
}

pub claimed_on : (first middle last : Pass) (xs ys : List ℕ) → HasClaimed first middle xs → HasClaimed middle last ys → HasClaimed first last (xs ++ ys)
claimed_on first middle last xs ys a b = record {
  calls = a.calls ++ b.calls;
  made = makes_on first middle last a.calls b.calls a.made b.made;
  unpublished = All-append NoPublish a.calls b.calls a.unpublished b.unpublished;
  claims = numbers_append a.calls b.calls ∙ (λ i. a.claims i ++ b.claims i);
}

-- and the greatest point that it has seen is no less
pub still_greatest : (before after : Pass) (numbers : List ℕ) → HasClaimed before after numbers → greatest_of before.seen ≤ greatest_of after.seen
still_greatest before after numbers a =
    let p = a.made.seen in
    subst (λ l. greatest_of before.seen ≤ greatest_of l) p.1 (greatest_of_more before.seen p.0)
