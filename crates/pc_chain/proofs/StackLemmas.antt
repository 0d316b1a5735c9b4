-- What setting links makes of stacks.
use Rattle.std.proofs.Common.{◌≡◌, ◌≢◌, List, ◌∷◌, ◌++◌, Option, Some, None, sym, ◌∙◌, ap, subst}
use Rattle.pc_chain.specs.declared.stack.Stack.{Stack}
use Rattle.pc_chain.specs.Chains.{last_of, Avoids, AreDisjoint}
use Rattle.pc_chain.specs.Stacks.{IsStack}
use Rattle.pc_chain.proofs.ChainLaws.{have_still, have_others, have_without, leads_still}
use Rattle.pc_chain.proofs.ChainLemmas.{none_before, first_without, leads_unlinked, next_of_it, still_apart}
use Rattle.pc_chain.proofs.StackLaws.{stack_still}

module _ {I : Type 0} where
  -- an id comes to the front
  pub stack_pushed : (has has' : I → Type 0) (next next' : I → Option I) (stack new : Stack I) (xs : List I) (id : I) → IsStack has next stack xs → Avoids id xs → has id → ((x : I) → has x → has' x) →
      next' id ≡ stack.first → ((x : I) → x ≢ id → next' x ≡ next x) → new.first ≡ Some id → IsStack has' next' new (id ∷ xs)
  stack_pushed has has' next next' stack new xs id c a h k t o f = record {
    first = f;
    leads = (t ∙ c.first, a, leads_still next next' xs (have_others (λ y. next' y ≡ next y) id o xs a) c.leads);
    held = (k id h, have_still has has' k xs c.held);
  }

  -- a stack without an id, once that one's link is set
  pub stack_without : (has has' : I → Type 0) (next next' : I → Option I) (stack : Stack I) (xs : List I) (id : I) → ((x : I) → has x → has' x) → ((x : I) → x ≢ id → next' x ≡ next x) →
      Avoids id xs → IsStack has next stack xs → IsStack has' next' stack xs
  stack_without has has' next next' stack xs id k o a c = stack_still has has' next next' stack xs k (have_others (λ y. next' y ≡ next y) id o xs a) c

  -- the first id leaves
  pub first_unlinked : (has : I → Type 0) (next : I → Option I) (stack new : Stack I) (before rest : List I) (id : I) → None ≡ last_of before → IsStack has next stack (before ++ id ∷ rest) →
      new.first ≡ next id → IsStack has next new (before ++ rest)
  first_unlinked has next stack new before rest id p c f =
      let e = none_before before p in
      let s : IsStack has next stack (id ∷ rest) = subst (λ (b : List I). IsStack has next stack (b ++ id ∷ rest)) e c in
      let left : IsStack has next new rest = record { first = f ∙ s.leads.0; leads = s.leads.2; held = s.held.1 } in
      rw e left

  -- the id after another leaves
  pub later_unlinked : (has has' : I → Type 0) (next next' : I → Option I) (stack new : Stack I) (before rest : List I) (id previous : I) → Some previous ≡ last_of before → IsStack has next stack (before ++ id ∷ rest) →
      ((x : I) → has x → has' x) → next' previous ≡ next id → ((x : I) → x ≢ previous → next' x ≡ next x) → new.first ≡ stack.first → IsStack has' next' new (before ++ rest)
  later_unlinked has has' next next' stack new before rest id previous p c k t o f =
      let e = next_of_it next before rest id c.leads in
      record {
        first = f ∙ (c.first ∙ first_without id previous before rest p);
        leads = leads_unlinked next next' id before rest c.leads (λ y h. (let g : y ≡ previous = cc in ap next' g) ∙ (t ∙ e)) (λ y h. o y (λ g. h (sym p ∙ ap Some (sym g))));
        held = have_still has has' k (before ++ rest) (have_without has id before rest c.held);
      }

  -- and another stack stays
  pub stack_apart : (has has' : I → Type 0) (next next' : I → Option I) (other : Stack I) (before rest ys : List I) (previous : I) → Some previous ≡ last_of before → ((x : I) → has x → has' x) →
      ((x : I) → x ≢ previous → next' x ≡ next x) → IsStack has next other ys → AreDisjoint (before ++ rest) ys → IsStack has' next' other ys
  stack_apart has has' next next' other before rest ys previous p k o d a = stack_still has has' next next' other ys k (still_apart next next' previous before rest ys p o a) d
