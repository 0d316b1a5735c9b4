-- Stacks whose links stay.
use Rattle.std.proofs.Common.{◌≡◌, ℕ, ◌<◌, ◌≤◌, List, [], length, Option, None}
use Rattle.pc_chain.specs.declared.stack.Stack.{Stack}
use Rattle.pc_chain.specs.Chains.{AllHave}
use Rattle.pc_chain.specs.Stacks.{IsStack}
use Rattle.pc_chain.proofs.ChainLaws.{have_still, leads_still, ids_fit}

module _ {I : Type 0} where
  -- a stack of which each link stays
  pub stack_still : (has has' : I → Type 0) (next next' : I → Option I) (stack : Stack I) (xs : List I) → ((x : I) → has x → has' x) → AllHave (λ x. next' x ≡ next x) xs → IsStack has next stack xs → IsStack has' next' stack xs
  stack_still has has' next next' stack xs k s c = record { first = c.first; leads = leads_still next next' xs s c.leads; held = have_still has has' k xs c.held }

  -- the empty stack, over any links
  pub empty_stack : (has : I → Type 0) (next : I → Option I) (stack : Stack I) → stack.first ≡ None → IsStack has next stack []
  empty_stack has next stack e = record { first = e; leads = tt; held = tt }

-- a stack of numbers below n is no longer than n
pub stack_fits : (has : ℕ → Type 0) (next : ℕ → Option ℕ) (stack : Stack ℕ) (xs : List ℕ) (n : ℕ) → ((x : ℕ) → has x → x < n) → IsStack has next stack xs → length xs ≤ n
stack_fits has next stack xs n f c = ids_fit has next xs n f c.leads c.held
