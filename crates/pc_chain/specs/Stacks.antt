-- Stacks, seen as lists of ids: each id has a link to the one after it.
use Rattle.std.specs.Prelude.{◌≡◌, List, ◌∷◌, ◌++◌, Option}
use Rattle.pc_chain.specs.declared.stack.Stack.{Stack}
use Rattle.pc_chain.specs.Chains.{first_of, Avoids, AreDisjoint, AllHave, Leads}

-- over these links the stack is this list
pub record IsStack {I : Type 0} (has : I → Type 0) (next : I → Option I) (stack : Stack I) (xs : List I) : Type 0 where
  pub first : stack.first ≡ first_of xs
  pub leads : Leads next xs
  pub held : AllHave has xs

-- what becomes of a stack and of the links where an id that it has goes out: only the link of the id before it may change, and each
-- stack without a common id stays the list that it was
pub record TakesOut {I : Type 0} (has new_has : I → Type 0) (next new_next : I → Option I) (stack new : Stack I) (id : I) : Type 0 where
  pub list : (before rest : List I) → IsStack has next stack (before ++ id ∷ rest) → IsStack new_has new_next new (before ++ rest)
  pub links : (before rest : List I) (other : I) → IsStack has next stack (before ++ id ∷ rest) → Avoids other before → new_next other ≡ next other
  pub others : (before rest ys : List I) (other : Stack I) → IsStack has next stack (before ++ id ∷ rest) → IsStack has next other ys → AreDisjoint (before ++ id ∷ rest) ys → IsStack new_has new_next other ys
