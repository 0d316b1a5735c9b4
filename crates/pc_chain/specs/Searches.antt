-- A search along a chain, as far as it has come.
use Rattle.std.specs.Prelude.{◌≡◌, ℕ, ◌+◌, List, length, Option, Bool}
use Rattle.std.specs.List.{list_any}
use Rattle.pc_chain.specs.Chains.{first_of, AllHave, Leads}

-- of the list a rest is left, from this place on, and the answer for it is that for all
pub record Looked {I : Type 0} (has : I → Type 0) (next : I → Option I) (test : I → Bool) (place : Option I) (count : ℕ) (xs : List I) : Type 0 where
  pub rest : List I
  pub held : AllHave has rest
  pub leads : Leads next rest
  pub place_is : place ≡ first_of rest
  pub same : list_any test xs ≡ list_any test rest
  pub counted : length rest + count ≡ length xs
