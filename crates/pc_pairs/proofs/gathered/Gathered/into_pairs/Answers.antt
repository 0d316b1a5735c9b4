use Rattle.std.proofs.Common.{◌≡◌, ℕ, List, subst, sym}
use Rattle.std.specs.Prelude.{Ok, Err, IfOk}
use Rattle.std.specs.Global.{Vec}
use Rattle.std.specs.declared.result.Result.{Result}
use Rattle.pc_model.specs.Database.{KeysRise}
use Rattle.pc_model.proofs.KeyTreeLaws.{sorted_is}
use Rattle.pc_pairs.proofs.gathered.Gathered.into_pairs.Goals as goal

rise : {E : Type 0} (entries : List (List ℕ × List ℕ)) (r : Result (Vec (List ℕ × List ℕ)) E) → KeysRise entries → IfOk r (λ pairs. pairs.items ≡ entries) → IfOk r (λ pairs. KeysRise pairs.items)
rise entries (Ok pairs) sorted is = subst KeysRise (sym is) sorted
rise entries (Err e) sorted is = tt

pub returns-clause-rise : goal.returns-clause-rise
returns-clause-rise c = rise c.self.inside.pairs.entries c.vector_of.result (sorted_is c.self.inside.pairs.entries c.self.invariant) c.vector_of.ensures
