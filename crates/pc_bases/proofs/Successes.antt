-- What is so if a call succeeds.
use Rattle.std.proofs.Common.{Result, Ok, Err}
use Rattle.std.specs.Prelude.{OnOk}
use Rattle.pc_types.specs.declared.Refusal.{Refusal}

-- what follows from it
pub then_so : {A B : Type 0} (r : Result (Unit {0}) Refusal) → OnOk r A → (A → B) → OnOk r B
then_so (Ok u) a f = f a
then_so (Err e) a f = tt
