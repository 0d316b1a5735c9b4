-- What is so if a call succeeds.
use Rattle.std.proofs.Common.{Result, Ok, Err}
use Rattle.std.specs.Prelude.{OnOk}
use Rattle.pc_types.specs.declared.Refusal.{Refusal}

-- what is so in any case
pub surely_so : {A : Type 0} (r : Result (Unit {0}) Refusal) → A → OnOk r A
surely_so (Ok u) a = a
surely_so (Err e) a = tt
