-- What holds of the value of a result, or of its refusal, wherever something else does.
use Rattle.std.proofs.Common.{Result, Ok, Err, IfOk, IfErr}

pub of_ok : {A E : Type 0} {P Q : A → Type 0} (result : Result A E) → ((x : A) → P x → Q x) → IfOk result P → IfOk result Q
of_ok (Ok x) follows is = follows x is
of_ok (Err e) follows is = is

pub of_err : {A E : Type 0} {P Q : E → Type 0} (result : Result A E) → ((e : E) → P e → Q e) → IfErr result P → IfErr result Q
of_err (Ok x) follows is = is
of_err (Err e) follows is = follows e is
