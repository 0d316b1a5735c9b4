-- Steps of a reader that did not fail.
use Rattle.std.proofs.Common.{◌≡◌, Bool, true, false, Result, Ok, Err, refl}
use Rattle.pc_types.specs.declared.refusal.Refusal.{Refusal}
use Rattle.pc_io.specs.Fields.{◌>>=◌, where_true}
use Rattle.pc_io.proofs.FieldLaws.{ok_is}

-- a test that held, and then a step that did not fail
pub where_then : {A B : Type 0} (b : Bool) (d : Refusal) (x : A) (f : A → Result B Refusal) (y : B) → (where_true b d x >>= f) ≡ Ok y → (b ≡ true) × (f x ≡ Ok y)
where_then true d x f y e = (refl, e)
where_then false d x f y e = absurd cc

-- a step that did not fail, and then what is made of it
pub made_ok : {A B : Type 0} (r : Result A Refusal) (f : A → B) (y : B) → (r >>= λ x. Ok (f x)) ≡ Ok y → (x : A) × (r ≡ Ok x) × (f x ≡ y)
made_ok (Ok x) f y e = (x, refl, ok_is (f x) y e)
made_ok (Err d) f y e = absurd cc
