use Rattle.std.proofs.Common.{◌∙◌}
use Rattle.std.specs.Prelude.{IfOk, Result, Ok, Err}
use Rattle.pc_records.proofs.SpotSets.{committed_same}
use Rattle.pc_records.proofs.records.Records.committed.Goals as goal

ok_map : {T E : Type 0} (P Q : T → Type 0) → ((t : T) → P t → Q t) → (r : Result T E) → IfOk r P → IfOk r Q
ok_map P Q each (Ok t) p = each t p
ok_map P Q each (Err e) p = tt

pub returns-clause-contents : goal.returns-clause-contents
returns-clause-contents c = rw (← c.self.view_is) (ok_map _ _ (λ pairs is key. is key ∙ committed_same c.self.inside.slots.spots key) c.committed.result c.committed.ensures.contents)
