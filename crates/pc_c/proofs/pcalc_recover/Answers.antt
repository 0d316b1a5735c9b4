use Rattle.pc_c.proofs.HandleLaws.{untold}
use Rattle.pc_c.specs.Handles.{store_of}
use Rattle.pc_c.proofs.pcalc_recover.Goals as goal

pub returns-in_default-clause-summary : goal.returns-in_default-clause-summary
returns-in_default-clause-summary c = untold (store_of c.args.handle.now.value) c.refusal_number.result c.args.summary.now c.refusal_number.ensures
