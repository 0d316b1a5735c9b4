use Rattle.pc_reasons.proofs.ScriptLemmas.{returned_exactly}
use Rattle.pc_reasons.proofs.scripts.script_fault.Goals as goal

pub returns-clause-bad : goal.returns-clause-bad
returns-clause-bad c = returned_exactly c.line_fault.result c.args.line.now c.line_fault.ensures
