use Rattle.pc_lines.specs.Lines.{lines_in}
use Rattle.pc_reasons.proofs.CauseLemmas.{returned_explained}
use Rattle.pc_reasons.proofs.workloads.workload_fault.Goals as goal

pub returns-clause-cause : goal.returns-clause-cause
returns-clause-cause c = returned_explained c.fault_in.result (lines_in c.args.text.now) c.args.number c.fault_in.ensures
