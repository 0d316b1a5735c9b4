use Rattle.pc_restarts.proofs.Rules.{skip_unused}
use Rattle.pc_restarts.proofs.laws.recoveries_skip_unused_parts.Goals as goal

pub returns : goal.returns
returns c = skip_unused
