use Rattle.pc_types.proofs.KeyLaws.{by_space}
use Rattle.pc_types.proofs.laws.keys_are_ordered.Goals as goal

pub returns : goal.returns
returns c s t own other p q = by_space s t own other p q
