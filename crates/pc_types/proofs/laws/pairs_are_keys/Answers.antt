use Rattle.pc_types.proofs.KeyLaws.{made_of_its_parts}
use Rattle.pc_types.proofs.laws.pairs_are_keys.Goals as goal

pub returns : goal.returns
returns c key fits long = made_of_its_parts key fits long
