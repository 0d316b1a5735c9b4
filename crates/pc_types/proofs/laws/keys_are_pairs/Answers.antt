use Rattle.std.proofs.Common.{refl}
use Rattle.pc_types.proofs.KeyLaws.{space_again}
use Rattle.pc_types.proofs.laws.keys_are_pairs.Goals as goal

pub returns : goal.returns
returns c space own fits = (space_again space own fits, refl)
