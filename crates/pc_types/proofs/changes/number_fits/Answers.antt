use Rattle.pc_types.proofs.NumberLaws.{is_fit}
use Rattle.pc_types.proofs.changes.number_fits.Goals as goal

pub returns : goal.returns
returns c = is_fit c.args.number c.ranges.number
