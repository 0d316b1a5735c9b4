use Rattle.pc_part.proofs.RoundTrips.{read_parts_are_texts}
use Rattle.pc_part.proofs.laws.read_parts_are_texts.Goals as goal

pub returns : goal.returns
returns c = read_parts_are_texts
