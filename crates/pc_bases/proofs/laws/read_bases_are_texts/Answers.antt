use Rattle.pc_bases.proofs.RoundTrips.{read_bases_are_texts}
use Rattle.pc_bases.proofs.laws.read_bases_are_texts.Goals as goal

pub returns : goal.returns
returns c = read_bases_are_texts
