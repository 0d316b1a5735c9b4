-- The law of reading bases over the bytes of a list.
use Rattle.pc_part.proofs.ListLaws.{all_bytes}
use Rattle.pc_bases.specs.RoundTrips.{ReadBasesAreTexts}
use Rattle.pc_bases.proofs.BaseFileLaws.{base_takes}

pub read_bases_are_texts : ReadBasesAreTexts
read_bases_are_texts bytes base h e = base_takes bytes base (all_bytes bytes h) e
