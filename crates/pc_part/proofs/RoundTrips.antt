-- The law of reading parts over the bytes of a list.
use Rattle.pc_part.specs.RoundTrips.{ReadPartsAreTexts}
use Rattle.pc_part.proofs.ListLaws.{all_bytes}
use Rattle.pc_part.proofs.PartFileLaws.{part_takes}

pub read_parts_are_texts : ReadPartsAreTexts
read_parts_are_texts bytes file h e = part_takes bytes file (all_bytes bytes h) e
