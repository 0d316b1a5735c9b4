use Rattle.std.proofs.Common.{ap}
use Rattle.pc_part.specs.Reading.{key_or_empty}
use Rattle.pc_part.proofs.decoding.last_key.Goals as goal

pub returns-in-Some : goal.returns-in-Some
returns-in-Some c = rw c.as_bytes.ensures.bytes (ap key_or_empty c.in-Some.ensures.value)
