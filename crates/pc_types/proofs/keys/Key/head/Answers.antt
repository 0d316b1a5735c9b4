use Rattle.std.proofs.Common.{subst}
use Rattle.pc_types.specs.Bytes.{IsBytes}
use Rattle.pc_types.proofs.keys.Key.head.Goals as goal

pub returns-clause-bytes : goal.returns-clause-bytes
returns-clause-bytes c = subst IsBytes c.as_bytes.ensures.bytes c.head_of.ensures.bytes
