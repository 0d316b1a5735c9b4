use Rattle.std.proofs.Common.{subst, arith}
use Rattle.pc_io.specs.Fields.{Gives}
use Rattle.pc_part.proofs.PartFileLaws.{part_found, text_is_read}
use Rattle.pc_part.proofs.part.Part.decode.Goals as goal

pub returns-clause-found : goal.returns-clause-found
returns-clause-found c = part_found c.args.bytes.now c.read_part.result (λ i. omega (arith, c.type_inv.bytes i)) c.read_part.ensures

pub returns-clause-only : goal.returns-clause-only
returns-clause-only c = λ file lawful text. subst (λ read. Gives (λ part. part) c.read_part.result read) (text_is_read c.args.bytes.now file lawful text) c.read_part.ensures
