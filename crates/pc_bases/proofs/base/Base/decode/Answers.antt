use Rattle.std.proofs.Common.{subst, arith}
use Rattle.pc_io.specs.Fields.{Gives}
use Rattle.pc_bases.proofs.BaseFileLaws.{base_found, text_is_read}
use Rattle.pc_bases.proofs.base.Base.decode.Goals as goal

pub returns-clause-found : goal.returns-clause-found
returns-clause-found c = base_found c.args.bytes.now c.read_base.result (λ i. omega (arith, c.type_inv.bytes i)) c.read_base.ensures

pub returns-clause-only : goal.returns-clause-only
returns-clause-only c = λ file lawful text. subst (λ read. Gives (λ base. base) c.read_base.result read) (text_is_read c.args.bytes.now file lawful text) c.read_base.ensures
