use Rattle.std.proofs.Common.{arith}
use Rattle.pc_bases.proofs.BaseFileLaws.{base_fields}
use Rattle.pc_bases.proofs.base_decoding.read_base.Goals as goal

pub at_point-requires-clause-rise : goal.at_point-requires-clause-rise
at_point-requires-clause-rise c = (base_fields c.args.bytes.now (record { run = c.in_ok-run.field-0.run; point = c.in_ok-run.field-0.point; pairs = c.in_ok-run.field-0.pairs.items }) (λ i. omega (arith, c.type_inv.bytes i)) c.in_ok-run.ensures).0

pub at_point-requires-clause-limit : goal.at_point-requires-clause-limit
at_point-requires-clause-limit c = (base_fields c.args.bytes.now (record { run = c.in_ok-run.field-0.run; point = c.in_ok-run.field-0.point; pairs = c.in_ok-run.field-0.pairs.items }) (λ i. omega (arith, c.type_inv.bytes i)) c.in_ok-run.ensures).1
