use Rattle.std.proofs.Common.{arith}
use Rattle.pc_part.proofs.ReadParts.{fields_take}
use Rattle.pc_part.proofs.PartFileLaws.{fields_rise, fields_covered}
use Rattle.pc_part.proofs.decoding.read_part.Goals as goal

pub from_lists-requires-clause-ranges : goal.from_lists-requires-clause-ranges
from_lists-requires-clause-ranges c = (fields_take c.args.bytes.now (record { run = c.in_ok-run.field-0.run; ranges = c.in_ok-run.field-0.ranges.items; entries = c.in_ok-run.field-0.entries.items }) (λ i. omega (arith, c.type_inv.bytes i)) c.in_ok-run.ensures).1.apart

pub from_lists-requires-clause-rise : goal.from_lists-requires-clause-rise
from_lists-requires-clause-rise c =
    let taken = fields_take c.args.bytes.now (record { run = c.in_ok-run.field-0.run; ranges = c.in_ok-run.field-0.ranges.items; entries = c.in_ok-run.field-0.entries.items }) (λ i. omega (arith, c.type_inv.bytes i)) c.in_ok-run.ensures in
    fields_rise taken.0 (record { run = c.in_ok-run.field-0.run; ranges = c.in_ok-run.field-0.ranges.items; entries = c.in_ok-run.field-0.entries.items }) taken.1

pub from_lists-requires-clause-covered : goal.from_lists-requires-clause-covered
from_lists-requires-clause-covered c =
    let taken = fields_take c.args.bytes.now (record { run = c.in_ok-run.field-0.run; ranges = c.in_ok-run.field-0.ranges.items; entries = c.in_ok-run.field-0.entries.items }) (λ i. omega (arith, c.type_inv.bytes i)) c.in_ok-run.ensures in
    fields_covered taken.0 (record { run = c.in_ok-run.field-0.run; ranges = c.in_ok-run.field-0.ranges.items; entries = c.in_ok-run.field-0.entries.items }) taken.1

pub from_lists-requires-clause-limit : goal.from_lists-requires-clause-limit
from_lists-requires-clause-limit c = (fields_take c.args.bytes.now (record { run = c.in_ok-run.field-0.run; ranges = c.in_ok-run.field-0.ranges.items; entries = c.in_ok-run.field-0.entries.items }) (λ i. omega (arith, c.type_inv.bytes i)) c.in_ok-run.ensures).1.limit
