use Rattle.std.proofs.Common.{arith}
use Rattle.pc_log.proofs.LogTexts.{is_whole}
use Rattle.pc_log.proofs.reading.read_log.Goals as goal

pub returns-clause-whole : goal.returns-clause-whole
returns-clause-whole c = is_whole c.args.bytes.now c.read_text.result (λ i. omega (arith, c.type_inv.bytes i)) c.read_text.ensures
