use Rattle.std.proofs.Common.{length, ap, arith}
use Rattle.std.proofs.lemmas.List.{length-append}
use Rattle.pc_io.specs.Fields.{key_text}
use Rattle.pc_log.specs.Texts.{change_text}
use Rattle.pc_log.proofs.ChangeTexts.{number_length}
use Rattle.pc_log.proofs.encoding.write_size.Goals as goal

pub returns-in-Add-clause-size : goal.returns-in-Add-clause-size
returns-in-Add-clause-size c =
    omega (arith, ap length c.as_bytes.ensures.bytes, length-append (key_text c.args.write.now.key) (change_text c.args.write.now.change), ap (λ change. length (change_text change)) c.in-Add.is, number_length c.in-Add.field-0)
