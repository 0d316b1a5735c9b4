use Rattle.pc_io.proofs.PutsLaws.{puts_then}
use Rattle.pc_texts.specs.Texts.{printed}
use Rattle.pc_texts.proofs.texts.put_named.Goals as goal

pub returns : goal.returns
returns g c = puts_then g.W.Write.contents c.args.out.now c.put.new.self c.put_printed.new.out c.put_printed.result c.args.word.now (printed c.args.bytes.now) c.in_ok-put.ensures c.put_printed.ensures
