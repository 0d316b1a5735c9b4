use Rattle.std.proofs.Common.{refl}
use Rattle.pc_model.specs.Database.{database_of}
use Rattle.pc_pairs.specs.Dumps.{dump_text}
use Rattle.pc_pairs.proofs.DumpLaws.{part_out, put_same, whole_out}
use Rattle.pc_pairs.proofs.dumping.put_chosen.Goals as goal

pub returns-clause-whole : goal.returns-clause-whole
returns-clause-whole g c =
    let puts = put_same g.W.Write.contents c.args.out.now c.put_lines-put.new.out c.args.choice.now (database_of c.args.pairs.items) c.args.pairs.items c.keep.new.pairs.items c.deref.result.now c.put_lines-put.result c.requires refl c.keep.ensures c.deref.ensures.value c.put_lines-put.ensures in
    whole_out g.W.Write.contents c.args.out.now c.put_lines-put.new.out c.end_output.new.out (dump_text c.args.choice.now (database_of c.args.pairs.items)) c.end_output.ensures.stays c.put_lines-put.result puts c.end_output.result c.end_output.ensures.printed

pub returns-clause-part : goal.returns-clause-part
returns-clause-part g c =
    let puts = put_same g.W.Write.contents c.args.out.now c.put_lines-put.new.out c.args.choice.now (database_of c.args.pairs.items) c.args.pairs.items c.keep.new.pairs.items c.deref.result.now c.put_lines-put.result c.requires refl c.keep.ensures c.deref.ensures.value c.put_lines-put.ensures in
    part_out g.W.Write.contents c.args.out.now c.put_lines-put.new.out c.end_output.new.out (dump_text c.args.choice.now (database_of c.args.pairs.items)) c.end_output.ensures.stays c.put_lines-put.result puts c.end_output.result c.end_output.ensures.unprinted
