use Rattle.std.proofs.lemmas.Result.{err_from_is_err_and}
use Rattle.std.specs.List.{flat_map}
use Rattle.pc_io.proofs.PutsLaws.{puts_then, puts_stop}
use Rattle.pc_log.specs.Texts.{header_text, entry_text}
use Rattle.pc_log.proofs.encoding.encode_log.Goals as goal

pub returns-in_err-encode_header : goal.returns-in_err-encode_header
returns-in_err-encode_header g c =
    let p = err_from_is_err_and c.from_residual.result c.from_residual.ensures.1 in
    rw (p.1, p.2) (puts_stop g.W.Write.contents c.args.out.now c.encode_header.new.out c.in_err-encode_header.field-0.0 (header_text c.args.run) (flat_map entry_text c.args.entries.now) c.in_err-encode_header.ensures)

pub returns : goal.returns
returns g c =
    puts_then g.W.Write.contents c.args.out.now c.encode_header.new.out c.put_entries.new.out c.put_entries.result (header_text c.args.run) (flat_map entry_text c.args.entries.now) c.in_ok-encode_header.ensures c.put_entries.ensures
