use Rattle.std.proofs.Common.{Err, subst, arith}
use Rattle.std.proofs.lemmas.Result.{err_from_is_err_and}
use Rattle.pc_io.proofs.PutsLaws.{puts_stop_at}
use Rattle.pc_io.specs.Tallies.{Puts}
use Rattle.pc_types.specs.declared.Entry.{Entry}
use Rattle.pc_log.specs.Texts.{entry_text}
use Rattle.pc_log.proofs.encoding.put_entries.Goals as goal

pub returns-in_err-encode_entry : goal.returns-in_err-encode_entry
returns-in_err-encode_entry g c =
    let p = err_from_is_err_and c.from_residual.result c.from_residual.ensures.1 in
    rw (p.1, p.2) (puts_stop_at g.W.Write.contents entry_text c.args.entries.now c.loop-entry.entry-index c.entry-item.result c.args.out.now c.loop-entry.out c.encode_entry.new.out _ c.loop-entry-test.true c.loop-entry.invariant.sent (omega (arith, c.loop-entry.invariant.counted)) (subst (λ (e : Entry). Puts g.W.Write.contents c.loop-entry.out c.encode_entry.new.out (Err c.in_err-encode_entry.field-0.0) (entry_text e)) c.entry-item.is c.in_err-encode_entry.ensures))

pub encode_entry-requires : goal.encode_entry-requires
encode_entry-requires g c = rw c.entry-item.is (c.requires c.loop-entry.entry-index _ c.loop-entry-test.true)
