use Rattle.std.proofs.Common.{sym, ◌∙◌}
use Rattle.pc_kept_log.proofs.LentWriteLaws.{none_there, counted_there, writes_there}
use Rattle.pc_kept_log.proofs.chunk.Chunk.writes.Goals as goal

pub returns-then-text-ne-COMMIT : goal.returns-then-text-ne-COMMIT
returns-then-text-ne-COMMIT c =
    let entries = c.args.self.now.entries in
    c.none.ensures ∙ sym (none_there entries c.args.place c.text-text.result.now c.text-text.ensures.lawful c.requires (rw c.len.ensures at c.text-text.ensures.text) c.if-text-ne-COMMIT.true)

pub invariant_of-result : goal.invariant_of-result
invariant_of-result c =
    let entries = c.args.self.now.entries in
    counted_there entries c.args.place c.text-text.result.now c.text-text.ensures.lawful c.requires (rw c.len.ensures at c.text-text.ensures.text) c.from.result c.if-text-ne-COMMIT.false (c.from.ensures ∙ c.from_be_bytes-count.ensures)

pub returns : goal.returns
returns c =
    let entries = c.args.self.now.entries in
    writes_there entries c.args.place c.text-text.result.now c.text-text.ensures.lawful c.requires (rw c.len.ensures at c.text-text.ensures.text) c.from.result c.if-text-ne-COMMIT.false (c.from.ensures ∙ c.from_be_bytes-count.ensures)
