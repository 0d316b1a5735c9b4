use Rattle.std.proofs.Common.{List, ℕ, Ok, subst, ◌∙◌}
use Rattle.std.specs.List.{flat_map}
use Rattle.pc_io.specs.Tallies.{Puts}
use Rattle.pc_log.specs.Texts.{entry_text, log_text}
use Rattle.pc_workers.proofs.LoggingLaws.{flushed, gone_out}
use Rattle.pc_workers.proofs.logging.write_batch.Goals as goal

pub mark_logged-requires-clause-text : goal.mark_logged-requires-clause-text
mark_logged-requires-clause-text g c =
    let before = c.requires.next.0 in
    let next = c.requires.next.1 in
    let contents = g.W.Write.contents in
    let sent : Puts contents c.args.out.now c.put.new.self (Ok tt) (flat_map entry_text next.more) =
    subst (λ (t : List ℕ). Puts contents c.args.out.now c.put.new.self (Ok tt) t) (c.as_slice.ensures.value ∙ next.texts) c.in_ok-put.ensures in
    gone_out contents c.args.out.now c.flush.new.out g.N.StoreName.name.setting.run before next.more c.args.pass.now next.list c.requires.next.2
    (flushed contents c.args.out.now c.put.new.self c.flush.new.out (flat_map entry_text next.more) sent c.in_ok-flush.ensures)

pub mark_logged-requires-clause-out : goal.mark_logged-requires-clause-out
mark_logged-requires-clause-out g c =
    let before = c.requires.next.0 in
    let next = c.requires.next.1 in
    let contents = g.W.Write.contents in
    let sent : Puts contents c.args.out.now c.put.new.self (Ok tt) (flat_map entry_text next.more) =
    subst (λ (t : List ℕ). Puts contents c.args.out.now c.put.new.self (Ok tt) t) (c.as_slice.ensures.value ∙ next.texts) c.in_ok-put.ensures in
    c.requires.counts c.flush.new.out (log_text g.N.StoreName.name.setting.run c.args.pass.now)
    (gone_out contents c.args.out.now c.flush.new.out g.N.StoreName.name.setting.run before next.more c.args.pass.now next.list c.requires.next.2
    (flushed contents c.args.out.now c.put.new.self c.flush.new.out (flat_map entry_text next.more) sent c.in_ok-flush.ensures))
