use Rattle.std.proofs.Common.{◌≡◌, refl, sym, ◌∙◌, rules}
use Rattle.pc_lines.specs.Lines.{lines_in}
use Rattle.pc_script.proofs.ScriptLemmas.{nothing_yet, empty_fits, goes_on, at_lines, in_err, stops_before, stops_within, ends_early}
use Rattle.pc_script.proofs.script.answer_script.Goals as goal

pub loop-text-init : goal.loop-text-init
loop-text-init g c = record {
  counted = refl;
  room = empty_fits c.new.result c.args.setup.capacity c.new.ensures;
  so_far = nothing_yet c.args.setup (g.W.Write.contents c.args.out.now.inner) c.new.result c.into_iter-text-iterator.result c.new.ensures;
}

pub loop-text-preserved : goal.loop-text-preserved
loop-text-preserved g c =
    let contents = g.W.Write.contents in
    let i = c.loop-text.invariant in
    record {
      counted = c.in_ok-made.ensures.counts ∙ i.counted;
      room = c.in_ok-made.ensures.room;
      so_far = goes_on c.args.setup (contents c.args.out.now.inner) (contents c.loop-text.out.inner) (contents c.answer_one.new.out.inner) c.loop-text.made c.in_ok-made.made c.loop-text.status c.status_after-status.result c.into_iter-text-iterator.result c.loop-text.text-iterator c.next.new.self c.in-Some.text.now c.in_ok-line.line i.so_far (search rules) c.in_ok-line.ensures.line c.in_ok-made.ensures.answered (sym c.is_ended.ensures ∙ c.if-is_ended.false) c.status_after-status.ensures;
    }

pub returns-in_err-line-clause-in_part : goal.returns-in_err-line-clause-in_part
returns-in_err-line-clause-in_part g c =
    let contents = g.W.Write.contents in
    let same : c.into_iter-text-iterator.result ≡ lines_in c.args.script.now = search rules in
    let h = at_lines c.args.setup c.args.script.now (contents c.args.out.now.inner) (contents c.loop-text.out.inner) c.loop-text.made c.loop-text.status _ c.loop-text.text-iterator same c.loop-text.invariant.so_far in
    in_err c.from_residual.result (stops_before c.args.setup c.args.script.now (contents c.args.out.now.inner) (contents c.loop-text.out.inner) c.loop-text.made c.loop-text.status c.loop-text.text-iterator h)

pub returns-in_err-made-clause-in_part : goal.returns-in_err-made-clause-in_part
returns-in_err-made-clause-in_part g c =
    let contents = g.W.Write.contents in
    let same : c.into_iter-text-iterator.result ≡ lines_in c.args.script.now = search rules in
    let h = at_lines c.args.setup c.args.script.now (contents c.args.out.now.inner) (contents c.loop-text.out.inner) c.loop-text.made c.loop-text.status _ c.loop-text.text-iterator same c.loop-text.invariant.so_far in
    in_err c.from_residual-in_err-made.result (stops_within c.args.setup c.args.script.now (contents c.args.out.now.inner) (contents c.loop-text.out.inner) (contents c.answer_one.new.out.inner) c.loop-text.made c.loop-text.status c.loop-text.text-iterator c.next.new.self c.in-Some.text.now c.in_ok-line.line h (search rules) c.in_ok-line.ensures.line c.in_err-made.ensures.in_part)

pub returns-then-is_ended-clause-answered : goal.returns-then-is_ended-clause-answered
returns-then-is_ended-clause-answered g c =
    let contents = g.W.Write.contents in
    let same : c.into_iter-text-iterator.result ≡ lines_in c.args.script.now = search rules in
    let h = at_lines c.args.setup c.args.script.now (contents c.args.out.now.inner) (contents c.loop-text.out.inner) c.loop-text.made c.loop-text.status _ c.loop-text.text-iterator same c.loop-text.invariant.so_far in
    ends_early c.args.setup c.args.script.now (contents c.args.out.now.inner) (contents c.loop-text.out.inner) (contents c.answer_one.new.out.inner) c.loop-text.made c.in_ok-made.made c.loop-text.status c.loop-text.text-iterator c.next.new.self c.in-Some.text.now c.in_ok-line.line h (search rules) c.in_ok-line.ensures.line c.in_ok-made.ensures.answered (sym c.is_ended.ensures ∙ c.if-is_ended.true)
