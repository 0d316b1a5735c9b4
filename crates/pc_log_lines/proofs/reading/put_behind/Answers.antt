use Rattle.std.proofs.Common.{[], ◌+◌, ◌++◌, refl, sym, ap, ◌∙◌, append_assoc, arith}
use Rattle.std.proofs.lemmas.Result.{err_from_is_err_and}
use Rattle.std.proofs.lemmas.List.{append-nil}
use Rattle.pc_io.proofs.KnownBytesLaws.{appends_nothing, appends_then}
use Rattle.pc_log.proofs.TurnLaws.{entry_shorter, is_empty, not_empty}
use Rattle.pc_texts.proofs.SentLaws.{sent_stop}
use Rattle.pc_log_lines.specs.Lines.{line_within}
use Rattle.pc_log_lines.proofs.LineTurns.{lines_go_on, lines_stop, lines_end, rest_goes_on, rest_stops, rest_ends}
use Rattle.pc_log_lines.proofs.Printed.{cut_off, stopped_all, stopped_part, stopped_rest}
use Rattle.pc_log_lines.proofs.reading.put_behind.Goals as goal

pub loop-rest-init : goal.loop-rest-init
loop-rest-init g c = rw c.none-last.ensures (record { sent = ([], appends_nothing (g.W.Write.contents c.args.out.now.inner), refl); counted = refl; left = refl; room = omega arith })

pub loop-rest-smaller : goal.loop-rest-smaller
loop-rest-smaller g c = entry_shorter c.args.format c.loop-rest.last c.loop-rest.rest.now c.in-Ok.entry c.in-Ok.after.now c.in-Ok.ensures

pub loop-rest-smaller-in_ok-put_within-in-Ok : goal.loop-rest-smaller-in_ok-put_within-in-Ok
loop-rest-smaller-in_ok-put_within-in-Ok g c = entry_shorter c.args.format c.loop-rest.last c.loop-rest.rest.now c.in-Ok.entry c.in-Ok.after.now c.in-Ok.ensures

pub returns-in_err-put_within-in-Ok-clause-part : goal.returns-in_err-put_within-in-Ok-clause-part
returns-in_err-put_within-in-Ok-clause-part g c =
    let p = err_from_is_err_and c.from_residual.result c.from_residual.ensures.1 in
    let i = c.loop-rest.invariant in
    let more = lines_go_on c.args.format c.loop-rest.last c.loop-rest.rest.now c.args.range c.loop-rest.count c.in-Ok.entry c.in-Ok.after.now c.in-Ok.ensures in
    rw (p.1, p.2) (cut_off g.W.Write.contents c.args.out.now c.put_within.new.out _ _
    (sent_stop g.W.Write.contents c.args.out.now c.loop-rest.out c.put_within.new.out _ i.sent.0 _ _ _ i.sent.1 i.counted c.in_err-put_within-in-Ok.ensures (ap (λ t. i.sent.0 ++ t) (sym more) ∙ i.sent.2)))

pub loop-rest-preserved : goal.loop-rest-preserved
loop-rest-preserved g c =
    let i = c.loop-rest.invariant in
    let more = lines_go_on c.args.format c.loop-rest.last c.loop-rest.rest.now c.args.range c.loop-rest.count c.in-Ok.entry c.in-Ok.after.now c.in-Ok.ensures in
    let put = c.in_ok-put_within-in-Ok.ensures in
    rw c.after-last.ensures
    (record {
      sent = (
        i.sent.0 ++ line_within c.args.range (c.loop-rest.count + 1) c.in-Ok.entry,
        appends_then _ _ _ i.sent.0 _ i.sent.1 put.0,
        append_assoc i.sent.0 _ _ ∙ ap (λ t. i.sent.0 ++ t) (sym more) ∙ i.sent.2,
      );
      counted = put.1 ∙ i.counted;
      left = sym (rest_goes_on c.args.format c.loop-rest.last c.loop-rest.rest.now c.in-Ok.entry c.in-Ok.after.now c.in-Ok.ensures) ∙ i.left;
      room = omega (arith, i.room, entry_shorter c.args.format c.loop-rest.last c.loop-rest.rest.now c.in-Ok.entry c.in-Ok.after.now c.in-Ok.ensures);
    })

pub loop-rest-preserved-in_ok-put_within-in-Ok : goal.loop-rest-preserved-in_ok-put_within-in-Ok
loop-rest-preserved-in_ok-put_within-in-Ok g c =
    let i = c.loop-rest.invariant in
    let more = lines_go_on c.args.format c.loop-rest.last c.loop-rest.rest.now c.args.range c.loop-rest.count c.in-Ok.entry c.in-Ok.after.now c.in-Ok.ensures in
    let put = c.in_ok-put_within-in-Ok.ensures in
    rw c.after-last.ensures
    (record {
      sent = (
        i.sent.0 ++ line_within c.args.range (c.loop-rest.count + 1) c.in-Ok.entry,
        appends_then _ _ _ i.sent.0 _ i.sent.1 put.0,
        append_assoc i.sent.0 _ _ ∙ ap (λ t. i.sent.0 ++ t) (sym more) ∙ i.sent.2,
      );
      counted = put.1 ∙ i.counted;
      left = sym (rest_goes_on c.args.format c.loop-rest.last c.loop-rest.rest.now c.in-Ok.entry c.in-Ok.after.now c.in-Ok.ensures) ∙ i.left;
      room = omega (arith, i.room, entry_shorter c.args.format c.loop-rest.last c.loop-rest.rest.now c.in-Ok.entry c.in-Ok.after.now c.in-Ok.ensures);
    })

pub returns-in-Err-clause-rest : goal.returns-in-Err-clause-rest
returns-in-Err-clause-rest g c =
    let i = c.loop-rest.invariant in
    stopped_rest c.stopped.result c.in-Err.fault _ _ c.stopped.ensures.rest c.stopped.ensures.memory (λ other. sym i.left ∙ rest_stops c.args.format c.loop-rest.last c.loop-rest.rest.now c.in-Err.fault (c.in-Err.ensures other) (not_empty c.is_empty.result c.loop-rest.rest.now c.is_empty.ensures c.loop-rest-test.true))

pub returns-in-Err-clause-all : goal.returns-in-Err-clause-all
returns-in-Err-clause-all g c =
    let i = c.loop-rest.invariant in
    stopped_all _ c.stopped.result c.in-Err.fault c.stopped.ensures.memory (λ other.
    let none = lines_stop c.args.format c.loop-rest.last c.loop-rest.rest.now c.args.range c.loop-rest.count c.in-Err.fault (c.in-Err.ensures other) in
    let all = sym (append-nil i.sent.0) ∙ ap (λ t. i.sent.0 ++ t) (sym none) ∙ i.sent.2 in
    rw (← all) (i.sent.1, i.counted))

pub returns-in-Err-clause-part : goal.returns-in-Err-clause-part
returns-in-Err-clause-part g c =
    let i = c.loop-rest.invariant in
    stopped_part g.W.Write.contents c.args.out.now c.loop-rest.out c.stopped.result i.sent.0 _ _ c.stopped.ensures.cause i.sent.1 i.counted i.sent.2

pub returns-clause-rest : goal.returns-clause-rest
returns-clause-rest g c =
    let i = c.loop-rest.invariant in
    sym (rest_ends c.args.format c.loop-rest.last c.loop-rest.rest.now (is_empty c.is_empty.result c.loop-rest.rest.now c.is_empty.ensures c.loop-rest-test.false)) ∙ i.left

pub returns-clause-all : goal.returns-clause-all
returns-clause-all g c =
    let i = c.loop-rest.invariant in
    let none = lines_end c.args.format c.loop-rest.last c.loop-rest.rest.now c.args.range c.loop-rest.count (is_empty c.is_empty.result c.loop-rest.rest.now c.is_empty.ensures c.loop-rest-test.false) in
    let all = sym (append-nil i.sent.0) ∙ ap (λ t. i.sent.0 ++ t) (sym none) ∙ i.sent.2 in
    rw (← all) (i.sent.1, i.counted)
