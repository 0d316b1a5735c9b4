use Rattle.std.proofs.Common.{All, length, ap, subst, arith}
use Rattle.std.proofs.lemmas.List.Elements.{All-tail}
use Rattle.pc_board.specs.Passes.{Pass, IsOfBoard}
use Rattle.pc_threads.proofs.Numbering.{numbered_on}
use Rattle.pc_threads.proofs.hands.seat_collapsers.Goals as goal

pub loop-pass-preserved : goal.loop-pass-preserved
loop-pass-preserved c =
    let ours = λ (pass : Pass). IsOfBoard pass c.args.board.now in
    let was = ap length c.in-Some.ensures.steps.0 in
    let longer = c.in_ok-push.ensures.len in
    let i = c.loop-pass.invariant in (
      omega (arith, i.0, was, longer),
      All-tail ours c.in-Some.pass c.next.new.self.rest.items (subst (All ours) c.in-Some.ensures.steps.0 i.1),
      numbered_on (λ collapser. collapser.number) c.loop-pass.collapsers.items c.push.new.self.items _ c.in_ok-push.ensures.items i.2 i.3,
      omega (arith, i.3, longer),
    )
