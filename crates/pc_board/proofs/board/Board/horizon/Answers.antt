use Rattle.std.proofs.Common.{sym, ap, ◌∙◌, subst, arith}
use Rattle.pc_board.specs.declared.calls.CallKind.TheVariants.{Look}
use Rattle.pc_board.specs.Calls.{NoneAbove}
use Rattle.pc_board.specs.Passes.{Pass, MakesCall}
use Rattle.pc_board.proofs.Steps.{looks_as}
use Rattle.pc_board.proofs.Passing.{pass_at, still_holder, made_claims, makes_call, look_is_above}
use Rattle.pc_board.proofs.board.Board.horizon.Goals as goal

pub load-found-requires : goal.load-found-requires
load-found-requires c = (
  ap (λ p. p.board) c.pass.view_is ∙ (c.requires ∙ sym (ap (λ b. b.name) c.self.view_is)),
  omega (arith, c.self.invariant.0),
  looks_as _ _ _ _ _ _ c.pass.invariant.0,
)

pub invariant_of-pass : goal.invariant_of-pass
invariant_of-pass c =
    let e = c.load-found.ensures in
    let before = c.pass.inside.seat in
    let after = c.load-found.new.seat in (
      still_holder before.table_id after.table_id e.0 Look c.load-found.result before.me after.me c.pass.invariant.0 e.2.0,
      omega (arith, c.pass.invariant.1, made_claims before.table_id after.table_id e.0 Look c.load-found.result before.me after.me c.pass.invariant.0 e.2.0),
    )

pub returns-clause-call : goal.returns-clause-call
returns-clause-call c =
    let e = c.load-found.ensures in
    let before = c.pass.inside.seat in
    let after = c.load-found.new.seat in
    subst (λ (p : Pass). MakesCall p Look c.load-found.result (pass_at after.table_id after.me)) c.pass.view_is
    (makes_call before.table_id after.table_id e.0 Look c.load-found.result before.me after.me c.pass.invariant.0 e.2.0)

pub returns-clause-seen : goal.returns-clause-seen
returns-clause-seen c =
    let e = c.load-found.ensures in
    let before = c.pass.inside.seat in
    let after = c.load-found.new.seat in
    subst (λ (p : Pass). NoneAbove p.seen c.load-found.result) c.pass.view_is
    (look_is_above (pass_at before.table_id before.me) (pass_at after.table_id after.me) c.load-found.result
    (makes_call before.table_id after.table_id e.0 Look c.load-found.result before.me after.me c.pass.invariant.0 e.2.0))
