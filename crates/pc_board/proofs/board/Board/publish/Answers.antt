use Rattle.std.proofs.Common.{ℕ, ◌<◌, ◌≤◌, rules, sym, ap, ◌∙◌, subst, arith}
use Rattle.pc_types.specs.declared.limits.TheConstants.{MOST_POINTS}
use Rattle.pc_board.specs.declared.calls.CallKind.TheVariants.{Publish}
use Rattle.pc_board.specs.Passes.{Pass, MakesCall}
use Rattle.pc_board.proofs.Steps.{publishes_as}
use Rattle.pc_board.proofs.Passing.{pass_at, still_holder, made_claims, makes_call}
use Rattle.pc_board.proofs.board.Board.publish.Goals as goal

pub fetch_max-found-requires : goal.fetch_max-found-requires
fetch_max-found-requires c =
    let narrow : c.point.inside.0 < 65536 = search rules in
    let lawful : c.from.result ≤ MOST_POINTS = omega (arith, c.from.ensures, narrow) in (
      ap (λ p. p.board) c.pass.view_is ∙ (c.requires ∙ sym (ap (λ b. b.name) c.self.view_is)),
      omega (arith, c.self.invariant.0),
      publishes_as _ _ _ _ _ _ c.pass.invariant.0 c.from.result lawful,
    )

pub invariant_of-pass : goal.invariant_of-pass
invariant_of-pass c =
    let e = c.fetch_max-found.ensures in
    let before = c.pass.inside.seat in
    let after = c.fetch_max-found.new.seat in (
      still_holder before.table_id after.table_id e.0 Publish c.from.result before.me after.me c.pass.invariant.0 e.2,
      omega (arith, c.pass.invariant.1, made_claims before.table_id after.table_id e.0 Publish c.from.result before.me after.me c.pass.invariant.0 e.2),
    )

pub returns : goal.returns
returns c =
    let e = c.fetch_max-found.ensures in
    let before = c.pass.inside.seat in
    let after = c.fetch_max-found.new.seat in
    subst (λ (x : Pass × ℕ). MakesCall x.0 Publish x.1 (pass_at after.table_id after.me)) (λ i. (c.pass.view_is i, (c.from.ensures ∙ c.point.view_is) i))
    (makes_call before.table_id after.table_id e.0 Publish c.from.result before.me after.me c.pass.invariant.0 e.2)
