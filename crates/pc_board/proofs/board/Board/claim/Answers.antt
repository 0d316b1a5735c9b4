use Rattle.std.proofs.Common.{◌≡◌, ◌<◌, rules, refl, sym, ap, ◌∙◌, subst, arith}
use Rattle.pc_types.specs.declared.limits.TheConstants.{MOST_CLAIMS}
use Rattle.pc_board.specs.declared.calls.CallKind.TheVariants.{Claim}
use Rattle.pc_board.specs.Calls.{calls_by, claims_of}
use Rattle.pc_board.specs.Passes.{Pass, MakesCall, claims_made}
use Rattle.pc_board.specs.Rules.{pass_number, seen_of}
use Rattle.pc_board.proofs.Steps.{claims_as}
use Rattle.pc_board.proofs.Passing.{pass_at, still_holder, made_claims, makes_call}
use Rattle.pc_board.proofs.board.Board.claim.Goals as goal

pub fetch_add-number-requires : goal.fetch_add-number-requires
fetch_add-number-requires c =
    let me = c.pass.inside.seat.me in
    let not_all = c.if-pass.false in
    let most : c.pass.inside.claims < 4294967296 = search rules in
    let room : claims_of (calls_by (pass_number me.0) (seen_of me.0)) < MOST_CLAIMS = omega (arith, c.pass.invariant.1, not_all, most) in (
      ap (λ p. p.board) c.pass.view_is ∙ (c.requires ∙ sym (ap (λ b. b.name) c.self.view_is)),
      omega (arith, c.self.invariant.0),
      claims_as _ _ _ _ _ _ c.pass.invariant.0 room,
    )

pub invariant_of-pass : goal.invariant_of-pass
invariant_of-pass c =
    let e = c.fetch_add-number.ensures in
    let before = c.pass.inside.seat in
    let after = c.fetch_add-number.new.seat in (
      still_holder before.table_id after.table_id e.0 Claim c.fetch_add-number.result before.me after.me c.pass.invariant.0 e.2,
      omega (arith, c.pass.invariant.1, made_claims before.table_id after.table_id e.0 Claim c.fetch_add-number.result before.me after.me c.pass.invariant.0 e.2),
    )

pub returns-clause-some : goal.returns-clause-some
returns-clause-some c =
    let e = c.fetch_add-number.ensures in
    let before = c.pass.inside.seat in
    let after = c.fetch_add-number.new.seat in
    subst (λ (p : Pass). MakesCall p Claim c.fetch_add-number.result (pass_at after.table_id after.me)) c.pass.view_is
    (makes_call before.table_id after.table_id e.0 Claim c.fetch_add-number.result before.me after.me c.pass.invariant.0 e.2)

pub returns-then-pass-clause-limit : goal.returns-then-pass-clause-limit
returns-then-pass-clause-limit c =
    let made : claims_made c.args.pass.now ≡ c.pass.inside.claims = ap claims_made (sym c.pass.view_is) ∙ sym c.pass.invariant.1 in
    let all : claims_made c.args.pass.now ≡ MOST_CLAIMS = made ∙ c.if-pass.true in
    ((λ e. all), (λ e. refl))
