use Rattle.std.proofs.Common.{◌≡◌, ◌-◌, suc, sym, ap, ◌∙◌, arith}
use Rattle.pc_txn.specs.Commits.{begin_at}
use Rattle.pc_txn.proofs.Filing.{there_is, begin_first, begin_behind}
use Rattle.pc_txn.proofs.commits.begin_of.Goals as goal

pub returns-then-place-eq0 : goal.returns-then-place-eq0
returns-then-place-eq0 c = sym (ap (begin_at 0 c.args.heads.now) c.if-place-eq0.true ∙ begin_first 0 c.args.heads.now)

pub unreachable-requires : goal.unreachable-requires
unreachable-requires c =
    let within = c.requires in
    there_is c.args.heads.now (c.args.place - 1) (omega (arith, within)) (sym c.head_at.ensures ∙ c.in-None.is)

pub returns : goal.returns
returns c =
    let other = c.if-place-eq0.false in
    let next : suc (c.args.place - 1) ≡ c.args.place = omega (arith, other) in
    sym (ap (begin_at 0 c.args.heads.now) (sym next) ∙ begin_behind 0 c.args.heads.now (c.args.place - 1) c.in-Some.head (sym c.head_at.ensures ∙ c.in-Some.is))
