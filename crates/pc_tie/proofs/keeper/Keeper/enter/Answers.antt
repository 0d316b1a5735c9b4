use Rattle.std.proofs.Common.{ap, sym, ◌∙◌, arith}
use Rattle.pc_tie.proofs.Visits.{enters_at, front_in}
use Rattle.pc_tie.proofs.keeper.Keeper.enter.Goals as goal

pub join_seat-requires : goal.join_seat-requires
join_seat-requires g c =
    let i = c.self.invariant in
    let e = c.into_seat.ensures in
    let t = c.args.tie.now in
    (i.0 ∙ sym t.named, e.0 ∙ (c.requires.0 ∙ sym t.named), e.3, omega (arith, t.one), enters_at _ _ _ _ _ _ _ _ _ _ (ap (λ m. m.0) i.1) (front_in _ _ _ c.requires.1 e.2))
