use Rattle.std.proofs.Common.{ap, sym, ◌∙◌, arith}
use Rattle.pc_tie.proofs.Visits.{shows_at}
use Rattle.pc_tie.proofs.keeper.Keeper.show.Goals as goal

pub split_seat-requires : goal.split_seat-requires
split_seat-requires g c =
    let i = c.self.invariant in
    (i.0 ∙ sym c.args.tie.now.named, omega (arith, c.args.tie.now.one), shows_at _ _ _ _ _ _ (ap (λ m. m.0) i.1))
