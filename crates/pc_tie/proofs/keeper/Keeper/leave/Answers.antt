use Rattle.std.proofs.Common.{ap, sym, ◌∙◌, arith}
use Rattle.pc_tie.proofs.Visits.{leaves_at}
use Rattle.pc_tie.proofs.keeper.Keeper.leave.Goals as goal

pub split_seat-requires : goal.split_seat-requires
split_seat-requires g c =
    let i = c.self.invariant in
    let r = c.requires in
    (i.0 ∙ sym c.args.tie.now.named, omega (arith, c.args.tie.now.one), leaves_at _ _ _ _ r.0 r.1 _ _ (ap (λ m. m.0) i.1) (ap (λ m. m.guests) c.self.view_is ∙ r.2))
