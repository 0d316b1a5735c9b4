use Rattle.std.proofs.Common.{ap, sym, ◌∙◌, subst, arith}
use Rattle.pc_tie.specs.Rules.{Speaks}
use Rattle.pc_tie.proofs.Visits.{deals_at}
use Rattle.pc_tie.proofs.keeper.Keeper.deal.Goals as goal

pub split_seat-requires : goal.split_seat-requires
split_seat-requires g c =
    let i = c.self.invariant in
    let v = c.self.view_is in (
      i.0 ∙ sym c.args.tie.now.named,
      omega (arith, c.args.tie.now.one),
      deals_at _ _ _ _ _ _ (ap (λ m. m.0) i.1) (subst Speaks (sym (ap (λ m. m.dealt) v)) c.requires.speaks) (ap (λ m. m.history) v ∙ c.requires.new.0) (ap (λ m. m.guests) v ∙ c.requires.new.1),
    )
