use Rattle.std.proofs.Common.{subst}
use Rattle.pc_tie.specs.declared.sight.Sitting.{Sitting}
use Rattle.pc_tie.specs.Seats.{MovesOn, sitting_in}
use Rattle.pc_tie.proofs.keeper.Keeper.note.Goals as goal

pub returns-clause-moves : goal.returns-clause-moves
returns-clause-moves g c =
    subst (λ (s : Sitting). MovesOn g.N.StoreName.name.setting s.seen c.args.step.now (sitting_in c.note_at.new.badge.views).seen) c.session.view_is c.note_at.ensures.moves
