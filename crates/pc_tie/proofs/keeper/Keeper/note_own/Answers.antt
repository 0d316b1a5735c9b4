use Rattle.std.proofs.Common.{subst}
use Rattle.pc_model.specs.History.{History}
use Rattle.pc_tie.specs.Seats.{MovesOn, sitting_in}
use Rattle.pc_tie.proofs.keeper.Keeper.note_own.Goals as goal

pub returns-clause-moves : goal.returns-clause-moves
returns-clause-moves g c = subst (λ (h : History). MovesOn g.N.StoreName.name.setting h c.args.step.now (sitting_in c.note_at.new.badge.views).seen) c.checkpointer.view_is c.note_at.ensures.moves
