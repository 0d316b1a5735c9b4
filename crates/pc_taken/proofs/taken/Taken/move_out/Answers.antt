use Rattle.std.proofs.Common.{subst, sym, ◌∙◌}
use Rattle.pc_model.specs.Database.{KeysRise}
use Rattle.pc_taken.proofs.TakenLaws.{one_rises}
use Rattle.pc_taken.proofs.taken.Taken.move_out.Goals as goal

pub returns-clause-rise : goal.returns-clause-rise
returns-clause-rise c = subst KeysRise (c.self.view_is ∙ sym c.replace.ensures.value) (one_rises c.self.inside.rising.items c.self.inside.others.entries c.self.invariant.rise c.self.invariant.others_rise)
