use Rattle.std.proofs.Common.{ap, length, ◌∙◌}
use Rattle.pc_taken.proofs.TakenLaws.{taken_len}
use Rattle.pc_taken.proofs.taken.Taken.len.Goals as goal

pub returns : goal.returns
returns c = taken_len c.self.inside.rising.items c.self.inside.others.entries c.len.result c.len-2.result (c.len.ensures ∙ c.self.inside.rising.ok.0) c.len-2.ensures.len c.self.invariant ∙ ap length c.self.view_is
