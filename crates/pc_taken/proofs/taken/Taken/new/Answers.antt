use Rattle.pc_taken.proofs.TakenLaws.{first_taken, first_one}
use Rattle.pc_taken.proofs.taken.Taken.new.Goals as goal

pub invariant_of-result : goal.invariant_of-result
invariant_of-result c = first_taken c.new.result.items c.new-2.result.entries c.new.ensures.items c.new-2.ensures.empty

pub returns : goal.returns
returns c = first_one c.new.result.items c.new-2.result.entries c.new.ensures.items c.new-2.ensures.empty
