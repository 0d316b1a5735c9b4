use Rattle.std.proofs.Common.{ap, ◌∙◌}
use Rattle.pc_records.specs.Floor.{Floor, stands_anywhere}
use Rattle.pc_records.proofs.SpotTidying.{left_one, left_none, fewer_one, there_still}
use Rattle.pc_records.proofs.records.release_next.Goals as goal

pub tidy-requires : goal.tidy-requires
tidy-requires c = record { there = there_still 0 c.args.transaction c.in-Some.slot c.args.slots.now c.release_one.new.self c.in-Some.ensures.gone.0 c.in-Some.ensures.gone.1 }

pub returns-in-Some-clause-left : goal.returns-in-Some-clause-left
returns-in-Some-clause-left c = λ point sound over. left_one point c.args.transaction c.in-Some.slot c.args.slots.now c.release_one.new.self c.tidy.new.self c.requires.whole c.in-Some.ensures.gone.0 c.in-Some.ensures.gone.1 c.tidy.ensures.tidied sound over

pub returns-in-Some-clause-fewer : goal.returns-in-Some-clause-fewer
returns-in-Some-clause-fewer c = λ is. fewer_one 0 c.args.transaction c.in-Some.slot c.args.slots.now c.release_one.new.self c.tidy.new.self c.requires.whole c.in-Some.ensures.gone.0 c.in-Some.ensures.gone.1 c.tidy.ensures.tidied

pub returns-in-None-clause-left : goal.returns-in-None-clause-left
returns-in-None-clause-left c = λ point sound over. left_none point c.args.transaction c.args.slots.now c.release_one.new.self c.in-None.ensures.none.0 sound

pub returns-in-None-clause-done : goal.returns-in-None-clause-done
returns-in-None-clause-done c = λ is. ap (λ (f : Floor). stands_anywhere f.spots c.args.transaction) c.in-None.ensures.none.0 ∙ c.in-None.ensures.none.1
