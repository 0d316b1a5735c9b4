use Rattle.std.proofs.Common.{sym, ◌∙◌}
use Rattle.pc_part.proofs.JoinedLists.{one_merged, all_merged}
use Rattle.pc_part.proofs.joining.merge.Goals as goal

pub loop-side-preserved : goal.loop-side-preserved
loop-side-preserved c =
    one_merged c.args.a.now c.args.b.now c.loop-side.first c.loop-side.second c.loop-side.out.items c.loop-side.invariant c.in-Some.side c.go_on.new.first c.go_on.new.second c.push_newest.new.out.items (sym c.side_of.ensures ∙ c.in-Some.is) c.go_on.ensures.first c.go_on.ensures.second c.in_ok-push_newest.ensures

pub returns : goal.returns
returns c = all_merged c.args.a.now c.args.b.now c.loop-side.first c.loop-side.second c.loop-side.out.items c.loop-side.invariant (sym c.side_of.ensures ∙ c.in_default.is)
