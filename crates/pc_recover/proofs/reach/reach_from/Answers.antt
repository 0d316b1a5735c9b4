use Rattle.std.proofs.Common.{◌+◌, ap, ◌∙◌, max, arith}
use Rattle.pc_recover.specs.Recovery.{read_files}
use Rattle.pc_recover.proofs.Walking.{at_base, reaches_next, reaches_no_more, read_at, ends_at, ends_last}
use Rattle.pc_recover.proofs.reach.reach_from.Goals as goal
use Rattle.pc_recover.proofs.reach.reach_from.Goals.{then-needed-next, else-needed-next}

pub loop-below-init : goal.loop-below-init
loop-below-init c = at_base c.args.base c.base.inside.0 (read_files c.args.files.now) c.base.view_is

pub returns-in_default : goal.returns-in_default
returns-in_default c =
    let within = c.loop-below-test.true in
    let found = read_at c.in_ok-tops.tops.items (read_files c.args.files.now) c.from.result (c.loop-below.below + 1) c.index.result.now c.in_ok-tops.ensures.tops c.in_ok-tops.ensures.len c.from.ensures (omega (arith, within)) c.index.ensures in
    ends_at c.args.base (read_files c.args.files.now) c.loop-below.below c.loop-below.point c.loop-below.needed c.loop-below.invariant within (found ∙ c.in_default.is)

pub loop-below-preserved : goal.loop-below-preserved
loop-below-preserved c =
    let within = c.loop-below-test.true in
    let found = read_at c.in_ok-tops.tops.items (read_files c.args.files.now) c.from.result (c.loop-below.below + 1) c.index.result.now c.in_ok-tops.ensures.tops c.in_ok-tops.ensures.len c.from.ensures (omega (arith, within)) c.index.ensures in
    let most = c.max-needed.ensures ∙ ap (max c.loop-below.needed) c.top.view_is in
    elim c.if-needed-next.branch [
      | then-needed-next w ↦ reaches_next c.args.base (read_files c.args.files.now) c.loop-below.below c.loop-below.point c.loop-below.needed c.loop-below.invariant c.in-Some.top c.max-needed.result c.if-needed-next.point (found ∙ c.in-Some.is) most w.if-needed-next.true w.point-is
      | else-needed-next w ↦ reaches_no_more c.args.base (read_files c.args.files.now) c.loop-below.below c.loop-below.point c.loop-below.needed c.loop-below.invariant c.in-Some.top c.max-needed.result c.if-needed-next.point (found ∙ c.in-Some.is) most w.if-needed-next.false w.point-is
    ]

pub returns : goal.returns
returns c = let past = c.loop-below-test.false in ends_last c.args.base (read_files c.args.files.now) c.loop-below.below c.loop-below.point c.loop-below.needed c.loop-below.invariant (omega (arith, past, c.loop-below.auto.below-end))
