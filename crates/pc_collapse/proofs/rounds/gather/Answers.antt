use Rattle.std.proofs.Common.{arith}
use Rattle.pc_collapse.proofs.DealtFiles.{came_back, came_refused, came_all}
use Rattle.pc_collapse.proofs.rounds.gather.Goals as goal

pub returns-in_err-pieces : goal.returns-in_err-pieces
returns-in_err-pieces g c lists all =
    let inv = c.loop-pieces.invariant lists all in
    came_refused lists _ inv.0 _ _ _ _ _ inv.2 c.in-Some.ensures.steps.0 inv.1 c.in_err-pieces.was c.from_residual.ensures

pub loop-pieces-preserved : goal.loop-pieces-preserved
loop-pieces-preserved g c lists all =
    let inv = c.loop-pieces.invariant lists all in
    came_back lists _ inv.0 _ _ _ _ _ inv.2 c.in-Some.ensures.steps.0 inv.1 c.in_ok-pieces.was c.in_ok-append.ensures.items

pub returns : goal.returns
returns g c lists all =
    let inv = c.loop-pieces.invariant lists all in
    came_all lists _ inv.0 _ inv.2 (let ok = c.loop-pieces.pieces-iterator.rest.ok in let none = c.in-None.ensures.steps.0 in omega (arith, ok, none)) inv.1
