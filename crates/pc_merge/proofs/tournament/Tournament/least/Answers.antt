use Rattle.std.proofs.Common.{◌≤◌, length, arith}
use Rattle.std.proofs.lemmas.Bool.Decides.{nat_tests}
use Rattle.pc_merge.proofs.TreeLaws.{none_at_root, some_at_root}
use Rattle.pc_merge.proofs.tournament.Tournament.least.Goals as goal

pub returns-in-None-clause-none : goal.returns-in-None-clause-none
returns-in-None-clause-none c =
    let size = c.self.inside.firsts.ok.0 in
    let some : 1 ≤ length c.self.inside.firsts.items = grind (arith, nat_tests, size) in
    rw (← c.self.view_is) (none_at_root c.self.inside.firsts.items c.self.inside.tree.items c.self.invariant.tournament some c.index.result.now c.index-2.result.now c.index.ensures c.index-2.ensures c.in-None.is)

pub returns-in-Some-clause-least : goal.returns-in-Some-clause-least
returns-in-Some-clause-least c =
    let size = c.self.inside.firsts.ok.0 in
    let some : 1 ≤ length c.self.inside.firsts.items = grind (arith, nat_tests, size) in
    rw (← c.self.view_is) (some_at_root c.self.inside.firsts.items c.self.inside.tree.items c.self.invariant.tournament some c.index.result.now c.index-2.result.now c.index.ensures c.index-2.ensures c.in-Some.field-0 c.in-Some.is)
