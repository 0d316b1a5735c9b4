use Rattle.std.proofs.Common.{List, ◌++◌, ◌∷◌}
use Rattle.pc_chain.specs.Stacks.{IsStack}
use Rattle.pc_chain.proofs.Passing.{Passed}
use Rattle.pc_chain.proofs.stack.Stack.before.Given as goal

-- some of those before the id were passed
abbrev pub invariant-loop : goal.invariant-loop
invariant-loop g l =
    (before rest : List g.row.I.Denot) → IsStack (g.L.Links.has l.links) (g.L.Links.next_of l.links) l.self (before ++ l.id ∷ rest) →
    Passed l.id l.previous l.place l.counter before rest
