use Rattle.std.proofs.Common.{refl}
use Rattle.pc_chain.proofs.StackLemmas.{stack_pushed, stack_without}
use Rattle.pc_chain.proofs.stack.Stack.push_front.Goals as goal

pub returns-clause-list : goal.returns-clause-list
returns-clause-list g c = λ xs s a. stack_pushed _ _ _ _ c.args.self.now _ xs c.args.id s a c.requires c.set_next.ensures.has c.set_next.ensures.set c.set_next.ensures.others refl

pub returns-clause-others : goal.returns-clause-others
returns-clause-others g c = λ ys other s a. stack_without _ _ _ _ other ys c.args.id c.set_next.ensures.has c.set_next.ensures.others a s
