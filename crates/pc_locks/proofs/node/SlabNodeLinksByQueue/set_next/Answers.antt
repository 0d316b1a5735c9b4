use Rattle.std.proofs.Common.{refl}
use Rattle.pc_locks.specs.declared.node.Node.{Node}
use Rattle.pc_locks.proofs.Columns.{next_here, next_other, link_stays, column_same, node_same}
use Rattle.pc_locks.proofs.node.SlabNodeLinksByQueue.set_next.Goals as goal

pub returns-in-Some-clause-set : goal.returns-in-Some-clause-set
returns-in-Some-clause-set c = next_here (λ (n : Node). n.next) c.args.self.now.slots c.args.id c.in-Some.node.now _ c.in-Some.ensures.value

pub returns-in-Some-clause-others : goal.returns-in-Some-clause-others
returns-in-Some-clause-others c = λ other n. next_other (λ (n : Node). n.next) c.args.self.now.slots c.args.id c.in-Some.node.now _ c.in-Some.ensures.value other n

pub returns-in-Some-clause-has : goal.returns-in-Some-clause-has
returns-in-Some-clause-has c = λ other h. link_stays (λ (n : Node). n.next) c.args.self.now.slots c.args.id c.in-Some.node.now _ c.in-Some.ensures.value other h

pub returns-in-Some-clause-beside : goal.returns-in-Some-clause-beside
returns-in-Some-clause-beside c = record {
  nodes = λ other. node_same c.args.self.now.slots c.args.id c.in-Some.node.now _ c.in-Some.ensures.value refl other;
  own = column_same (λ (n : Node). n.next_own) c.args.self.now.slots c.args.id c.in-Some.node.now _ c.in-Some.ensures.value refl;
}
