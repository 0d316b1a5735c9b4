use Rattle.std.proofs.Common.{refl}
use Rattle.pc_locks.specs.declared.node.Node.{Node}
use Rattle.pc_locks.proofs.Columns.{column_same}
use Rattle.pc_locks.proofs.node.put_request.Goals as goal

pub returns-in-Some-clause-links : goal.returns-in-Some-clause-links
returns-in-Some-clause-links c = column_same (λ (n : Node). n.next) c.args.nodes.now.slots c.args.id c.in-Some.node.now _ c.in-Some.ensures.value refl

pub returns-in-Some-clause-own : goal.returns-in-Some-clause-own
returns-in-Some-clause-own c = column_same (λ (n : Node). n.next_own) c.args.nodes.now.slots c.args.id c.in-Some.node.now _ c.in-Some.ensures.value refl
