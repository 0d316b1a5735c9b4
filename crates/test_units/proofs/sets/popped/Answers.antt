use Rattle.pc_chain.specs.Chains.{rest_of}
use Rattle.test_units.proofs.sets.popped.Goals as goal

pub returns : goal.returns
returns c = record {
  closed = rest_of c.requires.closed;
  sets = c.pop_closed.ensures.sets c.args.kept.now.opened.items c.requires.closed c.requires.sets;
  last = c.requires.last;
}
