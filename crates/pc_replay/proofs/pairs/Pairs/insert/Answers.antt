use Rattle.pc_model.proofs.PairMapLaws.{of_put_on_ok}
use Rattle.pc_replay.proofs.pairs.Pairs.insert.Goals as goal

pub invariant_of-self : goal.invariant_of-self
invariant_of-self c = (of_put_on_ok c.self.inside.pairs.items c.set.new.pairs.items c.args.key c.args.value c.set.result c.self.invariant c.set.ensures.ok c.set.ensures.err).sorted

pub returns-clause-ok : goal.returns-clause-ok
returns-clause-ok c = rw (← c.self.view_is) ((of_put_on_ok c.self.inside.pairs.items c.set.new.pairs.items c.args.key c.args.value c.set.result c.self.invariant c.set.ensures.ok c.set.ensures.err).inserts)
