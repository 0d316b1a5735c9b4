use Rattle.std.proofs.Common.{rules}
use Rattle.pc_index.proofs.Beginning.{index_begun}
use Rattle.pc_index.proofs.index.Index.new.Goals as goal

pub returns-clause-index : goal.returns-clause-index
returns-clause-index g c = index_begun g.S.KeyedSlots.key_of (g.S.KeyedSlots.slots_of c.args.slots.now) _ c.new.result _ c.requires c.new.ensures (c.in_ok-chains.ensures.items_if_clones_equal (λ y h. search rules))
