use Rattle.std.proofs.Common.{refl}
use Rattle.test_slots.specs.declared.indexes.CountRow.{CountRow}
use Rattle.pc_index.proofs.IndexLaws.{index_kept, keys_set}
use Rattle.test_slots.proofs.indexes.count.Goals as goal

pub returns : goal.returns
returns c = index_kept (λ (row : CountRow). row.key) c.args.arena.now _ c.args._index.now (keys_set (λ (row : CountRow). row.key) c.args.arena.now.items c.args.id c.get_mut-row.result.now _ c.get_mut-row.ensures.value refl) (λ id. refl) c.requires.index
