use Rattle.std.specs.Vec.Iter.{into_iter_items}
use Rattle.pc_merge.proofs.StandingLaws.{list_gives_within}
use Rattle.pc_merge.proofs.entries.EntryListEntries.next.Goals as goal

pub returns-clause-within : goal.returns-clause-within
returns-clause-within c = λ points all.
    list_gives_within points c.next.result (into_iter_items c.args.self.now.entries) (into_iter_items c.next.new.self) c.next.ensures.items all
