use Rattle.test_walks.proofs.texts.log_text.Goals as goal

pub entry_text-requires : goal.entry_text-requires
entry_text-requires c = rw c.entry-item.is (c.requires c.loop-entry.entry-index _ c.loop-entry-test.true)
