use Rattle.pc_merge.proofs.newest.is_of_key.Goals as goal

pub returns-then-head : goal.returns-then-head
returns-then-head c = rw (c.in-Some.is, ← c.key.ensures.bytes, ← c.key-then-head.ensures.bytes) c.are_same.ensures
