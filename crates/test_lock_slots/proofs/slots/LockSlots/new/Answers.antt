use Rattle.std.proofs.Common.{◌<◌, length, ap, arith}
use Rattle.pc_locks.proofs.KeeperLaws.{sound_none}
use Rattle.test_lock_slots.specs.Rows.{ends_at}
use Rattle.test_lock_slots.proofs.EmptyRows.{empty_at}
use Rattle.test_lock_slots.proofs.slots.LockSlots.new.Goals as goal

pub invariant_of-result : goal.invariant_of-result
invariant_of-result c =
    let row = c.in_ok-row.row.ends.items in
    let ends = ends_at row in
    let empty = empty_at row c.in_ok-row.ensures in
    (omega (arith, ap length c.in_ok-row.ensures), sound_none (λ slot. slot < length row) ends c.new-locks.result (c.new-locks.ensures.ends ends empty) (c.new-locks.ensures.queues ends empty))
