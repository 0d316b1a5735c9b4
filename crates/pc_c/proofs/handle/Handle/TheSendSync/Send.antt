-- What a handle owns any thread may own.
use Rattle.std.proofs.Common.{Option, Some, None}
use mir.Raw.{raw}
use base.Fraction.{full_share}
use base.Shift.{Keyless}
use denote.RattleType.{RattleType}
use denote.Memory.{lone}
use denote.RawPtr.{Ptr, block_ptr, null_ptr}
use denote.Param.Send.{IsSend, part_keyless}
use Rattle.std.proofs.Crossing.{frees}
use Rattle.pc_c.specs.Held.{box_or_null, the_heap}
use Rattle.pc_c.specs.contracts.handle.Handle.{the_row}
use Rattle.pc_border.specs.contracts.store.Store as inner
use Rattle.pc_border.proofs.store.Store.TheSendSync.{the_send}

held_keyless : (R : RattleType) → IsSend R → (p : Ptr) (x : Option R.Denot) → Keyless (box_or_null R p x)
held_keyless R s p None = tt
held_keyless R s (block_ptr b o) (Some x) = (part_keyless R s full_share x b o, frees.frees the_heap (raw (lone R.mir)) (block_ptr b o))
held_keyless R s null_ptr (Some x) = (tt, frees.frees the_heap (raw (lone R.mir)) null_ptr)

pub send : IsSend the_row
send = record { owned = λ d vs. ((λ vss. (tt, (tt, tt))), held_keyless inner.the_row the_send d.at d.value); leaving = λ k d w. tt }
