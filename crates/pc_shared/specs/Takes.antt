-- Keys of a point that a checkpointer takes, in order.
use Rattle.std.specs.Prelude.{◌≡◌, ◌<◌, ℕ, zero, suc, List, Option}
use Rattle.pc_types.specs.declared.Reply.{Reply}
use Rattle.pc_types.specs.declared.Reply.TheVariants as told
use Rattle.pc_model.specs.History.{History}
use Rattle.pc_model.specs.Replies.{Setting}
use Rattle.pc_latch.specs.Cycles.{IsTakeCalled}
use Rattle.pc_shared.specs.declared.takes.Takes.{Takes}
use Rattle.pc_shared.specs.declared.takes.TakesEnd.{TakesEnd}
use Rattle.pc_shared.specs.declared.takes.TakesEnd.TheVariants as ended

-- the checkpointer has taken this many keys, each by a call of its own
abbrev pub HasTaken : Setting → ℕ → History → History → Type 0
HasTaken st zero before after = after ≡ before
HasTaken st (suc keys) before after = (between : History) × HasTaken st keys before between × ((key : List ℕ) × (content : Option (List ℕ)) × IsTakeCalled st between (told.Took key content) after)

-- How a turn of takes ended, after this many keys: they are as many as were asked for; or the next call was answered that none is
-- left, or it was refused.
abbrev pub HasEndedTakes : Setting → ℕ → ℕ → TakesEnd → History → History → Type 0
HasEndedTakes st most keys ended.Enough before after = (keys ≡ most) × (after ≡ before)
HasEndedTakes st most keys ended.NoneLeft before after = (keys < most) × IsTakeCalled st before told.NoneLeft after
HasEndedTakes st most keys (ended.Refused why) before after = (keys < most) × IsTakeCalled st before (told.Refused why) after

-- the reply that is noted for a turn of takes, without a key: `NoneLeft` if none was taken, otherwise `Absent`
abbrev pub told_of_takes : ℕ → Reply
told_of_takes zero = told.NoneLeft
told_of_takes (suc keys) = told.Absent

-- the turn's keys were taken, and then it ended in this way
pub record IsTurnOfTakes (st : Setting) (most : ℕ) (before : History) (takes : Takes) (after : History) : Type 0 where
  pub between : History
  pub taken : HasTaken st takes.keys before between
  pub ended : HasEndedTakes st most takes.keys takes.end between after
