-- The calls that wait at a store's latch, and those that a reply wakes.
use Rattle.std.specs.Prelude.{ℕ, ◌+◌, ◌-◌, ◌^◌, ◌%◌, min, nat_lt, ◌&&◌, ◌==◌, not, Bool, true, false, if◌then◌else◌}
use Rattle.pc_types.specs.declared.Reply.{Reply}
use Rattle.pc_types.specs.declared.Reply.TheVariants as told
use Rattle.pc_waiting.specs.declared.waits.Awaited.{Awaited}
use Rattle.pc_waiting.specs.declared.waits.News.{News}
use Rattle.pc_waiting.specs.declared.waits.News.TheVariants.{Change, Phase}
use Rattle.pc_waiting.specs.declared.waits.Waits.{Waits}
use Rattle.pc_waiting.specs.declared.waits.Woken.{Woken}

-- No entry is waited for: none has this number.
abbrev pub none_due : ℕ
none_due = 2 ^ 32 - 1

-- it has not come yet, and no call waits for it
abbrev pub none_come : Awaited
none_come = record { count = 0; waiting = 0 }

-- no call waits, and nothing has changed
abbrev pub none_wait : Waits
none_wait = record { for_locks = 0; changes = none_come; phases = none_come; due = none_due; has_last = false }

-- it comes once more; after the greatest number of 64 bits the count goes on from 0
abbrev pub come : Awaited → Awaited
come a = record a { count = (a.count + 1) % 2 ^ 64 }

-- a call waits for it
abbrev pub is_awaited : Awaited → Bool
is_awaited a = nat_lt 0 a.waiting

-- one more call waits for it, or one fewer
abbrev pub one_more_waiting : Awaited → Awaited
one_more_waiting a = record a { waiting = min (a.waiting + 1) (2 ^ 64 - 1) }

abbrev pub one_less : Awaited → Awaited
one_less a = record a { waiting = a.waiting - 1 }

-- the state of the news
abbrev pub of_news : Waits → News → Awaited
of_news w Change = w.changes
of_news w Phase = w.phases

abbrev pub with_news : Waits → News → Awaited → Waits
with_news w Change a = record w { changes = a }
with_news w Phase a = record w { phases = a }

-- The reply changes the store: each does except a refusal, and those that say that something waits, or that nothing is left.
abbrev pub is_change : Reply → Bool
is_change told.Wait = false
is_change (told.Refused why) = false
is_change (told.NotYet left) = false
is_change told.NoneLeft = false
is_change other = true

-- it names a new phase
abbrev pub is_new_phase : Reply → Bool
is_new_phase (told.Phase phase point) = true
is_new_phase (told.PartDone file from to) = true
is_new_phase other = false

-- it ends a transaction, and releases its locks
abbrev pub is_end : Reply → Bool
is_end (told.Committed number) = true
is_end told.Aborted = true
is_end other = false

-- it commits an entry that is waited for, or a later one
abbrev pub is_commit_due : ℕ → Reply → Bool
is_commit_due due (told.Committed number) = not (nat_lt number due)
is_commit_due due other = false

-- the calls that the reply wakes
abbrev pub woken_by : Waits → Reply → Woken
woken_by w reply = record {
  for_locks = is_end reply && not (w.for_locks == 0);
  for_change = is_change reply && is_awaited w.changes;
  for_phase = is_new_phase reply && is_awaited w.phases;
  for_commit = is_commit_due w.due reply;
}

-- no call is woken
abbrev pub nobody : Woken
nobody = record { for_locks = false; for_change = false; for_phase = false; for_commit = false }

-- the state once the reply is noted
abbrev pub waits_after_reply : Waits → Reply → Waits
waits_after_reply w reply = record w {
  changes = if is_change reply then come w.changes else w.changes;
  phases = if is_new_phase reply then come w.phases else w.phases;
  due = if is_commit_due w.due reply then none_due else w.due;
}

-- the calls that the mark of the end wakes
abbrev pub woken_by_end : Waits → Woken
woken_by_end w = record { for_locks = false; for_change = is_awaited w.changes; for_phase = is_awaited w.phases; for_commit = true }
