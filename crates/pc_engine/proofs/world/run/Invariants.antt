use Rattle.std.proofs.Common.{◌≡◌, [], length, take}
use Rattle.pc_engine.specs.Store.{setting_of}
use Rattle.pc_engine.specs.Runs.{starting, history_after}
use Rattle.pc_engine.specs.Stands.{Stands}
use Rattle.pc_engine.proofs.world.run.Given as goal

-- each event so far was answered, and the world represents them
abbrev pub invariant-loop-event : goal.invariant-loop-event
invariant-loop-event l = record {
  answered : length l.replies.items ≡ length (take l.event-index l.events);
  setting : setting_of l.world ≡ starting l.fn.base l.fn.sessions l.fn.capacity;
  stands : Stands l.world (history_after [] (take l.event-index l.events) l.replies.items);
}
