-- The number of events that a checkpointer asked.
use Rattle.std.specs.Prelude.{ℕ, ◌+◌, ◌*◌}
use Rattle.bench_steps.specs.declared.commits.CycleProgress.{CycleProgress}
use Rattle.bench_steps.specs.declared.commits.NextStage.{NextStage}
use Rattle.bench_steps.specs.declared.commits.NextStage.TheVariants as stage

-- how many events a cycle has before this one, those apart that took a key or were put off
abbrev pub steps_before : NextStage → ℕ
steps_before stage.Point = 0
steps_before stage.Seal = 1
steps_before stage.Capture = 2
steps_before stage.Take = 3
steps_before stage.Done = 4
steps_before stage.Rest = 5

-- all events: six for each cycle that came to rest, those of the present one, those that took a key and those put off
abbrev pub events_of : CycleProgress → ℕ
events_of asked = 6 * asked.points + steps_before asked.next + asked.taken + asked.delays
