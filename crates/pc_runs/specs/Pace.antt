-- How the points of a run are spread over its transactions.
use Rattle.std.specs.Prelude.{ℕ, ◌-◌, ◌/◌, ◌^◌, max, min, List, Option, Some, None}
use Rattle.std.specs.List.{sum_by}
use Rattle.pc_jobs.specs.declared.works.Client.{Client}
use Rattle.pc_jobs.specs.declared.works.ClientTask.{ClientTask}
use Rattle.pc_jobs.specs.declared.works.ClientTask.TheVariants as work

-- the number of the work's transactions
abbrev pub transaction_count : ClientTask → ℕ
transaction_count (work.Once job) = 1
transaction_count (work.Fill fill) = fill.count

-- the number of the client's, up to the greatest number of 32 bits
abbrev pub most_in : Client → ℕ
most_in client = min (sum_by transaction_count client.works) (2 ^ 32 - 1)

-- the number that commit between two points: the one that is asked for, or those of the clients, up to that limit, divided by the points
abbrev pub every_of : Option ℕ → ℕ → List Client → ℕ
every_of (Some every) points clients = every
every_of None points clients = min (sum_by most_in clients) (2 ^ 32 - 1) / max points 1
