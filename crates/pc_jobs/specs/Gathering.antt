-- The summary of the lines after a line, the last first.
use Rattle.std.specs.Prelude.{Bool, true, false, List, Option, Some, None, reverse}
use Rattle.pc_jobs.specs.declared.phrases.Phrase.{Phrase}
use Rattle.pc_jobs.specs.declared.phrases.Phrase.TheVariants as phrase
use Rattle.pc_jobs.specs.declared.workloads.Gathered.{Gathered}
use Rattle.pc_jobs.specs.Workloads.{points_to_take, clients_of_lines, works_in, ops_in}

-- what these lines give, each list from its end
abbrev pub gathered_of : List Phrase → Gathered
gathered_of lines = record { points = points_to_take lines; clients = reverse (clients_of_lines lines); works = reverse (works_in lines); ops = reverse (ops_in lines) }

-- what a line after a `txn` means for the transaction's end
abbrev pub closing : Phrase → Option Bool
closing phrase.Silent = None
closing (phrase.Does op) = None
closing phrase.End = Some true
closing phrase.Malformed = Some true
closing line = Some false
