-- The summary of the lines before a line.
use Rattle.std.specs.Prelude.{List, ◌||◌}
use Rattle.std.specs.List.{list_any}
use Rattle.pc_jobs.specs.declared.phrases.Phrase.{Phrase}
use Rattle.pc_jobs.specs.declared.workloads.Seen.{Seen}
use Rattle.pc_jobs.specs.Workloads.{is_points, is_client, is_open_after_lines, is_open_behind}

-- what was seen in these lines
abbrev pub seen_in_lines : List Phrase → Seen
seen_in_lines lines = record { points = list_any is_points lines; client = list_any is_client lines; inside = is_open_after_lines lines }

-- what was seen, and one line more
abbrev pub seen_behind : Seen → Phrase → Seen
seen_behind seen line = record { points = seen.points || is_points line; client = seen.client || is_client line; inside = is_open_behind seen.inside line }
