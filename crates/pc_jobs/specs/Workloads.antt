-- The meaning of a workload's text: the work that it gives, or the number of its first bad line. Which lines are bad is said
-- of each by itself, from the lines before it and those after it; what the lines give is said of lines none of which is bad.
use Rattle.std.specs.Prelude.{◌+◌, ◌==◌, ◌||◌, not, ℕ, Bool, true, false, List, [], ◌∷◌, ◌++◌, Option, Some, None, if◌then◌else◌, length, map, fold}
use Rattle.std.specs.List.{list_any}
use Rattle.pc_lines.specs.Lines.{lines_in}
use Rattle.pc_jobs.specs.declared.works.Op.{Op}
use Rattle.pc_jobs.specs.declared.works.ClientTask.{ClientTask}
use Rattle.pc_jobs.specs.declared.works.ClientTask.TheVariants as work
use Rattle.pc_jobs.specs.declared.works.Client.{Client}
use Rattle.pc_jobs.specs.declared.works.Workload.{Workload}
use Rattle.pc_jobs.specs.declared.phrases.Phrase.{Phrase}
use Rattle.pc_jobs.specs.declared.phrases.Phrase.TheVariants as phrase
use Rattle.pc_jobs.specs.declared.workloads.WorkloadReading.{WorkloadReading}
use Rattle.pc_jobs.specs.declared.workloads.WorkloadReading.TheVariants as reading
use Rattle.pc_jobs.specs.Phrases.{spelled_phrase}

-- a line that gives the points
abbrev pub is_points : Phrase → Bool
is_points (phrase.Points points) = true
is_points line = false

-- a line that a client's work begins with
abbrev pub is_client : Phrase → Bool
is_client (phrase.Client session) = true
is_client line = false

-- that of this session
abbrev pub is_client_of : ℕ → Phrase → Bool
is_client_of session (phrase.Client s) = s == session
is_client_of session line = false

-- whether a transaction is open after a line, if one was open before it or not
abbrev pub is_open_behind : Bool → Phrase → Bool
is_open_behind before phrase.Begin = true
is_open_behind before (phrase.Does op) = before
is_open_behind before phrase.Silent = before
is_open_behind before line = false

-- whether a transaction is open after these lines
abbrev pub is_open_after_lines : List Phrase → Bool
is_open_after_lines lines = fold is_open_behind false lines

-- whether the lines after a `txn` end its transaction, or come to a line that is bad by itself
abbrev pub closes : List Phrase → Bool
closes [] = false
closes (phrase.Silent ∷ lines) = closes lines
closes (phrase.Does op ∷ lines) = closes lines
closes (phrase.End ∷ lines) = true
closes (phrase.Malformed ∷ lines) = true
closes (line ∷ lines) = false

-- whether a line is bad, by the lines before it and after it
abbrev pub is_bad_line : List Phrase → Phrase → List Phrase → Bool
is_bad_line before phrase.Silent behind = false
is_bad_line before (phrase.Points points) behind = list_any is_points before || list_any is_client before
is_bad_line before (phrase.Client session) behind = list_any (is_client_of session) before
is_bad_line before phrase.Begin behind = not (list_any is_client before) || not (closes behind)
is_bad_line before (phrase.Does op) behind = not (is_open_after_lines before)
is_bad_line before phrase.End behind = not (is_open_after_lines before)
is_bad_line before (phrase.Fill fill) behind = not (list_any is_client before)
is_bad_line before phrase.Malformed behind = true

-- the number of the first bad line, from 1, of some lines with others before them
abbrev pub first_bad : List Phrase → List Phrase → Option ℕ
first_bad before [] = None
first_bad before (line ∷ behind) = if is_bad_line before line behind then Some (length before + 1) else first_bad (before ++ line ∷ []) behind

-- the operations of the transaction that is open before these lines
abbrev pub ops_in : List Phrase → List Op
ops_in [] = []
ops_in (phrase.Silent ∷ lines) = ops_in lines
ops_in (phrase.Does op ∷ lines) = op ∷ ops_in lines
ops_in (line ∷ lines) = []

-- the work of the client whose line comes before these lines
abbrev pub works_in : List Phrase → List ClientTask
works_in [] = []
works_in (phrase.Begin ∷ lines) = work.Once (record { ops = ops_in lines }) ∷ works_in lines
works_in (phrase.Fill fill ∷ lines) = work.Fill fill ∷ works_in lines
works_in (phrase.Client session ∷ lines) = []
works_in (line ∷ lines) = works_in lines

-- the clients of these lines
abbrev pub clients_of_lines : List Phrase → List Client
clients_of_lines [] = []
clients_of_lines (phrase.Client session ∷ lines) = record { session = session; works = works_in lines } ∷ clients_of_lines lines
clients_of_lines (line ∷ lines) = clients_of_lines lines

-- the number of points to take: none if no line says it
abbrev pub points_to_take : List Phrase → ℕ
points_to_take [] = 0
points_to_take (phrase.Points points ∷ lines) = points
points_to_take (line ∷ lines) = points_to_take lines

-- what the lines give, if none is bad
abbrev pub workload_of : List Phrase → Workload
workload_of lines = record { points = points_to_take lines; clients = clients_of_lines lines }

-- a bad line, if there is one, and otherwise the workload
abbrev pub reading_of_workload : Option ℕ → Workload → WorkloadReading
reading_of_workload (Some line) workload = reading.BadLine line
reading_of_workload None workload = reading.Runs workload

-- the meaning of some lines
abbrev pub worth : List Phrase → WorkloadReading
worth lines = reading_of_workload (first_bad [] lines) (workload_of lines)

-- what the lines of a text spell
abbrev pub phrases_in : List ℕ → List Phrase
phrases_in text = map spelled_phrase (lines_in text)

-- the meaning of a text
abbrev pub reading_of : List ℕ → WorkloadReading
reading_of text = worth (phrases_in text)
