-- The meaning of the reasons for a bad line, by the rules of workloads alone.
use Rattle.std.specs.Prelude.{◌≡◌, ◌⊎◌, ◌+◌, ℕ, true, false, List, ◌∷◌, ◌++◌, Option, IsSomeAnd, length}
use Rattle.std.specs.List.{list_any}
use Rattle.pc_jobs.specs.declared.works.Op.{Op}
use Rattle.pc_jobs.specs.declared.works.Fill.{Fill}
use Rattle.pc_jobs.specs.declared.phrases.Phrase.{Phrase}
use Rattle.pc_jobs.specs.declared.phrases.Phrase.TheVariants as phrase
use Rattle.pc_jobs.specs.Workloads.{is_points, is_client, is_client_of, is_open_after_lines, closes}
use Rattle.pc_reasons.specs.declared.workloads.WorkloadFault.{WorkloadFault}
use Rattle.pc_reasons.specs.declared.workloads.WorkloadFault.TheVariants as work

-- the reason holds of a line between those before it and those after it
abbrev pub IsLineReason : List Phrase → Phrase → List Phrase → WorkloadFault → Type 0
IsLineReason before line behind (work.Line fault) = line ≡ phrase.Malformed
IsLineReason before line behind work.PointsAgain = (is_points line ≡ true) × (list_any is_points before ≡ true)
IsLineReason before line behind work.PointsBehindClient = (is_points line ≡ true) × (list_any is_client before ≡ true)
IsLineReason before line behind work.ClientAgain = (session : ℕ) × (line ≡ phrase.Client session) × (list_any (is_client_of session) before ≡ true)
IsLineReason before line behind work.BeforeClients = ((line ≡ phrase.Begin) ⊎ ((fill : Fill) × (line ≡ phrase.Fill fill))) × (list_any is_client before ≡ false)
IsLineReason before line behind work.NoEnd = (line ≡ phrase.Begin) × (closes behind ≡ false)
IsLineReason before line behind work.OutsideTransaction = ((line ≡ phrase.End) ⊎ ((op : Op) × (line ≡ phrase.Does op))) × (is_open_after_lines before ≡ false)

-- there is a reason, and it holds of the line of this number
abbrev pub IsExplained : List Phrase → ℕ → Option WorkloadFault → Type 0
IsExplained lines number fault = (before : List Phrase) × (line : Phrase) × (behind : List Phrase)
    × (before ++ line ∷ behind ≡ lines) × (number ≡ length before + 1) × IsSomeAnd fault (IsLineReason before line behind)
