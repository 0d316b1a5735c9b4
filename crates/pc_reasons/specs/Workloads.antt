-- Why a line of a workload is bad.
use Rattle.std.specs.Prelude.{ℕ, ◌-◌, ◌&&◌, ◌||◌, nat_lt, nat_le, Bool, true, false, List, [], ◌∷◌, Option, Some, None, if◌then◌else◌, length, take, slice_index_or, codes}
use Rattle.std.specs.List.{list_any}
use Rattle.std.specs.Str.{bytes_eq}
use Rattle.pc_lines.specs.Lines.{words_of, is_comment}
use Rattle.pc_reasons.specs.declared.faults.LineFault.{LineFault}
use Rattle.pc_reasons.specs.declared.faults.LineFault.TheVariants.{NoCommand, CarriageReturn}
use Rattle.pc_reasons.specs.declared.faults.WordKind.TheVariants as kind
use Rattle.pc_reasons.specs.declared.workloads.LineRole.{LineRole}
use Rattle.pc_reasons.specs.declared.workloads.LineRole.TheVariants as role
use Rattle.pc_reasons.specs.declared.workloads.WorkloadFault.{WorkloadFault}
use Rattle.pc_reasons.specs.declared.workloads.WorkloadFault.TheVariants as work
use Rattle.pc_reasons.specs.LineFaults.{no_word, one_word_fault, two_word_fault, three_word_fault, ends_with_cr}
use Rattle.pc_reasons.specs.Sentences.{fault_sentence}

-- a line's role if nothing is wrong with its words
abbrev pub role_with : LineRole → Option LineFault → LineRole
role_with its None = its
role_with its (Some fault) = role.Wrong fault

-- what a line within a transaction is, by its first word and those after it
abbrev pub inner_role : List ℕ → List (List ℕ) → LineRole
inner_role verb words =
    role_with role.Inside (if bytes_eq verb (codes "end") then no_word words
    else (if bytes_eq verb (codes "get") || bytes_eq verb (codes "del") then one_word_fault kind.WholeKey words
    else (if bytes_eq verb (codes "put") then two_word_fault kind.WholeKey kind.WholeValue words
    else (if bytes_eq verb (codes "add") then two_word_fault kind.WholeKey kind.Addend words else Some NoCommand))))

-- what any line is
abbrev pub verb_role : List ℕ → List (List ℕ) → LineRole
verb_role verb words =
    if bytes_eq verb (codes "points") then role_with role.Points (one_word_fault kind.PointCount words)
    else (if bytes_eq verb (codes "client") then role_with role.Client (one_word_fault kind.ClientNumber words)
    else (if bytes_eq verb (codes "txn") then role_with role.Begin (no_word words)
    else (if bytes_eq verb (codes "fill") then role_with role.Fill (three_word_fault kind.KeyPrefix kind.FillCount kind.WholeValue words) else inner_role verb words)))

-- what a line of these words is
abbrev pub words_role : List (List ℕ) → LineRole
words_role [] = role.Silent
words_role (verb ∷ words) = verb_role verb words

-- the reason for a line of this role: for a wrong one that ends with a CR, that
abbrev pub told_role : List ℕ → LineRole → LineRole
told_role text (role.Wrong fault) = if ends_with_cr text then role.Wrong CarriageReturn else role.Wrong fault
told_role text its = its

-- what a line is by itself
abbrev pub role_of : List ℕ → LineRole
role_of text = if is_comment text then role.Silent else told_role text (words_role (words_of text))

-- the role of a client's line
abbrev pub is_client_role : LineRole → Bool
is_client_role role.Client = true
is_client_role its = false

-- a client's line
abbrev pub is_client_line : List ℕ → Bool
is_client_line text = is_client_role (role_of text)

-- why a line of this role is the first bad one, given whether a client comes before it
abbrev pub role_fault : Bool → LineRole → Option WorkloadFault
role_fault has_client role.Silent = None
role_fault has_client role.Points = if has_client then Some work.PointsBehindClient else Some work.PointsAgain
role_fault has_client role.Client = Some work.ClientAgain
role_fault has_client role.Begin = if has_client then Some work.NoEnd else Some work.BeforeClients
role_fault has_client role.Inside = Some work.OutsideTransaction
role_fault has_client role.Fill = Some work.BeforeClients
role_fault has_client (role.Wrong fault) = Some (work.Line fault)

-- why the line after that many is the first bad one of these lines
abbrev pub fault_behind : List (List ℕ) → ℕ → Option WorkloadFault
fault_behind lines count = role_fault (list_any is_client_line (take count lines)) (role_of (slice_index_or lines count []))

-- the same of the line of this number, from 1
abbrev pub line_fault_at : List (List ℕ) → ℕ → Option WorkloadFault
line_fault_at lines number = if nat_lt 0 number && nat_le number (length lines) then fault_behind lines (number - 1) else None

-- the same in words
abbrev pub workload_sentence : WorkloadFault → List ℕ
workload_sentence (work.Line fault) = fault_sentence fault
workload_sentence work.PointsAgain = codes "the number of points was given before"
workload_sentence work.PointsBehindClient = codes "the number of points stands behind a client"
workload_sentence work.ClientAgain = codes "the session has a client already"
workload_sentence work.BeforeClients = codes "no client stands before it"
workload_sentence work.NoEnd = codes "its transaction has no end"
workload_sentence work.OutsideTransaction = codes "no transaction is open"
