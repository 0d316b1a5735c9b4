-- The output of a run, and the status.
use Rattle.std.specs.Prelude.{ℕ, List, ◌++◌, Option, Some, None, codes, decimal}
use Rattle.pc_texts.specs.Texts.{collapsed_line, check_line}
use Rattle.pc_outcomes.specs.declared.run_report.Collapsed.{Collapsed}
use Rattle.pc_outcomes.specs.declared.run_report.StoreReport.{StoreReport}
use Rattle.pc_outcomes.specs.declared.run_report.RunReport.{RunReport}
use Rattle.pc_outcomes.specs.declared.run_report.Printed.{Printed}
use Rattle.pc_outcomes.specs.declared.run_report.Printed.TheVariants as printed

-- a word and a number, alone in a line
abbrev pub number_line : List ℕ → ℕ → List ℕ
number_line word number = word ++ (decimal number ++ codes "\n")

-- the lines of the file of all points
abbrev pub collapsed_lines : Collapsed → List ℕ
collapsed_lines file = collapsed_line file.points file.entries ++ number_line (codes "state pairs ") file.pairs

-- these lines, or the one that says that there is no such file
abbrev pub file_lines : Option Collapsed → List ℕ
file_lines None = codes "collapsed none\n"
file_lines (Some file) = collapsed_lines file

-- what is printed of what a closed store left
abbrev pub left_text : StoreReport → List ℕ
left_text left = file_lines left.collapsed ++ check_line left.is_right

-- how many jobs were committed, and how many given up, and how many points were taken
abbrev pub run_counts_text : RunReport → List ℕ
run_counts_text o = codes "commits " ++ (decimal o.commits ++ (codes "\ngave up " ++ (decimal o.given_up ++ (codes "\npoints " ++ (decimal o.points ++ codes "\n")))))

-- the lines of a run
abbrev pub outcome_text : RunReport → List ℕ
outcome_text o = run_counts_text o ++ left_text o.left

-- what is printed of a workload: the number of its first bad line, or the lines of its run
abbrev pub printed_text : Printed → List ℕ
printed_text (printed.BadLine line) = number_line (codes "bad line ") line
printed_text (printed.Whole outcome) = outcome_text outcome

-- its status
abbrev pub run_status : Printed → ℕ
run_status (printed.BadLine line) = 3
run_status (printed.Whole outcome) = 0
