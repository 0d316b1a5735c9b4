-- The output of `pcalc recover`.
use Rattle.std.specs.Prelude.{ℕ, Bool, true, false, if◌then◌else◌, List, [], ◌++◌, Option, Some, None, slice_get, codes, decimal}
use Rattle.std.specs.List.{flat_map}
use Rattle.pc_types.specs.Names.{refusal_name}
use Rattle.pc_types.specs.declared.refusal.Refusal.{Refusal}
use Rattle.pc_types.specs.declared.refusal.Refusal.TheVariants as why
use Rattle.pc_model.specs.Maps.{len}
use Rattle.pc_recover.specs.Recovery.{Recovery}
use Rattle.pc_recover.specs.declared.recovered.Skipped.{Skipped}
use Rattle.pc_texts.specs.Texts.{refusal_text, pair_text, printed_name}

-- a line of a word and a number
abbrev pub count_line : List ℕ → ℕ → List ℕ
count_line word number = word ++ (decimal number ++ codes "\n")

-- a log's rest was only truncated
abbrev pub is_cut : Refusal → Bool
is_cut why.Short = true
is_cut other = false

-- the line of the fault of the log's rest; none if it was only truncated
abbrev pub log_line : Option Refusal → List ℕ
log_line None = []
log_line (Some fault) = if is_cut fault then [] else codes "log " ++ (refusal_name fault ++ codes "\n")

-- the name of a place
abbrev pub name_at : Option (List ℕ) → List ℕ
name_at None = []
name_at (Some name) = name

-- the line of a part that was skipped
abbrev pub skipped_line : List (List ℕ) → Skipped → List ℕ
skipped_line names skipped = (codes "skipped " ++ printed_name (name_at (slice_get names skipped.place))) ++ (codes " " ++ (refusal_text skipped.reason ++ codes "\n"))

-- the counts: the point, and the number of the log's whole entries
abbrev pub counts_text : ℕ → ℕ → List ℕ
counts_text point entries = count_line (codes "point ") point ++ count_line (codes "entries ") entries

-- the damage: the line of the log's fault, and those of the parts that were skipped, by their names
abbrev pub damage_text : List (List ℕ) → Recovery → List ℕ
damage_text names found = log_line found.fault ++ flat_map (skipped_line names) found.skipped

-- the output after the counts: the damage, and the number of the pairs
abbrev pub details_text : List (List ℕ) → Recovery → List ℕ
details_text names found = damage_text names found ++ count_line (codes "pairs ") (len found.pairs)

-- the output of a recovery without the pairs, if the parts have these names
abbrev pub summary_text : List (List ℕ) → Recovery → List ℕ
summary_text names found = counts_text found.point found.entries ++ details_text names found

-- the pairs, if they are asked for
abbrev pub pairs_text : Bool → List (List ℕ × List ℕ) → List ℕ
pairs_text has_pairs pairs = if has_pairs then flat_map pair_text pairs else []

-- the whole output, with the pairs or without
abbrev pub recovery_text : Bool → List (List ℕ) → Recovery → List ℕ
recovery_text has_pairs names found = summary_text names found ++ pairs_text has_pairs found.pairs.entries
