use Rattle.std.proofs.Common.{length, ◌-◌, ◌≡◌, ◌≤◌, ◌++◌, drop}
use Rattle.std.specs.Option.{option_map}
use Rattle.pc_lines.specs.Words.{unescaped}
use Rattle.pc_lines.proofs.words.unescaped.Given as goal

abbrev pub invariant-loop-at : goal.invariant-loop-at
invariant-loop-at l = record {
  in_word : l.at ≤ length l.word;
  whole : option_map (λ rest. l.text.items ++ rest) (unescaped (drop l.at l.word)) ≡ unescaped l.word;
}

abbrev pub decreases-loop-at : goal.decreases-loop-at
decreases-loop-at l = length l.word - l.at
