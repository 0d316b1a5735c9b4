use Rattle.std.proofs.Common.{◌≡◌, ◌++◌, map}
use Rattle.arrayvec.specs.ArrayVec.{array_vec_len}
use Rattle.pc_lines.specs.Lines.{words_of}
use Rattle.pc_lines.proofs.lines.first_words.Given as goal

abbrev pub invariant-loop : goal.invariant-loop
invariant-loop l = (words_of l.text ≡ map (λ w. w.now) l.words.items ++ words_of l.rest) × (array_vec_len l.words ≡ l.counter)
