use Rattle.std.proofs.Common.{map, arith}
use Rattle.std.proofs.lemmas.List.{length-map}
use Rattle.pc_lines.specs.declared.lines.TheConstants.{MOST_WORDS}
use Rattle.pc_lines.specs.Lines.{words_of}
use Rattle.pc_lines.proofs.NextWord.{first_are}
use Rattle.pc_lines.proofs.lines.first_words.Goals as goal

pub returns : goal.returns
returns c =
    let same = length-map c.loop.words.items (λ w. w.now) in
    first_are MOST_WORDS (map (λ w. w.now) c.loop.words.items) (words_of c.args.text.now) (words_of c.loop.rest.now) c.loop.invariant.0 (omega (arith, same, c.loop.invariant.1))
