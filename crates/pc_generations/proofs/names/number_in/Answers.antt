use Rattle.std.proofs.Common.{◌∙◌, sym, ap, arith}
use Rattle.pc_generations.specs.Names.{folder_name}
use Rattle.pc_generations.proofs.DigitLaws.{not_both, read_is}
use Rattle.pc_generations.proofs.names.number_in.Goals as goal
use Rattle.pc_generations.proofs.names.number_in.Goals.{then-number-gt-MOST_GENERATIONS-via-then-number-gt-MOST_GENERATIONS, then-number-gt-MOST_GENERATIONS-via-else-number-gt-MOST_GENERATIONS+then-not-is_named}

pub returns-then-number-gt-MOST_GENERATIONS-clause-other : goal.returns-then-number-gt-MOST_GENERATIONS-clause-other
returns-then-number-gt-MOST_GENERATIONS-clause-other c none n most named =
    let same = read_is c.args.name.now c.digits_of-number.result n c.digits_of-number.ensures most named in
    elim c.then-number-gt-MOST_GENERATIONS.branch [
      | then-number-gt-MOST_GENERATIONS-via-then-number-gt-MOST_GENERATIONS w ↦ omega (arith, same, most, w.if-number-gt-MOST_GENERATIONS.true)
      | then-number-gt-MOST_GENERATIONS-via-else-number-gt-MOST_GENERATIONS+then-not-is_named w ↦ not_both (w.if-not-is_named.true) (w.is_named.ensures.1 (named ∙ ap folder_name (sym same)))
    ]
