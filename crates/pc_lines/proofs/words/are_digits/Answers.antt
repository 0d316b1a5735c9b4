use Rattle.std.proofs.Common.{rules, tests}
use Rattle.std.proofs.lemmas.Iterator.{YieldsList-from_slice}
use Rattle.std.proofs.lemmas.Iterator.Search.{all_from_yields_List}
use Rattle.pc_lines.specs.Words.{is_digit}
use Rattle.pc_lines.proofs.words.are_digits.Goals as goal

pub returns : goal.returns
returns c = all_from_yields_List is_digit _ _ _ c.all.ensures.ran (YieldsList-from_slice c.args.word.now cc) (λ x b q k. search (rules, tests))
