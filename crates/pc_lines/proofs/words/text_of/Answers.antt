use Rattle.std.proofs.Common.{rules}
use Rattle.pc_lines.proofs.WordLemmas.{plain_text}
use Rattle.pc_lines.proofs.words.text_of.Goals as goal

pub returns-then-are_plain : goal.returns-then-are_plain
returns-then-are_plain c = plain_text c.args.word.now (search rules) (search rules)
