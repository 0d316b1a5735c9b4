use Rattle.std.proofs.Common.{rules}
use Rattle.pc_lines.proofs.NextWord.{no_word, lone_word, word_before}
use Rattle.pc_lines.proofs.lines.next_word.Goals as goal

pub returns-then-is_empty : goal.returns-then-is_empty
returns-then-is_empty c = no_word c.args.text.now c.word_at.result c.word_at.ensures.place (search rules)

pub returns-then-end-text : goal.returns-then-end-text
returns-then-end-text c = lone_word c.args.text.now c.word_at.result c.space_at-end.result c.word_at.ensures.place c.space_at-end.ensures.place (search rules) (search rules)

pub returns : goal.returns
returns c = word_before c.args.text.now c.word_at.result c.space_at-end.result c.word_at.ensures.place c.space_at-end.ensures.place (search rules) (search rules)
