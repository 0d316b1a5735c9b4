use Rattle.std.proofs.Common.{◌-◌, List, ap, ◌∙◌, arith}
use Rattle.std.specs.List.{flat_map}
use Rattle.pc_types.specs.declared.Entry.{Entry}
use Rattle.pc_kept_log.specs.Logs.{entries_of}
use Rattle.pc_log.specs.Texts.{entry_text}
use Rattle.pc_kept_log.proofs.PieceLaws.{some_of}
use Rattle.pc_kept_log.proofs.log.Log.texts.Goals as goal

pub returns-clause-texts : goal.returns-clause-texts
returns-clause-texts c =
    let begin = c.args.from - c.first.result in
    c.text.ensures.text
    ∙ ap (λ (es : List Entry). flat_map entry_text es)
    (some_of (entries_of c.args.self.now) c.piece_of-piece.result.now c.args.from c.piece_of-piece.ensures begin c.min-count.result (omega (arith, c.first.ensures)) (omega (arith, c.min-count.ensures, c.len-2.ensures, c.first.ensures, c.piece_of-piece.ensures.ends, c.piece_of-piece.ensures.begins)))
