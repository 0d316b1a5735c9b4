use Rattle.std.proofs.Common.{List, ◌≡◌, length, ap, ◌∙◌, arith, append-nil}
use Rattle.std.specs.List.{flat_map}
use Rattle.pc_types.specs.declared.Entry.{Entry}
use Rattle.pc_kept_log.specs.Logs.{entries_of}
use Rattle.pc_log.specs.Texts.{entry_text}
use Rattle.pc_kept_log.proofs.PieceLaws.{single}
use Rattle.pc_kept_log.proofs.log.Log.size.Goals as goal

pub returns : goal.returns
returns c entry at =
    let one : c.texts.result.count ≡ 1 = omega (arith, c.texts.ensures.most, c.texts.ensures.some c.requires (omega arith)) in
    ap length c.texts.ensures.texts ∙ ap (λ (es : List Entry). length (flat_map entry_text es)) (single (entries_of c.args.self.now) c.args.place c.texts.result.count entry at one)
    ∙ ap length (append-nil (entry_text entry))
