use Rattle.std.proofs.Common.{◌≡◌, ◌∙◌, rules}
use Rattle.pc_part.specs.Texts.{triple_text}
use Rattle.pc_entries.proofs.LentLaws.{is_kept, shown}
use Rattle.pc_entries.proofs.entry_text.EntryText.of.Goals as goal

pub of_text-kept-requires : goal.of_text-kept-requires
of_text-kept-requires c =
    let text : c.into_inner.result.items ≡ triple_text c.args.entry.now = search rules in
    is_kept _ _ _ c.args.entry.now text (search rules) (search rules) c.put_entry.ensures.lawful

pub returns-in-Ok : goal.returns-in-Ok
returns-in-Ok c =
    let text : c.into_inner.result.items ≡ triple_text c.args.entry.now = search rules in
    c.of_text-kept.ensures ∙ shown _ _ _ c.args.entry.now text (search rules) (search rules)
