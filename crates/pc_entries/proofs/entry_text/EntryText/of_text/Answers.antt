use Rattle.std.proofs.Common.{◌≡◌, ◌-◌, take, drop, ap, ◌∙◌, subst}
use Rattle.pc_types.specs.Bytes.{IsBytes}
use Rattle.pc_types.specs.Heads.{head}
use Rattle.pc_entries.proofs.LentLaws.{key_slice}
use Rattle.pc_entries.proofs.entry_text.EntryText.of_text.Goals as goal

pub invariant_of-result : goal.invariant_of-result
invariant_of-result c =
    let slice : take (c.from.result - 2) (drop 2 c.deref.result.now) ≡ drop 2 (take c.args.key_end c.args.text.items) =
    rw (c.from.ensures, c.deref.ensures.value) (key_slice c.args.key_end c.args.text.items c.requires.ends.0) in
    (c.requires, (c.head_of-head.ensures.head ∙ ap head slice, subst IsBytes slice c.head_of-head.ensures.bytes))
