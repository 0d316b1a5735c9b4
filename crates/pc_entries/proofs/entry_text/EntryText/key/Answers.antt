use Rattle.std.proofs.Common.{◌≡◌, take, drop, ◌∙◌, rules}
use Rattle.pc_entries.proofs.LentLaws.{key_slice}
use Rattle.pc_entries.proofs.entry_text.EntryText.key.Goals as goal

pub returns-clause-bytes : goal.returns-clause-bytes
returns-clause-bytes c =
    let e = c.self.inside in
    let shown : drop 2 (take e.key_end e.text.items) ≡ c.args.self.now.key = search rules in
    rw (c.from.ensures, c.deref.ensures.value) (key_slice e.key_end e.text.items c.self.invariant.0.ends.0 ∙ shown)
