use Rattle.std.proofs.Common.{◌≡◌, ◌∙◌, rules}
use Rattle.pc_entries.proofs.LentLaws.{is_kept, shown}
use Rattle.pc_entries.proofs.lent_entry.LentEntry.keep.Goals as goal

pub of_text-kept-requires : goal.of_text-kept-requires
of_text-kept-requires c =
    let point : c.self.inside.point ≡ c.args.self.now.point = search rules in
    is_kept _ _ _ c.args.self.now c.in_ok-text.ensures.text c.key_end.ensures point c.in_ok-text.ensures.limits

pub returns : goal.returns
returns c =
    let point : c.self.inside.point ≡ c.args.self.now.point = search rules in
    c.of_text-kept.ensures ∙ shown _ _ _ c.args.self.now c.in_ok-text.ensures.text c.key_end.ensures point
