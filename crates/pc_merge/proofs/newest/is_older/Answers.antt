use Rattle.std.proofs.Common.{inr, refl, sym, ◌∙◌}
use Rattle.pc_merge.proofs.OrderLaws.{same_entry, contents_differ}
use Rattle.pc_merge.proofs.newest.is_older.Goals as goal

pub returns-then-not-have_same_content-clause-conflict : goal.returns-then-not-have_same_content-clause-conflict
returns-then-not-have_same_content-clause-conflict c =
    let one = c.args.one.now in let other = c.args.other.now in
    (refl, sym c.point-point.ensures ∙ c.if-point-other_point.false ∙ c.point-other_point.ensures, contents_differ one.content other.content (sym c.have_same_content.ensures ∙ c.if-not-have_same_content.true))

pub returns-clause-older : goal.returns-clause-older
returns-clause-older c =
    let one = c.args.one.now in let other = c.args.other.now in
    inr (same_entry one other c.requires (sym c.point-point.ensures ∙ c.if-point-other_point.false ∙ c.point-other_point.ensures) (sym c.have_same_content.ensures ∙ c.if-not-have_same_content.false))
