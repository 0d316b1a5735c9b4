use Rattle.std.proofs.Common.{sym, ap, ◌∙◌}
use Rattle.pc_merge.specs.Drawing.{has_key}
use Rattle.pc_merge.proofs.OrderLaws.{least_is_above}
use Rattle.pc_merge.proofs.newest.least_with.Goals as goal

pub returns-else-is_of_key-clause-none : goal.returns-else-is_of_key-clause-none
returns-else-is_of_key-clause-none c =
    let entry = c.args.entry.now in
    least_is_above c.args.firsts.now c.in_ok-place.place entry c.in_ok-place.ensures.least c.requires (sym (c.is_of_key.ensures ∙ ap (has_key entry.key) c.standing.ensures) ∙ c.if-is_of_key.false)
