use Rattle.std.proofs.Common.{◌∙◌, sym}
use Rattle.pc_taken.proofs.FirstLaws.{none_first}
use Rattle.pc_taken.proofs.both_lists.BothLists.draw.Goals as goal

pub returns-in_default : goal.returns-in_default
returns-in_default c =
    let inside = c.self.inside in
    let none = c.in_default.ensures.none in
    sym c.self.view_is ∙ none_first inside.rising.now inside.others inside.other none.0 none.1
