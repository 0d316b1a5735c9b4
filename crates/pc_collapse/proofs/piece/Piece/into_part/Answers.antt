use Rattle.pc_collapse.proofs.FoldedFiles.{copy_joins}
use Rattle.pc_collapse.proofs.LentParts.{lent_is}
use Rattle.pc_collapse.proofs.piece.Piece.into_part.Goals as goal

pub returns-in-Lent : goal.returns-in-Lent
returns-in-Lent g c =
    let same = lent_is g.G.Given.parts c.args.parts.now c.in-Lent.number c.self.inside.source c.index-parts-number.result c.args.self c.requires c.in-Lent.is c.self.invariant c.self.view_is c.index-parts-number.is in
    copy_joins _ c.index-parts-number.result _ c.join.ensures.joined c.join.ensures.refused same
