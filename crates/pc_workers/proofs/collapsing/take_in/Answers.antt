use Rattle.std.proofs.Common.{List, [], ◌∷◌, ◌++◌, ◌||◌, ap, sym, ◌∙◌}
use Rattle.pc_model.specs.Files.{File}
use Rattle.pc_model.specs.Sets as set
use Rattle.pc_workers.specs.Collapsing.{has_point}
use Rattle.pc_workers.proofs.Holding.{has_point_joined}
use Rattle.pc_workers.proofs.collapsing.take_in.Goals as goal

pub returns-in-Ok : goal.returns-in-Ok
returns-in-Ok g c = λ point.
    let others = c.pop.new.self.items in
    ap (λ (fs : List File). has_point fs point) (c.push_reserved-in-Ok.ensures.items ∙ ap (λ (f : File). others ++ f ∷ []) c.in-Ok.ensures.joined)
    ∙ (has_point_joined others c.in-Some.last c.args.ticket point
    ∙ ap (λ (fs : List File). has_point fs point || set.contains c.args.ticket.points point) (sym c.in-Some.ensures.items))
