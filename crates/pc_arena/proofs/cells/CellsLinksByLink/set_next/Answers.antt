use Rattle.std.proofs.Common.{rules, ◌∙◌}
use Rattle.pc_arena.specs.Cells.{item_of, link_of}
use Rattle.pc_arena.proofs.Columns.{map_same, column_here, column_other}
use Rattle.pc_arena.proofs.cells.CellsLinksByLink.set_next.Goals as goal

pub returns-clause-beside : goal.returns-clause-beside
returns-clause-beside g c = (map_same item_of _ _ c.index_mut.result.now _ (search rules) c.put_link.ensures.item, (search rules))

pub returns-clause-set : goal.returns-clause-set
returns-clause-set g c = column_here link_of _ _ c.args.id _ c.id.view_is c.requires ∙ c.put_link.ensures.link

pub returns-clause-others : goal.returns-clause-others
returns-clause-others g c = λ other n. column_other link_of _ _ c.args.id other _ c.id.view_is n
