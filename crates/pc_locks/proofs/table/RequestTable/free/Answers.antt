use Rattle.std.proofs.Common.{◌∙◌, ap}
use Rattle.std.specs.Prelude.{option_map}
use Rattle.pc_locks.specs.declared.node.Node.{Node}
use Rattle.pc_locks.specs.Lines.{link_at}
use Rattle.pc_locks.specs.States.{slots_of, is_listed}
use Rattle.pc_locks.specs.Tables.{node_at, links_in, own_links_in, placed}
use Rattle.pc_locks.specs.Keepers.{KeptRequests}
use Rattle.pc_locks.proofs.Columns.{link_kept}
use Rattle.pc_locks.proofs.ListLemmas.{ListsStay, freed_lists}
use Rattle.pc_locks.proofs.table.RequestTable.free.Goals as goal
use Rattle.pc_locks.proofs.table.RequestTable.free.Goals.{After-try_remove}

stay : (c : After-try_remove) → ListsStay (own_links_in c.self.inside.nodes.slots) (own_links_in c.try_remove.new.self.slots) c.self.inside.ends
stay c =
    freed_lists c.self.inside.nodes.slots c.try_remove.new.self.slots c.self.inside.ends c.args.id
    (λ t. ap (λ (v : KeptRequests). is_listed (slots_of v.entries t) c.args.id) c.self.view_is ∙ c.requires t) c.try_remove.ensures.updates.others c.self.invariant

pub invariant_of-self : goal.invariant_of-self
invariant_of-self c = (stay c).lists

pub returns : goal.returns
returns c = record {
  gone = ap (option_map placed) c.try_remove.ensures.updates.changed;
  nodes = λ other n. ap (option_map placed) (c.try_remove.ensures.updates.others other n) ∙ ap (λ (v : KeptRequests). node_at v.nodes.slots other) c.self.view_is;
  links = λ other n. link_kept (λ (m : Node). m.next) c.self.inside.nodes.slots c.try_remove.new.self.slots other (c.try_remove.ensures.updates.others other n) ∙ ap (λ (v : KeptRequests). link_at (links_in v.nodes.slots) other) c.self.view_is;
  lists = λ t. (stay c).slots t ∙ ap (λ (v : KeptRequests). slots_of v.entries t) c.self.view_is;
  filled = (stay c).lists.filled;
}
