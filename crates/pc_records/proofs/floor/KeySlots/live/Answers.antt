use Rattle.std.proofs.Common.{◌∙◌, ap, refl, sym}
use Rattle.pc_records.specs.Ends.{queues_in}
use Rattle.pc_records.specs.Floor.{Floor, has_spot}
use Rattle.pc_records.proofs.FloorLaws.{spot_row}
use Rattle.pc_records.proofs.FloorMaking.{of_there}
use Rattle.pc_records.proofs.floor.KeySlots.live.Goals as goal

pub get-requires : goal.get-requires
get-requires c = spot_row c.self.inside.sets.side (queues_in c.self.inside.table.rows c.self.inside.locks) c.args.id c.self.inside.table.rows (ap (λ (f : Floor). has_spot f.spots c.args.id) c.self.view_is ∙ c.requires.there)

pub returns : goal.returns
returns c =
    let i = c.self.inside in
    rw (← c.self.view_is)
    (c.as_ref.ensures.value ∙ sym (of_there i.sets.side (queues_in i.table.rows i.locks) (λ slot. slot.live) c.get.result.now.live c.args.id c.get.result.now (λ key. refl) i.table.rows c.get.ensures.record_of))
