use Rattle.std.proofs.Common.{◌≡◌, ◌∙◌, ap, subst}
use Rattle.std.specs.Prelude.{[], IfOk}
use Rattle.pc_dirty.specs.declared.side.Side.{Side}
use Rattle.pc_slots.specs.Slots.{slot_with}
use Rattle.pc_records.specs.Ends.{queues_in}
use Rattle.pc_records.specs.Floor.{Floor, has_spot, copy_kept}
use Rattle.pc_records.proofs.FloorLaws.{spot_row}
use Rattle.pc_records.proofs.FloorMaking.{copied_there, copy_alike, kept_copy}
use Rattle.pc_records.proofs.floor.KeySlots.copy_to_keep.Goals as goal

pub get-requires : goal.get-requires
get-requires c = spot_row c.self.inside.sets.side (queues_in c.self.inside.table.rows c.self.inside.locks) c.args.id c.self.inside.table.rows (ap (λ (f : Floor). has_spot f.spots c.args.id) c.self.view_is ∙ c.requires.there)

pub returns : goal.returns
returns c =
    let i = c.self.inside in
    let x = c.get.result.now in
    rw (← c.self.view_is)
    (copied_there i.sets.side (queues_in i.table.rows i.locks) (copy_kept c.args.point c.args.class) (copy_kept c.args.point c.args.class (slot_with i.sets.side 0 [] x)) c.args.id x i.table.rows c.get.ensures.record_of c.copy_to_keep.result (λ key. copy_alike i.sets.side c.args.point c.args.class c.args.id key x)
    (subst (λ (s : Side). IfOk c.copy_to_keep.result (λ copy. copy ≡ copy_kept c.args.point c.args.class (slot_with s 0 [] x))) c.open_side-side.ensures (kept_copy c.open_side-side.result c.args.point c.args.class x c.copy_to_keep.result c.copy_to_keep.ensures.kept c.copy_to_keep.ensures.none)))
