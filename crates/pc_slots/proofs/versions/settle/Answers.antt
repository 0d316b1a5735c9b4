use Rattle.std.proofs.Common.{◌||◌, Bool, true, sym, ap, ◌∙◌}
use Rattle.pc_dirty.specs.declared.side.Side.{Side}
use Rattle.pc_slots.specs.declared.cells.Cell.{Cell}
use Rattle.pc_slots.specs.declared.versions.Aside.{Aside}
use Rattle.pc_slots.specs.Words.{is_marked}
use Rattle.pc_slots.specs.Slots.{slot_with, with_aside, aside_in, settled}
use Rattle.pc_slots.proofs.Marks.{slot_marked}
use Rattle.pc_slots.proofs.versions.settle.Goals as goal

pub returns-clause-slot : goal.returns-clause-slot
returns-clause-slot c number key =
    let s = slot_with c.args.stage.side number key c.args.slot.now in
    ap (λ (x : Cell). slot_with c.args.stage.side number key x) c.put_mark.ensures
    ∙ (slot_marked c.args.stage.side number key (record c.args.slot.now { aside = c.trimmed.result })
    ∙ (ap (λ (a : Aside). record (with_aside a s) { is_in_open_set = true }) c.trimmed.ensures.seen
    ∙ (ap (λ (b : Bool). record (with_aside c.commit-is_written.new.aside s) { is_in_open_set = b || s.is_in_open_set }) (sym c.if-not-is_written.false)
    ∙ (c.commit-is_written.ensures.slot s (sym (c.is_in-is_closed.ensures ∙ ap (λ (x : Side). is_marked x c.args.slot.now) c.other.ensures))
    ∙ ap (λ (a : Aside). settled c.args.stage.point (with_aside a s)) (c.deref_mut.ensures.value ∙ ap aside_in c.in-Some.ensures.value)))))
