use Rattle.std.proofs.Common.{ℕ, List, Option, sym, ap, ◌∙◌}
use Rattle.pc_dirty.specs.declared.side.Side.{Side}
use Rattle.pc_slots.specs.declared.versions.Aside.{Aside}
use Rattle.pc_slots.specs.Words.{is_marked}
use Rattle.pc_slots.specs.Slots.{slot_with, with_aside, aside_in, put_slot}
use Rattle.pc_slots.proofs.versions.put.Goals as goal

pub returns-clause-slot : goal.returns-clause-slot
returns-clause-slot c number key =
    let s = slot_with c.args.stage.side number key c.args.slot.now in
    ap (λ (v : Option (List ℕ)). record (with_aside c.note.new.aside s) { live = v }) c.replace-before.ensures.after
    ∙ (c.note.ensures s c.args.write.value (sym (c.is_in-is_closed.ensures ∙ ap (λ (x : Side). is_marked x c.args.slot.now) c.other.ensures)) c.replace-before.ensures.value
    ∙ ap (λ (a : Aside). put_slot c.args.stage.point c.args.write.author.transaction c.args.write.author.class c.args.write.copy c.args.write.value (with_aside a s)) (c.deref_mut.ensures.value ∙ (c.or_room-aside.ensures.seen ∙ ap aside_in c.take.ensures.value)))
