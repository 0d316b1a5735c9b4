use Rattle.std.proofs.Common.{◌≡◌, sym, ◌∙◌, subst, true}
use Rattle.std.specs.Option.{is_some}
use Rattle.pc_model.specs.Database.{written}
use Rattle.pc_model.specs.History.{is_open}
use Rattle.pc_model.specs.Receipts.{own_of}
use Rattle.pc_types.specs.declared.Event.TheVariants.{Get}
use Rattle.pc_answers.specs.Replies.{get_reply}
use Rattle.pc_tie.specs.declared.sight.Sitting.{Sitting}
use Rattle.pc_latch.specs.Asked.{IsAsked}
use Rattle.pc_shared.proofs.Calling.{get_told, room_in, own_in, still}
use Rattle.pc_shared.proofs.store.Shared.get_as.Goals as goal

pub loop-preserved : goal.loop-preserved
loop-preserved g c =
    still g.N.StoreName.name.setting c.loop.seat c.get-answer.new.session _ (get_reply c.get-answer.result.0) (sym (c.is_read_waiting.ensures) ∙ c.if-is_read_waiting.true) c.get-answer.ensures.asked ∙ c.loop.invariant

pub returns-else-is_read_waiting : goal.returns-else-is_read_waiting
returns-else-is_read_waiting g c =
    let st = g.N.StoreName.name.setting in
    let asked = subst (λ (s : Sitting). IsAsked st s (Get s.number c.args.key.now) (get_reply c.get-answer.result.0) c.get-answer.new.session) c.loop.invariant c.get-answer.ensures.asked in
    let told = get_told st c.args.seat.now c.get-answer.new.session c.args.key.now c.get-answer.result.1 c.get-answer.result.0 (sym c.is_read_waiting.ensures ∙ c.if-is_read_waiting.false) asked in
    let own = subst (λ (s : Sitting). is_open s.number s.seen ≡ true → c.get-answer.result.1 ≡ is_some (written (own_of s.number s.seen).writes c.args.key.now)) c.loop.invariant c.get-answer.ensures.own_write in
    rw c.got_in.ensures (record { number = asked.number; own_write = λ opened. own_in c.get-answer.result.1 _ c.get-answer.result.0 (own opened); room = room_in c.get-answer.result.1 c.get-answer.result.0 (c.args.has_room ≡ true) c.get-answer.ensures.room; call = told.0; refused = told.1; no_wait = told.2; same = told.3 })
