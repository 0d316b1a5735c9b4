use Rattle.std.proofs.Common.{sym, ◌∙◌, subst}
use Rattle.pc_types.specs.declared.Event.TheVariants.{Commit}
use Rattle.pc_answers.specs.Replies.{commit_reply}
use Rattle.pc_tie.specs.declared.sight.Sitting.{Sitting}
use Rattle.pc_latch.specs.Asked.{IsAsked}
use Rattle.pc_shared.proofs.Calling.{commit_told, still}
use Rattle.pc_shared.proofs.store.Shared.commit_as.Goals as goal

pub loop-preserved : goal.loop-preserved
loop-preserved g c =
    still g.N.StoreName.name.setting c.loop.seat c.commit-answer.new.session _ (commit_reply c.commit-answer.result) (sym (c.is_commit_waiting.ensures) ∙ c.if-is_commit_waiting.true) c.commit-answer.ensures.asked ∙ c.loop.invariant

pub returns-else-is_commit_waiting : goal.returns-else-is_commit_waiting
returns-else-is_commit_waiting g c =
    let st = g.N.StoreName.name.setting in
    let asked = subst (λ (s : Sitting). IsAsked st s (Commit s.number) (commit_reply c.commit-answer.result) c.commit-answer.new.session) c.loop.invariant c.commit-answer.ensures.asked in
    let told = commit_told st c.args.seat.now c.commit-answer.new.session c.commit-answer.result (sym c.is_commit_waiting.ensures ∙ c.if-is_commit_waiting.false) asked in
    rw c.entry_in.ensures (record { number = asked.number; room = c.commit-answer.ensures.room; call = told.0; refused = told.1; no_wait = told.2; same = told.3 })
