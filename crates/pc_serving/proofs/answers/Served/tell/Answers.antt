use Rattle.std.proofs.Common.{◌≡◌, ◌==◌, ◌&&◌, ◌||◌, ◌++◌, ℕ, Bool, List, Ok, subst, ap}
use Rattle.std.specs.Prelude.{codes}
use Rattle.pc_types.specs.declared.limits.TheConstants.{MOST_SESSIONS}
use Rattle.pc_io.proofs.PutsLaws.{puts_then}
use Rattle.pc_sessions.specs.SessionSets.{has_session, is_number}
use Rattle.pc_engine.specs.Store.{Store}
use Rattle.pc_texts.specs.Texts.{reply_text}
use Rattle.pc_serving.specs.Serving.{is_wait}
use Rattle.pc_serving.specs.Sweeps.{IsTextSent, swept_to, waits_now}
use Rattle.pc_serving.proofs.AnswerLaws.{told_then}
use Rattle.pc_serving.proofs.SweepLaws.{swept_same}
use Rattle.pc_serving.proofs.answers.Served.tell.Goals as goal

pub returns-clause-told : goal.returns-clause-told
returns-clause-told g c =
    let contents = g.W.Write.contents in
    let own = c.args.own in
    let waits = waits_now c.args.self.now.world in
    let was : ℕ → Bool = λ s. has_session c.args.self.now.waiting s || (is_wait c.args.reply.now && (is_number own && (s == own))) in
    let same : (s : ℕ) → waits_now c.note.new.self.world s ≡ waits s = λ s. ap (λ (world : Store). waits_now world s) c.note.ensures.world in
    told_then contents c.args.out.now c.put.new.self c.sweep.new.out c.sweep.result (reply_text c.args.reply.now ++ codes "\n") (swept_to waits was own MOST_SESSIONS)
    (puts_then contents c.args.out.now c.put_reply.new.out c.put.new.self (Ok tt) (reply_text c.args.reply.now) (codes "\n") c.in_ok-put_reply.ensures c.in_ok-put.ensures)
    (subst (λ (t : List ℕ). IsTextSent contents c.put.new.self c.sweep.new.out c.sweep.result t)
    (swept_same waits (waits_now c.note.new.self.world) was (has_session c.note.new.self.waiting) own MOST_SESSIONS same c.note.ensures.noted) c.sweep.ensures.told)
