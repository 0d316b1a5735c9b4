use Rattle.std.proofs.Common.{codes}
use Rattle.pc_io.proofs.PutsLaws.{puts_then}
use Rattle.pc_texts.specs.Texts.{reply_text}
use Rattle.pc_script.proofs.script.put_answer.Goals as goal

pub returns-in_ok-put_reply-in-Says : goal.returns-in_ok-put_reply-in-Says
returns-in_ok-put_reply-in-Says g c =
    rw c.in-Says.is (puts_then g.W.Write.contents c.args.out.now c.put_reply.new.out c.put-in-Says.new.self c.put-in-Says.result (reply_text c.in-Says.reply) (codes "\n") c.in_ok-put_reply-in-Says.ensures c.put-in-Says.ensures)

pub returns-in-State : goal.returns-in-State
returns-in-State g c = rw c.in-State.is c.put_state.ensures
