use Rattle.pc_lines.proofs.WordLemmas.{one_more}
use Rattle.pc_lines.proofs.words.unescaped.Goals as goal

pub loop-at-preserved : goal.loop-at-preserved
loop-at-preserved c =
    let i = c.loop-at.invariant in
    let m = one_more c.loop-at.text.items c.push.new.self.items c.args.word.now c.loop-at.at c.in-Some.len c.in-Some.byte i.in_word c.in_ok-push-in-Some.ensures.items c.in-Some.ensures i.whole in
    record { in_word = m.0; whole = m.1 }
