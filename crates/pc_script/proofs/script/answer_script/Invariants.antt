use Rattle.std.proofs.Common.{◌≡◌}
use Rattle.pc_script.specs.Holding.{HasRoomForPairs}
use Rattle.pc_script.proofs.ScriptLemmas.{SoFar}
use Rattle.pc_script.proofs.script.answer_script.Given as goal

abbrev pub invariant-loop-text : goal.invariant-loop-text
invariant-loop-text g l =
    let contents = g.W.Write.contents in
    record {
      counted : l.out.failures ≡ l.fn.out.failures;
      room : HasRoomForPairs l.setup l.made;
      so_far : SoFar l.setup (contents l.fn.out.inner) (contents l.out.inner) l.made l.status l.initial.text-iterator l.text-iterator;
    }
