use Rattle.std.proofs.Common.{◌∷◌}
use Rattle.pc_script.proofs.ScriptLemmas.{asks}
use Rattle.pc_script.proofs.script.answer_stored.Goals as goal

pub returns-in-Asks-clause-answer : goal.returns-in-Asks-clause-answer
returns-in-Asks-clause-answer c = λ history stands.
    let f = c.step.ensures.follows history stands in
    (record { event = c.in-Asks.event; reply = c.step.result } ∷ history, f.stands, asks _ history c.args.line c.in-Asks.event c.step.result c.in-Asks.is f.legal)
