use Rattle.std.proofs.Common.{◌∷◌, inr, refl, sym, ap, ◌∙◌}
use Rattle.pc_serving.specs.Points.{due_in}
use Rattle.pc_serving.proofs.pace.Pace.go_on.Goals as goal

pub returns-clause-turn : goal.returns-clause-turn
returns-clause-turn c history stands =
    let follows = c.step-reply.ensures.follows history stands in
    let due = ap (due_in c.args.self.now) (sym stands.parts.cycle.phase ∙ sym c.phase.ensures) ∙ (sym c.due.ensures ∙ c.in-Some.is) in
    (record { event = c.in-Some.event; reply = c.step-reply.result } ∷ history, follows.stands, inr (c.in-Some.event, c.step-reply.result, due, follows.legal, refl, c.note.ensures.noted, c.note.ensures.told))
