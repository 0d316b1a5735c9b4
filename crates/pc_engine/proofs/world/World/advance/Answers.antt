use Rattle.std.proofs.Common.{◌≡◌, ◌∙◌, None, ap, length, sym, refl, rules}
use Rattle.pc_phase.specs.Phases.{Phases, held_back}
use Rattle.pc_transactions.specs.Ongoing.{Ongoing}
use Rattle.pc_engine.proofs.Held.{change_held, change_full, change_unmade, change_made, changed_phases, changed_view}
use Rattle.pc_engine.proofs.Within.{sealed_within}
use Rattle.pc_engine.proofs.world.World.advance.Goals as goal
use Rattle.pc_engine.proofs.world.World.advance.Goals.{in-Seal, in_default-change}

pub returns-in-Some : goal.returns-in-Some
returns-in-Some c =
    let was = c.self.inside.sessions in
    rw (c.reply_of.ensures, ← c.self.view_is) (change_held _ was.phases (length was.closed_set) refl refl c.held_back.ensures.counted c.args.change c.in-Some.held c.requires (sym c.in-Some.ensures.held))

pub returns-then-is_full : goal.returns-then-is_full
returns-then-is_full c =
    let was = c.self.inside.sessions in
    let free : held_back was.phases c.args.change (length was.closed_set) ≡ None = search rules in
    rw (← c.self.view_is) (change_full _ was.phases (length was.closed_set) refl refl c.held_back.ensures.counted c.args.change c.requires free (search rules))

pub returns-then-is_err : goal.returns-then-is_err
returns-then-is_err c =
    let was = c.self.inside.sessions in
    let free : held_back was.phases c.args.change (length was.closed_set) ≡ None = search rules in
    rw (c.reserve.ensures.entries, ← c.self.view_is) (change_unmade _ was.phases (length was.closed_set) refl refl c.held_back.ensures.counted c.args.change c.requires free (search rules))

pub invariant_of-self-in-Seal : goal.invariant_of-self-in-Seal
invariant_of-self-in-Seal c =
    rw (c.change.ensures.changed, c.in-Seal.is) (sealed_within _ _ _ _ _ c.self.invariant _ _ _ _ (search rules) (rw c.reserve.ensures.entries at c.append_token.ensures.entries) c.new.ensures)

pub returns : goal.returns
returns c =
    let was = c.self.inside.sessions in
    let free : held_back was.phases c.args.change (length was.closed_set) ≡ None = search rules in
    let phases = ap (λ (o : Ongoing). o.phases) c.change.ensures.changed ∙ changed_phases c.args.change was in
    let phase = c.phase-phase.ensures ∙ ap (λ (p : Phases). p.phase) phases in
    let point = c.point-point.ensures.point ∙ ap (λ (p : Phases). p.point) phases in
    let logged = rw (c.reserve.ensures.entries, phase, point) at c.append_token.ensures.entries in
    elim c.match-change.branch [
      | in-Seal w ↦ rw (w.self-is, phase, point, c.change.ensures.changed, ← c.self.view_is) (change_made _ was.phases (length was.closed_set) refl refl c.held_back.ensures.counted c.args.change _ c.requires free (search rules) (changed_view c.self.inside.base c.self.inside.shelf.items was _ _ c.self.inside.taken _ c.args.change c.requires (λ e. w.new.ensures) (λ no. absurd (no w.in-Seal.is)) logged))
      | in_default-change w ↦ rw (w.self-is, phase, point, c.change.ensures.changed, ← c.self.view_is) (change_made _ was.phases (length was.closed_set) refl refl c.held_back.ensures.counted c.args.change _ c.requires free (search rules) (changed_view c.self.inside.base c.self.inside.shelf.items was _ _ c.self.inside.taken _ c.args.change c.requires (λ e. absurd (w.in_default-change.not-Seal e)) (λ no. refl) logged))
    ]
