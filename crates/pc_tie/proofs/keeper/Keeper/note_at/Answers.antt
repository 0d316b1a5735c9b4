use Rattle.std.proofs.Common.{◌≡◌, ◌∷◌, [], List, sym, ap, ◌∙◌, subst}
use Rattle.pc_tie.specs.declared.sight.Sitting.{Sitting}
use Rattle.pc_tie.specs.Rules.{Speaks, sitting, sight_after, guests_after, KnewFirst, IsStepOfGuest}
use Rattle.pc_model.specs.Calls.{session_of}
use Rattle.pc_tie.specs.Seats.{KeeperView, sitting_in}
use Rattle.pc_tie.proofs.Visits.{first_is, moves_on, knew_as}
use Rattle.pc_tie.proofs.keeper.Keeper.note_at.Goals as goal

pub append-requires-clause-asked : goal.append-requires-clause-asked
append-requires-clause-asked g c =
    let step = c.args.step.now in
    let s : Sitting = sitting_in c.replace-own.result.views in
    let here : s ≡ sitting_in c.args.badge.now.views = ap (λ b. sitting_in b.views) c.replace-own.ensures.value in
    let guests : c.enter.new.self.guests ≡ s ∷ [] = ap (λ (m : KeeperView). m.guests) c.enter.ensures ∙ ap (λ (l : List Sitting). s ∷ l) c.requires.alone in
    subst (IsStepOfGuest step) (sym guests) (subst (λ (x : Sitting). Speaks x.number × (session_of step.event ≡ x.number)) (sym here) (c.requires.speaks, c.requires.own))

pub leave-requires : goal.leave-requires
leave-requires g c =
    let step = c.args.step.now in
    let hist = c.args.self.now.history in
    let s : Sitting = sitting_in c.replace-own.result.views in
    (sitting s.number (sight_after step hist s.seen), [], ap (λ (m : KeeperView). m.guests) c.append.ensures.keeper ∙ ap (λ (m : KeeperView). guests_after step m.history m.guests) c.enter.ensures)

pub returns-clause-number : goal.returns-clause-number
returns-clause-number g c =
    let step = c.args.step.now in
    let hist = c.args.self.now.history in
    let s : Sitting = sitting_in c.replace-own.result.views in
    let here : s ≡ sitting_in c.args.badge.now.views = ap (λ b. sitting_in b.views) c.replace-own.ensures.value in
    let guests = ap (λ (m : KeeperView). m.guests) c.append.ensures.keeper ∙ ap (λ (m : KeeperView). guests_after step m.history m.guests) c.enter.ensures in
    let back : sitting_in c.leave.result.views ≡ sitting s.number (sight_after step hist s.seen) = first_is _ _ _ _ (sym c.leave.ensures.guests ∙ guests) in
    ap (λ (x : Sitting). x.number) back ∙ ap (λ (x : Sitting). x.number) here

pub returns-clause-sees : goal.returns-clause-sees
returns-clause-sees g c =
    let step = c.args.step.now in
    let hist = c.args.self.now.history in
    let s : Sitting = sitting_in c.replace-own.result.views in
    let here : s ≡ sitting_in c.args.badge.now.views = ap (λ b. sitting_in b.views) c.replace-own.ensures.value in
    let guests = ap (λ (m : KeeperView). m.guests) c.append.ensures.keeper ∙ ap (λ (m : KeeperView). guests_after step m.history m.guests) c.enter.ensures in
    let back : sitting_in c.leave.result.views ≡ sitting s.number (sight_after step hist s.seen) = first_is _ _ _ _ (sym c.leave.ensures.guests ∙ guests) in
    ap (λ (x : Sitting). x.seen) back ∙ ap (λ (x : Sitting). sight_after step hist x.seen) here

pub returns-clause-moves : goal.returns-clause-moves
returns-clause-moves g c =
    let step = c.args.step.now in
    let hist = c.args.self.now.history in
    let mine : Sitting = sitting_in c.args.badge.now.views in
    let s : Sitting = sitting_in c.replace-own.result.views in
    let here : s ≡ mine = ap (λ b. sitting_in b.views) c.replace-own.ensures.value in
    let guests = ap (λ (m : KeeperView). m.guests) c.append.ensures.keeper ∙ ap (λ (m : KeeperView). guests_after step m.history m.guests) c.enter.ensures in
    let back : sitting_in c.leave.result.views ≡ sitting s.number (sight_after step hist s.seen) = first_is _ _ _ _ (sym c.leave.ensures.guests ∙ guests) in
    let knew = knew_as hist s mine c.args.self.now.guests here c.requires.speaks (subst (λ (m : KeeperView). KnewFirst m.history m.guests) c.enter.ensures c.append.ensures.knew) in
    moves_on g.N.StoreName.name.setting hist mine.number mine.seen _ step (ap (λ (x : Sitting). x.seen) back ∙ ap (λ (x : Sitting). sight_after step hist x.seen) here) c.requires.own c.requires.legal knew

pub returns-clause-knew : goal.returns-clause-knew
returns-clause-knew g c =
    let hist = c.args.self.now.history in
    let mine : Sitting = sitting_in c.args.badge.now.views in
    let s : Sitting = sitting_in c.replace-own.result.views in
    let here : s ≡ mine = ap (λ b. sitting_in b.views) c.replace-own.ensures.value in
    knew_as hist s mine c.args.self.now.guests here c.requires.speaks (subst (λ (m : KeeperView). KnewFirst m.history m.guests) c.enter.ensures c.append.ensures.knew)
