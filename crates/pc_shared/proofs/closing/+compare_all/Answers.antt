use Rattle.std.proofs.Common.{◌≡◌, refl, List, [], ◌∷◌, ◌++◌, map, All, append_assoc, sym, ap, ◌∙◌, subst, arith}
use Rattle.std.proofs.lemmas.List.{map-append}
use Rattle.std.proofs.lemmas.List.Elements.{All-push}
use Rattle.pc_tie.specs.declared.sight.Sitting.{Sitting}
use Rattle.pc_tie.specs.Seats.{KeeperView, IsFrontOf, NoTwoAlike}
use Rattle.pc_shared.specs.Sitters.{Sitter, sitting_of, IsSeated}
use Rattle.pc_shared.proofs.Settling.{nothing_left}
use Rattle.pc_shared.proofs.closing.+compare_all.Goals as goal

pub returns-in_default-clause-fronts : goal.returns-in_default-clause-fronts
returns-in_default-clause-fronts g t c =
    let none : c.args.sessions.now.items ≡ [] = nothing_left c.args.sessions.now.items (omega (arith, c.in_default.ensures.cases.0)) in
    subst (λ (ss : List Sitter). All (IsFrontOf c.args.keeper.now.history) (map sitting_of ss ++ c.args.keeper.now.guests)) (sym none) c.compare.ensures.fronts

pub give_back-seat-requires-clause-some : goal.give_back-seat-requires-clause-some
give_back-seat-requires-clause-some g t c = (c.session.inside.seat, c.args.keeper.now.guests, ap (λ (m : KeeperView). m.guests) (c.compare_all.ensures.keeper ∙ c.take_in.ensures))

pub returns-clause-seated : goal.returns-clause-seated
returns-clause-seated g t c =
    let s = c.in-Some.session in
    let mine = subst IsSeated c.session.view_is (c.number-number.ensures.session.speaks, refl) in
    subst (All IsSeated) (sym c.in-Some.ensures.items) (All-push IsSeated c.pop.new.self.items s c.compare_all.ensures.seated mine)

pub returns-clause-fronts : goal.returns-clause-fronts
returns-clause-fronts g t c =
    let ys = c.pop.new.self.items in
    let s = c.in-Some.session in
    let guests = c.args.keeper.now.guests in
    let all : map sitting_of ys ++ sitting_of s ∷ guests ≡ map sitting_of c.args.sessions.now.items ++ guests =
    sym (append_assoc (map sitting_of ys) (sitting_of s ∷ []) guests) ∙ ap (λ (l : List Sitting). l ++ guests) (sym (map-append sitting_of ys (s ∷ [])) ∙ ap (map sitting_of) (sym c.in-Some.ensures.items)) in
    let here : map sitting_of ys ++ c.session.inside.seat ∷ guests ≡ map sitting_of ys ++ sitting_of s ∷ guests = ap (λ (x : Sitting). map sitting_of ys ++ x ∷ guests) (ap sitting_of c.session.view_is) in
    subst (All (IsFrontOf c.args.keeper.now.history)) (here ∙ all) (subst (λ (m : KeeperView). All (IsFrontOf m.history) (map sitting_of ys ++ m.guests)) c.take_in.ensures c.compare_all.ensures.fronts)

pub returns-clause-apart : goal.returns-clause-apart
returns-clause-apart g t c =
    let ys = c.pop.new.self.items in
    let s = c.in-Some.session in
    let guests = c.args.keeper.now.guests in
    let all : map sitting_of ys ++ sitting_of s ∷ guests ≡ map sitting_of c.args.sessions.now.items ++ guests =
    sym (append_assoc (map sitting_of ys) (sitting_of s ∷ []) guests) ∙ ap (λ (l : List Sitting). l ++ guests) (sym (map-append sitting_of ys (s ∷ [])) ∙ ap (map sitting_of) (sym c.in-Some.ensures.items)) in
    let here : map sitting_of ys ++ c.session.inside.seat ∷ guests ≡ map sitting_of ys ++ sitting_of s ∷ guests = ap (λ (x : Sitting). map sitting_of ys ++ x ∷ guests) (ap sitting_of c.session.view_is) in
    subst NoTwoAlike (here ∙ all) (subst (λ (m : KeeperView). NoTwoAlike (map sitting_of ys ++ m.guests)) c.take_in.ensures c.compare_all.ensures.apart)
