use Rattle.std.proofs.Common.{◌≡◌, ◌+◌, ◌∷◌, ◌++◌, [], ℕ, suc, ap, sym, ◌∙◌, arith}
use Rattle.pc_tie.specs.Rules.{sitting}
use Rattle.pc_tie.specs.Seats.{Name}
use Rattle.pc_shared.specs.Sitters.{sitter, seated_at, new_sitters}
use Rattle.pc_shared.proofs.store.Opened.named.Goals as goal

pub deal-seat-requires : goal.deal-seat-requires
deal-seat-requires g c =
    let v = c.self.invariant in
    let named : c.self.inside.tie ≡ g.N.StoreName.name = c.self.view_is ∙ c.requires in
    let all : g.N.StoreName.name.setting.sessions ≡ c.self.inside.count = ap (λ (n : Name). n.setting.sessions) (sym named) ∙ (ap (λ s. s.sessions) (sym v.1) ∙ v.2) in
    (omega (arith, c.loop.invariant.0, c.loop-test.true, v.3), omega (arith, c.loop.invariant.0, c.loop-test.true, all))

pub loop-preserved : goal.loop-preserved
loop-preserved g c =
    let k : ℕ = c.loop.counter in
    let next : k + 1 ≡ suc k = omega arith in
    let dealt = c.loop.invariant.0 in
    let seat : c.deal-seat.result ≡ sitting (suc k) [] = c.deal-seat.ensures.seat ∙ ap (λ (n : ℕ). sitting n []) (ap (λ (n : ℕ). n + 1) dealt ∙ next) in
    let added : seated_at c.deal-seat.result.number c.deal-seat.result.seen ≡ sitter (suc k) [] [] = (λ i. seated_at (seat i).number (seat i).seen) in
    let before : c.reserve.new.self.items ≡ new_sitters k = c.reserve.ensures.items ∙ c.loop.invariant.1 in
    (c.deal-seat.ensures.dealt ∙ ap (λ (n : ℕ). n + 1) dealt, c.push_reserved.ensures.items ∙ ((λ i. before i ++ added i ∷ []) ∙ ap new_sitters (sym next)))

pub returns-clause-sessions : goal.returns-clause-sessions
returns-clause-sessions g c =
    let v = c.self.invariant in
    let named : c.self.inside.tie ≡ g.N.StoreName.name = c.self.view_is ∙ c.requires in
    let all : g.N.StoreName.name.setting.sessions ≡ c.self.inside.count = ap (λ (n : Name). n.setting.sessions) (sym named) ∙ (ap (λ s. s.sessions) (sym v.1) ∙ v.2) in
    let k : c.loop.counter ≡ c.self.inside.count = omega (arith, c.loop-test.false, c.loop.auto.counter-end) in
    c.loop.invariant.1 ∙ ap new_sitters (k ∙ sym all)
