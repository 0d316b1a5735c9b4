use Rattle.std.proofs.Common.{◌≡◌, ◌==◌, ◌≤◌, ◌+◌, ◌||◌, suc, true, false, List, get_or, length, drop, ap, sym, subst, ◌∙◌, arith}
use Rattle.std.proofs.lemmas.List.{drop_all}
use Rattle.std.proofs.lemmas.Bool.Decides.{nat_tests}
use Rattle.pc_shared.specs.Sitters.{Sitter, has_sitter}
use Rattle.pc_threads.proofs.SeatLaws.{others_stay, stands_behind}
use Rattle.pc_threads.proofs.clients.take_session.Goals as goal

pub returns-then-eq-clause-others : goal.returns-then-eq-clause-others
returns-then-eq-clause-others g c n there =
    let sessions = c.loop-place.sessions.items in
    let told : (c.number.result == c.args.number) ≡ true = sym c.eq.ensures ∙ c.if-eq.true in
    let same : c.number.result ≡ c.args.number = grind (arith, nat_tests) in
    let at : (get_or sessions c.loop-place.place c.index.result.now).number ≡ c.args.number = ap (λ (s : Sitter). s.number) (sym c.index.ensures) ∙ sym c.number.ensures ∙ same in
    subst (λ (ss : List Sitter). (has_sitter ss n || (c.args.number == n)) ≡ true) (sym {A = List Sitter} c.remove.ensures.items)
    (others_stay sessions c.loop-place.place c.args.number n c.index.result.now at (ap (λ (ss : List Sitter). has_sitter ss n) c.loop-place.invariant.0 ∙ there))

pub loop-place-preserved : goal.loop-place-preserved
loop-place-preserved g c =
    let sessions = c.loop-place.sessions.items in
    let off : ((get_or sessions c.loop-place.place c.index.result.now).number == c.args.number) ≡ false =
    ap (λ (s : Sitter). s.number == c.args.number) (sym c.index.ensures) ∙ ap (λ n. n == c.args.number) (sym c.number.ensures) ∙ sym c.eq.ensures ∙ c.if-eq.false in
    let next : suc c.loop-place.place ≡ c.loop-place.place + 1 = omega arith in (
      c.loop-place.invariant.0,
      c.loop-place.invariant.1,
      subst (λ k. has_sitter (drop k sessions) c.args.number ≡ true) next (stands_behind sessions c.loop-place.place c.args.number c.index.result.now off c.loop-place.invariant.2),
    )

pub unreachable-unreachable : goal.unreachable-unreachable
unreachable-unreachable g c =
    let sessions = c.loop-place.sessions.items in
    let count = c.len-place-end.ensures in
    let past = c.loop-place-test.false in
    let same = ap length c.loop-place.invariant.0 in
    let low : length sessions ≤ c.loop-place.place = omega (arith, count, past, same) in
    let none : has_sitter (drop c.loop-place.place sessions) c.args.number ≡ false = ap (λ (ss : List Sitter). has_sitter ss c.args.number) (drop_all c.loop-place.place sessions low) in
    cc (none, c.loop-place.invariant.2)
