use Rattle.std.proofs.Common.{◌≡◌, ◌<◌, length, get_or, sym, ap, ◌∙◌, subst, arith}
use Rattle.pc_model.specs.History.{History}
use Rattle.pc_model.specs.Calls.{IsBeginning}
use Rattle.pc_tie.specs.Seats.{KeeperView}
use Rattle.pc_latch.proofs.Growing.{grown_set, same_at, told_more}
use Rattle.pc_latch.proofs.ticket.renew_all.Goals as goal

pub loop-k-preserved : goal.loop-k-preserved
loop-k-preserved g c =
    let i = c.loop-k.invariant in
    let e = c.renew.ensures in
    let old = c.args.witnesses.now.items in
    let items = c.loop-k.witnesses.items in
    let k = c.loop-k.k in
    let w = c.renew.new.witness in
    let hist = c.args.keeper.now.history in
    let first : k < length old = omega (arith, c.loop-k-test.true, c.len-k-end.ensures) in
    let within : k < length items = omega (arith, first, i.1.0) in
    let here : (d : History) → c.index_mut-witness.result.now ≡ get_or items k d = (λ d. c.index_mut-witness.ensures.value ∙ same_at items k _ d within) in
    let same : c.loop-k.keeper.history ≡ hist = ap (λ (m : KeeperView). m.history) i.0 in
    let more : (d : History) → IsBeginning (get_or items k d) w = (λ d. subst (λ (y : History × History). IsBeginning y.0 y.1) (λ q. (here d q, sym e.sees q)) e.had_seen) in
    let now : (d : History) → IsBeginning (get_or items k d) hist = (λ d. subst (λ (y : History × History). IsBeginning y.0 y.1) (λ q. (here d q, same q)) e.had_seen) in
    (e.same ∙ i.0, grown_set old items k w i.1 within more, told_more old items k hist i.1 first now i.2)
