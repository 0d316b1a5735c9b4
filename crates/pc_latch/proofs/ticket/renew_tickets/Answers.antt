use Rattle.std.proofs.Common.{◌≡◌, ◌<◌, length, get_or, set, sym, ap, ◌∙◌, subst, arith}
use Rattle.std.proofs.lemmas.List.{set-get_or}
use Rattle.pc_model.specs.Files.{File}
use Rattle.pc_model.specs.History.{History, log_of}
use Rattle.pc_model.specs.Replies.{IsLegalHistory}
use Rattle.pc_model.specs.Standing.{IsOfItsPoints}
use Rattle.pc_tie.specs.Seats.{KeeperView}
use Rattle.pc_latch.proofs.Growing.{same_at}
use Rattle.pc_latch.proofs.Worths.{worth_more}
use Rattle.pc_latch.proofs.ticket.renew_tickets.Goals as goal

pub loop-k-preserved : goal.loop-k-preserved
loop-k-preserved g c =
    let st = g.N.StoreName.name.setting in
    let i = c.loop-k.invariant in
    let e = c.renew.ensures in
    let items = c.loop-k.tickets.items in
    let k = c.loop-k.k in
    let hist = c.args.keeper.now.history in
    let within : k < length items = omega (arith, c.loop-k-test.true, c.len-k-end.ensures, ap length i.1) in
    let here : (d : File) → c.index_mut-ticket.result.now ≡ get_or items k d = (λ d. c.index_mut-ticket.ensures.value ∙ same_at items k _ d within) in
    let same : c.loop-k.keeper.history ≡ hist = ap (λ (m : KeeperView). m.history) i.0 in
    let new = c.renew.new.self in
    let kept : set items k new ≡ items = ap (set items k) (e.same ∙ here new) ∙ set-get_or items k new in (
      e.keeper ∙ i.0,
      kept ∙ i.1,
      λ legal. worth_more (IsOfItsPoints st.run st.base (log_of hist)) c.args.tickets.now.items k
          (λ d. subst (λ (y : History × File). IsOfItsPoints st.run st.base (log_of y.0) y.1) (λ q. (same q, (here d ∙ ap (λ l. get_or l k d) i.1) q)) (e.worth (subst (IsLegalHistory st) (sym same) legal)))
          (i.2 legal),
    )
