use Rattle.std.proofs.Common.{List, ◌||◌, ap, sym, subst, ◌∙◌}
use Rattle.pc_model.specs.Files.{File}
use Rattle.pc_model.specs.Sets as set
use Rattle.pc_model.proofs.BeginningLaws.{beginning_self, beginning_trans}
use Rattle.pc_workers.specs.Collapsing.{has_point, HasCollapsed}
use Rattle.pc_workers.proofs.Holding.{holds_none, holds_more, ends_so, stops_so, ticket_why, is_next, is_none}
use Rattle.pc_workers.proofs.collapsing.collapse_loop.Goals as goal

pub loop-init : goal.loop-init
loop-init g c = (holds_none c.args.share.points c.args.pass.now c.new-held.result.items c.new-held.ensures.items, beginning_self c.args.witness.now)

pub next_ticket-requires : goal.next_ticket-requires
next_ticket-requires g c = c.loop.invariant.0.claims.made.same.0 ∙ c.requires

pub loop-preserved : goal.loop-preserved
loop-preserved g c =
    let next = is_next c.args.share.points c.loop.pass c.next_ticket.new.pass c.in-Ok-Some.field-0 c.in-Ok-Some.ticket c.in-Ok-Some.field-0-is c.in-Ok-Some.ensures.ticket in (
      holds_more c.args.share.points next.0 c.args.pass.now c.loop.pass c.next_ticket.new.pass c.loop.held.items c.take_in.new.held.items c.in-Ok-Some.ticket c.loop.invariant.0 next.1 next.2
          (λ point. c.take_in.ensures point ∙ ap (λ (fs : List File). has_point fs point || set.contains c.in-Ok-Some.ticket.points point) c.in_ok-reserve.ensures.items),
      beginning_trans c.args.witness.now c.loop.witness c.next_ticket.new.witness c.loop.invariant.1 c.next_ticket.ensures.had_seen,
    )

pub returns-in-Ok-None-clause-held : goal.returns-in-Ok-None-clause-held
returns-in-Ok-None-clause-held g c =
    subst (HasCollapsed c.args.share.points c.args.pass.now c.next_ticket.new.pass) (sym c.in_ok-reserve.ensures.items)
    (ends_so c.args.share.points c.args.pass.now c.loop.pass c.next_ticket.new.pass c.loop.held.items c.loop.invariant.0
    (is_none c.args.share.points c.loop.pass c.next_ticket.new.pass c.in-Ok-None.field-0 c.in-Ok-None.field-0-is c.in-Ok-None.ensures.ticket))

pub returns-in-Err-clause-refused : goal.returns-in-Err-clause-refused
returns-in-Err-clause-refused g c =
    let e = c.in-Err.ensures.refused in
    stops_so g.N.StoreName.name.setting c.args.share.points e.0 c.next_ticket.new.witness c.args.pass.now c.loop.pass c.next_ticket.new.pass c.loop.held.items c.in-Err.why c.loop.invariant.0 e.1 (e.2, e.3)

pub returns-in-Ok-None-clause-had_seen : goal.returns-in-Ok-None-clause-had_seen
returns-in-Ok-None-clause-had_seen g c = beginning_trans c.args.witness.now c.loop.witness c.next_ticket.new.witness c.loop.invariant.1 c.next_ticket.ensures.had_seen

pub returns-in-Err-clause-had_seen : goal.returns-in-Err-clause-had_seen
returns-in-Err-clause-had_seen g c = beginning_trans c.args.witness.now c.loop.witness c.next_ticket.new.witness c.loop.invariant.1 c.next_ticket.ensures.had_seen

pub returns-in-Err-clause-named : goal.returns-in-Err-clause-named
returns-in-Err-clause-named g c = let e = c.in-Err.ensures.refused in ticket_why g.N.StoreName.name.setting c.next_ticket.new.witness _ c.in-Err.why e.3
