use Rattle.std.proofs.Common.{◌∙◌, ap}
use Rattle.pc_transactions.specs.Sessions.{after_dying}
use Rattle.pc_transactions.proofs.SessionLemmas.{seen_at, set_lane}
use Rattle.pc_transactions.proofs.sessions.note_death.Goals as goal

pub returns : goal.returns
returns c =
    let inside = rw (← c.place.ensures) at c.requires in
    let own = seen_at c.args.lanes.now.items c.args.session c.place.result c.index_mut.result.now c.place.ensures inside c.index_mut.ensures.value in
    set_lane c.args.lanes.now.items c.args.session c.place.result c.note_death.new.self _ c.place.ensures (c.note_death.ensures ∙ ap after_dying own)
