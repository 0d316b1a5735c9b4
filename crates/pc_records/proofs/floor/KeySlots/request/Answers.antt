use Rattle.std.proofs.Common.{◌∙◌, ap}
use Rattle.pc_locks.proofs.Turns.{answer_told, answer_queues}
use Rattle.pc_records.specs.Ends.{queues_in}
use Rattle.pc_records.specs.Floor.{Floor, has_spot, waits_anywhere}
use Rattle.pc_records.proofs.FloorLaws.{asked_floor, asked_kept, asked_told, spot_row, unasked_floor, waits_there}
use Rattle.pc_records.proofs.Listing.{kept_listed}
use Rattle.pc_records.proofs.SpotSets.{whole_there}
use Rattle.pc_records.proofs.floor.KeySlots.request.Goals as goal

pub request-requires-clause-has : goal.request-requires-clause-has
request-requires-clause-has c = spot_row c.self.inside.sets.side (queues_in c.self.inside.table.rows c.self.inside.locks) c.args.id c.self.inside.table.rows (ap (λ (f : Floor). has_spot f.spots c.args.id) c.self.view_is ∙ c.requires.there)

pub request-requires-clause-ready : goal.request-requires-clause-ready
request-requires-clause-ready c =
    let i = c.self.inside in
    waits_there i.sets.side i.table.rows i.locks c.args.transaction c.self.invariant.0 c.self.invariant.1 (ap (λ (f : Floor). waits_anywhere f.spots c.args.transaction) c.self.view_is ∙ c.requires.ready)

pub invariant_of-self : goal.invariant_of-self
invariant_of-self c =
    let i = c.self.inside in (
      asked_kept c.args.transaction c.args.id c.args.mode i.table c.request.new.keeper i.locks c.request.new.self i.sets c.self.invariant.0 c.self.invariant.2 c.request.ensures.beside (ap (λ (f : Floor). has_spot f.spots c.args.id) c.self.view_is ∙ c.requires.there) c.request.result (answer_queues _ _ c.args.transaction c.args.id c.args.mode c.request.result c.request.ensures.answered) c.request.ensures.err,
      c.request.ensures.sound.ends_are,
      kept_listed i.table.rows c.request.new.keeper.rows i.sets c.request.ensures.beside.sets c.self.invariant.2,
    )

pub returns-clause-told : goal.returns-clause-told
returns-clause-told c =
    let i = c.self.inside in
    rw (← c.self.view_is) (asked_told c.args.transaction c.args.id c.args.mode i.table c.request.new.keeper i.locks c.request.new.self i.sets c.self.invariant.0 c.self.invariant.2 c.request.ensures.beside (ap (λ (f : Floor). has_spot f.spots c.args.id) c.self.view_is ∙ c.requires.there) c.request.result (answer_told _ _ c.args.transaction c.args.id c.args.mode c.request.result c.request.ensures.answered))

pub returns-clause-asked : goal.returns-clause-asked
returns-clause-asked c =
    let i = c.self.inside in
    rw (← c.self.view_is) (asked_floor c.args.transaction c.args.id c.args.mode i.table c.request.new.keeper i.locks c.request.new.self i.sets c.self.invariant.0 c.self.invariant.2 c.request.ensures.beside (ap (λ (f : Floor). has_spot f.spots c.args.id) c.self.view_is ∙ c.requires.there) c.request.result (answer_queues _ _ c.args.transaction c.args.id c.args.mode c.request.result c.request.ensures.answered))

pub returns-clause-same : goal.returns-clause-same
returns-clause-same c =
    let i = c.self.inside in
    rw (← c.self.view_is) (unasked_floor c.args.transaction c.args.id c.args.mode i.table c.request.new.keeper i.locks c.request.new.self i.sets c.self.invariant.0 c.self.invariant.2 c.request.ensures.beside (ap (λ (f : Floor). has_spot f.spots c.args.id) c.self.view_is ∙ c.requires.there) c.request.result c.request.ensures.err)

pub returns-clause-whole : goal.returns-clause-whole
returns-clause-whole c = whole_there c.request.new.keeper c.request.new.self c.self.inside.sets (invariant_of-self c)
