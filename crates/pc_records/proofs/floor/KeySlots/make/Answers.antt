use Rattle.std.proofs.Common.{◌≡◌, ◌∙◌, ap}
use Rattle.std.specs.Prelude.{OnErr, Ok, Err, Result, ℕ}
use Rattle.pc_table.specs.Rows.{Contents}
use Rattle.pc_slots.specs.declared.cells.Cell.{Cell}
use Rattle.pc_types.specs.declared.Refusal.{Refusal}
use Rattle.pc_dirty.specs.declared.dirty.Dirty.{Dirty}
use Rattle.pc_locks.specs.Keepers.{KeptRequests}
use Rattle.pc_records.specs.Ends.{queues_in}
use Rattle.pc_records.specs.Slots.{slots_in}
use Rattle.pc_records.specs.SetLists.{open_keys, closed_keys}
use Rattle.pc_records.specs.Floor.{Floor, floor_of, slot_number_of}
use Rattle.pc_records.proofs.FloorLaws.{number_there}
use Rattle.pc_records.proofs.FloorMaking.{made_kept, made_ends, made_listed, made_floor, made_fresh, made_there, made_room, made_refused}
use Rattle.pc_records.proofs.SpotSets.{whole_there}
use Rattle.pc_records.proofs.floor.KeySlots.make.Goals as goal

pub make-requires : goal.make-requires
make-requires c =
    let i = c.self.inside in
    number_there i.sets.side (queues_in i.table.rows i.locks) c.args.key.now i.table.rows ∙ ap (λ (f : Floor). slot_number_of f.spots c.args.key.now) c.self.view_is ∙ c.requires.new

pub invariant_of-self : goal.invariant_of-self
invariant_of-self c =
    let i = c.self.inside in
    let none = number_there i.sets.side (queues_in i.table.rows i.locks) c.args.key.now i.table.rows ∙ ap (λ (f : Floor). slot_number_of f.spots c.args.key.now) c.self.view_is ∙ c.requires.new in (
      made_kept i.table c.make.new.table c.args.key.now i.locks i.sets c.self.invariant.0 c.self.invariant.2 none c.make.ensures.after c.make.result c.make.ensures.made c.make.ensures.fresh c.make.ensures.err c.self.invariant.1,
      made_ends i.table c.make.new.table c.args.key.now i.locks i.sets c.self.invariant.0 c.self.invariant.2 none c.make.ensures.after c.make.result c.make.ensures.made c.make.ensures.fresh c.make.ensures.err c.self.invariant.1,
      made_listed i.table c.make.new.table c.args.key.now i.locks i.sets c.self.invariant.0 c.self.invariant.2 none c.make.ensures.after c.make.result c.make.ensures.made c.make.ensures.fresh c.make.ensures.err c.self.invariant.1,
    )

pub returns-clause-made : goal.returns-clause-made
returns-clause-made c =
    let i = c.self.inside in
    let none = number_there i.sets.side (queues_in i.table.rows i.locks) c.args.key.now i.table.rows ∙ ap (λ (f : Floor). slot_number_of f.spots c.args.key.now) c.self.view_is ∙ c.requires.new in
    rw (← c.self.view_is) (made_floor i.table c.make.new.table c.args.key.now i.locks i.sets c.self.invariant.0 c.self.invariant.2 none c.make.ensures.after c.make.result c.make.ensures.made c.make.ensures.fresh)

pub returns-clause-fresh : goal.returns-clause-fresh
returns-clause-fresh c =
    let i = c.self.inside in
    rw (← c.self.view_is) (made_fresh i.sets.side i.table c.make.new.table (queues_in i.table.rows i.locks) (queues_in c.make.new.table.rows i.locks) c.make.result c.make.ensures.fresh)

pub returns-clause-there : goal.returns-clause-there
returns-clause-there c =
    let i = c.self.inside in
    made_there i.sets.side i.table c.make.new.table (queues_in i.table.rows i.locks) (queues_in c.make.new.table.rows i.locks) c.make.result c.make.ensures.row

pub returns-clause-room : goal.returns-clause-room
returns-clause-room c =
    let i = c.self.inside in
    rw (← c.self.view_is) (made_room i.sets.side i.table c.make.new.table (queues_in i.table.rows i.locks) (queues_in c.make.new.table.rows i.locks) c.make.result c.make.ensures.room)

pub returns-clause-refusal : goal.returns-clause-refusal
returns-clause-refusal c =
    let i = c.self.inside in
    rw (← c.self.view_is) (made_refused i.sets.side i.table c.make.new.table (queues_in i.table.rows i.locks) (queues_in c.make.new.table.rows i.locks) c.make.result c.make.ensures.refusal)

abbrev seen : KeptRequests → Dirty → Contents Cell → Floor
seen locks sets t = floor_of t.capacity (queues_in t.rows locks) (slots_in sets.side t.rows) (open_keys t.rows sets) (closed_keys t.rows sets)

back : (locks : KeptRequests) (sets : Dirty) (table new : Contents Cell) (r : Result ℕ Refusal) → OnErr r (new ≡ table) → OnErr r (seen locks sets new ≡ seen locks sets table)
back locks sets table new (Ok id) same = tt
back locks sets table new (Err e) same = ap (seen locks sets) same

pub returns-clause-same : goal.returns-clause-same
returns-clause-same c = rw (← c.self.view_is) (back c.self.inside.locks c.self.inside.sets c.self.inside.table c.make.new.table c.make.result c.make.ensures.err)

pub returns-clause-whole : goal.returns-clause-whole
returns-clause-whole c = whole_there c.make.new.table c.self.inside.locks c.self.inside.sets (invariant_of-self c)
