use Rattle.std.proofs.Common.{refl, ap, Ok}
use Rattle.pc_index.proofs.Finding.{one_slot, no_slot, not_absent}
use Rattle.pc_index.proofs.index.Index.find_or_make.Goals as goal

pub returns-in-Some-clause-found : goal.returns-in-Some-clause-found
returns-in-Some-clause-found g c = λ id s. (ap Ok (one_slot g.S.KeyedSlots.key_of (g.S.KeyedSlots.slots_of c.args.slots.now).items c.args.key.now c.in-Some.id id c.in-Some.ensures s), refl, refl)

pub returns-in-Some-clause-made : goal.returns-in-Some-clause-made
returns-in-Some-clause-made g c = λ a. absurd (not_absent g.S.KeyedSlots.key_of (g.S.KeyedSlots.slots_of c.args.slots.now).items c.args.key.now c.in-Some.id c.in-Some.ensures a)

pub returns-in-Some-clause-full : goal.returns-in-Some-clause-full
returns-in-Some-clause-full g c = λ a f. absurd (not_absent g.S.KeyedSlots.key_of (g.S.KeyedSlots.slots_of c.args.slots.now).items c.args.key.now c.in-Some.id c.in-Some.ensures a)

pub returns-in-None-clause-found : goal.returns-in-None-clause-found
returns-in-None-clause-found g c = λ id s. absurd (no_slot g.S.KeyedSlots.key_of (g.S.KeyedSlots.slots_of c.args.slots.now).items c.args.key.now id c.in-None.ensures s)
