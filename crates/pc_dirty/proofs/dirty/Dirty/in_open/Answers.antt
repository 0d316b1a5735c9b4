use Rattle.std.proofs.Common.{arith}
use Rattle.pc_dirty.specs.Sets.{places_of}
use Rattle.pc_dirty.proofs.Changing.{places_count, place_told}
use Rattle.pc_dirty.proofs.dirty.Dirty.in_open.Goals as goal

pub contains-requires-clause-stands : goal.contains-requires-clause-stands
contains-requires-clause-stands g c =
    let s = c.requires in
    let e = places_count c.args.self.now.side s.0 in
    let n = c.open_len.ensures _ _ s.2 in
    (places_of c.args.self.now.side s.0, s.2.open_chain, omega (arith, e, n))

pub returns : goal.returns
returns g c = λ opened closed d. place_told c.args.self.now.side c.args.slot opened _ (c.contains.ensures (places_of c.args.self.now.side opened) d.open_chain)
