use Rattle.std.proofs.Common.{subst, ◌↔◌, ◌≡◌, false, arith}
use Rattle.pc_dirty.specs.Sets.{other_side, place_on_side, places_of}
use Rattle.pc_dirty.specs.declared.side.Side.{Side}
use Rattle.pc_chain.specs.Chains.{Avoids}
use Rattle.pc_dirty.proofs.Changing.{places_count, place_told}
use Rattle.pc_dirty.proofs.dirty.Dirty.in_closed.Goals as goal

pub contains-requires-clause-stands : goal.contains-requires-clause-stands
contains-requires-clause-stands g c =
    let s = c.requires in
    let e = places_count (other_side c.args.self.now.side) s.1 in
    let n = c.closed_len.ensures _ _ s.2 in
    (places_of (other_side c.args.self.now.side) s.1, s.2.closed_chain, omega (arith, e, n))

pub returns : goal.returns
returns g c = λ opened closed d.
    place_told (other_side c.args.self.now.side) c.args.slot closed _
    (subst (λ (side : Side). (c.contains.result ≡ false) ↔ Avoids (place_on_side side c.args.slot) (places_of (other_side c.args.self.now.side) closed)) c.other-side.ensures (c.contains.ensures (places_of (other_side c.args.self.now.side) closed) d.closed_chain))
