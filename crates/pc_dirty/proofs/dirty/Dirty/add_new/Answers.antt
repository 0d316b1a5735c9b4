use Rattle.pc_dirty.specs.Sets.{other_side, places_of}
use Rattle.pc_dirty.proofs.Changing.{avoids_places, avoids_other, sides_apart, set_added}
use Rattle.pc_dirty.proofs.dirty.Dirty.add_new.Goals as goal

pub push_back-requires-clause-stands : goal.push_back-requires-clause-stands
push_back-requires-clause-stands g c =
    let s = c.requires.stands in
    (places_of c.args.self.now.side s.0, s.2.open_chain, avoids_places c.args.self.now.side c.args.slot s.0 s.3)

pub returns-clause-sets : goal.returns-clause-sets
returns-clause-sets g c = λ opened closed d a.
    let side = c.args.self.now.side in
    set_added _ _ _ _ c.args.self.now c.push_back.new.self opened closed c.args.slot d (c.push_back.ensures.added.list (places_of side opened) d.open_chain (avoids_places side c.args.slot opened a))
    (c.push_back.ensures.added.others (places_of side opened) (places_of (other_side side) closed) c.args.self.now.closed d.open_chain d.closed_chain (sides_apart side opened closed) (avoids_other side c.args.slot closed))
