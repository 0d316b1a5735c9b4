use Rattle.std.proofs.Common.{◌∙◌, ap, sym, subst}
use Rattle.pc_records.specs.Floor.{Floor, AreSpotsSound, rows_in, pending_writes}
use Rattle.pc_records.proofs.SpotSets.{sound_closed, rows_closed, writes_closed}
use Rattle.pc_records.proofs.records.Records.close.Goals as goal

pub close-requires : goal.close-requires
close-requires c = record { none = rw (← c.self.view_is) at c.requires.none }

pub invariant_of-self : goal.invariant_of-self
invariant_of-self c =
    let i = c.self.inside in
    (c.close.ensures.whole, subst (λ (f : Floor). AreSpotsSound c.args.point f.spots) (sym c.close.ensures.closed) (sound_closed i.point c.args.point i.slots c.self.invariant.0 c.self.invariant.1 (rw (← c.self.view_is) at c.requires.later) (rw (← c.self.view_is) at c.requires.none) (rw (← c.self.view_is) at c.requires.during)))

pub returns-clause-closed : goal.returns-clause-closed
returns-clause-closed c =
    let i = c.self.inside in
    let rows = rows_closed i.point c.args.point i.slots c.self.invariant.0 c.self.invariant.1 (rw (← c.self.view_is) at c.requires.later) (rw (← c.self.view_is) at c.requires.none) (rw (← c.self.view_is) at c.requires.during) in
    let new = c.close.ensures.closed in
    rw (← c.self.view_is) (λ i. record {
      capacity = (new i).capacity;
      rows = (ap (λ (f : Floor). rows_in f.spots) new ∙ rows) i;
      pending = (ap (λ (f : Floor). pending_writes f.spots) new ∙ writes_closed c.self.inside.slots.spots) i;
      point = c.args.point;
      opened = (new i).opened;
      shut = (new i).closed;
    })

pub returns-clause-listed : goal.returns-clause-listed
returns-clause-listed c = rw (← c.self.view_is) (record { open_set = c.self.invariant.0.listed.open_set; closed_set = c.self.invariant.0.listed.closed_set })
