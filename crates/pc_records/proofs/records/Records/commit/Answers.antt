use Rattle.std.proofs.Common.{◌∙◌, ◌++◌, sym, ap, subst}
use Rattle.std.specs.FinMap.{find, is_sorted}
use Rattle.pc_model.specs.Database.{key_cmp}
use Rattle.pc_slots.specs.Slots.{settled}
use Rattle.pc_records.specs.Floor.{Floor, AreSpotsSound, rows_in, pending_writes}
use Rattle.pc_records.proofs.Moments.{settled_key, settled_writer, settled_again, settled_sound}
use Rattle.pc_records.proofs.SpotWrites.{sound_writes, writes_gone, rows_settled, keys_opened}
use Rattle.pc_records.proofs.records.Records.commit.Goals as goal

pub settle_all-requires-clause-whole : goal.settle_all-requires-clause-whole
settle_all-requires-clause-whole c = c.self.invariant.0

pub invariant_of-self : goal.invariant_of-self
invariant_of-self c =
    let p = c.self.inside.point in
    (c.settle_all.ensures.whole, subst (λ (f : Floor). AreSpotsSound p f.spots) (sym c.settle_all.ensures.settled) (sound_writes (settled p) (settled_key p) (settled_writer p) (settled_again p) p (settled_sound p) c.args.writes.now c.self.inside.slots.spots c.self.invariant.1))

pub returns-clause-rows : goal.returns-clause-rows
returns-clause-rows c =
    rw (← c.self.view_is) (λ i. record {
      capacity = (c.settle_all.ensures.settled i).capacity;
      rows = (ap (λ (f : Floor). rows_in f.spots) c.settle_all.ensures.settled ∙ rows_settled c.self.inside.slots.spots c.self.invariant.0.rise c.self.inside.point c.args.writes.now (rw (← c.self.view_is) at c.requires.stand)) i;
    })

pub returns-clause-pending : goal.returns-clause-pending
returns-clause-pending c =
    let p = c.self.inside.point in
    rw (← c.self.view_is) (λ q. ap (λ (f : Floor). find key_cmp q (pending_writes f.spots)) c.settle_all.ensures.settled
    ∙ writes_gone (settled p) (settled_key p) (settled_writer p) (settled_again p) c.args.writes.now c.self.inside.slots.spots c.self.invariant.0.rise (ap (λ (f : Floor). is_sorted key_cmp (rows_in f.spots)) (sym c.settle_all.ensures.settled) ∙ c.settle_all.ensures.whole.rise) q)

pub returns-clause-rise : goal.returns-clause-rise
returns-clause-rise c = rw (← c.self.view_is) c.self.invariant.0.rise

pub returns-clause-opened : goal.returns-clause-opened
returns-clause-opened c =
    rw (← c.self.view_is) (ap (λ (f : Floor). f.opened) c.settle_all.ensures.settled ∙ ap (λ ks. c.self.inside.slots.opened ++ ks) (keys_opened c.self.inside.slots.spots c.self.invariant.0.rise c.args.writes.now (rw (← c.self.view_is) at c.requires.stand)))

pub returns-clause-shut : goal.returns-clause-shut
returns-clause-shut c = rw (← c.self.view_is) (ap (λ (f : Floor). f.closed) c.settle_all.ensures.settled)

pub returns-clause-listed : goal.returns-clause-listed
returns-clause-listed c = rw (← c.self.view_is) (record { open_set = c.self.invariant.0.listed.open_set; closed_set = c.self.invariant.0.listed.closed_set })
