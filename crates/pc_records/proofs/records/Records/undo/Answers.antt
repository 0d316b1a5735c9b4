use Rattle.std.proofs.Common.{◌∙◌, sym, ap, subst}
use Rattle.std.specs.FinMap.{find, is_sorted}
use Rattle.pc_model.specs.Database.{key_cmp}
use Rattle.pc_slots.specs.Slots.{undone}
use Rattle.pc_records.specs.Floor.{Floor, AreSpotsSound, rows_in, pending_writes}
use Rattle.pc_records.proofs.Moments.{undone_key, undone_writer, undone_again, undone_sound}
use Rattle.pc_records.proofs.SpotWrites.{sound_writes, writes_gone, rows_undone}
use Rattle.pc_records.proofs.records.Records.undo.Goals as goal

pub undo_all-requires : goal.undo_all-requires
undo_all-requires c = record { whole = c.self.invariant.0 }

pub invariant_of-self : goal.invariant_of-self
invariant_of-self c =
    let p = c.self.inside.point in
    (c.undo_all.ensures.whole, subst (λ (f : Floor). AreSpotsSound p f.spots) (sym c.undo_all.ensures.undone) (sound_writes (undone p) (undone_key p) (undone_writer p) (undone_again p) p (undone_sound p) c.args.writes.now c.self.inside.slots.spots c.self.invariant.1))

pub returns-clause-rows : goal.returns-clause-rows
returns-clause-rows c =
    rw (← c.self.view_is) (λ i. record { capacity = (c.undo_all.ensures.undone i).capacity; rows = (ap (λ (f : Floor). rows_in f.spots) c.undo_all.ensures.undone ∙ rows_undone c.self.inside.point c.args.writes.now c.self.inside.slots.spots c.self.invariant.1) i })

pub returns-clause-pending : goal.returns-clause-pending
returns-clause-pending c =
    let p = c.self.inside.point in
    rw (← c.self.view_is) (λ q. ap (λ (f : Floor). find key_cmp q (pending_writes f.spots)) c.undo_all.ensures.undone
    ∙ writes_gone (undone p) (undone_key p) (undone_writer p) (undone_again p) c.args.writes.now c.self.inside.slots.spots c.self.invariant.0.rise (ap (λ (f : Floor). is_sorted key_cmp (rows_in f.spots)) (sym c.undo_all.ensures.undone) ∙ c.undo_all.ensures.whole.rise) q)

pub returns-clause-rise : goal.returns-clause-rise
returns-clause-rise c = rw (← c.self.view_is) c.self.invariant.0.rise

pub returns-clause-opened : goal.returns-clause-opened
returns-clause-opened c = rw (← c.self.view_is) (ap (λ (f : Floor). f.opened) c.undo_all.ensures.undone)

pub returns-clause-shut : goal.returns-clause-shut
returns-clause-shut c = rw (← c.self.view_is) (ap (λ (f : Floor). f.closed) c.undo_all.ensures.undone)
