use Rattle.std.proofs.Common.{◌≡◌, ◌∙◌, ap, sym, subst, cond, eqb, length, Bool, refl}
use Rattle.pc_types.specs.declared.Mode.TheVariants.{Exclusive}
use Rattle.pc_types.specs.declared.Outcome.TheVariants.{Granted}
use Rattle.pc_types.specs.declared.Refusal.TheVariants.{Full, OutOfMemory}
use Rattle.pc_model.specs.Locks.{outcome}
use Rattle.pc_records.specs.RowSteps.{is_waiting_in_rows}
use Rattle.pc_records.specs.Tables.{RecordsView}
use Rattle.pc_records.specs.Floor.{Floor, IsFloorWhole, AreSpotsSound, table_on, asked, has_spot, slot_number_of, queue_at_slot, waits_anywhere, with_spot, with_new_spot}
use Rattle.pc_records.proofs.SpotLaws.{found, has_same}
use Rattle.pc_records.proofs.SpotAnswers.{waits_same, told_there, clear_there, told_new, clear_new, IsWritten, written_there, written_first, full, full_there, full_new, ran_out, refused_same, on_err}
use Rattle.pc_records.proofs.records.Records.write.Goals as goal
use Rattle.pc_records.proofs.records.Records.write.Goals.{After-put_granted, After-put}

pub request-requires-clause-ready : goal.request-requires-clause-ready
request-requires-clause-ready c =
    ap (λ (f : Floor). waits_anywhere f.spots c.args.transaction) c.room.ensures.same
    ∙ waits_same c.args.transaction c.self.inside.slots.spots ∙ ap (λ (k : RecordsView). is_waiting_in_rows k.rows c.args.transaction) c.self.view_is ∙ c.requires.ready

pub request_new-requires-clause-ready : goal.request_new-requires-clause-ready
request_new-requires-clause-ready c =
    ap (λ (f : Floor). waits_anywhere f.spots c.args.transaction) c.room_in.ensures.same
    ∙ waits_same c.args.transaction c.self.inside.slots.spots ∙ ap (λ (k : RecordsView). is_waiting_in_rows k.rows c.args.transaction) c.self.view_is ∙ c.requires.ready

pub request_new-requires-clause-new : goal.request_new-requires-clause-new
request_new-requires-clause-new c =
    ap (λ (f : Floor). slot_number_of f.spots c.args.key.now) c.room_in.ensures.same ∙ sym c.in-None.ensures.found

pub put_granted-requires-clause-whole : goal.put_granted-requires-clause-whole
put_granted-requires-clause-whole c =
    c.request.ensures.whole

pub put_granted-requires-clause-there : goal.put_granted-requires-clause-there
put_granted-requires-clause-there c =
    ap (λ (f : Floor). has_spot f.spots c.in-Some.id) (c.in_ok-outcome-in-Some.ensures.asked ∙ ap (with_spot (asked c.args.transaction Exclusive c.in_ok-outcome-in-Some.outcome) c.in-Some.id) c.room.ensures.same)
    ∙ has_same (asked c.args.transaction Exclusive c.in_ok-outcome-in-Some.outcome) (λ s. refl) c.in-Some.id c.in-Some.id c.self.inside.slots.spots ∙ c.in-Some.ensures.there

-- the request was answered by the content there before the box was taken out
told : (c : After-put_granted) → c.in_ok-outcome-in-Some.outcome ≡ outcome (queue_at_slot c.self.inside.slots.spots c.in-Some.id) c.args.transaction Exclusive
told c =
    c.in_ok-outcome-in-Some.ensures.told ∙ ap (λ (f : Floor). outcome (queue_at_slot f.spots c.in-Some.id) c.args.transaction Exclusive) c.room.ensures.same

-- what is known once a key that has a slot was written
there : (c : After-put_granted) → IsWritten c.self.inside.point c.args.transaction c.args.class c.args.value c.self.inside.slots c.put_granted.new.slots c.args.key.now c.in_ok-outcome-in-Some.outcome
there c =
    written_there c.self.inside.point c.args.transaction c.args.class c.in_ok-copy-in-Some.copy c.args.value c.self.inside.slots c.request.new.self c.put_granted.new.slots c.args.key.now c.in-Some.id c.in_ok-outcome-in-Some.outcome c.self.invariant.0 c.self.invariant.1
    (waits_same c.args.transaction c.self.inside.slots.spots ∙ ap (λ (k : RecordsView). is_waiting_in_rows k.rows c.args.transaction) c.self.view_is ∙ c.requires.ready)
    (sym c.in-Some.ensures.found) (told c) c.in_ok-copy-in-Some.ensures (rw (← c.self.view_is) at c.requires.outside) (rw (← c.self.view_is) at c.requires.again)
    (c.in_ok-outcome-in-Some.ensures.asked ∙ ap (with_spot (asked c.args.transaction Exclusive c.in_ok-outcome-in-Some.outcome) c.in-Some.id) c.room.ensures.same) c.put_granted.ensures.put c.put_granted.ensures.whole

-- and one that had none
first : (c : After-put) → IsWritten c.self.inside.point c.args.transaction c.args.class c.args.value c.self.inside.slots c.put.new.self c.args.key.now Granted
first c =
    written_first c.self.inside.point c.args.transaction c.args.class c.args.value c.self.inside.slots c.request_new.new.slots c.put.new.self c.args.key.now c.in_ok-id-in-None.id (sym c.in-None.ensures.found)
    (subst (λ (f : Floor). IsFloorWhole (with_new_spot c.in_ok-id-in-None.id c.args.key.now f)) c.room_in.ensures.same c.in_ok-id-in-None.ensures.made) c.self.invariant.1
    (waits_same c.args.transaction c.self.inside.slots.spots ∙ ap (λ (k : RecordsView). is_waiting_in_rows k.rows c.args.transaction) c.self.view_is ∙ c.requires.ready)
    (c.in_ok-id-in-None.ensures.asked ∙ ap (λ (f : Floor). with_spot (asked c.args.transaction Exclusive Granted) c.in_ok-id-in-None.id (with_new_spot c.in_ok-id-in-None.id c.args.key.now f)) c.room_in.ensures.same) c.put.ensures.put c.put.ensures.whole

pub invariant_of-self : goal.invariant_of-self
invariant_of-self c =
    subst (λ (f : Floor). IsFloorWhole f × AreSpotsSound c.self.inside.point f.spots) (sym c.room.ensures.same) c.self.invariant

pub invariant_of-self-in_err-outcome-in-Some : goal.invariant_of-self-in_err-outcome-in-Some
invariant_of-self-in_err-outcome-in-Some c =
    subst (λ (f : Floor). IsFloorWhole f × AreSpotsSound c.self.inside.point f.spots) (sym (c.in_err-outcome-in-Some.ensures.same ∙ c.room.ensures.same)) c.self.invariant

pub invariant_of-self-in_err-room-in-None : goal.invariant_of-self-in_err-room-in-None
invariant_of-self-in_err-room-in-None c =
    subst (λ (f : Floor). IsFloorWhole f × AreSpotsSound c.self.inside.point f.spots) (sym c.room_in.ensures.same) c.self.invariant

pub invariant_of-self-in-Some : goal.invariant_of-self-in-Some
invariant_of-self-in-Some c =
    (c.put_granted.ensures.whole, (there c).sound)

pub invariant_of-self-in_err-id-in-None : goal.invariant_of-self-in_err-id-in-None
invariant_of-self-in_err-id-in-None c =
    (c.request_new.ensures.whole, subst (λ (f : Floor). AreSpotsSound c.self.inside.point f.spots) (sym (c.in_err-id-in-None.ensures.same ∙ c.room_in.ensures.same)) c.self.invariant.1)

pub invariant_of-self-in-None : goal.invariant_of-self-in-None
invariant_of-self-in-None c =
    (c.put.ensures.whole, (first c).sound)

pub returns-in_ok-outcome-in-Some-clause-told : goal.returns-in_ok-outcome-in-Some-clause-told
returns-in_ok-outcome-in-Some-clause-told c =
    let f = found c.self.inside.slots c.args.key.now c.in-Some.id c.self.invariant.0 (sym c.in-Some.ensures.found) in
    rw (← c.self.view_is) (told_there c.self.inside.slots c.self.invariant.0 c.args.key.now c.in-Some.id f.0 f.1 c.args.transaction Exclusive c.in_ok-outcome-in-Some.outcome (told c))

pub returns-in_ok-outcome-in-Some-clause-written : goal.returns-in_ok-outcome-in-Some-clause-written
returns-in_ok-outcome-in-Some-clause-written c = record {
  rows =
      rw (← c.self.view_is) (λ i. record { capacity = ((there c).same i).capacity; rows = (there c).rows i });
  pending =
      rw (← c.self.view_is) (there c).pending;
  clear =
      let f = found c.self.inside.slots c.args.key.now c.in-Some.id c.self.invariant.0 (sym c.in-Some.ensures.found) in
      rw (← c.self.view_is) (clear_there c.self.inside.slots c.self.invariant.0 c.args.key.now c.in-Some.id f.0 f.1 c.self.inside.point c.args.transaction c.self.invariant.1
      (waits_same c.args.transaction c.self.inside.slots.spots ∙ ap (λ (k : RecordsView). is_waiting_in_rows k.rows c.args.transaction) c.self.view_is ∙ c.requires.ready) Exclusive c.in_ok-outcome-in-Some.outcome (told c));
  point =
      ap (λ (k : RecordsView). k.point) c.self.view_is;
  opened =
      rw (← c.self.view_is) (ap (λ (f : Floor). f.opened) (there c).same);
  shut =
      rw (← c.self.view_is) (ap (λ (f : Floor). f.closed) (there c).same);
}

pub returns-in_ok-outcome-in-Some-clause-room : goal.returns-in_ok-outcome-in-Some-clause-room
returns-in_ok-outcome-in-Some-clause-room c =
    rw (← c.self.view_is) (full_there c.self.inside.slots c.args.key.now c.in-Some.id (sym c.in-Some.ensures.found))

pub returns-in_err-room-in-Some-clause-refusal : goal.returns-in_err-room-in-Some-clause-refusal
returns-in_err-room-in-Some-clause-refusal c =
    rw (← c.self.view_is) (refused_same c.from_residual-in_err-room-in-Some.result OutOfMemory (cond (full c.self.inside.slots c.args.key.now) Full OutOfMemory) c.from_residual-in_err-room-in-Some.ensures (ran_out c.self.inside.slots c.args.key.now (full_there c.self.inside.slots c.args.key.now c.in-Some.id (sym c.in-Some.ensures.found))))

pub returns-in_err-copy-in-Some-clause-refusal : goal.returns-in_err-copy-in-Some-clause-refusal
returns-in_err-copy-in-Some-clause-refusal c =
    rw (← c.self.view_is) (refused_same c.from_residual.result OutOfMemory (cond (full c.self.inside.slots c.args.key.now) Full OutOfMemory) c.from_residual.ensures (ran_out c.self.inside.slots c.args.key.now (full_there c.self.inside.slots c.args.key.now c.in-Some.id (sym c.in-Some.ensures.found))))

pub returns-in_err-outcome-in-Some-clause-refusal : goal.returns-in_err-outcome-in-Some-clause-refusal
returns-in_err-outcome-in-Some-clause-refusal c =
    rw (← c.self.view_is) (refused_same c.from_residual-in_err-outcome-in-Some.result OutOfMemory (cond (full c.self.inside.slots c.args.key.now) Full OutOfMemory) c.from_residual-in_err-outcome-in-Some.ensures (ran_out c.self.inside.slots c.args.key.now (full_there c.self.inside.slots c.args.key.now c.in-Some.id (sym c.in-Some.ensures.found))))

pub returns-in_err-room-in-None-clause-refusal : goal.returns-in_err-room-in-None-clause-refusal
returns-in_err-room-in-None-clause-refusal c =
    rw (← c.self.view_is) (refused_same c.from_residual-in_err-room-in-None.result c.in_err-room-in-None.field-0.0 (cond (full c.self.inside.slots c.args.key.now) Full OutOfMemory) c.from_residual-in_err-room-in-None.ensures
    (c.in_err-room-in-None.ensures.refusal ∙ ap (λ (b : Bool). cond b Full OutOfMemory) (sym (full_new c.self.inside.slots c.args.key.now (sym c.in-None.ensures.found)))))

pub returns-in_err-id-in-None-clause-refusal : goal.returns-in_err-id-in-None-clause-refusal
returns-in_err-id-in-None-clause-refusal c =
    rw (← c.self.view_is) (refused_same c.from_residual-in_err-id-in-None.result c.in_err-id-in-None.field-0.0 (cond (full c.self.inside.slots c.args.key.now) Full OutOfMemory) c.from_residual-in_err-id-in-None.ensures
    (c.in_err-id-in-None.ensures.refusal ∙ ap (λ (f : Floor). cond (eqb (length f.spots) f.capacity) Full OutOfMemory) c.room_in.ensures.same ∙ ap (λ (b : Bool). cond b Full OutOfMemory) (sym (full_new c.self.inside.slots c.args.key.now (sym c.in-None.ensures.found)))))

pub returns-in_err-outcome-in-Some-clause-err : goal.returns-in_err-outcome-in-Some-clause-err
returns-in_err-outcome-in-Some-clause-err c =
    rw (← c.self.view_is) (on_err c.from_residual-in_err-outcome-in-Some.result (ap (table_on c.self.inside.point) (c.in_err-outcome-in-Some.ensures.same ∙ c.room.ensures.same)))

pub returns-in_err-id-in-None-clause-err : goal.returns-in_err-id-in-None-clause-err
returns-in_err-id-in-None-clause-err c =
    rw (← c.self.view_is) (on_err c.from_residual-in_err-id-in-None.result (ap (table_on c.self.inside.point) (c.in_err-id-in-None.ensures.same ∙ c.room_in.ensures.same)))

pub returns-in_ok-id-in-None-clause-told : goal.returns-in_ok-id-in-None-clause-told
returns-in_ok-id-in-None-clause-told c =
    rw (← c.self.view_is) (told_new c.self.inside.slots c.args.key.now (sym c.in-None.ensures.found) c.args.transaction Exclusive)

pub returns-in_ok-id-in-None-clause-written : goal.returns-in_ok-id-in-None-clause-written
returns-in_ok-id-in-None-clause-written c = record {
  rows =
      rw (← c.self.view_is) (λ i. record { capacity = ((first c).same i).capacity; rows = (first c).rows i });
  pending =
      rw (← c.self.view_is) (first c).pending;
  clear =
      rw (← c.self.view_is) (λ granted. clear_new c.self.inside.slots c.args.key.now (sym c.in-None.ensures.found) c.self.invariant.0.rise c.self.inside.point c.args.transaction);
  point =
      ap (λ (k : RecordsView). k.point) c.self.view_is;
  opened =
      rw (← c.self.view_is) (ap (λ (f : Floor). f.opened) (first c).same);
  shut =
      rw (← c.self.view_is) (ap (λ (f : Floor). f.closed) (first c).same);
}

pub returns-in_ok-id-in-None-clause-room : goal.returns-in_ok-id-in-None-clause-room
returns-in_ok-id-in-None-clause-room c =
    rw (← c.self.view_is) (full_new c.self.inside.slots c.args.key.now (sym c.in-None.ensures.found) ∙ ap (λ (f : Floor). eqb (length f.spots) f.capacity) (sym c.room_in.ensures.same) ∙ c.in_ok-id-in-None.ensures.room)

pub returns-in_err-room-in-Some-clause-err : goal.returns-in_err-room-in-Some-clause-err
returns-in_err-room-in-Some-clause-err c =
    rw (← c.self.view_is) (on_err c.from_residual-in_err-room-in-Some.result (ap (table_on c.self.inside.point) c.room.ensures.same))

pub returns-in_err-room-in-None-clause-err : goal.returns-in_err-room-in-None-clause-err
returns-in_err-room-in-None-clause-err c =
    rw (← c.self.view_is) (on_err c.from_residual-in_err-room-in-None.result (ap (table_on c.self.inside.point) c.room_in.ensures.same))
