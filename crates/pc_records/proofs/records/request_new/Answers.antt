use Rattle.std.proofs.Common.{eqb, length, ◌∙◌, ap, sym, subst, cond, Bool, refl}
use Rattle.pc_types.specs.declared.Refusal.TheVariants.{Full, OutOfMemory}
use Rattle.pc_records.specs.Floor.{Floor, IsFloorWhole, asked, has_spot, waits_anywhere}
use Rattle.pc_records.proofs.SpotLaws.{has_same}
use Rattle.pc_records.proofs.SpotAnswers.{ready_made, first_granted, made_back, refused_same}
use Rattle.pc_records.proofs.records.request_new.Goals as goal

pub request-requires-clause-there : goal.request-requires-clause-there
request-requires-clause-there c = c.in_ok-id.ensures.there

pub request-requires-clause-ready : goal.request-requires-clause-ready
request-requires-clause-ready c =
    ap (λ (f : Floor). waits_anywhere f.spots c.args.transaction) c.in_ok-id.ensures.made ∙ ready_made c.args.slots.now c.args.key.now c.requires.new c.in_ok-id.id c.args.transaction c.requires.ready

pub tidy-requires : goal.tidy-requires
tidy-requires c = record { there = ap (λ (f : Floor). has_spot f.spots c.in_ok-id.id) c.in-Err.ensures.same ∙ c.in_ok-id.ensures.there }

pub returns-in-Ok-clause-asked : goal.returns-in-Ok-clause-asked
returns-in-Ok-clause-asked c =
    first_granted 0 c.args.transaction c.args.mode c.args.slots.now c.request.new.self c.args.key.now c.in_ok-id.id c.requires.new (subst IsFloorWhole c.in_ok-id.ensures.made c.make.ensures.whole)
    c.make.new.self c.in-Ok.field-0 c.in_ok-id.ensures.made c.in-Ok.ensures.told c.in-Ok.ensures.asked

pub returns-in-Ok-clause-made : goal.returns-in-Ok-clause-made
returns-in-Ok-clause-made c = subst IsFloorWhole c.in_ok-id.ensures.made c.make.ensures.whole

pub returns-in-Ok-clause-there : goal.returns-in-Ok-clause-there
returns-in-Ok-clause-there c =
    ap (λ (f : Floor). has_spot f.spots c.in_ok-id.id) c.in-Ok.ensures.asked ∙ has_same (asked c.args.transaction c.args.mode c.in-Ok.field-0) (λ s. refl) c.in_ok-id.id c.in_ok-id.id c.make.new.self.spots ∙ c.in_ok-id.ensures.there

pub returns-in-Ok-clause-room : goal.returns-in-Ok-clause-room
returns-in-Ok-clause-room c = c.in_ok-id.ensures.room

pub returns-in-Err-clause-same : goal.returns-in-Err-clause-same
returns-in-Err-clause-same c =
    made_back 0 c.args.transaction c.args.mode c.args.slots.now c.tidy.new.self c.args.key.now c.in_ok-id.id c.requires.new (subst IsFloorWhole c.in_ok-id.ensures.made c.make.ensures.whole)
    c.make.new.self c.request.new.self c.in_ok-id.ensures.made c.in-Err.ensures.same c.in_ok-id.ensures.fresh c.tidy.ensures.tidied

pub returns-in-Err-clause-refusal : goal.returns-in-Err-clause-refusal
returns-in-Err-clause-refusal c = sym (ap (λ (b : Bool). cond b Full OutOfMemory) c.in_ok-id.ensures.room)

pub returns-in_err-id-clause-refusal : goal.returns-in_err-id-clause-refusal
returns-in_err-id-clause-refusal c = refused_same c.from_residual.result c.in_err-id.field-0.0 (cond (eqb (length c.args.slots.now.spots) c.args.slots.now.capacity) Full OutOfMemory) c.from_residual.ensures c.in_err-id.ensures.refusal
