use Rattle.std.proofs.Common.{◌∙◌, ap, is_some, sym, Option}
use Rattle.pc_types.specs.declared.Mode.TheVariants.{Exclusive}
use Rattle.pc_records.specs.Rows.{Record}
use Rattle.pc_records.proofs.SpotLaws.{found}
use Rattle.pc_records.proofs.SpotAnswers.{waits_same, told_there, latest_there, clear_there, record_here, told_new, latest_new, clear_new, no_record}
use Rattle.pc_records.proofs.records.Records.look.Goals as goal

pub returns-in-Some-clause-told : goal.returns-in-Some-clause-told
returns-in-Some-clause-told c =
    let f = found c.self.inside.slots c.args.key.now c.in-Some.id c.self.invariant.0 (sym c.in-Some.ensures.found) in
    rw (← c.self.view_is) (told_there c.self.inside.slots c.self.invariant.0 c.args.key.now c.in-Some.id f.0 f.1 c.args.transaction Exclusive c.outcome.result c.outcome.ensures)

pub returns-in-Some-clause-found : goal.returns-in-Some-clause-found
returns-in-Some-clause-found c =
    let f = found c.self.inside.slots c.args.key.now c.in-Some.id c.self.invariant.0 (sym c.in-Some.ensures.found) in
    rw (← c.self.view_is) (c.live.ensures ∙ latest_there c.self.inside.slots c.self.invariant.0 c.args.key.now c.in-Some.id f.0 f.1)

pub returns-in-Some-clause-clear : goal.returns-in-Some-clause-clear
returns-in-Some-clause-clear c =
    let f = found c.self.inside.slots c.args.key.now c.in-Some.id c.self.invariant.0 (sym c.in-Some.ensures.found) in
    rw (← c.self.view_is) (λ ready. clear_there c.self.inside.slots c.self.invariant.0 c.args.key.now c.in-Some.id f.0 f.1 c.self.inside.point c.args.transaction c.self.invariant.1 (waits_same c.args.transaction c.self.inside.slots.spots ∙ ready) Exclusive c.outcome.result c.outcome.ensures)

pub returns-in-Some-clause-slot : goal.returns-in-Some-clause-slot
returns-in-Some-clause-slot c =
    let f = found c.self.inside.slots c.args.key.now c.in-Some.id c.self.invariant.0 (sym c.in-Some.ensures.found) in
    rw (← c.self.view_is) (sym (ap (λ (r : Option Record). is_some r) (record_here c.self.inside.slots c.self.invariant.0 c.args.key.now c.in-Some.id f.0 f.1)))

pub returns-in-None-clause-told : goal.returns-in-None-clause-told
returns-in-None-clause-told c =
    rw (← c.self.view_is) (told_new c.self.inside.slots c.args.key.now (sym c.in-None.ensures.found) c.args.transaction Exclusive)

pub returns-in-None-clause-found : goal.returns-in-None-clause-found
returns-in-None-clause-found c =
    rw (← c.self.view_is) (latest_new c.self.inside.slots c.args.key.now (sym c.in-None.ensures.found) c.self.invariant.0.rise)

pub returns-in-None-clause-clear : goal.returns-in-None-clause-clear
returns-in-None-clause-clear c =
    rw (← c.self.view_is) (λ ready granted. clear_new c.self.inside.slots c.args.key.now (sym c.in-None.ensures.found) c.self.invariant.0.rise c.self.inside.point c.args.transaction)

pub returns-in-None-clause-slot : goal.returns-in-None-clause-slot
returns-in-None-clause-slot c =
    rw (← c.self.view_is) (sym (ap (λ (r : Option Record). is_some r) (no_record c.self.inside.slots c.args.key.now (sym c.in-None.ensures.found))))
