use Rattle.std.proofs.Common.{◌≡◌, Bool, cond, subst, ◌∙◌}
use Rattle.std.specs.Prelude.{IfErr}
use Rattle.std.proofs.lemmas.Bool.{eq-eqb}
use Rattle.pc_types.specs.declared.refusal.Refusal.{Refusal}
use Rattle.pc_table.specs.Entries.{contents_of}
use Rattle.pc_table.proofs.RowLaws.{slot_has}
use Rattle.pc_table.proofs.Seen.{in_slots}
use Rattle.pc_table.proofs.Keeping.{if_ok, kept_slots, full_of, slot_absent, seen_made, slot_made, after_made}
use Rattle.pc_table.proofs.table.Table.make.Goals as goal

pub make-requires-clause-absent : goal.make-requires-clause-absent
make-requires-clause-absent g c = slot_absent _ _ _ c.self.view_is c.self.invariant c.args.key.now c.requires

pub returns-clause-made : goal.returns-clause-made
returns-clause-made g c = if_ok _ _ c.make.result (λ id m. seen_made _ _ _ c.self.view_is c.self.invariant c.make.new.slots.items c.args.key.now id g.T.Blank.blank c.requires m) c.make.ensures.made

pub returns-clause-fresh : goal.returns-clause-fresh
returns-clause-fresh g c = if_ok _ _ c.make.result (λ id m. slot_made _ _ _ c.self.view_is c.self.invariant c.make.new.slots.items id _ m) c.make.ensures.made

pub returns-clause-slot : goal.returns-clause-slot
returns-clause-slot g c =
    let gone = slot_absent _ _ _ c.self.view_is c.self.invariant c.args.key.now c.requires in
    let after = after_made _ _ _ c.self.view_is c.self.invariant g.T.Blank.blank c.args.key.now c.make.new.slots c.make.new.self c.make.result gone c.make.ensures.made c.make.ensures.err c.make.ensures.index in
    after.slot

pub returns-clause-row : goal.returns-clause-row
returns-clause-row g c =
    let gone = slot_absent _ _ _ c.self.view_is c.self.invariant c.args.key.now c.requires in
    let after = after_made _ _ _ c.self.view_is c.self.invariant g.T.Blank.blank c.args.key.now c.make.new.slots c.make.new.self c.make.result gone c.make.ensures.made c.make.ensures.err c.make.ensures.index in
    if_ok _ _ c.make.result (slot_has (contents_of c.make.new.slots.items).rows c.args.key.now) after.slot

pub returns-clause-changed : goal.returns-clause-changed
returns-clause-changed g c =
    let gone = slot_absent _ _ _ c.self.view_is c.self.invariant c.args.key.now c.requires in
    let after = after_made _ _ _ c.self.view_is c.self.invariant g.T.Blank.blank c.args.key.now c.make.new.slots c.make.new.self c.make.result gone c.make.ensures.made c.make.ensures.err c.make.ensures.index in
    after.changed

pub returns-clause-full : goal.returns-clause-full
returns-clause-full g c = λ l. c.make.ensures.full (full_of _ _ _ c.self.view_is c.self.invariant ∙ eq-eqb _ _ l)

pub returns-clause-refusal : goal.returns-clause-refusal
returns-clause-refusal g c = subst (λ (b : Bool). IfErr c.make.result (λ e. e ≡ cond b Refusal.Full Refusal.OutOfMemory)) (full_of _ _ _ c.self.view_is c.self.invariant) c.make.ensures.refusal

pub returns-clause-before : goal.returns-clause-before
returns-clause-before g c = kept_slots _ _ _ c.self.view_is c.self.invariant

pub returns-clause-after : goal.returns-clause-after
returns-clause-after g c =
    let gone = slot_absent _ _ _ c.self.view_is c.self.invariant c.args.key.now c.requires in
    let after = after_made _ _ _ c.self.view_is c.self.invariant g.T.Blank.blank c.args.key.now c.make.new.slots c.make.new.self c.make.result gone c.make.ensures.made c.make.ensures.err c.make.ensures.index in
    in_slots _ _ after.kept
