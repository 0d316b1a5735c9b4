use Rattle.std.proofs.Common.{map, refl, IsTrue, ◌<◌, ◌++◌, [], ◌∷◌, Option, length, subst, inl, arith, rules}
use Rattle.std.proofs.lemmas.List.{length_push}
use Rattle.std.proofs.lemmas.List.Elements.{All-push}
use Rattle.pc_merge.specs.Inputs.{left_in}
use Rattle.pc_types.specs.declared.Triple.{Triple}
use Rattle.pc_types.specs.declared.limits.TheConstants.{MOST_FILE_ENTRIES}
use Rattle.pc_merge.specs.Given.{IsCauseOfAll, IsMerge}
use Rattle.pc_merge.specs.Merging.{MergesNext}
use Rattle.pc_merge.specs.Standings.{AllGiveWithin}
use Rattle.pc_merge.proofs.StandingLaws.{stands_on, stands_since}
use Rattle.pc_merge.proofs.DrawingLaws.{handed_on}
use Rattle.pc_merge.proofs.MergeLaws.{gives, refuses, too_many, way_end, way_on, way_wrong}
use Rattle.pc_merge.proofs.merge.merge_all.Goals as goal

pub returns-in_err-entry-clause-known : goal.returns-in_err-entry-clause-known
returns-in_err-entry-clause-known g c = λ was known.
    let why = c.in_err-entry.field-0.0 in
    handed_on (λ all. IsMerge was all.items) (IsCauseOfAll was) why c.from_residual-in_err-entry.result c.from_residual-in_err-entry.ensures
    (inl (way_wrong was c.loop.all.items (left_in (map g.E.Entries.coming c.loop.inputs) c.loop.merge) (left_in (map g.E.Entries.coming c.next.new.inputs) c.next.new.self) (c.loop.invariant.way was known) why c.in_err-entry.ensures.goes_on))

pub returns-in_default-clause-known : goal.returns-in_default-clause-known
returns-in_default-clause-known g c = λ was known.
    way_end was c.loop.all.items (left_in (map g.E.Entries.coming c.loop.inputs) c.loop.merge) (left_in (map g.E.Entries.coming c.next.new.inputs) c.next.new.self) (c.loop.invariant.way was known) (subst (λ (e : Option Triple). MergesNext (left_in (map g.E.Entries.coming c.loop.inputs) c.loop.merge) (left_in (map g.E.Entries.coming c.next.new.inputs) c.next.new.self) (gives e)) c.in_default.is c.in_ok-entry.ensures.goes_on)

pub loop-preserved : goal.loop-preserved
loop-preserved g c =
    let entry = c.in-Some.entry in
    let next = c.in_ok-entry.ensures in
    let before = c.loop.invariant in
    let given_within = subst (λ (e : Option Triple). AllGiveWithin g.E.Entries.within c.loop.inputs c.loop.merge.firsts c.next.new.inputs c.next.new.self.firsts (gives e)) c.in-Some.is next.within in
    record {
      count = search rules;
      together = rw c.take_back.ensures next.together;
      sound = search rules;
      stand = search rules;
      to_come = λ points all. rw c.take_back.ensures ((given_within points (before.to_come points all)).1);
      given = λ points all. rw c.in_ok-push_triple.ensures.items (All-push (λ (e : Triple). IsTrue (points e.point)) c.loop.all.items entry (before.given points all) (given_within points (before.to_come points all)).0);
      way = λ was known. rw (c.in_ok-push_triple.ensures.items, c.take_back.ensures)
          (way_on was c.loop.all.items (left_in (map g.E.Entries.coming c.loop.inputs) c.loop.merge) (left_in (map g.E.Entries.coming c.next.new.inputs) c.next.new.self) (before.way was known) entry
          (subst (λ (e : Option Triple). MergesNext (left_in (map g.E.Entries.coming c.loop.inputs) c.loop.merge) (left_in (map g.E.Entries.coming c.next.new.inputs) c.next.new.self) (gives e)) c.in-Some.is next.goes_on));
    }

pub returns-in_err-next-clause-known : goal.returns-in_err-next-clause-known
returns-in_err-next-clause-known g c = λ was known.
    let why = c.in_err-next.field-0.0 in
    handed_on (λ all. IsMerge was all.items) (IsCauseOfAll was) why c.from_residual-in_err-next.result c.from_residual-in_err-next.ensures
    (inl (way_wrong was c.loop.all.items (left_in (map g.E.Entries.coming c.loop.inputs) c.loop.merge) (left_in (map g.E.Entries.coming c.next-2.new.inputs) c.next-2.new.self) (c.loop.invariant.way was known) why c.in_err-next.ensures.goes_on))

pub returns-in-None-clause-known : goal.returns-in-None-clause-known
returns-in-None-clause-known g c = λ was known.
    way_end was c.loop.all.items (left_in (map g.E.Entries.coming c.loop.inputs) c.loop.merge) (left_in (map g.E.Entries.coming c.next-2.new.inputs) c.next-2.new.self) (c.loop.invariant.way was known) (subst (λ (e : Option Triple). MergesNext (left_in (map g.E.Entries.coming c.loop.inputs) c.loop.merge) (left_in (map g.E.Entries.coming c.next-2.new.inputs) c.next-2.new.self) (gives e)) c.in-None.is c.in_ok-next.ensures.goes_on)

pub returns-clause-known : goal.returns-clause-known
returns-clause-known g c = λ was known.
    let entry = c.in-Some-2.field-0 in
    let pushed = length_push c.loop.all.items entry in
    let count = c.loop.invariant.count in
    let size = c.loop.all.ok.0 in
    let last = c.loop-test.false in
    let many : MOST_FILE_ENTRIES < length (c.loop.all.items ++ entry ∷ []) = omega arith in
    too_many was (c.loop.all.items ++ entry ∷ []) (left_in (map g.E.Entries.coming c.next-2.new.inputs) c.next-2.new.self)
    (way_on was c.loop.all.items (left_in (map g.E.Entries.coming c.loop.inputs) c.loop.merge) (left_in (map g.E.Entries.coming c.next-2.new.inputs) c.next-2.new.self) (c.loop.invariant.way was known) entry (subst (λ (e : Option Triple). MergesNext (left_in (map g.E.Entries.coming c.loop.inputs) c.loop.merge) (left_in (map g.E.Entries.coming c.next-2.new.inputs) c.next-2.new.self) (gives e)) c.in-Some-2.is c.in_ok-next.ensures.goes_on))
    many

pub returns-in_err-entry-clause-stand : goal.returns-in_err-entry-clause-stand
returns-in_err-entry-clause-stand g c =
    let now = map g.E.Entries.standing c.next.new.inputs in
    stands_since (map g.E.Entries.standing c.args.inputs.now) (map g.E.Entries.standing c.loop.inputs) now c.from_residual-in_err-entry.result c.loop.invariant.stand
    (stands_on (map g.E.Entries.standing c.loop.inputs) now c.in_err-entry.field-0.0 (refuses c.in_err-entry.field-0.0) c.from_residual-in_err-entry.result refl c.from_residual-in_err-entry.ensures (c.in_err-entry.ensures.stand c.loop.invariant.sound))

pub returns-in_err-next-clause-stand : goal.returns-in_err-next-clause-stand
returns-in_err-next-clause-stand g c =
    let now = map g.E.Entries.standing c.next-2.new.inputs in
    stands_since (map g.E.Entries.standing c.args.inputs.now) (map g.E.Entries.standing c.loop.inputs) now c.from_residual-in_err-next.result c.loop.invariant.stand
    (stands_on (map g.E.Entries.standing c.loop.inputs) now c.in_err-next.field-0.0 (refuses c.in_err-next.field-0.0) c.from_residual-in_err-next.result refl c.from_residual-in_err-next.ensures (c.in_err-next.ensures.stand c.loop.invariant.sound))
