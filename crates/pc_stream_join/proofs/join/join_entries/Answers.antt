use Rattle.std.proofs.Common.{◌≡◌, ℕ, None, Ok, map, subst}
use Rattle.std.proofs.lemmas.Result.{err_from_is_err_and}
use Rattle.pc_io.specs.Tallies.{failures_of, inner_of}
use Rattle.pc_model.specs.Sets as set
use Rattle.pc_part.specs.Parts.{points_of}
use Rattle.pc_merge.specs.Merging.{Merging, MergeRefuses}
use Rattle.pc_streams.specs.Readers.{standing_of}
use Rattle.pc_stream_join.specs.Steps.{Begun}
use Rattle.pc_stream_join.proofs.CauseLaws.{join_cause}
use Rattle.pc_stream_join.proofs.FileLaws.{nothing_short}
use Rattle.pc_stream_join.proofs.StartLaws.{ends_cause, ends_refusal, ends_short, ends_stand, ends_written, inputs_refused, starts}
use Rattle.pc_stream_join.proofs.join.join_entries.Goals as goal

pub returns-then-inputs-gt-MOST_INPUTS-clause-short : goal.returns-then-inputs-gt-MOST_INPUTS-clause-short
returns-then-inputs-gt-MOST_INPUTS-clause-short g c = nothing_short (g.W.Write.contents (inner_of c.args.out.now))

pub returns-in_err-merge-clause-short : goal.returns-in_err-merge-clause-short
returns-in_err-merge-clause-short g c =
    let p = err_from_is_err_and c.from_residual.result c.from_residual.ensures.1 in
    rw p.1 (nothing_short (g.W.Write.contents (inner_of c.args.out.now)))

pub returns-in_err-writer-clause-short : goal.returns-in_err-writer-clause-short
returns-in_err-writer-clause-short g c =
    let p = err_from_is_err_and c.from_residual-in_err-writer.result c.from_residual-in_err-writer.ensures.1 in
    rw p.1 (nothing_short (g.W.Write.contents (inner_of c.args.out.now)))

pub returns-in_err-open-clause-cause : goal.returns-in_err-open-clause-cause
returns-in_err-open-clause-cause g c =
    let p = err_from_is_err_and c.from_residual-in_err-open.result c.from_residual-in_err-open.ensures.1 in
    rw (p.1, p.2) (λ was known. join_cause g.R.Read.remaining c.args.inputs.now was c.in_err-open.field-0.0 known (c.in_err-open.ensures.known was known))

pub returns-in_err-open-clause-short : goal.returns-in_err-open-clause-short
returns-in_err-open-clause-short g c =
    let p = err_from_is_err_and c.from_residual-in_err-open.result c.from_residual-in_err-open.ensures.1 in
    rw p.1 (nothing_short (g.W.Write.contents (inner_of c.args.out.now)))

pub returns-in_err-open-clause-stand : goal.returns-in_err-open-clause-stand
returns-in_err-open-clause-stand g c =
    let p = err_from_is_err_and c.from_residual-in_err-open.result c.from_residual-in_err-open.ensures.1 in
    rw (p.1, p.2) (inputs_refused ℕ (map standing_of c.args.inputs.now) (map standing_of c.open.new.inputs) (failures_of c.args.out.now) c.in_err-open.field-0.0 c.in_err-open.ensures.stand)

pub returns-clause-written : goal.returns-clause-written
returns-clause-written g c =
    let begun : Begun g.row.R.Denot g.row.W.Denot = record { run = c.args.header.now.run; ranges = c.args.header.now.ranges.items; inputs = c.args.inputs.now; out = c.args.out.now } in
    let unrefused : c.open.new.self.refused ≡ None = subst (λ (m : Merging). MergeRefuses {X = Unit {0}} m.refused c.open.new.self.refused (Ok tt)) c.in_ok-merge.ensures c.in_ok-open.ensures.refused in
    let joining = starts g.R.Read.remaining g.W.Write.contents c.args.header.now.run c.args.header.now.ranges.items c.args.inputs.now c.open.new.inputs c.args.out.now c.open.new.self c.in_ok-writer.writer c.in_ok-writer.ensures.run c.requires.of_all.apart c.in_ok-writer.ensures.begun
    c.in_ok-open.ensures.stand (c.in_ok-open.ensures.within (set.contains (points_of c.args.header.now.ranges.items)) c.requires.within) unrefused c.in_ok-open.ensures.known in
    ends_written g.R.Read.remaining g.W.Write.contents begun c.write_entries.new.inputs c.write_entries.new.out c.write_entries.result (c.write_entries.ensures begun joining)

pub returns-clause-cause : goal.returns-clause-cause
returns-clause-cause g c =
    let begun : Begun g.row.R.Denot g.row.W.Denot = record { run = c.args.header.now.run; ranges = c.args.header.now.ranges.items; inputs = c.args.inputs.now; out = c.args.out.now } in
    let unrefused : c.open.new.self.refused ≡ None = subst (λ (m : Merging). MergeRefuses {X = Unit {0}} m.refused c.open.new.self.refused (Ok tt)) c.in_ok-merge.ensures c.in_ok-open.ensures.refused in
    let joining = starts g.R.Read.remaining g.W.Write.contents c.args.header.now.run c.args.header.now.ranges.items c.args.inputs.now c.open.new.inputs c.args.out.now c.open.new.self c.in_ok-writer.writer c.in_ok-writer.ensures.run c.requires.of_all.apart c.in_ok-writer.ensures.begun
    c.in_ok-open.ensures.stand (c.in_ok-open.ensures.within (set.contains (points_of c.args.header.now.ranges.items)) c.requires.within) unrefused c.in_ok-open.ensures.known in
    ends_cause g.R.Read.remaining g.W.Write.contents begun c.write_entries.new.inputs c.write_entries.new.out c.write_entries.result (c.write_entries.ensures begun joining)

pub returns-clause-refusals : goal.returns-clause-refusals
returns-clause-refusals g c =
    let begun : Begun g.row.R.Denot g.row.W.Denot = record { run = c.args.header.now.run; ranges = c.args.header.now.ranges.items; inputs = c.args.inputs.now; out = c.args.out.now } in
    let unrefused : c.open.new.self.refused ≡ None = subst (λ (m : Merging). MergeRefuses {X = Unit {0}} m.refused c.open.new.self.refused (Ok tt)) c.in_ok-merge.ensures c.in_ok-open.ensures.refused in
    let joining = starts g.R.Read.remaining g.W.Write.contents c.args.header.now.run c.args.header.now.ranges.items c.args.inputs.now c.open.new.inputs c.args.out.now c.open.new.self c.in_ok-writer.writer c.in_ok-writer.ensures.run c.requires.of_all.apart c.in_ok-writer.ensures.begun
    c.in_ok-open.ensures.stand (c.in_ok-open.ensures.within (set.contains (points_of c.args.header.now.ranges.items)) c.requires.within) unrefused c.in_ok-open.ensures.known in
    ends_refusal g.R.Read.remaining g.W.Write.contents begun c.write_entries.new.inputs c.write_entries.new.out c.write_entries.result (c.write_entries.ensures begun joining)

pub returns-clause-short : goal.returns-clause-short
returns-clause-short g c =
    let begun : Begun g.row.R.Denot g.row.W.Denot = record { run = c.args.header.now.run; ranges = c.args.header.now.ranges.items; inputs = c.args.inputs.now; out = c.args.out.now } in
    let unrefused : c.open.new.self.refused ≡ None = subst (λ (m : Merging). MergeRefuses {X = Unit {0}} m.refused c.open.new.self.refused (Ok tt)) c.in_ok-merge.ensures c.in_ok-open.ensures.refused in
    let joining = starts g.R.Read.remaining g.W.Write.contents c.args.header.now.run c.args.header.now.ranges.items c.args.inputs.now c.open.new.inputs c.args.out.now c.open.new.self c.in_ok-writer.writer c.in_ok-writer.ensures.run c.requires.of_all.apart c.in_ok-writer.ensures.begun
    c.in_ok-open.ensures.stand (c.in_ok-open.ensures.within (set.contains (points_of c.args.header.now.ranges.items)) c.requires.within) unrefused c.in_ok-open.ensures.known in
    ends_short g.R.Read.remaining g.W.Write.contents begun c.write_entries.new.inputs c.write_entries.new.out c.write_entries.result (c.write_entries.ensures begun joining)

pub returns-clause-stand : goal.returns-clause-stand
returns-clause-stand g c =
    let begun : Begun g.row.R.Denot g.row.W.Denot = record { run = c.args.header.now.run; ranges = c.args.header.now.ranges.items; inputs = c.args.inputs.now; out = c.args.out.now } in
    let unrefused : c.open.new.self.refused ≡ None = subst (λ (m : Merging). MergeRefuses {X = Unit {0}} m.refused c.open.new.self.refused (Ok tt)) c.in_ok-merge.ensures c.in_ok-open.ensures.refused in
    let joining = starts g.R.Read.remaining g.W.Write.contents c.args.header.now.run c.args.header.now.ranges.items c.args.inputs.now c.open.new.inputs c.args.out.now c.open.new.self c.in_ok-writer.writer c.in_ok-writer.ensures.run c.requires.of_all.apart c.in_ok-writer.ensures.begun
    c.in_ok-open.ensures.stand (c.in_ok-open.ensures.within (set.contains (points_of c.args.header.now.ranges.items)) c.requires.within) unrefused c.in_ok-open.ensures.known in
    ends_stand g.R.Read.remaining g.W.Write.contents begun c.write_entries.new.inputs c.write_entries.new.out c.write_entries.result (c.write_entries.ensures begun joining)
