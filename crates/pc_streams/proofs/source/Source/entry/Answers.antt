use Rattle.std.proofs.Common.{rules, ◌≡◌, ◌<◌, ◌^◌, ℕ, List, length, Option, Ok, sym, subst, arith}
use Rattle.pc_types.specs.declared.Triple.{Triple}
use Rattle.pc_io.specs.declared.formats.Format.{Format}
use Rattle.pc_part.specs.declared.ranges.Range.{Range}
use Rattle.pc_part.specs.Reading.{next_entry_at}
use Rattle.pc_part.proofs.LocalSteps.{next_entry_local}
use Rattle.pc_streams.specs.Sources.{text_left, tally_of, buffered}
use Rattle.pc_streams.proofs.OfText.{drawn_by, refused_by, fits_by, counts_since}
use Rattle.pc_streams.proofs.LawfulNext.{next_lawful}
use Rattle.pc_streams.proofs.Spared.{refusal_by, spared_by, spared_next}
use Rattle.pc_streams.proofs.source.Source.entry.Goals as goal

-- what is kept was read
is_kept : (format : Format) (ranges : List Range) (last bytes rest : List ℕ) (entry kept : Option Triple) → kept ≡ entry → next_entry_at format ranges last bytes ≡ Ok (entry, rest) → next_entry_at format ranges last bytes ≡ Ok (kept, rest)
is_kept format ranges last bytes rest entry kept same read = subst (λ (next : Option Triple). next_entry_at format ranges last bytes ≡ Ok (next, rest)) (sym same) read

pub keep_last-requires : goal.keep_last-requires
keep_last-requires g c =
    fits_by (λ entry. entry) (next_entry_at c.args.format c.args.ranges.now c.args.last.now) (next_entry_local c.args.format c.args.ranges.now c.args.last.now) (buffered c.loop-entry.self) c.left.result.now c.in-Ok.rest.now c.in-Ok.entry
    c.left.ensures c.in-Ok.ensures

pub returns-in-Ok-clause-drawn : goal.returns-in-Ok-clause-drawn
returns-in-Ok-clause-drawn g c =
    drawn_by (λ entry. entry) (next_entry_at c.args.format c.args.ranges.now c.args.last.now) (next_entry_local c.args.format c.args.ranges.now c.args.last.now) (text_left g.R.Read.remaining c.args.self.now)
    (g.R.Read.remaining c.loop-entry.self.tally.inner) (buffered c.loop-entry.self) c.left.result.now c.in-Ok.rest.now c.keep_last.new.self c.in_ok-kept-in-Ok.kept c.loop-entry.invariant.kept c.left.ensures
    c.keep_last.ensures (is_kept c.args.format c.args.ranges.now c.args.last.now c.left.result.now c.in-Ok.rest.now c.in-Ok.entry c.in_ok-kept-in-Ok.kept c.in_ok-kept-in-Ok.ensures c.in-Ok.ensures)

pub read_on-requires : goal.read_on-requires
read_on-requires g c = spared_by (next_entry_at c.args.format c.args.ranges.now c.args.last.now c.left.result.now) c.in-Err.why (spared_next c.args.format c.args.ranges.now c.args.last.now c.left.result.now) (λ memory. c.in-Err.ensures)

pub loop-entry-smaller : goal.loop-entry-smaller
loop-entry-smaller g c =
    let grows = (c.in_ok-read_on-in-Err.ensures.grows).1 in
    let fits : length (buffered c.loop-entry.self) < 2 ^ 64 = search rules in
    omega arith

pub returns-in_err-read_on-in-Err-clause-drawn : goal.returns-in_err-read_on-in-Err-clause-drawn
returns-in_err-read_on-in-Err-clause-drawn g c =
    refused_by (λ entry. entry) (next_entry_at c.args.format c.args.ranges.now c.args.last.now) (next_entry_local c.args.format c.args.ranges.now c.args.last.now) (text_left g.R.Read.remaining c.args.self.now)
    (g.R.Read.remaining c.loop-entry.self.tally.inner) (g.R.Read.remaining c.read_on.new.self.tally.inner) (buffered c.loop-entry.self) c.left.result.now (buffered c.read_on.new.self)
    c.in-Err.why c.in_err-read_on-in-Err.field-0.0 c.from_residual-in_err-read_on-in-Err.result c.loop-entry.invariant.kept c.read_on.ensures.kept c.left.ensures (λ memory. c.in-Err.ensures)
    c.in_err-read_on-in-Err.ensures.refusals c.from_residual-in_err-read_on-in-Err.ensures

pub returns-in_err-read_on-in-Err-clause-counts : goal.returns-in_err-read_on-in-Err-clause-counts
returns-in_err-read_on-in-Err-clause-counts g c =
    counts_since (Unit {0}) (tally_of c.args.self.now) (tally_of c.loop-entry.self) (tally_of c.read_on.new.self) c.in_err-read_on-in-Err.field-0.0 c.from_residual-in_err-read_on-in-Err.result c.loop-entry.invariant.sound
    c.in_err-read_on-in-Err.ensures.counts c.from_residual-in_err-read_on-in-Err.ensures

pub returns-in-Ok-clause-lawful : goal.returns-in-Ok-clause-lawful
returns-in-Ok-clause-lawful g c =
    next_lawful c.args.format c.args.ranges.now c.args.last.now c.left.result.now c.in_ok-kept-in-Ok.kept c.in-Ok.rest.now
    (is_kept c.args.format c.args.ranges.now c.args.last.now c.left.result.now c.in-Ok.rest.now c.in-Ok.entry c.in_ok-kept-in-Ok.kept c.in_ok-kept-in-Ok.ensures c.in-Ok.ensures)

pub returns-in_err-read_on-in-Err-clause-refusals : goal.returns-in_err-read_on-in-Err-clause-refusals
returns-in_err-read_on-in-Err-clause-refusals g c =
    refusal_by (next_entry_at c.args.format c.args.ranges.now c.args.last.now c.left.result.now) c.in-Err.why c.in_err-read_on-in-Err.field-0.0 (buffered c.loop-entry.self) (buffered c.read_on.new.self) (g.R.Read.remaining c.read_on.new.self.tally.inner) c.from_residual-in_err-read_on-in-Err.result (spared_next c.args.format c.args.ranges.now c.args.last.now c.left.result.now) (λ memory. c.in-Err.ensures)
    c.in_err-read_on-in-Err.ensures.refusals c.from_residual-in_err-read_on-in-Err.ensures
