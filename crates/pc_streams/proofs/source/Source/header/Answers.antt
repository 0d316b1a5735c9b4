use Rattle.std.proofs.Common.{rules, ◌<◌, ◌^◌, length, arith}
use Rattle.pc_part.specs.declared.decoding.PartHeader.{PartHeader}
use Rattle.pc_part.specs.Reading.{part_header_at}
use Rattle.pc_part.proofs.LocalSteps.{header_local}
use Rattle.pc_streams.specs.Sources.{text_left, tally_of, buffered}
use Rattle.pc_streams.proofs.OfText.{drawn_by, refused_by, fits_by, counts_since}
use Rattle.pc_streams.proofs.Spared.{refusal_by, spared_by, spared_header}
use Rattle.pc_streams.proofs.source.Source.header.Goals as goal

pub keep_last-requires : goal.keep_last-requires
keep_last-requires g c =
    fits_by (λ (header : PartHeader). (header.format, (header.run, header.ranges.items))) part_header_at header_local (buffered c.loop-header.self) c.left.result.now c.in-Ok.rest.now (c.in-Ok.header.format, (c.in-Ok.header.run, c.in-Ok.header.ranges.items))
    c.left.ensures c.in-Ok.ensures.read

pub returns-in-Ok-clause-drawn : goal.returns-in-Ok-clause-drawn
returns-in-Ok-clause-drawn g c =
    drawn_by (λ (header : PartHeader). (header.format, (header.run, header.ranges.items))) part_header_at header_local (text_left g.R.Read.remaining c.args.self.now)
    (g.R.Read.remaining c.loop-header.self.tally.inner) (buffered c.loop-header.self) c.left.result.now c.in-Ok.rest.now c.keep_last.new.self c.in-Ok.header c.loop-header.invariant.kept c.left.ensures
    c.keep_last.ensures c.in-Ok.ensures.read

pub read_on-requires : goal.read_on-requires
read_on-requires g c = spared_by (part_header_at c.left.result.now) c.in-Err.why (spared_header c.left.result.now) c.in-Err.ensures.read

pub loop-header-smaller : goal.loop-header-smaller
loop-header-smaller g c =
    let grows = (c.in_ok-read_on-in-Err.ensures.grows).1 in
    let fits : length (buffered c.loop-header.self) < 2 ^ 64 = search rules in
    omega arith

pub returns-in_err-read_on-in-Err-clause-drawn : goal.returns-in_err-read_on-in-Err-clause-drawn
returns-in_err-read_on-in-Err-clause-drawn g c =
    refused_by (λ (header : PartHeader). (header.format, (header.run, header.ranges.items))) part_header_at header_local (text_left g.R.Read.remaining c.args.self.now)
    (g.R.Read.remaining c.loop-header.self.tally.inner) (g.R.Read.remaining c.read_on.new.self.tally.inner) (buffered c.loop-header.self) c.left.result.now (buffered c.read_on.new.self)
    c.in-Err.why c.in_err-read_on-in-Err.field-0.0 c.from_residual.result c.loop-header.invariant.kept c.read_on.ensures.kept c.left.ensures c.in-Err.ensures.read
    c.in_err-read_on-in-Err.ensures.refusals c.from_residual.ensures

pub returns-in_err-read_on-in-Err-clause-counts : goal.returns-in_err-read_on-in-Err-clause-counts
returns-in_err-read_on-in-Err-clause-counts g c =
    counts_since (Unit {0}) (tally_of c.args.self.now) (tally_of c.loop-header.self) (tally_of c.read_on.new.self) c.in_err-read_on-in-Err.field-0.0 c.from_residual.result c.loop-header.invariant.sound
    c.in_err-read_on-in-Err.ensures.counts c.from_residual.ensures

pub returns-in_err-read_on-in-Err-clause-refusals : goal.returns-in_err-read_on-in-Err-clause-refusals
returns-in_err-read_on-in-Err-clause-refusals g c =
    refusal_by (part_header_at c.left.result.now) c.in-Err.why c.in_err-read_on-in-Err.field-0.0 (buffered c.loop-header.self) (buffered c.read_on.new.self) (g.R.Read.remaining c.read_on.new.self.tally.inner) c.from_residual.result (spared_header c.left.result.now) c.in-Err.ensures.read
    c.in_err-read_on-in-Err.ensures.refusals c.from_residual.ensures
