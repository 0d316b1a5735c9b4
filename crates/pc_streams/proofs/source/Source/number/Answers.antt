use Rattle.std.proofs.Common.{rules, ◌<◌, ◌^◌, length, arith}
use Rattle.std.specs.Int.{w32}
use Rattle.pc_types.specs.declared.Refusal.TheVariants.{Short}
use Rattle.pc_io.specs.Fields.{number_at}
use Rattle.pc_streams.proofs.NumberLocal.{number_local}
use Rattle.pc_streams.specs.Sources.{text_left, tally_of, buffered}
use Rattle.pc_streams.proofs.OfText.{drawn_by, refused_by, fits_by, counts_since}
use Rattle.pc_streams.proofs.Spared.{refusal_by, spared_by, spared_number}
use Rattle.pc_streams.proofs.source.Source.number.Goals as goal

pub keep_last-requires : goal.keep_last-requires
keep_last-requires g c =
    fits_by (λ number. number) (number_at Short w32) (number_local w32) (buffered c.loop-number.self) c.left.result.now c.in-Ok.rest.now c.in-Ok.number
    c.left.ensures c.in-Ok.ensures

pub returns-in-Ok-clause-drawn : goal.returns-in-Ok-clause-drawn
returns-in-Ok-clause-drawn g c =
    drawn_by (λ number. number) (number_at Short w32) (number_local w32) (text_left g.R.Read.remaining c.args.self.now)
    (g.R.Read.remaining c.loop-number.self.tally.inner) (buffered c.loop-number.self) c.left.result.now c.in-Ok.rest.now c.keep_last.new.self c.in-Ok.number c.loop-number.invariant.kept c.left.ensures
    c.keep_last.ensures c.in-Ok.ensures

pub read_on-requires : goal.read_on-requires
read_on-requires g c = spared_by (number_at Short w32 c.left.result.now) c.in-Err.why (spared_number w32 c.left.result.now) (λ memory. c.in-Err.ensures)

pub loop-number-smaller : goal.loop-number-smaller
loop-number-smaller g c =
    let grows = (c.in_ok-read_on-in-Err.ensures.grows).1 in
    let fits : length (buffered c.loop-number.self) < 2 ^ 64 = search rules in
    omega arith

pub returns-in_err-read_on-in-Err-clause-drawn : goal.returns-in_err-read_on-in-Err-clause-drawn
returns-in_err-read_on-in-Err-clause-drawn g c =
    refused_by (λ number. number) (number_at Short w32) (number_local w32) (text_left g.R.Read.remaining c.args.self.now)
    (g.R.Read.remaining c.loop-number.self.tally.inner) (g.R.Read.remaining c.read_on.new.self.tally.inner) (buffered c.loop-number.self) c.left.result.now (buffered c.read_on.new.self)
    c.in-Err.why c.in_err-read_on-in-Err.field-0.0 c.from_residual.result c.loop-number.invariant.kept c.read_on.ensures.kept c.left.ensures (λ memory. c.in-Err.ensures)
    c.in_err-read_on-in-Err.ensures.refusals c.from_residual.ensures

pub returns-in_err-read_on-in-Err-clause-counts : goal.returns-in_err-read_on-in-Err-clause-counts
returns-in_err-read_on-in-Err-clause-counts g c =
    counts_since (Unit {0}) (tally_of c.args.self.now) (tally_of c.loop-number.self) (tally_of c.read_on.new.self) c.in_err-read_on-in-Err.field-0.0 c.from_residual.result c.loop-number.invariant.sound
    c.in_err-read_on-in-Err.ensures.counts c.from_residual.ensures

pub returns-in_err-read_on-in-Err-clause-refusals : goal.returns-in_err-read_on-in-Err-clause-refusals
returns-in_err-read_on-in-Err-clause-refusals g c =
    refusal_by (number_at Short w32 c.left.result.now) c.in-Err.why c.in_err-read_on-in-Err.field-0.0 (buffered c.loop-number.self) (buffered c.read_on.new.self) (g.R.Read.remaining c.read_on.new.self.tally.inner) c.from_residual.result (spared_number w32 c.left.result.now) (λ memory. c.in-Err.ensures)
    c.in_err-read_on-in-Err.ensures.refusals c.from_residual.ensures
