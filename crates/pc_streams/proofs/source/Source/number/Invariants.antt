use Rattle.std.proofs.Common.{◌-◌, ◌^◌, ◌≡◌, length}
use Rattle.std.specs.Io.KnownBytes.{Keeps}
use Rattle.pc_io.specs.Tallies.{failures_of}
use Rattle.pc_streams.specs.Sources.{text_left, tally_of, buffered}
use Rattle.pc_streams.proofs.source.Source.number.Given as goal

-- what is left of the text is what was left, and nothing failed
abbrev pub invariant-loop-number : goal.invariant-loop-number
invariant-loop-number g l =
    record {
      kept : Keeps (text_left g.R.Read.remaining l.fn.self) (text_left g.R.Read.remaining l.self);
      sound : failures_of (tally_of l.self) ≡ failures_of (tally_of l.fn.self);
    }

-- each turn reads more
abbrev pub decreases-loop-number : goal.decreases-loop-number
decreases-loop-number g l = 2 ^ 64 - length (buffered l.self)
