use Rattle.std.proofs.Common.{◌≡◌, ◌-◌, ◌^◌}
use Rattle.std.specs.Prelude.{vec_len}
use Rattle.std.specs.Io.KnownBytes.{Consumes}
use Rattle.pc_io.proofs.tally.read_all.Given as goal

-- what was read so far was there, and nothing failed
abbrev pub invariant-loop-bytes : goal.invariant-loop-bytes
invariant-loop-bytes g l =
    let remaining = g.R.Read.remaining in
    record {
      so_far : Consumes (remaining l.fn.reader.inner) (remaining l.reader.inner) l.bytes.items;
      sound : l.reader.failures ≡ l.fn.reader.failures;
    }

abbrev pub decreases-loop-bytes : goal.decreases-loop-bytes
decreases-loop-bytes g l = 2 ^ 64 - vec_len l.bytes
