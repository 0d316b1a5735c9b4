use Rattle.std.proofs.Common.{◌≡◌, length, ◌-◌, ◌≤◌, take}
use Rattle.std.specs.Io.KnownBytes.{Appends}
use Rattle.pc_io.proofs.tally.Tally.put.Given as goal

-- the bytes so far went out, and nothing failed
abbrev pub invariant-loop-at : goal.invariant-loop-at
invariant-loop-at g l =
    let contents = g.W.Write.contents in
    record {
      within : l.at ≤ length l.bytes;
      sent : Appends (contents l.fn.self.inner) (contents l.self.inner) (take l.at l.bytes);
      sound : l.self.failures ≡ l.fn.self.failures;
    }

abbrev pub decreases-loop-at : goal.decreases-loop-at
decreases-loop-at g l = length l.bytes - l.at
