use Rattle.std.proofs.Common.{◌≡◌, take}
use Rattle.std.specs.List.{flat_map}
use Rattle.std.specs.Io.KnownBytes.{Appends}
use Rattle.pc_io.proofs.tally.Tally.put_all.Given as goal

-- the pieces so far went out, and nothing failed
abbrev pub invariant-loop-piece : goal.invariant-loop-piece
invariant-loop-piece g l =
    let contents = g.W.Write.contents in
    record {
      sent : Appends (contents l.fn.self.inner) (contents l.self.inner) (flat_map (λ piece. piece.now) (take l.piece-index l.pieces));
      sound : l.self.failures ≡ l.fn.self.failures;
    }
