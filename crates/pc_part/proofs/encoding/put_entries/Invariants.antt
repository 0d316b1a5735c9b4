use Rattle.std.proofs.Common.{◌≡◌, ◌++◌, Ok}
use Rattle.std.specs.List.{All, flat_map}
use Rattle.pc_io.specs.Tallies.{Puts}
use Rattle.pc_part.specs.Lawful.{HasLimits}
use Rattle.pc_part.specs.Texts.{triple_text}
use Rattle.pc_part.proofs.encoding.put_entries.Given as goal

-- those so far went out, and the others are to come
abbrev pub invariant-loop-entry : goal.invariant-loop-entry
invariant-loop-entry g l = record {
  sent : Puts g.W.Write.contents l.fn.out l.out (Ok tt) (flat_map triple_text l.yielded);
  others : l.yielded ++ l.entry-iterator ≡ l.fn.entries;
  lawful : All HasLimits l.yielded;
}
