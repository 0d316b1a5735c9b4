use Rattle.std.proofs.Common.{◌≡◌, take}
use Rattle.std.specs.Io.KnownBytes.{Appends}
use Rattle.pc_pairs.specs.Dumps.{pair_lines}
use Rattle.pc_pairs.specs.declared.form.Form.TheVariants as form
use Rattle.pc_pairs.proofs.json.put_json.Given as goal

-- the lines of the pairs before this one went out
abbrev pub invariant-loop-pair : goal.invariant-loop-pair
invariant-loop-pair g l =
    let contents = g.W.Write.contents in
    record {
      sent : Appends (contents l.fn.out.inner) (contents l.out.inner) (pair_lines form.Json (take l.pair-index l.pairs));
      counted : l.out.failures ≡ l.fn.out.failures;
    }
