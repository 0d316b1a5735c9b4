use Rattle.std.proofs.Common.{ℕ, ◌<◌, take, get_or}
use Rattle.std.specs.List.{flat_map}
use Rattle.pc_types.specs.declared.Write.{Write}
use Rattle.pc_log.specs.Texts.{write_text, IsWrite}
use Rattle.pc_kept_log.specs.Placing.{ArePut}
use Rattle.pc_kept_log.proofs.placing.put_writes.Given as goal

-- that many of them were put
abbrev pub invariant-loop-write : goal.invariant-loop-write
invariant-loop-write l = record {
  put : ArePut l.fn.room l.room l.at (flat_map write_text (take l.write-index l.writes)) l.end;
  in_limits : (k : ℕ) (d : Write) → k < l.write-index → IsWrite (get_or l.writes k d);
}
