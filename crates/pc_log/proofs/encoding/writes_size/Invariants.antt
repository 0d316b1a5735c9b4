use Rattle.std.proofs.Common.{◌≡◌, ◌≤◌, ◌*◌, length, take}
use Rattle.std.specs.List.{flat_map}
use Rattle.pc_log.specs.Texts.{write_text}
use Rattle.pc_log.proofs.encoding.writes_size.Given as goal

-- the size of that many writes
abbrev pub invariant-loop-write : goal.invariant-loop-write
invariant-loop-write l = record {
  size : l.size ≡ length (flat_map write_text (take l.write-index l.writes));
  limit : l.size ≤ 65799 * l.write-index;
}
