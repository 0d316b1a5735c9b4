use Rattle.std.proofs.Common.{◌≡◌, ◌≤◌, ◌*◌, take}
use Rattle.std.specs.List.{flat_map}
use Rattle.arrayvec.specs.ArrayVec.{array_vec_len}
use Rattle.pc_texts.specs.Texts.{printed_byte}
use Rattle.pc_texts.proofs.texts.put_some.Given as goal

-- the bytes so far are printed
abbrev pub invariant-loop-byte : goal.invariant-loop-byte
invariant-loop-byte g l = record {
  text : l.text.items ≡ flat_map printed_byte (take l.byte-index l.bytes);
  len : array_vec_len l.text ≤ 4 * l.byte-index;
}
