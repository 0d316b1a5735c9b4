use Rattle.std.proofs.Common.{◌≡◌, length}
use Rattle.std.specs.Vec.Iter.{into_iter_items, into_iter_len}
use Rattle.pc_restore.proofs.FolderParts.{AreLeft, HoldTheRest}
use Rattle.pc_restore.proofs.reading.read_parts.Given as goal

abbrev pub invariant-loop-file : goal.invariant-loop-file
invariant-loop-file g l = record {
  going : (goal.iterator-loop-file g).can_next l.file-iterator × (goal.iterator-loop-file g).is_finite l.file-iterator;
  counted : into_iter_len l.file-iterator ≡ length (into_iter_items l.file-iterator);
  split : AreLeft l.fn.files.items (into_iter_items l.file-iterator);
  held : HoldTheRest g.R.Read.remaining l.fn.files.items (into_iter_items l.file-iterator) l.read.items;
}
