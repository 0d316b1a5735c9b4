use Rattle.std.proofs.Common.{ap, ◌∙◌, ◌+◌, length, drop}
use Rattle.std.specs.Prelude.{fold}
use Rattle.pc_recover.specs.Recovery.{read_files}
use Rattle.pc_recover.specs.Reach.{top_with_file, top_at}
use Rattle.pc_recover.proofs.Reaching.{items_over, file_noted, file_left_out}
use Rattle.pc_recover.proofs.reach.least_tops.Goals as goal
use Rattle.pc_recover.proofs.reach.least_tops.Goals.{in-Ok, in_default}

pub loop-file-init : goal.loop-file-init
loop-file-init c = record {
  len = c.in_ok-tops.ensures.len;
  left = λ point bound. ap (λ v. fold (top_with_file point) v (read_files c.args.files.now)) (c.in_ok-tops.ensures.none point);
}

pub loop-file-preserved : goal.loop-file-preserved
loop-file-preserved c = elim c.match-file.branch [
  | in-Ok w ↦
      let items = items_over c.loop-file.tops w.note_part.new.tops c.match-file.tops 65536 w.tops-is w.note_part.ensures.len c.loop-file.invariant.len in
      record {
        len = ap length items ∙ w.note_part.ensures.len;
        left = λ point bound.
            ap (λ tops. fold (top_with_file point) (top_at tops point) (read_files (drop (c.loop-file.file-index + 1) c.args.files.now))) items
            ∙ file_noted c.args.files.now c.loop-file.file-index c.file-item.result c.loop-file-test.true c.file-item.is w.in-Ok.part c.loop-file.tops.items w.note_part.new.tops w.in-Ok.is (λ p at. w.note_part.ensures.tops p at ∙ ap (λ tops. top_with_file p (top_at tops p) w.in-Ok.part) w.deref_mut.ensures.value) c.loop-file.invariant.left point bound;
      }
  | in_default w ↦
      rw w.tops-is record {
        len = c.loop-file.invariant.len;
        left = file_left_out c.args.files.now c.loop-file.file-index c.file-item.result c.loop-file-test.true c.file-item.is w.in_default.field-0 c.loop-file.tops.items w.in_default.is c.loop-file.invariant.left;
      }
]
