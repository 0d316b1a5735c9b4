use Rattle.std.proofs.Common.{◌≡◌, [], sym, ap, subst, ◌∙◌, arith, length}
use Rattle.std.specs.Vec.Iter.{into_iter_items}
use Rattle.std.proofs.lemmas.Result.{err_from_is_err_and}
use Rattle.std.proofs.lemmas.List.{nil_from_length}
use Rattle.pc_collapse_files.proofs.ReadFiles.{AreLeft, all_left, all_many, all_opened, all_read, one_less, unopened}
use Rattle.pc_collapse_files.proofs.ReadLaws.{none_sound, sound_push}
use Rattle.pc_collapse_files.proofs.inputs.readers_of.Goals as goal

pub loop-file-init : goal.loop-file-init
loop-file-init g c =
    let items = c.into_iter-file-iterator.ensures.into_iter_gives.0 in
    record {
      going = (tt, tt);
      counted = c.into_iter-file-iterator.ensures.into_iter_gives.1 ∙ c.args.files.ok.0 ∙ ap length (sym items);
      left = rw c.new-readers.ensures.items (all_left g.R.Read.remaining c.args.files.items _ (sym items));
      sound = rw c.new-readers.ensures.items (none_sound g.row.R.Denot);
    }

pub returns-in_err-reader-clause-cause : goal.returns-in_err-reader-clause-cause
returns-in_err-reader-clause-cause g c =
    let p = err_from_is_err_and c.from_residual.result c.from_residual.ensures.1 in
    let left = subst (λ items. AreLeft g.R.Read.remaining c.args.files.items items c.loop-file.readers.items) c.in-Some.ensures.steps.0 c.loop-file.invariant.left in
    rw (p.1, p.2) (unopened g.R.Read.remaining c.args.files.items (into_iter_items c.next.new.self) c.in-Some.file c.loop-file.readers.items c.in_err-reader.field-0.0 left c.in_err-reader.ensures.cause)

pub loop-file-preserved : goal.loop-file-preserved
loop-file-preserved g c =
    let items = c.in-Some.ensures.steps.0 in
    record {
      going = (tt, tt);
      counted = omega (arith, c.in-Some.ensures.steps.1, c.loop-file.invariant.counted, ap length items);
      left = rw c.in_ok-push_reader.ensures.ok (one_less g.R.Read.remaining c.args.files.items (into_iter_items c.next.new.self) c.in-Some.file c.loop-file.readers.items c.in_ok-reader.reader (subst (λ xs. AreLeft g.R.Read.remaining c.args.files.items xs c.loop-file.readers.items) items c.loop-file.invariant.left) c.in_ok-reader.ensures.opened c.in_ok-reader.ensures.reader);
      sound = rw c.in_ok-push_reader.ensures.ok (sound_push c.loop-file.readers.items c.in_ok-reader.reader c.loop-file.invariant.sound c.in_ok-reader.ensures.sound);
    }

pub returns-clause-readers : goal.returns-clause-readers
returns-clause-readers g c =
    let none : into_iter_items c.loop-file.file-iterator ≡ [] = nil_from_length (into_iter_items c.loop-file.file-iterator) (sym c.loop-file.invariant.counted ∙ c.in-None.ensures.steps.0) in
    all_read g.R.Read.remaining c.args.files.items (into_iter_items c.loop-file.file-iterator) c.loop-file.readers.items none c.loop-file.invariant.left

pub returns-clause-many : goal.returns-clause-many
returns-clause-many g c =
    let none : into_iter_items c.loop-file.file-iterator ≡ [] = nil_from_length (into_iter_items c.loop-file.file-iterator) (sym c.loop-file.invariant.counted ∙ c.in-None.ensures.steps.0) in
    all_many g.R.Read.remaining c.args.files.items (into_iter_items c.loop-file.file-iterator) c.loop-file.readers.items none c.loop-file.invariant.left

pub returns-clause-opened : goal.returns-clause-opened
returns-clause-opened g c =
    let none : into_iter_items c.loop-file.file-iterator ≡ [] = nil_from_length (into_iter_items c.loop-file.file-iterator) (sym c.loop-file.invariant.counted ∙ c.in-None.ensures.steps.0) in
    all_opened g.R.Read.remaining c.args.files.items (into_iter_items c.loop-file.file-iterator) c.loop-file.readers.items none c.loop-file.invariant.left
