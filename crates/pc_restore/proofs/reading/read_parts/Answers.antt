use Rattle.std.proofs.Common.{◌≡◌, [], sym, ap, subst, ◌∙◌, arith, length}
use Rattle.std.specs.Vec.Iter.{into_iter_items}
use Rattle.std.proofs.lemmas.Result.{err_from_is_err_and}
use Rattle.std.proofs.lemmas.List.{nil_from_length}
use Rattle.pc_restore.proofs.FolderParts.{HoldTheRest, AreLeft, none_read, one_more_read, all_read, all_left, one_less, all_opened, part_lost}
use Rattle.pc_restore.proofs.reading.read_parts.Goals as goal

pub loop-file-init : goal.loop-file-init
loop-file-init g c =
    let items = c.into_iter-file-iterator.ensures.into_iter_gives.0 in
    record {
      going = (tt, tt);
      counted = c.into_iter-file-iterator.ensures.into_iter_gives.1 ∙ c.args.files.ok.0 ∙ ap length (sym items);
      split = all_left c.args.files.items _ (sym items);
      held = rw (items, c.new-read.ensures.items) (none_read g.R.Read.remaining c.args.files.items);
    }

pub returns-in_err-part-clause-cause : goal.returns-in_err-part-clause-cause
returns-in_err-part-clause-cause g c =
    let p = err_from_is_err_and c.from_residual.result c.from_residual.ensures.1 in
    let cause = c.in_err-part.ensures.cause in
    let left = subst (λ items. AreLeft c.args.files.items items) c.in-Some.ensures.steps.0 c.loop-file.invariant.split in
    rw (p.1, p.2) (part_lost c.args.files.items (into_iter_items c.next.new.self) c.in-Some.file cause.0 c.in_err-part.field-0.0 left cause.1 cause.2)

pub loop-file-preserved : goal.loop-file-preserved
loop-file-preserved g c =
    let items = c.in-Some.ensures.steps.0 in
    record {
      going = (tt, tt);
      counted = omega (arith, c.in-Some.ensures.steps.1, c.loop-file.invariant.counted, ap length items);
      split = one_less c.args.files.items (into_iter_items c.next.new.self) c.in-Some.file (subst (λ xs. AreLeft c.args.files.items xs) items c.loop-file.invariant.split) c.in_ok-part.ensures.opened;
      held = rw c.in_ok-push_part.ensures.ok (one_more_read g.R.Read.remaining c.args.files.items c.in-Some.file (into_iter_items c.next.new.self) c.loop-file.read.items c.in_ok-part.part c.in_ok-part.ensures.held (subst (λ xs. HoldTheRest g.R.Read.remaining c.args.files.items xs c.loop-file.read.items) items c.loop-file.invariant.held));
    }

pub returns-clause-held : goal.returns-clause-held
returns-clause-held g c =
    let none : into_iter_items c.loop-file.file-iterator ≡ [] = nil_from_length (into_iter_items c.loop-file.file-iterator) (sym c.loop-file.invariant.counted ∙ c.in-None.ensures.steps.0) in
    all_read g.R.Read.remaining c.args.files.items c.loop-file.read.items (subst (λ left. HoldTheRest g.R.Read.remaining c.args.files.items left c.loop-file.read.items) none c.loop-file.invariant.held)

pub returns-clause-opened : goal.returns-clause-opened
returns-clause-opened g c =
    let none : into_iter_items c.loop-file.file-iterator ≡ [] = nil_from_length (into_iter_items c.loop-file.file-iterator) (sym c.loop-file.invariant.counted ∙ c.in-None.ensures.steps.0) in
    all_opened c.args.files.items (into_iter_items c.loop-file.file-iterator) none c.loop-file.invariant.split
