use Rattle.std.proofs.Common.{None, refl, sym, subst}
use Rattle.std.proofs.lemmas.Result.{err_from_is_err_and}
use Rattle.pc_collapse_files.specs.Collapses.{IsCollapseCause, IsLeftByCollapse}
use Rattle.pc_io.specs.Tallies.{inner_of}
use Rattle.pc_part.specs.Texts.{part_text}
use Rattle.pc_collapse_files.proofs.Ends.{head_cause, head_leaves, named_or_not, unwritten_cause, unwritten_leaves}
use Rattle.pc_collapse_files.proofs.collapse.collapse.Goals as goal

pub returns-in-Err-clause-cause : goal.returns-in-Err-clause-cause
returns-in-Err-clause-cause g c =
    subst (λ u. IsCollapseCause g.R.Read.remaining c.args.files.items u.inputs.items (g.M.Maker.refuses c.args.maker.now) u.fault) (sym c.unstarted.ensures)
    (head_cause g.R.Read.remaining c.args.files.items c.in-Err.unopened.readers.items (g.M.Maker.refuses c.args.maker.now) c.in-Err.unopened.fault c.in-Err.ensures.cause)

pub returns-in-Err-clause-left : goal.returns-in-Err-clause-left
returns-in-Err-clause-left g c =
    subst (λ u. IsLeftByCollapse g.R.Read.remaining g.F.Write.contents g.W.Write.contents c.args.files.items u.fault u.file (g.M.Maker.stands c.args.maker.now) (g.M.Maker.stands c.args.maker.now) c.args.out.now c.args.out.now) (sym c.unstarted.ensures)
    (head_leaves g.R.Read.remaining c.args.files.items g.F.Write.contents g.W.Write.contents (g.M.Maker.stands c.args.maker.now) (g.M.Maker.stands c.args.maker.now) (λ text is. is) c.args.out.now c.in-Err.unopened.readers.items c.in-Err.unopened.fault c.in-Err.ensures.cause)

pub returns-in_err-file-clause-cause : goal.returns-in_err-file-clause-cause
returns-in_err-file-clause-cause g c =
    let p = err_from_is_err_and c.from_residual.result c.from_residual.ensures.1 in
    rw (p.1, p.2) (unwritten_cause g.R.Read.remaining c.args.files.items g.F.Write.contents c.in_err-file.field-0.0.inputs.items (g.M.Maker.refuses c.write_file.new.maker) c.in_err-file.field-0.0.file c.in_err-file.field-0.0.fault (c.in_err-file.ensures.unwritten c.args.files.items c.in-Ok.ensures.opened))

pub returns-in_err-file-clause-left : goal.returns-in_err-file-clause-left
returns-in_err-file-clause-left g c =
    let p = err_from_is_err_and c.from_residual.result c.from_residual.ensures.1 in
    rw (p.1, p.2) (unwritten_leaves g.R.Read.remaining c.args.files.items g.F.Write.contents g.W.Write.contents (g.M.Maker.stands c.args.maker.now) (g.M.Maker.stands c.write_file.new.maker) c.write_file.ensures.stays c.args.out.now c.in_err-file.field-0.0.inputs.items (g.M.Maker.refuses c.write_file.new.maker) c.in_err-file.field-0.0.file c.in_err-file.field-0.0.fault (c.in_err-file.ensures.unwritten c.args.files.items c.in-Ok.ensures.opened))

pub returns-in-Ok-print-clause-done : goal.returns-in-Ok-print-clause-done
returns-in-Ok-print-clause-done g c =
    let written = c.in_ok-file.ensures.written c.args.files.items c.in-Ok.ensures.opened in
    record {
      opened = written.opened;
      file = written.file;
      join = written.join;
      written = λ known. c.in-Ok-name_file.ensures.named (part_text written.file) (written.whole known);
      line = rw (← written.points, ← written.entries, ← c.as_slice.ensures, ← c.from.ensures) c.in-Ok-print.ensures.printed.0;
      sound = c.in-Ok-print.ensures.printed.1;
    }

pub returns-in-Ok-name_file-clause-cause : goal.returns-in-Ok-name_file-clause-cause
returns-in-Ok-name_file-clause-cause g c =
    let written = c.in_ok-file.ensures.written c.args.files.items c.in-Ok.ensures.opened in
    subst (λ u. IsCollapseCause g.R.Read.remaining c.args.files.items u.inputs.items (g.M.Maker.refuses c.name_file.new.maker) u.fault) (sym c.unmade.ensures)
    (subst (λ f. IsCollapseCause g.R.Read.remaining c.args.files.items c.new.result.items (g.M.Maker.refuses c.name_file.new.maker) f) (sym c.in-Err-print.ensures.failed.0) (written.opened, (written.file, written.join)))

pub returns-in-Ok-name_file-clause-left : goal.returns-in-Ok-name_file-clause-left
returns-in-Ok-name_file-clause-left g c =
    let written = c.in_ok-file.ensures.written c.args.files.items c.in-Ok.ensures.opened in
    subst (λ u. IsLeftByCollapse g.R.Read.remaining g.F.Write.contents g.W.Write.contents c.args.files.items u.fault u.file (g.M.Maker.stands c.args.maker.now) (g.M.Maker.stands c.name_file.new.maker) c.args.out.now c.print.new.out) (sym c.unmade.ensures)
    (subst (λ f. IsLeftByCollapse g.R.Read.remaining g.F.Write.contents g.W.Write.contents c.args.files.items f None (g.M.Maker.stands c.args.maker.now) (g.M.Maker.stands c.name_file.new.maker) c.args.out.now c.print.new.out) (sym c.in-Err-print.ensures.failed.0) (
      refl,
      record {
        file = written.file;
        join = written.join;
        written = λ known. c.in-Ok-name_file.ensures.named (part_text written.file) (written.whole known);
        line = rw (← written.points, ← written.entries, ← c.as_slice.ensures, ← c.from.ensures) c.in-Err-print.ensures.failed.2;
        counted = c.in-Err-print.ensures.failed.1;
      },
    ))

pub returns-clause-cause : goal.returns-clause-cause
returns-clause-cause g c =
    let written = c.in_ok-file.ensures.written c.args.files.items c.in-Ok.ensures.opened in
    let unnamed = c.in-Err-name_file.ensures.fault in
    subst (λ u. IsCollapseCause g.R.Read.remaining c.args.files.items u.inputs.items (g.M.Maker.refuses c.name_file.new.maker) u.fault) (sym c.unmade-in-Err-name_file.ensures)
    (subst (λ f. IsCollapseCause g.R.Read.remaining c.args.files.items c.new-in-Err-name_file.result.items (g.M.Maker.refuses c.name_file.new.maker) f) (sym unnamed.1) (written.opened, (written.file, written.join), unnamed.2))

pub returns-clause-left : goal.returns-clause-left
returns-clause-left g c =
    let written = c.in_ok-file.ensures.written c.args.files.items c.in-Ok.ensures.opened in
    subst (λ u. IsLeftByCollapse g.R.Read.remaining g.F.Write.contents g.W.Write.contents c.args.files.items u.fault u.file (g.M.Maker.stands c.args.maker.now) (g.M.Maker.stands c.name_file.new.maker) c.args.out.now c.args.out.now) (sym c.unmade-in-Err-name_file.ensures)
    (subst (λ f. IsLeftByCollapse g.R.Read.remaining g.F.Write.contents g.W.Write.contents c.args.files.items f None (g.M.Maker.stands c.args.maker.now) (g.M.Maker.stands c.name_file.new.maker) c.args.out.now c.args.out.now) (sym c.in-Err-name_file.ensures.fault.1)
    (refl, named_or_not g.R.Read.remaining c.args.files.items g.F.Write.contents (g.M.Maker.stands c.args.maker.now) (g.M.Maker.stands c.write_file.new.maker) (g.M.Maker.stands c.name_file.new.maker) c.write_file.ensures.stays written.file written.join (g.F.Write.contents (inner_of c.in_ok-file.field-0.file)) written.whole c.in-Err-name_file.ensures.unnamed, refl))
