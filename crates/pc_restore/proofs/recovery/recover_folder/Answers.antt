use Rattle.std.proofs.Common.{ap, subst, ◌∙◌}
use Rattle.std.proofs.lemmas.Result.{err_from_is_err_and}
use Rattle.std.specs.Io.KnownBytes.{Appends}
use Rattle.pc_io.specs.Counted.{AppendsBeginning}
use Rattle.pc_io.specs.Tallies.{inner_of}
use Rattle.pc_recover.specs.Recovery.{recovery_of}
use Rattle.pc_restore.specs.Reports.{recovery_text}
use Rattle.pc_restore.specs.Recoveries.{names_of}
use Rattle.pc_texts.proofs.OutputLaws.{whole_printed, part_printed}
use Rattle.pc_restore.proofs.FolderRecovery.{nothing_out}
use Rattle.pc_restore.proofs.recovery.recover_folder.Goals as goal

pub returns-in_err-parts-clause-cause : goal.returns-in_err-parts-clause-cause
returns-in_err-parts-clause-cause g c =
    let p = err_from_is_err_and c.from_residual.result c.from_residual.ensures.1 in
    rw (p.1, p.2) c.in_err-parts.ensures.cause.0

pub returns-in_err-parts-clause-goes_out : goal.returns-in_err-parts-clause-goes_out
returns-in_err-parts-clause-goes_out g c =
    let p = err_from_is_err_and c.from_residual.result c.from_residual.ensures.1 in
    rw (p.1, p.2) (nothing_out g.R.Read.remaining g.W.Write.contents (recovery_text c.args.has_pairs) c.args.folder c.args.out.now c.in_err-parts.field-0.0 c.in_err-parts.ensures.cause.1)

pub returns-in-Ok-clause-recovered : goal.returns-in-Ok-clause-recovered
returns-in-Ok-clause-recovered g c = λ base names parts log holds.
    let worth = c.in_ok-parts.ensures.worth base names parts log holds in
    let found = recovery_of c.in_ok-parts.field-0.recovered in (
      found,
      worth.1,
      subst (λ ns. Appends (g.W.Write.contents (inner_of c.args.out.now)) (g.W.Write.contents (inner_of c.end_output.new.out)) (recovery_text c.args.has_pairs ns found)) (ap names_of c.deref.ensures.value ∙ worth.0)
          (whole_printed g.W.Write.contents c.args.out.now c.put_recovered-put.new.out c.end_output.new.out (recovery_text c.args.has_pairs (names_of c.deref.result.now) found) c.put_recovered-put.result c.put_recovered-put.ensures c.in-Ok.ensures.stays c.in-Ok.ensures.printed).0,
    )

pub returns-in-Ok-clause-lacks : goal.returns-in-Ok-clause-lacks
returns-in-Ok-clause-lacks g c = λ base names parts log holds.
    let worth = c.in_ok-parts.ensures.worth base names parts log holds in
    (recovery_of c.in_ok-parts.field-0.recovered, worth.1, worth.3)

pub returns-in-Ok-clause-sound : goal.returns-in-Ok-clause-sound
returns-in-Ok-clause-sound g c =
    (whole_printed g.W.Write.contents c.args.out.now c.put_recovered-put.new.out c.end_output.new.out _ c.put_recovered-put.result c.put_recovered-put.ensures c.in-Ok.ensures.stays c.in-Ok.ensures.printed).1

pub returns-clause-goes_out : goal.returns-clause-goes_out
returns-clause-goes_out g c =
    let found = recovery_of c.in_ok-parts.field-0.recovered in
    let part = part_printed g.W.Write.contents c.args.out.now c.put_recovered-put.new.out c.end_output.new.out (recovery_text c.args.has_pairs (names_of c.deref.result.now) found) c.put_recovered-put.result _ c.put_recovered-put.ensures c.in-Err.ensures.stays c.in-Err.ensures.unprinted in (
      part.0,
      λ base names parts log holds.
          let worth = c.in_ok-parts.ensures.worth base names parts log holds in (
            found,
            worth.1,
            subst (λ ns. AppendsBeginning (g.W.Write.contents (inner_of c.args.out.now)) (g.W.Write.contents (inner_of c.end_output.new.out)) (recovery_text c.args.has_pairs ns found)) (ap names_of c.deref.ensures.value ∙ worth.0) part.1,
          ),
    )
