use Rattle.std.proofs.Common.{ap, inl, inr, subst, ◌∙◌}
use Rattle.std.proofs.lemmas.Result.{err_from_is_err_and}
use Rattle.pc_recover.specs.Recovery.{IsOfRun, recovery_of}
use Rattle.pc_restore.specs.Recoveries.{bytes_of}
use Rattle.pc_restore.proofs.FolderRecovery.{memory_or, same_lacks, same_recovery, unread_is_lost}
use Rattle.pc_restore.proofs.RuleRefusals.{rules_refuse}
use Rattle.pc_restore.proofs.recovery.recover_read.Goals as goal

pub returns-in-Err-clause-cause : goal.returns-in-Err-clause-cause
returns-in-Err-clause-cause g c = (
  inr (
    c.in_ok-files.ensures.opened,
    elim (memory_or c.in-Err.why) [
      | inl memory ↦ inl memory
      | inr other ↦ inr (
        rules_refuse _ _ _ c.in-Err.why (c.in-Err.ensures.rules other),
        λ base names parts log holds.
            let held = c.in_ok-files.ensures.held base names parts log holds in
            same_recovery _ _ _ _ _ _ _ held.0 held.2 held.3 (c.in-Err.ensures.rules other),
      )
    ],
  ),
  λ e. cc,
)

pub returns-in_err-files-clause-cause : goal.returns-in_err-files-clause-cause
returns-in_err-files-clause-cause g c =
    let p = err_from_is_err_and c.from_residual.result c.from_residual.ensures.1 in
    rw (p.1, p.2) (unread_is_lost g.R.Read.remaining c.args.folder c.in_err-files.field-0.0 c.in_err-files.ensures.cause)

pub returns-clause-worth : goal.returns-clause-worth
returns-clause-worth g c base names parts log holds =
    let held = c.in_ok-files.ensures.held base names parts log holds in (
      held.1,
      same_recovery _ _ _ _ _ _ _ held.0 held.2 held.3 c.in-Ok.ensures.rules,
      subst (λ bytes. IsOfRun bytes c.in-Ok.recovered.run) held.0 c.in-Ok.ensures.run,
      same_lacks _ _ _ _ _ _ (recovery_of c.in-Ok.recovered) _ c.in_ok-files.ensures.logged (ap bytes_of c.deref.ensures.value ∙ held.2) (c.deref-2.ensures.value ∙ held.3) c.in-Ok-lacks_of.ensures,
    )
