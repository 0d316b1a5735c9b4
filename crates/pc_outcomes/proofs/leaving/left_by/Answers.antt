use Rattle.std.proofs.Common.{◌≡◌, ◌⊎◌, List, ◌∙◌, ap, subst, drop}
use Rattle.pc_kept_log.specs.Logs.{entries_of}
use Rattle.pc_outcomes.proofs.LegacyLaws.{legacy_of}
use Rattle.pc_outcomes.proofs.UntoldLaws.{memory_untold, not_folded, not_laid}
use Rattle.pc_outcomes.specs.Leaving.{Folded, IsUnfolded}
use Rattle.pc_types.specs.declared.Refusal.TheVariants.{OutOfMemory}
use Rattle.pc_model.specs.Files.{File}
use Rattle.std.proofs.lemmas.Result.{err_from_is_err_and}
use Rattle.pc_outcomes.proofs.leaving.left_by.Goals as goal

pub returns-clause-left : goal.returns-clause-left
returns-clause-left g c =
    record {
      collapsed = c.in_ok-part.part;
      folded = rw (c.behind-several.ensures ∙ ap (drop c.args.singles) c.deref.ensures.value) at c.in_ok-part.ensures.folded;
      summary = c.in_ok-collapsed.ensures.summary;
      right = rw (c.deref-2.ensures.value ∙ c.in_ok-files.ensures.all) at c.in_ok-is_right.ensures;
    }

pub returns-clause-legacy : goal.returns-clause-legacy
returns-clause-legacy g c st history after =
    legacy_of c.files_fold_well.ensures c.files_of_their_points_are_right.ensures st history c.args.base.now (entries_of c.args.log.now) c.args.files.items after c.args.singles _ (returns-clause-left g c)

pub returns-in_err-part-clause-untold : goal.returns-in_err-part-clause-untold
returns-in_err-part-clause-untold g c st history after =
    let p = err_from_is_err_and c.from_residual.result c.from_residual.ensures.1 in
    let why = c.in_err-part.field-0.0 in
    let behind = c.behind-several.ensures ∙ ap (drop c.args.singles) c.deref.ensures.value in
    rw (p.1, p.2)
    (not_folded c.files_fold_well.ensures st history c.args.base.now (entries_of c.args.log.now) c.args.files.items after c.args.singles why
    (subst (λ (some : List File). (why ≡ OutOfMemory) ⊎ IsUnfolded some why) behind c.in_err-part.ensures.refused))

pub returns-in_err-collapsed-clause-untold : goal.returns-in_err-collapsed-clause-untold
returns-in_err-collapsed-clause-untold g c st history after =
    let p = err_from_is_err_and c.from_residual-in_err-collapsed.result c.from_residual-in_err-collapsed.ensures.1 in
    let behind = c.behind-several.ensures ∙ ap (drop c.args.singles) c.deref.ensures.value in
    let part = c.in_ok-part.part in
    rw (p.1, p.2)
    (not_laid c.files_fold_well.ensures st history c.args.base.now (entries_of c.args.log.now) c.args.files.items after c.args.singles c.in_err-collapsed.field-0.0 part
    (subst (λ (some : List File). Folded some part) behind c.in_ok-part.ensures.folded) c.in_err-collapsed.ensures.refused)

pub returns-in_err-files-clause-untold : goal.returns-in_err-files-clause-untold
returns-in_err-files-clause-untold g c st history after =
    let p = err_from_is_err_and c.from_residual-in_err-files.result c.from_residual-in_err-files.ensures.1 in
    rw (p.1, p.2) (memory_untold c.files_fold_well.ensures st history c.args.base.now (entries_of c.args.log.now) c.args.files.items after c.args.singles c.in_err-files.field-0.0 c.in_err-files.ensures.memory)

pub returns-in_err-is_right-clause-untold : goal.returns-in_err-is_right-clause-untold
returns-in_err-is_right-clause-untold g c st history after =
    let p = err_from_is_err_and c.from_residual-in_err-is_right.result c.from_residual-in_err-is_right.ensures.1 in
    rw (p.1, p.2) tt
