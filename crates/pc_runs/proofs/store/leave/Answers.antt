use Rattle.std.proofs.Common.{◌≡◌, List, drop, sym, ap, subst, ◌∙◌}
use Rattle.std.proofs.lemmas.Result.{err_from_is_err_and}
use Rattle.pc_types.specs.declared.Entry.{Entry}
use Rattle.pc_model.specs.Files.{BaseFile, File}
use Rattle.pc_kept_log.specs.Logs.{entries_of}
use Rattle.pc_outcomes.specs.Leaving.{AreLeftAfter, IsUntoldAfter}
use Rattle.pc_runs.proofs.store.leave.Goals as goal

pub returns-in_err-files-clause-untold : goal.returns-in_err-files-clause-untold
returns-in_err-files-clause-untold g c =
    let p = err_from_is_err_and c.from_residual.result c.from_residual.ensures.1 in
    rw (p.1, p.2) tt

pub returns-in_err-files-2-clause-untold : goal.returns-in_err-files-2-clause-untold
returns-in_err-files-2-clause-untold g c =
    let st = g.N.StoreName.name.setting in
    let p = err_from_is_err_and c.from_residual-in_err-files-2.result c.from_residual-in_err-files-2.ensures.1 in
    let why = c.in_err-files-2.field-0.0 in
    let after = c.requires.after in
    let world = c.files_of.ensures.world in
    let files = c.in_ok-files.ensures.files in
    let base : c.base.result.now ≡ c.args.closed.world.base = c.base.ensures ∙ ap (λ w. w.base) world in
    let entries = entries_of c.log.result.now in
    let log : entries ≡ c.args.closed.world.log = c.log.ensures.log ∙ ap (λ w. w.log) world in
    let worth : AreLeftAfter st after.0 c.base.result.now entries c.in_ok-files.files.items =
    subst (λ (b : BaseFile). AreLeftAfter st after.0 b entries c.in_ok-files.files.items) (sym base)
    (subst (λ (l : List Entry). AreLeftAfter st after.0 c.args.closed.world.base l c.in_ok-files.files.items) (sym log)
    (subst (λ (fs : List File). AreLeftAfter st after.0 c.args.closed.world.base c.args.closed.world.log fs) (sym files) after.1)) in
    rw (p.1, p.2) (subst (λ (fs : List File). IsUntoldAfter st (drop c.args.singles fs) why) files (c.in_err-files-2.ensures.untold st after.0 worth))
