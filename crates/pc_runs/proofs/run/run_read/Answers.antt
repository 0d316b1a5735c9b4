use Rattle.std.proofs.Common.{◌≤◌, inl, subst, sym}
use Rattle.std.specs.Prelude.{is_some}
use Rattle.std.proofs.lemmas.Result.{err_from_is_err_and}
use Rattle.pc_types.specs.declared.limits.TheConstants.{MOST_KEYS}
use Rattle.pc_model.specs.Replies.{Setting}
use Rattle.pc_shared.specs.Sitters.{new_sitters}
use Rattle.pc_threads.specs.Clients.{HaveSeats}
use Rattle.pc_threads.specs.Files.{RefusedBy}
use Rattle.pc_runs.specs.Runs.{run_setting}
use Rattle.pc_runs.proofs.FaultLaws.{begin_lost, lost_ends, not_opened, too_large}
use Rattle.pc_runs.proofs.run.run_read.Goals as goal

pub run_store-requires-clause-seats : goal.run_store-requires-clause-seats
run_store-requires-clause-seats g c κs within = subst (λ (st : Setting). HaveSeats (new_sitters st.sessions) c.args.workload.clients) (sym c.in_ok-opened.ensures.setting) c.requires.seats

pub run_store-requires-clause-room : goal.run_store-requires-clause-room
run_store-requires-clause-room g c κs within = subst (λ (st : Setting). st.capacity ≤ MOST_KEYS) (sym c.in_ok-opened.ensures.setting) c.requires.capacity.1

pub run_store-requires-clause-counts : goal.run_store-requires-clause-counts
run_store-requires-clause-counts g c κs within now text gone = (now, gone)

pub returns-in_err-folder-clause-ended : goal.returns-in_err-folder-clause-ended
returns-in_err-folder-clause-ended g c =
    let p = err_from_is_err_and c.from_residual.result c.from_residual.ensures.1 in
    let refused = RefusedBy g.D.NewFiles.refuses c.args.folder in
    rw (p.1, p.2) (lost_ends refused (run_setting c.args.base c.args.capacity) c.args.workload (is_some c.args.folder) c.in_err-folder.field-0.0 c.in_err-folder.ensures.lost.0 (begin_lost refused c.in_err-folder.field-0.0 c.in_err-folder.ensures.lost.1))

pub returns-in_err-opened-clause-ended : goal.returns-in_err-opened-clause-ended
returns-in_err-opened-clause-ended g c =
    let p = err_from_is_err_and c.from_residual-in_err-opened.result c.from_residual-in_err-opened.ensures.1 in
    rw (p.1, p.2) (not_opened (run_setting c.args.base c.args.capacity) c.args.workload c.in_err-opened.field-0.0 c.in_err-opened.ensures.refusals)

pub returns-then-pairs-capacity-clause-ended : goal.returns-then-pairs-capacity-clause-ended
returns-then-pairs-capacity-clause-ended g c = inl (too_large c.args.capacity c.pairs.result.now c.args.base.pairs c.pairs.ensures.rise c.pairs.ensures.pairs c.if-pairs-capacity.true)
