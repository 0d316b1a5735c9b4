use Rattle.std.proofs.Common.{◌≡◌, ◌<◌, ◌≤◌, ◌+◌, ◌++◌, List, All, length, length-append, drop, refl, sym, ap, subst, ◌∙◌, arith}
use Rattle.std.specs.Prelude.{IsTrue, is_some}
use Rattle.pc_types.specs.declared.Entry.{Entry}
use Rattle.pc_model.specs.Files.{BaseFile}
use Rattle.pc_model.specs.History.{log_of}
use Rattle.pc_model.specs.Standing.{IsOfItsPoints}
use Rattle.pc_types.specs.declared.limits.TheConstants.{MOST_PASSES}
use Rattle.pc_board.specs.Passes.{Pass}
use Rattle.pc_jobs.specs.declared.works.Client.{Client}
use Rattle.pc_outcomes.specs.Leaving.{IsLegacy, commits_in}
use Rattle.pc_shared.specs.Sitters.{IsSitterSettled, Sitter, new_sitters}
use Rattle.pc_threads.specs.Clients.{AreSeated, HaveSeats, HaveWorked, IsFresh, clients_in, transactions_in}
use Rattle.pc_threads.specs.Files.{RefusedBy}
use Rattle.pc_workers.specs.Covering.{HaveJustTo}
use Rattle.pc_runs.specs.Folders.{LeavesFiles, base_of}
use Rattle.pc_runs.proofs.HistoryLaws.{behind_first, first_ones, left_after}
use Rattle.std.proofs.lemmas.Result.{err_from_is_err_and}
use Rattle.pc_runs.proofs.FaultLaws.{folder_there, log_lost, log_lost_there, log_there, lost_before, lost_ends, no_memory, of_stop, one_there, same_transactions, untold_ends}
use Rattle.pc_runs.proofs.NewPasses.{as_many, some_passes}
use Rattle.pc_runs.proofs.SeatingLaws.{all_back, dealt_seats}
use Rattle.pc_runs.proofs.WorkLaws.{all_fresh, have_run}
use Rattle.pc_runs.proofs.FolderLaws.{files_left}
use Rattle.pc_runs.proofs.store.run_store.Goals as goal

pub use_store-used-requires-clause-some : goal.use_store-used-requires-clause-some
use_store-used-requires-clause-some g c κs bounds =
    subst (λ (passes : List Pass). 0 < length passes) (sym c.in_ok-board.ensures.passes) (some_passes c.in_ok-board.board (c.args.context.now.crew.collapsers + 1) (omega arith))

pub use_store-used-requires-clause-few : goal.use_store-used-requires-clause-few
use_store-used-requires-clause-few g c κs bounds =
    subst (λ (passes : List Pass). length passes ≤ MOST_PASSES) (sym c.in_ok-board.ensures.passes)
    (let all = as_many c.in_ok-board.board (c.args.context.now.crew.collapsers + 1) in omega (arith, all, c.args.context.now.crew.in_range.3))

pub seat_workers-requires-clause-fresh : goal.seat_workers-requires-clause-fresh
seat_workers-requires-clause-fresh g c = subst (All IsFresh) (sym c.in_ok-shared.ensures.sessions) (all_fresh g.N.StoreName.name.setting.sessions)

pub seat_workers-requires-clause-seats : goal.seat_workers-requires-clause-seats
seat_workers-requires-clause-seats g c =
    subst (λ (sessions : List Sitter). HaveSeats sessions (clients_in c.in_ok-dealt.dealt.items)) (sym c.in_ok-shared.ensures.sessions)
    (dealt_seats (new_sitters g.N.StoreName.name.setting.sessions) c.args.context.now.crew.workers c.args.workload.clients c.in_ok-dealt.dealt.items c.args.context.now.crew.in_range.0 c.in_ok-dealt.ensures c.requires.seats)

pub leave-requires-clause-singles : goal.leave-requires-clause-singles
leave-requires-clause-singles g c κs bounds =
    let ended = c.in-Ok.used.0 in
    let parts = ap length (c.close-closed.ensures.parts ∙ c.in_ok-tickets.ensures.0) in
    let both = length-append ended.written.items ended.joined.items in
    let singles = c.in_ok-tickets.ensures.1 in
    omega (arith, parts, both, singles)

pub leave-requires-clause-after : goal.leave-requires-clause-after
leave-requires-clause-after g c κs bounds =
    let closed = c.close-closed.result in
    left_after g.N.StoreName.name.setting closed.world.base closed.world.log closed.logged c.in-Ok.used.0.sessions.items c.in-Ok.used.0.seat c.in_ok-tickets.tickets.items closed.parts.items c.in-Ok.used.1.pass
    c.close-closed.ensures.parts c.close-closed.ensures.left

pub returns-clause-run : goal.returns-clause-run
returns-clause-run g c =
    let st = g.N.StoreName.name.setting in
    let closed = c.close-closed.result in
    let left = c.close-closed.ensures.left in
    let ended = c.in-Ok.used.0 in
    let seating = c.in_ok-seating.seating in
    let worked = c.in-Ok.ensures.clients in
    let have = subst (λ (all : List (List Client)). HaveWorked st (clients_in all) ended.given_up worked.0) c.in_ok-seating.ensures.clients worked.2 in
    let seated = subst (λ (sessions : List Sitter). AreSeated (clients_in c.in_ok-dealt.dealt.items) sessions seating.idle.items) c.in_ok-shared.ensures.sessions c.in_ok-seating.ensures.seated in
    let parts : closed.parts.items ≡ ended.written.items ++ ended.joined.items = c.close-closed.ensures.parts ∙ c.in_ok-tickets.ensures.0 in
    let joined : drop c.in_ok-tickets.singles closed.parts.items ≡ ended.joined.items =
    (λ k. drop (c.in_ok-tickets.ensures.1 k) (parts k)) ∙ behind_first ended.written.items ended.joined.items in
    record {
      history = left.0;
      legal = left.1.legal;
      clients_ran =
          have_run st left.0 c.args.context.now.crew.workers c.args.workload.clients c.in_ok-dealt.dealt.items ended.given_up seating.idle.items worked.0 c.args.context.now.crew.in_range.0 c.in_ok-dealt.ensures
          have c.in_ok-seating.ensures.idle
          (subst (All (IsSitterSettled st left.0)) worked.1 left.1.settled) (all_back st st.sessions (clients_in c.in_ok-dealt.dealt.items) ended.given_up seating.idle.items worked.0 seated have);
      commits_are = c.in_ok-left.ensures.commits ∙ ap commits_in left.1.log_is;
      points_are = refl;
      files = drop c.in_ok-tickets.singles closed.parts.items;
      cover = subst (HaveJustTo c.args.workload.points) (sym joined) c.in-Ok.ensures.cover;
      legacy =
          subst (λ (base : BaseFile). IsLegacy base (log_of left.0) (drop c.in_ok-tickets.singles closed.parts.items) c.in_ok-left.left.files) left.1.base
          (subst (λ (log : List Entry). IsLegacy closed.world.base log (drop c.in_ok-tickets.singles closed.parts.items) c.in_ok-left.left.files) left.1.log_is c.in_ok-left.ensures.files);
      folder_has =
          subst (λ (log : List Entry). LeavesFiles g.D.NewFiles.holds (base_of st) log c.args.workload.points (is_some c.args.folder) c.in_ok-folder.folder) left.1.log_is
          (files_left (base_of st) closed.world.log g.D.NewFiles.holds g.F.Write.contents g.D.NewFiles.blank c.args.workload.points closed.logged c.in-Ok.used.1.pass ended.written.items left.1.list
          (first_ones (IsOfItsPoints st.run st.base closed.world.log) ended.written.items ended.joined.items (subst (All (IsOfItsPoints st.run st.base closed.world.log)) c.in_ok-tickets.ensures.0 left.1.worth))
          c.args.folder ended.folder c.in_ok-folder.folder c.args.log c.in-Ok.used.1.out c.requires.begun c.in-Ok.ensures.written c.in-Ok.ensures.logged c.in_ok-folder.ensures.finished);
    }

pub returns-in_err-shared-clause-ended : goal.returns-in_err-shared-clause-ended
returns-in_err-shared-clause-ended g c =
    let p = err_from_is_err_and c.from_residual.result c.from_residual.ensures.1 in
    rw (p.1, p.2) (no_memory g.N.StoreName.name.setting c.args.workload c.in_err-shared.field-0.0 c.in_err-shared.ensures.memory)

pub returns-in_err-board-clause-ended : goal.returns-in_err-board-clause-ended
returns-in_err-board-clause-ended g c =
    let p = err_from_is_err_and c.from_residual-in_err-board.result c.from_residual-in_err-board.ensures.1 in
    rw (p.1, p.2) (no_memory g.N.StoreName.name.setting c.args.workload c.in_err-board.field-0.0 c.in_err-board.ensures.memory)

pub returns-in_err-dealt-clause-ended : goal.returns-in_err-dealt-clause-ended
returns-in_err-dealt-clause-ended g c =
    let p = err_from_is_err_and c.from_residual-in_err-dealt.result c.from_residual-in_err-dealt.ensures.1 in
    rw (p.1, p.2) tt

pub returns-in_err-seating-clause-ended : goal.returns-in_err-seating-clause-ended
returns-in_err-seating-clause-ended g c =
    let p = err_from_is_err_and c.from_residual-in_err-seating.result c.from_residual-in_err-seating.ensures.1 in
    rw (p.1, p.2) (no_memory g.N.StoreName.name.setting c.args.workload c.in_err-seating.field-0.0 c.in_err-seating.ensures.refused)

pub returns-in-Err-clause-ended : goal.returns-in-Err-clause-ended
returns-in-Err-clause-ended g c =
    let st = g.N.StoreName.name.setting in
    let log = log_there g.D.NewFiles.holds g.F.Write.contents g.D.NewFiles.blank (base_of st) c.args.folder c.args.log c.requires.begun in
    let seating = c.in_ok-seating.seating in
    let dealt = c.in_ok-dealt.dealt.items in
    let clients : List Client = clients_in seating.workers.items in
    let is : clients ≡ clients_in dealt = ap clients_in c.in_ok-seating.ensures.clients in
    let count = ap transactions_in is ∙ same_transactions c.args.context.now.crew.workers c.args.workload.clients dealt c.args.context.now.crew.in_range.0 c.in_ok-dealt.ensures in
    let seated = subst (λ (sessions : List Sitter). AreSeated (clients_in dealt) sessions seating.idle.items) c.in_ok-shared.ensures.sessions c.in_ok-seating.ensures.seated in
    of_stop (RefusedBy g.D.NewFiles.refuses c.args.folder) st c.args.workload (is_some c.args.folder) _ seating.idle.items clients c.in-Err.stop c.fault_of.result
    (one_there _ _ _ (is_some c.args.folder) (c.map.ensures.variant ∙ (c.as_ref.ensures.variant ∙ log)) refl log) count c.in_ok-seating.ensures.idle
    (λ given_up ran have. all_back st st.sessions (clients_in dealt) given_up seating.idle.items ran seated (subst (λ (cs : List Client). HaveWorked st cs given_up ran) is have))
    c.fault_of.ensures c.in-Err.ensures.ended

pub returns-in_err-tickets-clause-ended : goal.returns-in_err-tickets-clause-ended
returns-in_err-tickets-clause-ended g c =
    let p = err_from_is_err_and c.from_residual-in_err-tickets.result c.from_residual-in_err-tickets.ensures.1 in
    rw (p.1, p.2) tt

pub returns-in_err-folder-clause-ended : goal.returns-in_err-folder-clause-ended
returns-in_err-folder-clause-ended g c =
    let p = err_from_is_err_and c.from_residual-in_err-folder.result c.from_residual-in_err-folder.ensures.1 in
    let ended = c.in-Ok.used.0 in
    let refuses = g.D.NewFiles.refuses in
    let first = RefusedBy refuses c.args.folder in
    let given = c.in_err-folder.field-0.0 in
    let is = c.in_err-folder.ensures.lost in
    let there = folder_there g.D.NewFiles.holds c.args.workload.points c.args.folder ended.folder ended.written.items c.in-Ok.ensures.written in
    rw (p.1, p.2)
    (lost_ends first g.N.StoreName.name.setting c.args.workload (is_some c.args.folder) given (subst IsTrue there (log_lost_there refuses ended.folder c.in-Ok.used.1.out given is))
    (lost_before first (RefusedBy refuses ended.folder) c.in-Ok.ensures.refusals given (log_lost refuses ended.folder c.in-Ok.used.1.out given is)))

pub returns-in_err-left-clause-ended : goal.returns-in_err-left-clause-ended
returns-in_err-left-clause-ended g c =
    let p = err_from_is_err_and c.from_residual-in_err-left.result c.from_residual-in_err-left.ensures.1 in
    let st = g.N.StoreName.name.setting in
    let closed = c.close-closed.result in
    let ended = c.in-Ok.used.0 in
    let left = c.close-closed.ensures.left in
    let untold = c.in_err-left.ensures.untold in
    let parts : closed.parts.items ≡ ended.written.items ++ ended.joined.items = c.close-closed.ensures.parts ∙ c.in_ok-tickets.ensures.0 in
    let joined : drop c.in_ok-tickets.singles closed.parts.items ≡ ended.joined.items =
    (λ k. drop (c.in_ok-tickets.ensures.1 k) (parts k)) ∙ behind_first ended.written.items ended.joined.items in
    rw (p.1, p.2)
    (untold_ends st c.args.workload (drop c.in_ok-tickets.singles closed.parts.items) c.in_err-left.field-0.0 c.requires.room
    (subst (HaveJustTo c.args.workload.points) (sym joined) c.in-Ok.ensures.cover) untold)

pub returns-in_err-folder-clause-run : goal.returns-in_err-folder-clause-run
returns-in_err-folder-clause-run g c =
    let p = err_from_is_err_and c.from_residual-in_err-folder.result c.from_residual-in_err-folder.ensures.1 in
    rw p.1 tt
