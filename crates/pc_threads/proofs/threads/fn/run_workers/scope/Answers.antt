use Rattle.std.proofs.Common.{◌≡◌, ◌≤◌, ◌++◌, All, Bool, List, [], ◌∷◌, map, rules, sym, ap, subst, ◌∙◌, arith}
use Rattle.std.specs.Prelude.{◌||◌, is_some}
use Rattle.std.proofs.lemmas.List.Elements.{All-nil, All-cons, All-append}
use Rattle.std.proofs.lemmas.Result.{err_from_is_err_and}
use Rattle.std.proofs.lemmas.List.{append_assoc, append-nil, map-append, nil_from_length}
use Rattle.pc_jobs.specs.declared.works.Client.{Client}
use Rattle.pc_model.specs.History.{History}
use Rattle.pc_workers.specs.Checkpointing.{HasCycled}
use Rattle.pc_workers.proofs.WholeCycles.{cycled_none}
use Rattle.pc_threads.specs.Clients.{HaveWorked, clients_in, transactions_in}
use Rattle.pc_threads.specs.Faults.{IsWorkersStop, PointsHaveStopped, ThreadsHaveStopped}
use Rattle.pc_threads.specs.Files.{RefusedBy}
use Rattle.pc_threads.proofs.PointLaws.{points_before}
use Rattle.pc_threads.proofs.PointStopLaws.{points_stop}
use Rattle.pc_threads.proofs.StopLaws.{workers_end}
use Rattle.pc_threads.proofs.threads.fn.run_workers.scope.Goals as goal

-- one more is started
one_more : {H A : Type 0} (f : H → A) (handles new : List H) (handle : H) (x : A) (rest before whole : List A) → new ≡ handles ++ handle ∷ [] → f handle ≡ x → before ≡ x ∷ rest → map f handles ++ before ≡ whole
    → map f new ++ rest ≡ whole
one_more f handles new handle x rest before whole made is has was =
    ap (λ hs. map f hs ++ rest) made
    ∙ (ap (λ l. l ++ rest) (map-append f handles (handle ∷ []))
    ∙ (append_assoc (map f handles) (f handle ∷ []) rest ∙ (ap (λ y. map f handles ++ y ∷ rest) is ∙ (ap (λ l. map f handles ++ l) (sym has) ∙ was))))

pub loop-worker-preserved : goal.loop-worker-preserved
loop-worker-preserved g c =
    let has_log = c.captures.has_log in
    let first = c.in-Ok.handle in
    let its : first.promise.1 ≡ has_log = ap (λ promise. promise.1) c.in-Ok.ensures.ok in
    let more = All-cons (λ handle. handle.promise.1 ≡ has_log) first [] its (All-nil (λ handle. handle.promise.1 ≡ has_log)) in (
      tt,
      tt,
      one_more (λ handle. handle.promise.0.value) c.loop-worker.handles.items _ first c.in-Some.worker c.next.new.self.rest.items _ _ c.in_ok-push-in-Ok.ensures.items
          (ap (λ promise. promise.0.value) c.in-Ok.ensures.ok ∙ c.of-given.ensures) c.in-Some.ensures.steps.0 c.loop-worker.invariant.2,
      subst (All (λ handle. handle.promise.1 ≡ has_log)) (sym c.in_ok-push-in-Ok.ensures.items)
          (All-append (λ handle. handle.promise.1 ≡ has_log) c.loop-worker.handles.items (first ∷ []) c.loop-worker.invariant.3 more),
    )

pub returns-in_err-ran : goal.returns-in_err-ran
returns-in_err-ran g c =
    let p = err_from_is_err_and c.from_residual-in_err-ran.result c.from_residual-in_err-ran.ensures.1 in
    let there = is_some c.captures.checkpointer.folder in
    let has_log = c.captures.has_log in
    let why = c.in_err-ran.field-0.0.why in
    let rest = c.loop-worker.worker-iterator.rest in
    let none : rest.items ≡ [] = nil_from_length rest.items (sym rest.ok.0 ∙ c.in-None.ensures.steps.0) in
    let promised = map (λ handle. handle.promise.0.value) c.loop-worker.handles.items in
    let all : promised ≡ c.captures.workers.items =
    sym (append-nil promised) ∙ ap (λ (more : List (List Client)). promised ++ more) (sym none) ∙ c.loop-worker.invariant.2 ∙ c.into_iter-worker-iterator.ensures.into_iter_gives.0 in
    rw (p.1, p.2)
    (record {
      left = tt;
      refusals = tt;
      ended = λ fresh.
          workers_end _ _ (RefusedBy g.D.NewFiles.refuses c.captures.checkpointer.folder) g.N.StoreName.name.setting has_log there (clients_in c.captures.workers.items) c.captures.points why
          (subst (λ (workers : List (List Client)). IsWorkersStop has_log (transactions_in (clients_in workers)) why) all (c.in_err-ran.ensures.ended has_log c.loop-worker.invariant.3));
    })

pub returns-in-Ok-take_points : goal.returns-in-Ok-take_points
returns-in-Ok-take_points g c =
    let st = g.N.StoreName.name.setting in
    let seat : History = c.captures.checkpointer.at_store in
    let points = c.captures.points in
    let rest = c.loop-worker.worker-iterator.rest in
    let none : rest.items ≡ [] = nil_from_length rest.items (sym rest.ok.0 ∙ c.in-None.ensures.steps.0) in
    let promised = map (λ handle. handle.promise.0.value) c.loop-worker.handles.items in
    let all : promised ≡ c.captures.workers.items =
    sym (append-nil promised) ∙ ap (λ (more : List (List Client)). promised ++ more) (sym none) ∙ c.loop-worker.invariant.2 ∙ c.into_iter-worker-iterator.ensures.into_iter_gives.0 in
    let ran = c.in_ok-ran.ran in
    let worked = subst (λ (workers : List (List Client)). HaveWorked st (clients_in workers) ran.given_up ran.sessions.items) all c.in_ok-ran.ensures.clients in
    let is = c.with_points.ensures in
    rw (is.ran, is.seat, is.folder, is.written)
    (record {
      left =
          record {
            clients = worked;
            cycles = c.in-Ok-take_points.ensures.cycles seat (c.in-Ok-most.ensures.cycles seat (cycled_none st seat c.requires.rest));
            files = λ first had. c.in-Ok-take_points.ensures.written first (c.in-Ok-most.ensures.written first had);
          };
      refusals = λ name why is. c.in-Ok-most.ensures.refusals name why (c.in-Ok-take_points.ensures.refusals name why is);
      ended = λ fresh. tt;
    })

pub returns-in-Err-most : goal.returns-in-Err-most
returns-in-Err-most g c =
    let st = g.N.StoreName.name.setting in
    let seat : History = c.captures.checkpointer.at_store in
    let points = c.captures.points in
    let rest = c.loop-worker.worker-iterator.rest in
    let none : rest.items ≡ [] = nil_from_length rest.items (sym rest.ok.0 ∙ c.in-None.ensures.steps.0) in
    let promised = map (λ handle. handle.promise.0.value) c.loop-worker.handles.items in
    let all : promised ≡ c.captures.workers.items =
    sym (append-nil promised) ∙ ap (λ (more : List (List Client)). promised ++ more) (sym none) ∙ c.loop-worker.invariant.2 ∙ c.into_iter-worker-iterator.ensures.into_iter_gives.0 in
    let ran = c.in_ok-ran.ran in
    let worked = subst (λ (workers : List (List Client)). HaveWorked st (clients_in workers) ran.given_up ran.sessions.items) all c.in_ok-ran.ensures.clients in
    let there = is_some c.captures.checkpointer.folder in
    let clients : List Client = clients_in c.captures.workers.items in
    let low : c.saturating_sub-beside.result ≤ points = search rules in
    record {
      left = tt;
      refusals = tt;
      ended = λ fresh.
          let start : HasCycled st 0 [] seat = subst (λ (h : History). HasCycled st 0 h seat) fresh (cycled_none st seat c.requires.rest) in
          subst (ThreadsHaveStopped (RefusedBy g.D.NewFiles.refuses c.captures.checkpointer.folder) st (c.captures.has_log || there) clients points) (sym c.with_clients.ensures)
          (points_stop (RefusedBy g.D.NewFiles.refuses c.captures.checkpointer.folder) st c.captures.has_log there clients c.saturating_sub-beside.result points c.in-Err-most.fault ran low (c.in-Err-most.ensures.ended start) worked);
    }

pub returns-in-Err-take_points : goal.returns-in-Err-take_points
returns-in-Err-take_points g c =
    let st = g.N.StoreName.name.setting in
    let seat : History = c.captures.checkpointer.at_store in
    let points = c.captures.points in
    let rest = c.loop-worker.worker-iterator.rest in
    let none : rest.items ≡ [] = nil_from_length rest.items (sym rest.ok.0 ∙ c.in-None.ensures.steps.0) in
    let promised = map (λ handle. handle.promise.0.value) c.loop-worker.handles.items in
    let all : promised ≡ c.captures.workers.items =
    sym (append-nil promised) ∙ ap (λ (more : List (List Client)). promised ++ more) (sym none) ∙ c.loop-worker.invariant.2 ∙ c.into_iter-worker-iterator.ensures.into_iter_gives.0 in
    let ran = c.in_ok-ran.ran in
    let worked = subst (λ (workers : List (List Client)). HaveWorked st (clients_in workers) ran.given_up ran.sessions.items) all c.in_ok-ran.ensures.clients in
    let there = is_some c.captures.checkpointer.folder in
    let clients : List Client = clients_in c.captures.workers.items in
    let fault = c.in-Err-take_points.fault in
    let refused = RefusedBy g.D.NewFiles.refuses c.captures.checkpointer.folder in
    record {
      left = tt;
      refusals = tt;
      ended = λ fresh.
          let start : HasCycled st 0 [] seat = subst (λ (h : History). HasCycled st 0 h seat) fresh (cycled_none st seat c.requires.rest) in
          subst (ThreadsHaveStopped (RefusedBy g.D.NewFiles.refuses c.captures.checkpointer.folder) st (c.captures.has_log || there) clients points) (sym c.with_clients-in-Err-take_points.ensures)
          (points_stop refused st c.captures.has_log there clients points points fault ran (omega arith)
          (points_before refused (RefusedBy g.D.NewFiles.refuses c.in-Ok-most.checkpointer.folder) st there points fault c.in-Ok-most.ensures.refusals
          (subst (λ (b : Bool). PointsHaveStopped (RefusedBy g.D.NewFiles.refuses c.in-Ok-most.checkpointer.folder) st b points fault) c.in-Ok-most.ensures.there (c.in-Err-take_points.ensures.ended (c.in-Ok-most.ensures.cycles [] start)))) worked);
    }
