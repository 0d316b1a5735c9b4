use Rattle.std.proofs.Common.{◌≡◌, ◌++◌, List, [], ◌∷◌, refl, ap, sym, subst, ◌∙◌}
use Rattle.std.proofs.lemmas.List.{append-nil, nil_from_length}
use Rattle.pc_jobs.specs.declared.works.Client.{Client}
use Rattle.pc_threads.specs.Clients.{AreSeated, HaveSeats, clients_in}
use Rattle.pc_threads.proofs.SeatLaws.{front_seats, none_seated, one_over, seats_behind, worker_seated}
use Rattle.pc_threads.proofs.clients.seat_workers.Goals as goal

pub loop-clients-init : goal.loop-clients-init
loop-clients-init g c = rw (c.new-workers.ensures.items, c.into_iter-clients-iterator.ensures.into_iter_gives.0) (refl, c.requires.fresh, c.requires.seats, none_seated c.args.sessions.items)

pub seat_worker-requires-clause-seats : goal.seat_worker-requires-clause-seats
seat_worker-requires-clause-seats g c =
    let idle = c.loop-clients.idle.items in
    front_seats idle c.in-Some.clients (clients_in c.next.new.self.rest.items) (subst (λ (all : List (List Client)). HaveSeats idle (clients_in all)) c.in-Some.ensures.steps.0 c.loop-clients.invariant.2)

pub loop-clients-preserved : goal.loop-clients-preserved
loop-clients-preserved g c =
    let old = c.loop-clients.idle.items in
    let new = c.seat_worker.new.sessions.items in
    let clients = c.in-Some.clients in
    let rest = c.next.new.self.rest.items in
    let before = c.loop-clients.workers.items in
    let seats = subst (λ (all : List (List Client)). HaveSeats old (clients_in all)) c.in-Some.ensures.steps.0 c.loop-clients.invariant.2 in
    let seated = c.in_ok-seat_worker.ensures.seated in
    let more : c.push.new.self.items ≡ before ++ clients ∷ [] = c.in_ok-push.ensures.items ∙ ap (λ (w : List Client). before ++ w ∷ []) c.in_ok-seat_worker.ensures.clients in (
      one_over before c.push.new.self.items clients clients rest c.loop-clients.clients-iterator.rest.items c.args.dealt.items more refl c.in-Some.ensures.steps.0 c.loop-clients.invariant.0,
      c.seat_worker.ensures.fresh,
      seats_behind old new clients (clients_in rest) seats seated,
      subst (λ (ws : List (List Client)). AreSeated (clients_in ws) c.args.sessions.items new) (sym more) (worker_seated c.args.sessions.items old new before clients c.loop-clients.invariant.3 seated),
    )

pub returns-clause-seated : goal.returns-clause-seated
returns-clause-seated g c =
    let before = c.loop-clients.workers.items in
    let left : c.loop-clients.clients-iterator.rest.items ≡ [] = nil_from_length c.loop-clients.clients-iterator.rest.items (sym c.loop-clients.clients-iterator.rest.ok.0 ∙ c.in-None.ensures.steps.0) in
    let all : before ≡ c.args.dealt.items = sym (append-nil before) ∙ ap (λ (ws : List (List Client)). before ++ ws) (sym left) ∙ c.loop-clients.invariant.0 in
    subst (λ (ws : List (List Client)). AreSeated (clients_in ws) c.args.sessions.items c.loop-clients.idle.items) all c.loop-clients.invariant.3
