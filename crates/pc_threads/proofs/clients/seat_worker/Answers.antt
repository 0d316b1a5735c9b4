use Rattle.std.proofs.Common.{◌≡◌, ◌==◌, ◌++◌, List, [], ◌∷◌, map, refl, ap, sym, subst, ◌∙◌, append_assoc}
use Rattle.std.proofs.lemmas.List.{append-nil, nil_from_length}
use Rattle.pc_jobs.specs.declared.works.Client.{Client}
use Rattle.pc_threads.specs.Clients.{AreSeated, HaveSeats}
use Rattle.pc_threads.proofs.SeatLaws.{client_more, kept, none_has, none_seated, one_seated, seated_then}
use Rattle.pc_threads.proofs.clients.seat_worker.Goals as goal

pub loop-client-init : goal.loop-client-init
loop-client-init g c =
    rw (c.new-seats.ensures.items, c.into_iter-client-iterator.ensures.into_iter_gives.0, c.into_vec-client-items.ensures) (refl, c.requires.fresh, c.requires.seats, none_seated c.args.sessions.now.items)

pub take_session-session-requires-clause-there : goal.take_session-session-requires-clause-there
take_session-session-requires-clause-there g c = (subst (HaveSeats c.loop-client.sessions.items) c.in-Some.ensures.steps.0 c.loop-client.invariant.2).0

pub loop-client-preserved : goal.loop-client-preserved
loop-client-preserved g c =
    let old = c.loop-client.sessions.items in
    let new = c.take_session-session.new.sessions.items in
    let client = c.in-Some.client in
    let rest = c.next.new.self.rest.items in
    let before = map (λ seated. seated.client) c.loop-client.seats.items in
    let seats = subst (HaveSeats old) c.in-Some.ensures.steps.0 c.loop-client.invariant.2 in
    let more : map (λ seated. seated.client) c.push.new.self.items ≡ before ++ client ∷ [] = client_more (λ seated. seated.client) c.loop-client.seats.items c.push.new.self.items _ c.in_ok-push.ensures.items in (
      ap (λ (cs : List Client). cs ++ rest) more ∙ append_assoc before (client ∷ []) rest ∙ ap (λ (cs : List Client). before ++ cs) (sym c.in-Some.ensures.steps.0) ∙ c.loop-client.invariant.0,
      c.take_session-session.ensures.fresh,
      kept (λ m. client.session == m) old new rest c.take_session-session.ensures.others (none_has client.session rest seats.1) seats.2,
      subst (λ (cs : List Client). AreSeated cs c.args.sessions.now.items new) (sym more)
          (seated_then c.args.sessions.now.items old new before (client ∷ []) c.loop-client.invariant.3 (one_seated old new client c.take_session-session.ensures.others)),
    )

pub returns-clause-seated : goal.returns-clause-seated
returns-clause-seated g c =
    let before = map (λ seated. seated.client) c.loop-client.seats.items in
    let left : c.loop-client.client-iterator.rest.items ≡ [] = nil_from_length c.loop-client.client-iterator.rest.items (sym c.loop-client.client-iterator.rest.ok.0 ∙ c.in-None.ensures.steps.0) in
    let all : before ≡ c.args.clients = sym (append-nil before) ∙ ap (λ (cs : List Client). before ++ cs) (sym left) ∙ c.loop-client.invariant.0 in
    subst (λ (cs : List Client). AreSeated cs c.args.sessions.now.items c.loop-client.sessions.items) all c.loop-client.invariant.3
