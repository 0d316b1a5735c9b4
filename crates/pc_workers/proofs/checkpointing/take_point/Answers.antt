use Rattle.std.proofs.Common.{◌≡◌, ◌+◌, ℕ, [], ◌∷◌, refl, sym, subst, ◌∙◌, arith}
use Rattle.pc_types.specs.declared.Phase.TheVariants.{Rest, Prepare, Resolve, Capture, Complete}
use Rattle.pc_model.specs.History.{point_of}
use Rattle.pc_board.specs.declared.calls.CallKind.TheVariants.{Publish}
use Rattle.pc_board.specs.Passes.{Pass, MakesCall}
use Rattle.pc_workers.specs.Checkpointing.{whole_cycle, HasPublished, HasBrokenOff, IsFull}
use Rattle.pc_workers.proofs.BoardCalls.{published_none, published_one}
use Rattle.pc_workers.proofs.Cycling.{reached_stood, breaks_off, of_stop}
use Rattle.pc_workers.proofs.FullLaws.{is_full, is_full_in}
use Rattle.pc_workers.proofs.WholeCycles.{at_rest, to_prepare, to_resolve, to_capture, to_complete, to_rest}
use Rattle.pc_workers.proofs.checkpointing.take_point.Goals as goal

pub take_keys-requires : goal.take_keys-requires
take_keys-requires g c =
    (to_capture g.N.StoreName.name.setting c.args.seat.now c.enter.new.seat c.enter-2.new.seat c.enter-3.new.seat c.requires.rest c.in_ok-enter.ensures.turned c.in_ok-enter-2.ensures.turned c.in_ok-enter-3.ensures.turned).in_phase

pub returns-in_err-enter-clause-broken_off : goal.returns-in_err-enter-clause-broken_off
returns-in_err-enter-clause-broken_off g c =
    let st = g.N.StoreName.name.setting in
    let a = c.args.seat.now in
    let m = point_of a in
    of_stop c.from_residual.result _ c.from_residual.ensures.1 (λ stop. HasBrokenOff st (whole_cycle (m + 1)) a c.enter.new.seat c.args.pass.now c.args.pass.now stop.why)
    (breaks_off st (whole_cycle (m + 1)) ([]) ((Prepare, m + 1) ∷ (Resolve, m + 1) ∷ (Capture, m + 1) ∷ (Complete, m + 1) ∷ (Rest, m + 1) ∷ []) Rest (m) a (a) c.enter.new.seat c.args.pass.now c.args.pass.now _ refl
    (at_rest st a c.requires.rest)
    (published_none c.args.pass.now)
    c.in_err-enter.ensures.held_up)

pub returns-in_err-enter-2-clause-broken_off : goal.returns-in_err-enter-2-clause-broken_off
returns-in_err-enter-2-clause-broken_off g c =
    let st = g.N.StoreName.name.setting in
    let a = c.args.seat.now in
    let m = point_of a in
    of_stop c.from_residual-in_err-enter-2.result _ c.from_residual-in_err-enter-2.ensures.1 (λ stop. HasBrokenOff st (whole_cycle (m + 1)) a c.enter-2.new.seat c.args.pass.now c.args.pass.now stop.why)
    (breaks_off st (whole_cycle (m + 1)) ((Prepare, m + 1) ∷ []) ((Resolve, m + 1) ∷ (Capture, m + 1) ∷ (Complete, m + 1) ∷ (Rest, m + 1) ∷ []) Prepare (m + 1) a (c.enter.new.seat) c.enter-2.new.seat c.args.pass.now c.args.pass.now _ refl
    (to_prepare st a c.enter.new.seat c.requires.rest c.in_ok-enter.ensures.turned)
    (published_none c.args.pass.now)
    c.in_err-enter-2.ensures.held_up)

pub returns-in_err-enter-3-clause-broken_off : goal.returns-in_err-enter-3-clause-broken_off
returns-in_err-enter-3-clause-broken_off g c =
    let st = g.N.StoreName.name.setting in
    let a = c.args.seat.now in
    let m = point_of a in
    of_stop c.from_residual-in_err-enter-3.result _ c.from_residual-in_err-enter-3.ensures.1 (λ stop. HasBrokenOff st (whole_cycle (m + 1)) a c.enter-3.new.seat c.args.pass.now c.args.pass.now stop.why)
    (breaks_off st (whole_cycle (m + 1)) ((Prepare, m + 1) ∷ (Resolve, m + 1) ∷ []) ((Capture, m + 1) ∷ (Complete, m + 1) ∷ (Rest, m + 1) ∷ []) Resolve (m + 1) a (c.enter-2.new.seat) c.enter-3.new.seat c.args.pass.now c.args.pass.now _ refl
    (to_resolve st a c.enter.new.seat c.enter-2.new.seat c.requires.rest c.in_ok-enter.ensures.turned c.in_ok-enter-2.ensures.turned)
    (published_none c.args.pass.now)
    c.in_err-enter-3.ensures.held_up)

pub returns-in_err-take_keys-clause-broken_off : goal.returns-in_err-take_keys-clause-broken_off
returns-in_err-take_keys-clause-broken_off g c =
    let st = g.N.StoreName.name.setting in
    let a = c.args.seat.now in
    let m = point_of a in
    of_stop c.from_residual-in_err-take_keys.result _ c.from_residual-in_err-take_keys.ensures.1 (λ stop. HasBrokenOff st (whole_cycle (m + 1)) a c.take_keys.new.seat c.args.pass.now c.args.pass.now stop.why)
    (breaks_off st (whole_cycle (m + 1)) ((Prepare, m + 1) ∷ (Resolve, m + 1) ∷ (Capture, m + 1) ∷ []) ((Complete, m + 1) ∷ (Rest, m + 1) ∷ []) Capture (m + 1) a (c.enter-3.new.seat) c.take_keys.new.seat c.args.pass.now c.args.pass.now _ refl
    (to_capture st a c.enter.new.seat c.enter-2.new.seat c.enter-3.new.seat c.requires.rest c.in_ok-enter.ensures.turned c.in_ok-enter-2.ensures.turned c.in_ok-enter-3.ensures.turned)
    (published_none c.args.pass.now)
    c.in_err-take_keys.ensures.held_up)

pub returns-in_err-complete-clause-broken_off : goal.returns-in_err-complete-clause-broken_off
returns-in_err-complete-clause-broken_off g c =
    let st = g.N.StoreName.name.setting in
    let a = c.args.seat.now in
    let m = point_of a in
    of_stop c.from_residual-in_err-complete.result _ c.from_residual-in_err-complete.ensures.1 (λ stop. HasBrokenOff st (whole_cycle (m + 1)) a c.complete.new.seat c.args.pass.now c.complete.new.pass stop.why)
    (breaks_off st (whole_cycle (m + 1)) ((Prepare, m + 1) ∷ (Resolve, m + 1) ∷ (Capture, m + 1) ∷ []) ((Complete, m + 1) ∷ (Rest, m + 1) ∷ []) Capture (m + 1) a (c.take_keys.new.seat) c.complete.new.seat c.args.pass.now c.complete.new.pass _ refl
    (reached_stood st ((Prepare, m + 1) ∷ (Resolve, m + 1) ∷ (Capture, m + 1) ∷ []) Capture (m + 1) a c.enter-3.new.seat c.take_keys.new.seat (to_capture st a c.enter.new.seat c.enter-2.new.seat c.enter-3.new.seat c.requires.rest c.in_ok-enter.ensures.turned c.in_ok-enter-2.ensures.turned c.in_ok-enter-3.ensures.turned) c.in_ok-take_keys.ensures.stood)
    (subst (λ (q : Pass). HasPublished ((Prepare, m + 1) ∷ (Resolve, m + 1) ∷ (Capture, m + 1) ∷ []) c.args.pass.now q) (sym c.in_err-complete.ensures.same) (published_none c.args.pass.now))
    c.in_err-complete.ensures.held_up)

pub returns-in_err-enter-4-clause-broken_off : goal.returns-in_err-enter-4-clause-broken_off
returns-in_err-enter-4-clause-broken_off g c =
    let st = g.N.StoreName.name.setting in
    let a = c.args.seat.now in
    let m = point_of a in
    of_stop c.from_residual-in_err-enter-4.result _ c.from_residual-in_err-enter-4.ensures.1 (λ stop. HasBrokenOff st (whole_cycle (m + 1)) a c.enter-4.new.seat c.args.pass.now c.complete.new.pass stop.why)
    (breaks_off st (whole_cycle (m + 1)) ((Prepare, m + 1) ∷ (Resolve, m + 1) ∷ (Capture, m + 1) ∷ (Complete, m + 1) ∷ []) ((Rest, m + 1) ∷ []) Complete (m + 1) a (c.complete.new.seat) c.enter-4.new.seat c.args.pass.now c.complete.new.pass _ refl
    (to_complete st a c.enter-3.new.seat c.take_keys.new.seat c.complete.new.seat (to_capture st a c.enter.new.seat c.enter-2.new.seat c.enter-3.new.seat c.requires.rest c.in_ok-enter.ensures.turned c.in_ok-enter-2.ensures.turned c.in_ok-enter-3.ensures.turned) c.in_ok-take_keys.ensures.stood c.in_ok-complete.ensures.turned)
    (published_one c.args.pass.now c.complete.new.pass (m + 1) (subst (λ (n : ℕ). MakesCall c.args.pass.now Publish n c.complete.new.pass) (to_complete st a c.enter-3.new.seat c.take_keys.new.seat c.complete.new.seat (to_capture st a c.enter.new.seat c.enter-2.new.seat c.enter-3.new.seat c.requires.rest c.in_ok-enter.ensures.turned c.in_ok-enter-2.ensures.turned c.in_ok-enter-3.ensures.turned) c.in_ok-take_keys.ensures.stood c.in_ok-complete.ensures.turned).at_point c.in_ok-complete.ensures.published))
    c.in_err-enter-4.ensures.held_up)

pub returns-in_err-enter-clause-full : goal.returns-in_err-enter-clause-full
returns-in_err-enter-clause-full g c =
    let st = g.N.StoreName.name.setting in
    let a = c.args.seat.now in
    let held = c.in_err-enter.ensures.held_up in
    let same : point_of c.enter.new.seat ≡ point_of a = held.0.at_point in
    of_stop c.from_residual.result _ c.from_residual.ensures.1 (λ stop. IsFull st c.enter.new.seat stop.seen (point_of a + 1) stop.why) (is_full st c.enter.new.seat _ (point_of a + 1) _ (λ rest. omega (arith, same)) c.in_err-enter.ensures.shown held.1)

pub returns-in_err-enter-2-clause-full : goal.returns-in_err-enter-2-clause-full
returns-in_err-enter-2-clause-full g c =
    let st = g.N.StoreName.name.setting in
    let a = c.args.seat.now in
    let held = c.in_err-enter-2.ensures.held_up in
    of_stop c.from_residual-in_err-enter-2.result _ c.from_residual-in_err-enter-2.ensures.1 (λ stop. IsFull st c.enter-2.new.seat stop.seen (point_of a + 1) stop.why)
    (is_full_in st c.enter-2.new.seat _ Prepare (point_of a + 1) _ (λ e. cc) (held.0.in_phase ∙ (to_prepare st a c.enter.new.seat c.requires.rest c.in_ok-enter.ensures.turned).in_phase) c.in_err-enter-2.ensures.shown held.1)

pub returns-in_err-enter-3-clause-full : goal.returns-in_err-enter-3-clause-full
returns-in_err-enter-3-clause-full g c =
    let st = g.N.StoreName.name.setting in
    let a = c.args.seat.now in
    let held = c.in_err-enter-3.ensures.held_up in
    of_stop c.from_residual-in_err-enter-3.result _ c.from_residual-in_err-enter-3.ensures.1 (λ stop. IsFull st c.enter-3.new.seat stop.seen (point_of a + 1) stop.why)
    (is_full_in st c.enter-3.new.seat _ Resolve (point_of a + 1) _ (λ e. cc) (held.0.in_phase ∙ (to_resolve st a c.enter.new.seat c.enter-2.new.seat c.requires.rest c.in_ok-enter.ensures.turned c.in_ok-enter-2.ensures.turned).in_phase) c.in_err-enter-3.ensures.shown held.1)

pub returns-in_err-take_keys-clause-full : goal.returns-in_err-take_keys-clause-full
returns-in_err-take_keys-clause-full g c =
    let st = g.N.StoreName.name.setting in
    let a = c.args.seat.now in
    let held = c.in_err-take_keys.ensures.held_up in
    of_stop c.from_residual-in_err-take_keys.result _ c.from_residual-in_err-take_keys.ensures.1 (λ stop. IsFull st c.take_keys.new.seat stop.seen (point_of a + 1) stop.why)
    (is_full_in st c.take_keys.new.seat _ Capture (point_of a + 1) _ (λ e. cc) (held.0.in_phase ∙ (to_capture st a c.enter.new.seat c.enter-2.new.seat c.enter-3.new.seat c.requires.rest c.in_ok-enter.ensures.turned c.in_ok-enter-2.ensures.turned c.in_ok-enter-3.ensures.turned).in_phase) c.in_err-take_keys.ensures.shown held.1)

pub returns-in_err-complete-clause-full : goal.returns-in_err-complete-clause-full
returns-in_err-complete-clause-full g c =
    let st = g.N.StoreName.name.setting in
    let a = c.args.seat.now in
    let held = c.in_err-complete.ensures.held_up in
    of_stop c.from_residual-in_err-complete.result _ c.from_residual-in_err-complete.ensures.1 (λ stop. IsFull st c.complete.new.seat stop.seen (point_of a + 1) stop.why)
    (is_full_in st c.complete.new.seat _ Capture (point_of a + 1) _ (λ e. cc) (held.0.in_phase ∙ c.in_ok-take_keys.ensures.stood.in_phase ∙ (to_capture st a c.enter.new.seat c.enter-2.new.seat c.enter-3.new.seat c.requires.rest c.in_ok-enter.ensures.turned c.in_ok-enter-2.ensures.turned c.in_ok-enter-3.ensures.turned).in_phase) c.in_err-complete.ensures.shown held.1)

pub returns-in_err-enter-4-clause-full : goal.returns-in_err-enter-4-clause-full
returns-in_err-enter-4-clause-full g c =
    let st = g.N.StoreName.name.setting in
    let a = c.args.seat.now in
    let held = c.in_err-enter-4.ensures.held_up in
    of_stop c.from_residual-in_err-enter-4.result _ c.from_residual-in_err-enter-4.ensures.1 (λ stop. IsFull st c.enter-4.new.seat stop.seen (point_of a + 1) stop.why)
    (is_full_in st c.enter-4.new.seat _ Complete (point_of a + 1) _ (λ e. cc) (held.0.in_phase ∙ (to_complete st a c.enter-3.new.seat c.take_keys.new.seat c.complete.new.seat (to_capture st a c.enter.new.seat c.enter-2.new.seat c.enter-3.new.seat c.requires.rest c.in_ok-enter.ensures.turned c.in_ok-enter-2.ensures.turned c.in_ok-enter-3.ensures.turned) c.in_ok-take_keys.ensures.stood c.in_ok-complete.ensures.turned).in_phase) c.in_err-enter-4.ensures.shown held.1)

pub returns-clause-reached : goal.returns-clause-reached
returns-clause-reached g c =
    let st = g.N.StoreName.name.setting in
    let a = c.args.seat.now in
    to_rest st a c.complete.new.seat c.enter-4.new.seat
    (to_complete st a c.enter-3.new.seat c.take_keys.new.seat c.complete.new.seat (to_capture st a c.enter.new.seat c.enter-2.new.seat c.enter-3.new.seat c.requires.rest c.in_ok-enter.ensures.turned c.in_ok-enter-2.ensures.turned c.in_ok-enter-3.ensures.turned) c.in_ok-take_keys.ensures.stood c.in_ok-complete.ensures.turned)
    c.in_ok-enter-4.ensures.turned

pub returns-clause-published : goal.returns-clause-published
returns-clause-published g c =
    let st = g.N.StoreName.name.setting in
    let a = c.args.seat.now in
    let m = point_of a in
    published_one c.args.pass.now c.complete.new.pass (m + 1) (subst (λ (n : ℕ). MakesCall c.args.pass.now Publish n c.complete.new.pass) (to_complete st a c.enter-3.new.seat c.take_keys.new.seat c.complete.new.seat (to_capture st a c.enter.new.seat c.enter-2.new.seat c.enter-3.new.seat c.requires.rest c.in_ok-enter.ensures.turned c.in_ok-enter-2.ensures.turned c.in_ok-enter-3.ensures.turned) c.in_ok-take_keys.ensures.stood c.in_ok-complete.ensures.turned).at_point c.in_ok-complete.ensures.published)
