use Rattle.std.proofs.Common.{◌≡◌, ◌+◌, ◌==◌, ◌&&◌, ◌||◌, not, ℕ, List, Ok, sym, subst, ap, ◌∙◌, arith}
use Rattle.pc_io.specs.Tallies.{Puts}
use Rattle.pc_types.specs.declared.limits.TheConstants.{MOST_SESSIONS}
use Rattle.pc_io.proofs.PutsLaws.{puts_then}
use Rattle.pc_sessions.specs.SessionSets.{has_session}
use Rattle.pc_engine.specs.Store.{Store}
use Rattle.pc_serving.specs.Sweeps.{swept_line, swept_to, waits_now}
use Rattle.pc_serving.proofs.SweepLaws.{next_line, left_behind, swept_next}
use Rattle.pc_serving.proofs.answers.Served.sweep.Goals as goal

pub loop-place-preserved : goal.loop-place-preserved
loop-place-preserved g c =
    let so_far = c.loop-place.invariant in
    let waits = waits_now c.args.self.now.world in
    let was = has_session c.args.self.now.waiting in
    let now = has_session c.loop-place.self.waiting in
    let place = c.loop-place.place in
    let contents = g.W.Write.contents in
    let same : (s : ℕ) → waits_now c.loop-place.self.world s ≡ waits s = λ s. ap (λ (world : Store). waits_now world s) so_far.world in
    record {
      world = c.grant.ensures.world ∙ so_far.world;
      left = left_behind waits (waits_now c.loop-place.self.world) now was (has_session c.grant.new.self.waiting) place same so_far.left
          (subst (λ (n : ℕ). (s : ℕ) → has_session c.grant.new.self.waiting s ≡ (now s && (waits_now c.loop-place.self.world s || not (s == n + 1)))) c.from.ensures c.grant.ensures.left);
      sent = subst (λ (t : List ℕ). Puts contents c.args.out.now c.grant.new.out (Ok tt) t) (sym (swept_next waits was c.args.own place))
          (puts_then contents c.args.out.now c.loop-place.out c.grant.new.out (Ok tt) (swept_to waits was c.args.own place) (swept_line waits was c.args.own (place + 1)) so_far.sent
          (subst (λ (t : List ℕ). Puts contents c.loop-place.out c.grant.new.out (Ok tt) t) (next_line waits (waits_now c.loop-place.self.world) now was c.args.own place same so_far.left)
          (subst (λ (n : ℕ). Puts contents c.loop-place.out c.grant.new.out (Ok tt) (swept_line (waits_now c.loop-place.self.world) now c.args.own (n + 1))) c.from.ensures c.in_ok-grant.ensures.told)));
    }

pub returns-clause-told : goal.returns-clause-told
returns-clause-told g c =
    let all : c.loop-place.place ≡ MOST_SESSIONS = omega (arith, c.loop-place-test.false, c.loop-place.auto.place-end) in
    subst (λ (n : ℕ). Puts g.W.Write.contents c.args.out.now c.loop-place.out (Ok tt) (swept_to (waits_now c.args.self.now.world) (has_session c.args.self.now.waiting) c.args.own n)) all c.loop-place.invariant.sent
