use Rattle.std.proofs.Common.{ℕ, [], ◌∷◌, ap, subst, ◌∙◌, inl, inr, arith}
use Rattle.pc_model.specs.Sets as set
use Rattle.pc_model.specs.Sets.{Set, number_order}
use Rattle.pc_latch.specs.Tickets.{IsNoTicket}
use Rattle.pc_workers.proofs.BoardCalls.{claimed_one, claimed_on}
use Rattle.pc_workers.proofs.collapsing.next_ticket.Goals as goal

pub returns-then-number-from-clause-ticket : goal.returns-then-number-from-clause-ticket
returns-then-number-from-clause-ticket g c =
    let n = c.in-Some.number in
    (n ∷ [], claimed_one c.args.pass.now c.claim.new.pass n c.in-Some.ensures.some, inl (omega (arith, c.if-number-from.true, c.from.ensures)))

pub returns-in_default-await_file-clause-ticket : goal.returns-in_default-await_file-clause-ticket
returns-in_default-await_file-clause-ticket g c =
    let n = c.in-Some.number in (
      n ∷ [],
      claimed_on c.args.pass.now c.claim.new.pass c.await_file.new.pass (n ∷ []) [] (claimed_one c.args.pass.now c.claim.new.pass n c.in-Some.ensures.some) c.await_file.ensures.calls,
      inr c.in_default-await_file.ensures.none,
    )

pub returns-in-Ok-clause-ticket : goal.returns-in-Ok-clause-ticket
returns-in-Ok-clause-ticket g c =
    let n = c.in-Some.number in
    let file = c.in-Some-await_file.ensures.some in (
      n,
      (
        claimed_on c.args.pass.now c.claim.new.pass c.await_file.new.pass (n ∷ []) [] (claimed_one c.args.pass.now c.claim.new.pass n c.in-Some.ensures.some) c.await_file.ensures.calls,
        (omega (arith, c.if-number-from.false, c.from.ensures), file.1),
      ),
      c.in-Ok.ensures.point ∙ ap (λ (k : ℕ). let one : Set number_order = set.insert set.empty k in one) file.0,
    )

pub returns-in-Err-clause-refused : goal.returns-in-Err-clause-refused
returns-in-Err-clause-refused g c =
    let n = c.in-Some.number in
    let file = c.in-Some-await_file.ensures.some in (
      n,
      (
        claimed_on c.args.pass.now c.claim.new.pass c.await_file.new.pass (n ∷ []) [] (claimed_one c.args.pass.now c.claim.new.pass n c.in-Some.ensures.some) c.await_file.ensures.calls,
        (omega (arith, c.if-number-from.false, c.from.ensures), file.1),
      ),
      c.take_shown.ensures.legal,
      subst (λ (k : ℕ). IsNoTicket g.N.StoreName.name.setting c.take_shown.new.witness k c.in-Err.why) file.0 c.in-Err.ensures.refused,
    )
