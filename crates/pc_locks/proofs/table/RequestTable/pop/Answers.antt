use Rattle.std.proofs.Common.{◌∙◌, sym, ap}
use Rattle.pc_locks.specs.Lines.{entry_ids}
use Rattle.pc_locks.specs.States.{slots_of, first_in_list, rest_of_list}
use Rattle.pc_locks.specs.Tables.{own_links_in}
use Rattle.pc_locks.specs.Keepers.{KeptRequests}
use Rattle.pc_locks.proofs.ListLemmas.{Changed, changed_pop, changed_away, entry_none, given_none, lists_first}
use Rattle.pc_locks.proofs.table.RequestTable.pop.Goals as goal
use Rattle.pc_locks.proofs.table.RequestTable.pop.Goals.{After-put, After-forget}

pub returns-in_err-at-clause-given : goal.returns-in_err-at-clause-given
returns-in_err-at-clause-given c =
    let own = own_links_in c.self.inside.nodes.slots in
    c.from_residual.ensures ∙ (ap first_in_list (sym (entry_none own c.self.inside.ends c.args.transaction c.in_err-at.ensures.none)) ∙ ap (λ (v : KeptRequests). first_in_list (slots_of v.entries c.args.transaction)) c.self.view_is)

pub returns-in_err-at-clause-rest : goal.returns-in_err-at-clause-rest
returns-in_err-at-clause-rest c =
    let own = own_links_in c.self.inside.nodes.slots in
    given_none (slots_of c.args.self.now.entries c.args.transaction) (ap first_in_list (sym (entry_none own c.self.inside.ends c.args.transaction c.in_err-at.ensures.none)) ∙ ap (λ (v : KeptRequests). first_in_list (slots_of v.entries c.args.transaction)) c.self.view_is)

pub returns-in_err-id-clause-given : goal.returns-in_err-id-clause-given
returns-in_err-id-clause-given c =
    let own = own_links_in c.self.inside.nodes.slots in
    c.from_residual-in_err-id.ensures ∙ (lists_first own c.self.inside.ends c.args.transaction c.get-ends.result _ c.self.invariant (c.get-ends.ensures c.args.transaction c.in_ok-at.ensures.some) c.in_err-id.ensures.given ∙ ap (λ (v : KeptRequests). first_in_list (slots_of v.entries c.args.transaction)) c.self.view_is)

pub returns-in_err-id-clause-rest : goal.returns-in_err-id-clause-rest
returns-in_err-id-clause-rest c =
    let own = own_links_in c.self.inside.nodes.slots in
    given_none (slots_of c.args.self.now.entries c.args.transaction) (lists_first own c.self.inside.ends c.args.transaction c.get-ends.result _ c.self.invariant (c.get-ends.ensures c.args.transaction c.in_ok-at.ensures.some) c.in_err-id.ensures.given ∙ ap (λ (v : KeptRequests). first_in_list (slots_of v.entries c.args.transaction)) c.self.view_is)

done : (c : After-put) → Changed (own_links_in c.self.inside.nodes.slots) (own_links_in c.self.inside.nodes.slots) c.self.inside.ends c.put.new.self c.args.transaction
    (rest_of_list (slots_of (entry_ids (own_links_in c.self.inside.nodes.slots) c.self.inside.ends) c.args.transaction))
done c =
    changed_pop (own_links_in c.self.inside.nodes.slots) c.self.inside.ends c.put.new.self c.args.transaction c.get-ends.result c.pop_front.new.self c.first.result c.self.invariant
    (c.get-ends.ensures c.args.transaction c.in_ok-at.ensures.some) c.pop_front.ensures.list c.first.ensures c.put.ensures.others (sym c.is_some.ensures ∙ c.if-is_some.true) c.put.ensures.this

gone : (c : After-forget) → Changed (own_links_in c.self.inside.nodes.slots) (own_links_in c.self.inside.nodes.slots) c.self.inside.ends c.forget.new.self c.args.transaction
    (rest_of_list (slots_of (entry_ids (own_links_in c.self.inside.nodes.slots) c.self.inside.ends) c.args.transaction))
gone c =
    let at = c.in_ok-at.ensures.some in
    changed_away (own_links_in c.self.inside.nodes.slots) c.self.inside.ends c.forget.new.self c.args.transaction c.get-ends.result c.pop_front.new.self c.first.result c.self.invariant
    (c.get-ends.ensures c.args.transaction at) c.pop_front.ensures.list c.first.ensures (λ u n. c.forget.ensures.others c.args.transaction u at n) (sym c.is_some.ensures ∙ c.if-is_some.false) (c.forget.ensures.this c.args.transaction at)

pub invariant_of-self : goal.invariant_of-self
invariant_of-self c = (done c).lists

pub invariant_of-self-else-is_some : goal.invariant_of-self-else-is_some
invariant_of-self-else-is_some c = (gone c).lists

pub returns-then-is_some-clause-given : goal.returns-then-is_some-clause-given
returns-then-is_some-clause-given c =
    let own = own_links_in c.self.inside.nodes.slots in
    lists_first own c.self.inside.ends c.args.transaction c.get-ends.result _ c.self.invariant (c.get-ends.ensures c.args.transaction c.in_ok-at.ensures.some) c.in_ok-id.ensures.given ∙ ap (λ (v : KeptRequests). first_in_list (slots_of v.entries c.args.transaction)) c.self.view_is

pub returns-then-is_some-clause-rest : goal.returns-then-is_some-clause-rest
returns-then-is_some-clause-rest c = (done c).this ∙ ap (λ (v : KeptRequests). rest_of_list (slots_of v.entries c.args.transaction)) c.self.view_is

pub returns-then-is_some-clause-others : goal.returns-then-is_some-clause-others
returns-then-is_some-clause-others c = λ u n. (done c).others u n ∙ ap (λ (v : KeptRequests). slots_of v.entries u) c.self.view_is

pub returns-then-is_some-clause-filled : goal.returns-then-is_some-clause-filled
returns-then-is_some-clause-filled c = (done c).lists.filled

pub returns-else-is_some-clause-given : goal.returns-else-is_some-clause-given
returns-else-is_some-clause-given c =
    let own = own_links_in c.self.inside.nodes.slots in
    lists_first own c.self.inside.ends c.args.transaction c.get-ends.result _ c.self.invariant (c.get-ends.ensures c.args.transaction c.in_ok-at.ensures.some) c.in_ok-id.ensures.given ∙ ap (λ (v : KeptRequests). first_in_list (slots_of v.entries c.args.transaction)) c.self.view_is

pub returns-else-is_some-clause-rest : goal.returns-else-is_some-clause-rest
returns-else-is_some-clause-rest c = (gone c).this ∙ ap (λ (v : KeptRequests). rest_of_list (slots_of v.entries c.args.transaction)) c.self.view_is

pub returns-else-is_some-clause-others : goal.returns-else-is_some-clause-others
returns-else-is_some-clause-others c = λ u n. (gone c).others u n ∙ ap (λ (v : KeptRequests). slots_of v.entries u) c.self.view_is

pub returns-else-is_some-clause-filled : goal.returns-else-is_some-clause-filled
returns-else-is_some-clause-filled c = (gone c).lists.filled
