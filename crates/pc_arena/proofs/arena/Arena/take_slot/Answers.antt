use Rattle.std.proofs.Common.{◌≡◌, ◌<◌, sym, ◌∙◌, ap, is_none, length, rules, Some, arith}
use Rattle.pc_chain.specs.Slots.{is_full, Slots, with_item}
use Rattle.pc_chain.proofs.SlotLaws.{not_full}
use Rattle.pc_arena.proofs.CellKeeping.{first_in, first_seen, kept_full, kept_not_full, kept_taken, kept_fresh, slots_with_item, slots_with_fresh}
use Rattle.pc_arena.proofs.arena.Arena.take_slot.Goals as goal

pub invariant_of-self : goal.invariant_of-self
invariant_of-self g c =
    let k = c.self.invariant.0 in
    (kept_taken _ _ _ c.pop_front.new.self _ c.in-Some.id c.index_mut.result.now _ c.args.item c.id.view_is (search rules) c.put_item.ensures.item c.put_item.ensures.link k (sym c.in-Some.is ∙ c.pop_front.ensures.given k.ids k.list.line) (c.pop_front.ensures.list k.ids k.list.line), (search rules))

pub returns-in-Some-clause-free : goal.returns-in-Some-clause-free
returns-in-Some-clause-free g c =
    let k = c.self.invariant.0 in
    first_seen _ _ _ _ c.in-Some.id k c.self.view_is (sym c.in-Some.is ∙ c.pop_front.ensures.given k.ids k.list.line)

pub returns-in-Some-clause-taken : goal.returns-in-Some-clause-taken
returns-in-Some-clause-taken g c =
    let k = c.self.invariant.0 in
    let first = sym c.in-Some.is ∙ c.pop_front.ensures.given k.ids k.list.line in
    slots_with_item _ _ _ c.in-Some.id c.index_mut.result.now _ (Some c.args.item) c.id.view_is (search rules) c.put_item.ensures.item c.put_item.ensures.link (first_in _ _ _ c.in-Some.id k first).0 ∙ ap (λ (s : Slots g.row.T.Denot). with_item s c.in-Some.id (Some c.args.item)) c.self.view_is

pub returns-in-Some-clause-full : goal.returns-in-Some-clause-full
returns-in-Some-clause-full g c =
    let k = c.self.invariant.0 in
    sym (not_full _ c.in-Some.id (first_seen _ _ _ _ c.in-Some.id k c.self.view_is (sym c.in-Some.is ∙ c.pop_front.ensures.given k.ids k.list.line)))

pub returns-then-written-self-clause-full : goal.returns-then-written-self-clause-full
returns-then-written-self-clause-full g c =
    let k = c.self.invariant.0 in
    let o = c.self.inside.cells.cells.ok.0 in
    let e : length c.self.inside.cells.cells.items ≡ c.self.inside.capacity = omega (arith, o) in
    ap is_none (sym c.in_default.is ∙ c.pop_front.ensures.given k.ids k.list.line) ∙ (sym (kept_full _ _ _ k e) ∙ ap (λ (s : Slots g.row.T.Denot). is_full s.items) c.self.view_is)

pub invariant_of-self-2 : goal.invariant_of-self-2
invariant_of-self-2 g c =
    let k = c.self.invariant.0 in
    let o = c.self.inside.cells.cells.ok.0 in
    let w = k.within in
    let h : length c.self.inside.cells.cells.items < c.self.inside.capacity = omega (arith, o, w) in
    (kept_fresh _ _ _ _ c.pop_front.new.self _ c.args.item c.push_reserved.ensures.items c.taken.ensures.item h k (sym c.in_default.is ∙ c.pop_front.ensures.given k.ids k.list.line) (c.pop_front.ensures.list k.ids k.list.line), (search rules))

pub returns-clause-taken : goal.returns-clause-taken
returns-clause-taken g c =
    let o = c.self.inside.cells.cells.ok.0 in
    let w = c.self.invariant.0.within in
    let h : length c.self.inside.cells.cells.items < c.self.inside.capacity = omega (arith, o, w) in
    let e : length c.self.inside.cells.cells.items ≡ c.len-written.result = omega (arith, o) in
    slots_with_fresh c.self.inside.capacity _ _ c.len-written.result _ (Some c.args.item) c.push_reserved.ensures.items c.taken.ensures.item c.taken.ensures.link h e ∙ ap (λ (s : Slots g.row.T.Denot). with_item s c.len-written.result (Some c.args.item)) c.self.view_is

pub returns-clause-full : goal.returns-clause-full
returns-clause-full g c =
    let o = c.self.inside.cells.cells.ok.0 in
    let w = c.self.invariant.0.within in
    let h : length c.self.inside.cells.cells.items < c.self.inside.capacity = omega (arith, o, w) in
    sym (kept_not_full c.self.inside.capacity c.self.inside.cells.cells.items h) ∙ ap (λ (s : Slots g.row.T.Denot). is_full s.items) c.self.view_is
