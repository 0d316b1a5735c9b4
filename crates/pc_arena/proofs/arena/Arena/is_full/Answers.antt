use Rattle.std.proofs.Common.{◌≡◌, ◌<◌, sym, ◌∙◌, ap, is_none, length, rules, arith}
use Rattle.pc_chain.specs.Slots.{is_full, Slots}
use Rattle.pc_arena.proofs.CellKeeping.{kept_full, kept_not_full}
use Rattle.pc_arena.proofs.arena.Arena.is_full.Goals as goal

pub returns-then-len-self : goal.returns-then-len-self
returns-then-len-self g c =
    let k = c.self.invariant.0 in
    let o = c.self.inside.cells.cells.ok.0 in
    let e : length c.self.inside.cells.cells.items ≡ c.self.inside.capacity = omega (arith, o) in
    (search rules) ∙ (ap is_none (c.first.ensures k.ids k.list.line) ∙ (sym (kept_full _ _ _ k e) ∙ ap (λ (s : Slots g.row.T.Denot). is_full s.items) c.self.view_is))

pub returns-else-len-self : goal.returns-else-len-self
returns-else-len-self g c =
    let o = c.self.inside.cells.cells.ok.0 in
    let w = c.self.invariant.0.within in
    let h : length c.self.inside.cells.cells.items < c.self.inside.capacity = omega (arith, o, w) in
    (search rules) ∙ (sym (kept_not_full c.self.inside.capacity c.self.inside.cells.cells.items h) ∙ ap (λ (s : Slots g.row.T.Denot). is_full s.items) c.self.view_is)
