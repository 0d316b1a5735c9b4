use Rattle.std.proofs.Common.{Some, sym, ◌∙◌, ap}
use Rattle.pc_chain.proofs.Passing.{passed_all, passed_here, passed_next, here_has}
use Rattle.pc_chain.proofs.stack.Stack.before.Goals as goal

pub returns-in_default : goal.returns-in_default
returns-in_default g c = λ before rest s. absurd (passed_here _ _ _ _ before rest (c.loop.invariant before rest s) c.in_default.is)

pub returns-then-eq : goal.returns-then-eq
returns-then-eq g c = λ before rest s.
    passed_all _ _ _ _ _ before rest s.leads (c.loop.invariant before rest s) (c.in-Some.is ∙ ap Some ((c.requires.told c.in-Some.here c.args.id).0 (sym c.if-eq.ensures)))

pub next-place-requires : goal.next-place-requires
next-place-requires g c =
    let h = c.requires.stands in
    here_has _ _ _ _ _ h.0 h.1 c.in-Some.here h.2.held (c.loop.invariant h.0 h.1 h.2) c.in-Some.is

pub loop-preserved : goal.loop-preserved
loop-preserved g c = λ before rest s.
    passed_next _ _ _ _ _ _ before rest c.in-Some.here s.leads (c.loop.invariant before rest s) c.in-Some.is (λ e. let f = (c.requires.told c.in-Some.here c.args.id).1 e in let n = c.if-eq.ensures in cc) c.next-place.ensures
