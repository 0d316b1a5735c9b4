use Rattle.std.proofs.Common.{◌≡◌, ◌∙◌, length, ap, refl, inl, arith}
use Rattle.pc_model.specs.Maps.{len}
use Rattle.pc_model.proofs.PairMapLaws.{len_of}
use Rattle.pc_transactions.specs.Ongoing.{Ongoing}
use Rattle.pc_engine.proofs.Standing.{stands_first}
use Rattle.pc_engine.proofs.Within.{first_within}
use Rattle.pc_engine.proofs.world.World.new.Goals as goal

pub returns-then-pairs-capacity-clause-refusals : goal.returns-then-pairs-capacity-clause-refusals
returns-then-pairs-capacity-clause-refusals c =
    let count : length c.pairs-pairs.result.now ≡ len c.args.base.pairs = len_of c.pairs-pairs.result.now c.pairs-pairs.ensures.rise ∙ ap len c.pairs-pairs.ensures.pairs in
    inl (refl, omega arith)

pub returns-in_err-sessions-clause-full : goal.returns-in_err-sessions-clause-full
returns-in_err-sessions-clause-full c =
    let count : length c.pairs-pairs.result.now ≡ len c.args.base.pairs = len_of c.pairs-pairs.result.now c.pairs-pairs.ensures.rise ∙ ap len c.pairs-pairs.ensures.pairs in
    λ over. absurd (omega arith)

pub returns-clause-full : goal.returns-clause-full
returns-clause-full c =
    let count : length c.pairs-pairs.result.now ≡ len c.args.base.pairs = len_of c.pairs-pairs.result.now c.pairs-pairs.ensures.rise ∙ ap len c.pairs-pairs.ensures.pairs in
    λ over. absurd (omega arith)

pub returns-clause-stands : goal.returns-clause-stands
returns-clause-stands c =
    let made = c.in_ok-sessions.ensures in
    stands_first _ c.pairs-pairs.result.now c.args.sessions c.pairs-pairs.ensures.rise c.pairs-pairs.ensures.pairs (ap (λ (o : Ongoing). o.kept.rows) made) c.new-2.ensures (ap (λ (o : Ongoing). o.begun) made) (ap (λ (o : Ongoing). o.sessions) made) (ap (λ (o : Ongoing). o.phases.phase) made)
    (ap (λ (o : Ongoing). o.phases.point) made) (ap (λ (o : Ongoing). o.open_set) made) (ap (λ (o : Ongoing). o.closed_set) made) c.new-4.ensures.items c.requires.start c.requires.sessions.1

pub invariant_of-result : goal.invariant_of-result
invariant_of-result c = let made = c.in_ok-sessions.ensures in first_within _ _ _ _ _ c.new-2.ensures (ap (λ (o : Ongoing). o.open_set) made) (ap (λ (o : Ongoing). o.closed_set) made) c.new-3.ensures c.new-4.ensures.items
