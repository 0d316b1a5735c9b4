use Rattle.std.proofs.Common.{◌≢◌, ◌<◌, ◌^◌, ℕ, [], ◌∷◌, length, arith, lit<}
use Rattle.pc_chain.proofs.StackLaws.{empty_stack}
use Rattle.test_slots.proofs.chains.stacked.Goals as goal

zero_one : ◌≢◌ {A = ℕ} 0 1
zero_one = omega arith

zero_two : ◌≢◌ {A = ℕ} 0 2
zero_two = omega arith

one_two : ◌≢◌ {A = ℕ} 1 2
one_two = omega arith

three : length {A = ℕ} (2 ∷ 1 ∷ 0 ∷ []) < 2 ^ 64
three = lit< tt

two : length {A = ℕ} (2 ∷ 0 ∷ []) < 2 ^ 64
two = lit< tt

pub unlink-requires-clause-stands : goal.unlink-requires-clause-stands
unlink-requires-clause-stands c =
    let s0 = empty_stack _ _ c.new-stack.result c.new-stack.ensures in
    let s1 = c.push_front.ensures.list [] s0 tt in
    let s2 = c.push_front-2.ensures.list (0 ∷ []) s1 (zero_one, tt) in
    let s3 = c.push_front-3.ensures.list (1 ∷ 0 ∷ []) s2 (one_two, (zero_two, tt)) in
    (2 ∷ [], 0 ∷ [], s3, three)

pub unlink-requires-2-clause-stands : goal.unlink-requires-2-clause-stands
unlink-requires-2-clause-stands c =
    let s0 = empty_stack _ _ c.new-stack.result c.new-stack.ensures in
    let s1 = c.push_front.ensures.list [] s0 tt in
    let s2 = c.push_front-2.ensures.list (0 ∷ []) s1 (zero_one, tt) in
    let s3 = c.push_front-3.ensures.list (1 ∷ 0 ∷ []) s2 (one_two, (zero_two, tt)) in
    let s4 = c.unlink.ensures.taken.list (2 ∷ []) (0 ∷ []) s3 in
    ([], 0 ∷ [], s4, two)
