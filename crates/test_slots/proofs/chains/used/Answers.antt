use Rattle.std.proofs.Common.{◌≢◌, ℕ, [], ◌∷◌, refl, arith}
use Rattle.pc_chain.proofs.ChainLaws.{empty_chain}
use Rattle.test_slots.proofs.chains.used.Goals as goal

zero_one : ◌≢◌ {A = ℕ} 0 1
zero_one = omega arith

zero_two : ◌≢◌ {A = ℕ} 0 2
zero_two = omega arith

pub push_back-requires-3-clause-stands : goal.push_back-requires-3-clause-stands
push_back-requires-3-clause-stands c =
    let o0 = empty_chain _ _ c.new-odds.result c.new-odds.ensures in
    let e0 = empty_chain _ _ c.new-evens.result c.new-evens.ensures in
    let e1 = c.push_back.ensures.added.list [] e0 tt in
    let e2 = c.push_back-2.ensures.added.others [] (0 ∷ []) c.push_back.new.self o0 e1 (tt, tt) (zero_one, tt) in
    (0 ∷ [], e2, (zero_two, tt))

pub unlink_after-behind-requires : goal.unlink_after-behind-requires
unlink_after-behind-requires c =
    let o0 = empty_chain _ _ c.new-odds.result c.new-odds.ensures in
    let e0 = empty_chain _ _ c.new-evens.result c.new-evens.ensures in
    let e1 = c.push_back.ensures.added.list [] e0 tt in
    let e2 = c.push_back-2.ensures.added.others [] (0 ∷ []) c.push_back.new.self o0 e1 (tt, tt) (zero_one, tt) in
    let e3 = c.push_back-3.ensures.added.list (0 ∷ []) e2 (zero_two, tt) in
    (0 ∷ [], 2 ∷ [], e3, refl)

pub push_back-requires-4-clause-stands : goal.push_back-requires-4-clause-stands
push_back-requires-4-clause-stands c =
    let o0 = empty_chain _ _ c.new-odds.result c.new-odds.ensures in
    let e0 = empty_chain _ _ c.new-evens.result c.new-evens.ensures in
    let e1 = c.push_back.ensures.added.list [] e0 tt in
    let e2 = c.push_back-2.ensures.added.others [] (0 ∷ []) c.push_back.new.self o0 e1 (tt, tt) (zero_one, tt) in
    let e3 = c.push_back-3.ensures.added.list (0 ∷ []) e2 (zero_two, tt) in
    let e4 = c.unlink_after-behind.ensures.taken.list (0 ∷ []) (2 ∷ []) e3 refl in
    (0 ∷ [], e4, (zero_two, tt))

pub pop_front-first-requires : goal.pop_front-first-requires
pop_front-first-requires c =
    let o0 = empty_chain _ _ c.new-odds.result c.new-odds.ensures in
    let e0 = empty_chain _ _ c.new-evens.result c.new-evens.ensures in
    let e1 = c.push_back.ensures.added.list [] e0 tt in
    let e2 = c.push_back-2.ensures.added.others [] (0 ∷ []) c.push_back.new.self o0 e1 (tt, tt) (zero_one, tt) in
    let e3 = c.push_back-3.ensures.added.list (0 ∷ []) e2 (zero_two, tt) in
    let e4 = c.unlink_after-behind.ensures.taken.list (0 ∷ []) (2 ∷ []) e3 refl in
    let e5 = c.push_back-4.ensures.added.list (0 ∷ []) e4 (zero_two, tt) in
    (0 ∷ 2 ∷ [], e5)

pub pop_front-second-requires : goal.pop_front-second-requires
pop_front-second-requires c =
    let o0 = empty_chain _ _ c.new-odds.result c.new-odds.ensures in
    let e0 = empty_chain _ _ c.new-evens.result c.new-evens.ensures in
    let e1 = c.push_back.ensures.added.list [] e0 tt in
    let e2 = c.push_back-2.ensures.added.others [] (0 ∷ []) c.push_back.new.self o0 e1 (tt, tt) (zero_one, tt) in
    let e3 = c.push_back-3.ensures.added.list (0 ∷ []) e2 (zero_two, tt) in
    let e4 = c.unlink_after-behind.ensures.taken.list (0 ∷ []) (2 ∷ []) e3 refl in
    let e5 = c.push_back-4.ensures.added.list (0 ∷ []) e4 (zero_two, tt) in
    let e6 = c.pop_front-first.ensures.list (0 ∷ 2 ∷ []) e5 in
    (2 ∷ [], e6)

pub pop_front-third-requires : goal.pop_front-third-requires
pop_front-third-requires c =
    let o0 = empty_chain _ _ c.new-odds.result c.new-odds.ensures in
    let e0 = empty_chain _ _ c.new-evens.result c.new-evens.ensures in
    let e1 = c.push_back.ensures.added.list [] e0 tt in
    let e2 = c.push_back-2.ensures.added.others [] (0 ∷ []) c.push_back.new.self o0 e1 (tt, tt) (zero_one, tt) in
    let e3 = c.push_back-3.ensures.added.list (0 ∷ []) e2 (zero_two, tt) in
    let e4 = c.unlink_after-behind.ensures.taken.list (0 ∷ []) (2 ∷ []) e3 refl in
    let e5 = c.push_back-4.ensures.added.list (0 ∷ []) e4 (zero_two, tt) in
    let e6 = c.pop_front-first.ensures.list (0 ∷ 2 ∷ []) e5 in
    let e7 = c.pop_front-second.ensures.list (2 ∷ []) e6 in
    ([], e7)
