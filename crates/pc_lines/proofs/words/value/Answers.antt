use Rattle.std.proofs.Common.{arith}
use Rattle.std.proofs.lemmas.Int.Digits.{digits_value_more}
use Rattle.pc_lines.proofs.WordLemmas.{digit_at, digit_worth, room, one_digit_more}
use Rattle.pc_lines.proofs.words.value.Goals as goal

pub overflow_mul-value : goal.overflow_mul-value
overflow_mul-value c = let r = room c.loop-digit.digit-index (omega arith) in omega arith

pub overflow_add-value : goal.overflow_add-value
overflow_add-value c =
    let r = room c.loop-digit.digit-index (omega arith) in
    let d = digit_at c.args.digits.now c.loop-digit.digit-index c.requires.digits c.loop-digit-test.true in
    omega arith

pub loop-digit-preserved : goal.loop-digit-preserved
loop-digit-preserved c =
    let i = c.loop-digit.digit-index in
    let d = digit_at c.args.digits.now i c.requires.digits c.loop-digit-test.true in
    let worth = digit_worth _ d.0 d.1 in
    let more = digits_value_more 10 c.args.digits.now i c.loop-digit-test.true in
    record { so_far = rw (more, worth) (omega arith); small = one_digit_more i c.loop-digit.value c.from.result c.loop-digit.invariant.small (omega arith) }
