use Rattle.std.proofs.Common.{◌≡◌, Some, sym, ap, ◌∙◌, length, arith, FitsSigned}
use Rattle.std.specs.Int.{w64, cast_signed, cast_unsigned, from_be_bytes}
use Rattle.std.specs.Option.{option_and_then}
use Rattle.std.proofs.lemmas.Int.{to_z-of_z}
use Rattle.pc_types.specs.Changes.{content_number, sum_of}
use Rattle.pc_types.proofs.SumLaws.{sum_is, eight, fewer, more}
use Rattle.pc_types.proofs.changes.sum_with.Goals as goal

pub returns-in_default : goal.returns-in_default
returns-in_default c = sym (ap (option_and_then (λ n. sum_of n c.args.delta)) (fewer c.args.bytes.now (omega (arith, c.in_default.len_below))))

pub returns-in_default-2 : goal.returns-in_default-2
returns-in_default-2 c = sym (ap (option_and_then (λ n. sum_of n c.args.delta)) (more c.args.bytes.now (omega (arith, c.in_default.len_at_least))))

pub returns-in-len8 : goal.returns-in-len8
returns-in-len8 c =
    let read : c.from_be_bytes.result ≡ cast_signed w64 (from_be_bytes w64 c.args.bytes.now) = c.from_be_bytes.ensures in
    let inside : FitsSigned w64 c.from_be_bytes.result = record { sfits = c.from_be_bytes.type_inv } in
    let long : length c.args.bytes.now ≡ 8 = omega (arith, c.in-len8.len_at_least, c.in-len8.len_below) in
    let number : content_number (Some c.args.bytes.now) ≡ Some (cast_signed w64 (cast_unsigned w64 c.from_be_bytes.result)) = eight c.args.bytes.now long ∙ ap Some (sym (to_z-of_z w64 c.from_be_bytes.result inside ∙ read)) in
    sum_is (cast_signed w64 (cast_unsigned w64 c.from_be_bytes.result)) (cast_signed w64 (cast_unsigned w64 c.args.delta)) c.checked_add.result c.checked_add.ensures
    ∙ ap (sum_of (cast_signed w64 (cast_unsigned w64 c.from_be_bytes.result))) (to_z-of_z w64 c.args.delta c.ranges.delta)
    ∙ ap (option_and_then (λ n. sum_of n c.args.delta)) (sym number)
