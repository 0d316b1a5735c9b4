use Rattle.std.proofs.Common.{◌≡◌, ◌-◌, ◌++◌, ◌∙◌, ap, length, min, rules, take}
use Rattle.pc_serving.proofs.PieceLaws.{take_room}
use Rattle.pc_serving.proofs.lines.keep.Goals as goal

pub returns-clause-kept : goal.returns-clause-kept
returns-clause-kept c =
    let count : c.min-count.result ≡ min (length c.args.bytes.now) (4194305 - length c.args.line.now.items) = search rules in
    c.in_ok-extend_from_slice.ensures.items ∙ ap (λ n. c.args.line.now.items ++ take n c.args.bytes.now) count ∙ take_room 4194305 c.args.line.now.items c.args.bytes.now c.requires
