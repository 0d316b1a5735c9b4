use Rattle.std.proofs.Common.{◌≡◌, ℕ, Some, Ok, arith, rules}
use Rattle.std.specs.Option.{option_map}
use Rattle.pc_io.specs.Fields.{key_behind}
use Rattle.pc_types.specs.declared.Triple.{Triple}
use Rattle.pc_part.specs.Reading.{next_entry_at}
use Rattle.pc_entries.proofs.LentLaws.{text_read}
use Rattle.pc_entries.proofs.lent_entry.lend_next_entry.Goals as goal

pub slice_bounds-text-count : goal.slice_bounds-text-count
unfolding next_entry_at
slice_bounds-text-count c =
    let entry : Triple = record { key = key_behind c.args.format c.in_ok-key.key.now; point = c.in_ok-point.point; content = option_map (λ value. value.now) c.in_ok-point.value } in
    let read : next_entry_at c.args.format c.args.ranges.now c.args.last.now c.args.bytes.now ≡ Ok (Some entry, c.in_ok-point.rest.now) = search rules in
    (text_read c.args.format c.args.ranges.now c.args.last.now c.args.bytes.now c.in_ok-point.rest.now entry (λ i. omega (arith, c.type_inv.bytes i)) read).0

pub invariant_of-entry : goal.invariant_of-entry
unfolding next_entry_at
invariant_of-entry c =
    let entry : Triple = record { key = key_behind c.args.format c.in_ok-key.key.now; point = c.in_ok-point.point; content = option_map (λ value. value.now) c.in_ok-point.value } in
    let read : next_entry_at c.args.format c.args.ranges.now c.args.last.now c.args.bytes.now ≡ Ok (Some entry, c.in_ok-point.rest.now) = search rules in
    (text_read c.args.format c.args.ranges.now c.args.last.now c.args.bytes.now c.in_ok-point.rest.now entry (λ i. omega (arith, c.type_inv.bytes i)) read).1
