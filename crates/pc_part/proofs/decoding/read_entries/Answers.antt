use Rattle.std.proofs.Common.{ℕ, List, length, [], Option, Ok, sym, ap, ◌∙◌}
use Rattle.std.proofs.lemmas.Result.{err_from_is_err_and}
use Rattle.pc_types.specs.declared.Triple.{Triple}
use Rattle.pc_part.specs.Reading.{last_key, next_entry_at, part_entries_at}
use Rattle.pc_part.proofs.ReadLists.{entries_end, no_entry, entry_goes_on, entries_out, last_key_is}
use Rattle.pc_part.proofs.decoding.read_entries.Goals as goal

pub returns-in_err-next : goal.returns-in_err-next
returns-in_err-next c =
    let p = err_from_is_err_and c.from_residual.result c.from_residual.ensures.1 in
    rw (p.1, p.2) (λ other. no_entry c.args.format c.loop.entries.items (length c.args.bytes.now) c.loop.counter c.args.ranges.now (last_key c.loop.entries.items) c.loop.rest.now (part_entries_at c.args.format (length c.args.bytes.now) c.args.ranges.now [] c.args.bytes.now) c.loop.invariant c.loop-test.true c.in_err-next.field-0.0
    (ap (λ (last : List ℕ). next_entry_at c.args.format c.args.ranges.now last c.loop.rest.now) (sym (c.last_key-last.ensures ∙ ap last_key c.deref.ensures.value)) ∙ c.in_err-next.ensures other))

pub returns-in_default : goal.returns-in_default
returns-in_default c = entries_end c.args.format c.loop.entries.items (length c.args.bytes.now) c.loop.counter c.args.ranges.now (last_key c.loop.entries.items) c.loop.rest.now (part_entries_at c.args.format (length c.args.bytes.now) c.args.ranges.now [] c.args.bytes.now) c.loop.invariant c.loop-test.true c.in_ok-next.after.now
    (ap (λ (last : List ℕ). next_entry_at c.args.format c.args.ranges.now last c.loop.rest.now) (sym (c.last_key-last.ensures ∙ ap last_key c.deref.ensures.value)) ∙ c.in_ok-next.ensures ∙ ap (λ (next : Option Triple). Ok (next, c.in_ok-next.after.now)) c.in_default.is)

pub loop-preserved : goal.loop-preserved
loop-preserved c =
    rw (c.in_ok-push.ensures.items, last_key_is) (entry_goes_on c.args.format c.loop.entries.items (length c.args.bytes.now) c.loop.counter c.args.ranges.now (last_key c.loop.entries.items) c.loop.rest.now (part_entries_at c.args.format (length c.args.bytes.now) c.args.ranges.now [] c.args.bytes.now) c.loop.invariant c.loop-test.true
    c.in-Some.entry c.in_ok-next.after.now (ap (λ (last : List ℕ). next_entry_at c.args.format c.args.ranges.now last c.loop.rest.now) (sym (c.last_key-last.ensures ∙ ap last_key c.deref.ensures.value)) ∙ c.in_ok-next.ensures ∙ ap (λ (next : Option Triple). Ok (next, c.in_ok-next.after.now)) c.in-Some.is))

pub returns : goal.returns
returns c = λ other. entries_out c.args.format c.loop.entries.items (length c.args.bytes.now) c.loop.counter c.args.ranges.now (last_key c.loop.entries.items) c.loop.rest.now (part_entries_at c.args.format (length c.args.bytes.now) c.args.ranges.now [] c.args.bytes.now) c.loop.invariant c.loop-test.false
