use Rattle.std.proofs.Common.{ℕ, List, sym, ap, ◌∙◌}
use Rattle.std.proofs.lemmas.Result.{err_from_is_err_and}
use Rattle.pc_bases.specs.Reading.{pair_at, last_pair_key}
use Rattle.pc_part.proofs.ItemLaws.{items_go_on, items_stop, items_done}
use Rattle.pc_bases.proofs.ReadPairs.{last_pair_key_is}
use Rattle.pc_bases.proofs.base_decoding.read_pairs.Goals as goal

pub returns-in_err-key : goal.returns-in_err-key
returns-in_err-key c =
    let p = err_from_is_err_and c.from_residual.result c.from_residual.ensures.1 in
    rw (p.1, p.2) (λ other. items_stop _ _ _ _ _ _ _ c.loop.invariant c.in_err-key.field-0.0 c.loop-test.true
    (ap (λ (last : List ℕ). pair_at c.args.format last c.loop.rest.now) (sym (c.last_key.ensures ∙ ap last_pair_key c.deref.ensures.value)) ∙ c.in_err-key.ensures other))

pub loop-preserved : goal.loop-preserved
loop-preserved c =
    rw (c.in_ok-push.ensures.items, last_pair_key_is) (items_go_on _ _ _ _ _ _ _ c.loop.invariant
    (c.in_ok-key.key, c.in_ok-key.value) c.in_ok-key.after.now c.loop-test.true
    (ap (λ (last : List ℕ). pair_at c.args.format last c.loop.rest.now) (sym (c.last_key.ensures ∙ ap last_pair_key c.deref.ensures.value)) ∙ c.in_ok-key.ensures))

pub returns : goal.returns
returns c = items_done _ _ _ _ _ _ _ c.loop.invariant c.loop-test.false
