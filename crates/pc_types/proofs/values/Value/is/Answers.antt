use Rattle.std.proofs.Common.{sym, ◌∙◌}
use Rattle.std.specs.Str.{bytes_eq}
use Rattle.std.proofs.lemmas.Map.Text.{is_eq-slice_cmp}
use Rattle.pc_types.proofs.values.Value.is.Goals as goal

pub returns : goal.returns
returns c = c.eq.ensures ∙ ((λ i. bytes_eq (c.as_bytes.ensures.bytes i) (c.as_bytes-2.ensures.bytes i)) ∙ sym (is_eq-slice_cmp c.args.self.now c.args.other.now))
