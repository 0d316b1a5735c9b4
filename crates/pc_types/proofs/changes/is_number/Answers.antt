use Rattle.std.proofs.Common.{is_some, option_copied, sym, ap, ◌∙◌, length}
use Rattle.std.specs.Prelude.{◌==◌}
use Rattle.pc_types.specs.Changes.{content_number}
use Rattle.pc_types.proofs.NumberLaws.{none_is}
use Rattle.pc_types.proofs.SumLaws.{has_number}
use Rattle.pc_types.proofs.changes.is_number.Goals as goal

pub returns-in-Some : goal.returns-in-Some
returns-in-Some c = ap (λ bytes. length bytes == 8) c.as_bytes.ensures.bytes ∙ sym (has_number c.in-Some.value.now) ∙ sym (ap (λ t. is_some (content_number (option_copied t))) c.in-Some.is)

pub returns-in-None : goal.returns-in-None
returns-in-None c = sym (ap (λ t. is_some (content_number (option_copied t))) c.in-None.is ∙ ap is_some none_is)
