use Rattle.std.proofs.Common.{◌≡◌, Some}
use Rattle.std.specs.List.{list_all}
use Rattle.pc_model.specs.Maps.{get}
use Rattle.pc_model.specs.Files.{same_content}
use Rattle.pc_audit.proofs.table.all_in.Given as goal

-- what is left decides
abbrev pub invariant-loop-key : goal.invariant-loop-key
invariant-loop-key l = list_all (λ e. same_content (Some e.1) (get l.fn.other e.0)) l.key-iterator ≡ list_all (λ e. same_content (Some e.1) (get l.fn.other e.0)) l.fn.pairs.entries
