use Rattle.std.proofs.Common.{sym, ◌∙◌}
use Rattle.pc_model.specs.Sets as set
use Rattle.pc_model.proofs.ContentLaws.{contains-items, laid_content_from}
use Rattle.pc_model.proofs.laws.contents_make_states.Goals as goal

pub returns : goal.returns
returns c base log b n points le order most all =
    laid_content_from base log b n (set.items points) le order (λ p is. most p (contains-items points p ∙ is)) (λ p low high. sym (contains-items points p) ∙ all p low high)
