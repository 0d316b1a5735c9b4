use Rattle.std.proofs.Common.{◌≡◌, ◌∙◌, List, ℕ, ap, map}
use Rattle.pc_types.specs.declared.Write.{Write}
use Rattle.pc_model.specs.Database.{Database, applied_all, database_of}
use Rattle.pc_model.specs.Files.{BaseFile}
use Rattle.pc_opening.specs.Merging.{pair_write}
use Rattle.pc_opening.proofs.merging.merged_base.Goals as goal

pub returns-clause-merged : goal.returns-clause-merged
returns-clause-merged c =
    let over = c.into_pairs.result.items in
    let below : c.in_ok-overlay.overlay ≡ c.args.base.pairs = c.in_ok-overlay.ensures ∙ c.into_pairs-2.ensures.pairs in
    let writes : c.from_vec.result ≡ map pair_write over = c.from_vec.ensures ∙ c.in_ok-writes.ensures in (
      ap (λ (base : BaseFile). base.run) c.start.ensures ∙ c.run-run.ensures,
      ap (λ (base : BaseFile). base.point) c.start.ensures,
      (
        over,
        c.into_pairs.ensures.rise,
        c.into_pairs.ensures.pairs,
        ap (λ (base : BaseFile). base.pairs) c.start.ensures ∙ c.in_ok-pairs.ensures.pairs ∙ c.in_ok-with_writes.ensures
            ∙ ap (λ (db : Database). applied_all db c.from_vec.result) below ∙ ap (λ (ws : List Write). applied_all c.args.base.pairs ws) writes,
      ),
    )
