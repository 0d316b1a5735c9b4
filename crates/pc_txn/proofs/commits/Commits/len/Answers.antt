use Rattle.std.proofs.Common.{length, sym, ap, ◌∙◌}
use Rattle.pc_txn.specs.Commits.{Noted}
use Rattle.pc_txn.proofs.Filing.{length_filed}
use Rattle.pc_txn.proofs.commits.Commits.len.Goals as goal

pub returns : goal.returns
returns c =
    let a = c.self.inside in
    c.len.ensures ∙ (a.heads.ok.0 ∙ (sym (length_filed 0 a.heads.items a.reads.items) ∙ ap (λ (n : Noted). length n.items) c.self.view_is))
