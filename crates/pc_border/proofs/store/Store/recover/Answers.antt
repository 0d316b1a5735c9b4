use Rattle.std.proofs.Common.{◌∙◌, ℕ, ap}
use Rattle.pc_model.proofs.PairMapLaws.{len_of}
use Rattle.pc_recover.specs.Recovery.{recovery_of}
use Rattle.pc_border.specs.Sources.{summary_of_recovery}
use Rattle.pc_border.proofs.store.Store.recover.Goals as goal

pub returns-in_ok-recover-in-Gathering : goal.returns-in_ok-recover-in-Gathering
returns-in_ok-recover-in-Gathering c =
    let recovered = c.in_ok-recover-in-Gathering.field-0 in
    let told = c.in_ok-recover-in-Gathering.ensures in
    rw c.in-Gathering.is (
      recovered.run,
      recovery_of recovered,
      record { recovered = told.rules; of_run = told.run },
      c.summary_of_recovery.ensures ∙ ap (λ (pairs : ℕ). summary_of_recovery recovered.run (recovery_of recovered) pairs) (len_of recovered.pairs.items told.rise),
    )
