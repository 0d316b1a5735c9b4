use Rattle.std.proofs.Common.{◌∙◌, inl, inr, ℕ, refl, sym, ap}
use Rattle.pc_model.specs.Database.{database_of}
use Rattle.pc_recover.specs.Recovery.{recovery_of}
use Rattle.pc_border.specs.Sources.{is_given}
use Rattle.pc_border.proofs.OpeningLaws.{base_given, too_much}
use Rattle.pc_border.proofs.opening.base_of.Goals as goal

pub returns-in-Some-clause-base : goal.returns-in-Some-clause-base
returns-in-Some-clause-base c =
    let recovered = c.in-Ok.recovered in
    base_given (is_given c.args.sources.now) c.args.sources.now c.args.run recovered.run (recovery_of recovered) c.start-in-Some.result (sym c.is_given.ensures ∙ c.if-not-is_given.false)
    (record { recovered = c.in-Ok.ensures.rules; of_run = c.in-Ok.ensures.run })
    (c.start-in-Some.ensures ∙ ap (λ (run : ℕ). record { run = run; point = 0; pairs = database_of recovered.pairs.items }) c.in-Some.ensures.next.0)

pub returns-in-None-clause-refusals : goal.returns-in-None-clause-refusals
returns-in-None-clause-refusals c =
    let recovered = c.in-Ok.recovered in
    inr (inl (
      refl,
      (
        recovered.run,
        recovery_of recovered,
        record { recovered = c.in-Ok.ensures.rules; of_run = c.in-Ok.ensures.run },
        too_much recovered.run recovered.pairs.items c.in-Ok.ensures.rise (c.in-None.ensures.none refl),
      ),
    ))
