use Rattle.std.proofs.Common.{◌≡◌, inl, inr, ℕ, List, true, false, refl, sym, ap, subst, ◌∙◌}
use Rattle.std.specs.Prelude.{◌^◌}
use Rattle.pc_types.specs.declared.limits.TheConstants.{MOST_FILE_ENTRIES}
use Rattle.pc_io.specs.Tallies.{Puts}
use Rattle.pc_model.specs.Database.{database_of}
use Rattle.pc_model.specs.Files.{BaseFile}
use Rattle.pc_recover.specs.Recovery.{recovery_of}
use Rattle.pc_restore.specs.declared.lacks.Lacks.{Lacks}
use Rattle.pc_restore.specs.Bases.{lacks_text}
use Rattle.pc_restore.specs.Lacks.{is_damaged, refuses}
use Rattle.pc_restore.specs.Recoveries.{names_of}
use Rattle.pc_restore.proofs.FolderBases.{has_next, no_next, refused}
use Rattle.pc_restore.proofs.bases.recover_base.Goals as goal

pub returns-clause-cause : goal.returns-clause-cause
returns-clause-cause g c =
    let recovered = c.in_ok-parts.field-0.recovered in
    inl (
      refl,
      inr (
        refl,
        c.in_ok-parts.ensures.opened,
        λ base names parts log holds.
            let worth = c.in_ok-parts.ensures.worth base names parts log holds in
            (recovered.run, recovery_of recovered, record { recovered = worth.1; of_run = worth.2 }, no_next recovered.run recovered.pairs.items c.in_ok-parts.ensures.rise (c.in-None.ensures.none refl)),
      ),
    )

pub returns-then-refuses-clause-cause : goal.returns-then-refuses-clause-cause
returns-then-refuses-clause-cause g c =
    let recovered = c.in_ok-parts.field-0.recovered in
    let damaged = refused c.args.accepts_damage c.in_ok-parts.field-0.lacks (sym c.refuses.ensures ∙ c.if-refuses.true) in
    inr (
      refl,
      record {
        opened = c.in_ok-parts.ensures.opened;
        unaccepted = damaged.0;
        worth = λ base names parts log holds.
            let worth = c.in_ok-parts.ensures.worth base names parts log holds in (
              recovered.run,
              recovery_of recovered,
              record { recovered = worth.1; of_run = worth.2 },
              has_next recovered.run _ (2 ^ 64) MOST_FILE_ENTRIES recovered.pairs.items c.in_ok-parts.ensures.rise c.in-Some.ensures.next.0 c.in-Some.ensures.next.1 c.in-Some.ensures.next.2,
              subst (λ (lacks : Lacks). is_damaged lacks ≡ true) worth.3 damaged.1,
              (
                c.put_lacks.result,
                subst (λ (lacks : Lacks). Puts g.E.Write.contents c.args.errors.now c.put_lacks.new.errors c.put_lacks.result (lacks_text names (recovery_of recovered) lacks)) worth.3
                    (subst (λ (ns : List (List ℕ)). Puts g.E.Write.contents c.args.errors.now c.put_lacks.new.errors c.put_lacks.result (lacks_text ns (recovery_of recovered) c.in_ok-parts.field-0.lacks)) (ap names_of c.deref.ensures.value ∙ worth.0) c.put_lacks.ensures),
              ),
            );
      },
    )

pub returns-in-Some-clause-made : goal.returns-in-Some-clause-made
returns-in-Some-clause-made g c =
    let recovered = c.in_ok-parts.field-0.recovered in
    record {
      opened = c.in_ok-parts.ensures.opened;
      start = ap (λ (base : BaseFile). base.point) c.start.ensures;
      worth = λ base names parts log holds.
          let worth = c.in_ok-parts.ensures.worth base names parts log holds in (
            recovered.run,
            recovery_of recovered,
            record { recovered = worth.1; of_run = worth.2 },
            c.start.ensures ∙ ap (λ (run : ℕ). record { run = run; point = 0; pairs = database_of recovered.pairs.items }) c.in-Some.ensures.next.0,
            subst (λ (lacks : Lacks). refuses c.args.accepts_damage lacks ≡ false) worth.3 (sym c.refuses.ensures ∙ c.if-refuses.false),
            (
              c.put_lacks.result,
              subst (λ (lacks : Lacks). Puts g.E.Write.contents c.args.errors.now c.put_lacks.new.errors c.put_lacks.result (lacks_text names (recovery_of recovered) lacks)) worth.3
                  (subst (λ (ns : List (List ℕ)). Puts g.E.Write.contents c.args.errors.now c.put_lacks.new.errors c.put_lacks.result (lacks_text ns (recovery_of recovered) c.in_ok-parts.field-0.lacks)) (ap names_of c.deref.ensures.value ∙ worth.0) c.put_lacks.ensures),
            ),
          );
    }
