use Rattle.std.proofs.Common.{[], inl, refl, sym, subst}
use Rattle.pc_engine.specs.Stands.{Stands}
use Rattle.pc_engine.specs.Store as world
use Rattle.pc_border.specs.Openings.{IsStart}
use Rattle.pc_border.proofs.store.Store.open.Goals as goal

pub returns-in-Ok : goal.returns-in-Ok
returns-in-Ok c =
    rw c.in-Gathering.is (inl (
      c.plain-in-Ok.ensures,
      (
        c.new.result,
        refl,
        subst (λ (made : world.Store). Stands made []) (sym c.new.ensures) c.in-Ok.ensures.stands,
        subst (λ (made : world.Store). IsStart c.in-Gathering.sources c.args.options.now (world.setting_of made)) (sym c.new.ensures) c.in-Ok.ensures.start,
      ),
      c.in-Ok.ensures.lawful,
    ))
