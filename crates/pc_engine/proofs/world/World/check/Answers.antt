use Rattle.pc_kept_log.specs.Logs.{entries_of}
use Rattle.pc_engine.proofs.Soundness.{sound_by, always}
use Rattle.pc_engine.proofs.world.World.check.Goals as goal

pub returns-clause-sound : goal.returns-clause-sound
returns-clause-sound c = sound_by c.args.self.now c.in_ok-pairs.pairs.items c.as_slice.result.now c.in_ok-sound.sound c.base.result.now (entries_of c.log.result.now) c.files.result.now c.in_ok-pairs.ensures.contents
    c.base.ensures c.log.ensures.log c.files.ensures c.as_slice.ensures.value c.in_ok-sound.ensures

pub returns-clause-always : goal.returns-clause-always
returns-clause-always c history stands =
    let sound = sound_by c.args.self.now c.in_ok-pairs.pairs.items c.as_slice.result.now c.in_ok-sound.sound c.base.result.now (entries_of c.log.result.now) c.files.result.now c.in_ok-pairs.ensures.contents
    c.base.ensures c.log.ensures.log c.files.ensures c.as_slice.ensures.value c.in_ok-sound.ensures in
    always c.args.self.now history c.in_ok-sound.sound sound stands
