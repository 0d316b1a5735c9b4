use Rattle.pc_texts.proofs.texts.put_check.Goals as goal

pub returns-else-sound : goal.returns-else-sound
returns-else-sound g c = rw c.if-sound.false c.put-else-sound.ensures
