use Rattle.pc_engine.proofs.Serial.{is_serial}
use Rattle.pc_engine.proofs.laws.standing_worlds_are_serial.Goals as goal

pub returns : goal.returns
returns c = is_serial
