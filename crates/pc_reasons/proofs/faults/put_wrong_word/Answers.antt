use Rattle.std.proofs.lemmas.List.{append-nil}
use Rattle.pc_reasons.proofs.faults.put_wrong_word.Goals as goal

pub returns : goal.returns
returns g c = rw (← c.place_name.ensures, ← c.kind_name.ensures) (simp append-nil at c.put_all.ensures)
