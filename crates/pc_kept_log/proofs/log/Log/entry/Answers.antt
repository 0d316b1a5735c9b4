use Rattle.pc_kept_log.specs.Logs.{entries_of}
use Rattle.pc_kept_log.proofs.PieceLaws.{all_got}
use Rattle.pc_kept_log.proofs.log.Log.entry.Goals as goal

pub returns : goal.returns
returns c = all_got (entries_of c.args.self.now) c.piece_of-piece.result.now c.args.place c.piece_of-piece.ensures c.entry.result c.first.result c.first.ensures c.entry.ensures
