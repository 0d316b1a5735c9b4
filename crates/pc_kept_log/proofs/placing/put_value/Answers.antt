use Rattle.pc_kept_log.proofs.PlacingLaws.{put_then}
use Rattle.pc_kept_log.proofs.placing.put_value.Goals as goal

pub returns : goal.returns
returns c = put_then _ _ _ _ _ _ _ _ (put_then _ _ _ _ _ _ _ _ c.put-at.ensures (rw c.to_be_bytes.ensures at c.put-at-2.ensures)) c.put.ensures
