use Rattle.std.proofs.Common.{◌≡◌}
use Rattle.pc_kept_log.proofs.PlacingLaws.{put_then}
use Rattle.pc_kept_log.proofs.placing.put_token.Goals as goal

pub returns-clause-put : goal.returns-clause-put
returns-clause-put c =
    let same : c.from.result ≡ c.args.point = cc in
    put_then _ _ _ _ _ _ _ _ (rw c.number.ensures at c.put-at.ensures) (rw (c.to_be_bytes.ensures, same) at c.put.ensures)
