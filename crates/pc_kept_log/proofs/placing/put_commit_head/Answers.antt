use Rattle.std.proofs.Common.{◌≡◌, suc, ◌+◌, length, arith}
use Rattle.std.specs.List.{flat_map}
use Rattle.pc_log.specs.Texts.{write_text}
use Rattle.pc_kept_log.proofs.PlacingLaws.{put_then}
use Rattle.pc_kept_log.proofs.placing.put_commit_head.Goals as goal

pub returns : goal.returns
returns c =
    let size : 4 + c.writes_size-size.result ≡ suc (suc (suc (suc (length (flat_map write_text c.args.writes.now))))) = omega (arith, c.writes_size-size.ensures.size) in
    let session : c.session.inside.0 ≡ c.args.session = cc in
    put_then _ _ _ _ _ _ _ _
    (put_then _ _ _ _ _ _ _ _ (rw (c.to_be_bytes.ensures, size) at c.put-at.ensures) (rw (c.to_be_bytes-session_bytes.ensures, session) at c.put-at-2.ensures))
    (rw c.to_be_bytes-2.ensures at c.put.ensures)
