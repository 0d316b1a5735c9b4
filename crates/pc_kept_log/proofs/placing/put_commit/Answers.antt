use Rattle.std.specs.List.{flat_map}
use Rattle.pc_log.specs.Texts.{write_text, commit_head_text}
use Rattle.pc_kept_log.proofs.PlacingLaws.{put_then, space_behind, space_first}
use Rattle.pc_kept_log.proofs.placing.put_commit.Goals as goal

pub put_commit_head-at-requires-clause-space : goal.put_commit_head-at-requires-clause-space
put_commit_head-at-requires-clause-space c = space_first _ _ (commit_head_text c.args.session c.args.writes.now) (flat_map write_text c.args.writes.now) c.requires.space

pub put_writes-requires : goal.put_writes-requires
put_writes-requires c = space_behind _ _ _ _ (commit_head_text c.args.session c.args.writes.now) (flat_map write_text c.args.writes.now) c.requires.space c.put_commit_head-at.ensures

pub returns-clause-put : goal.returns-clause-put
returns-clause-put c = put_then _ _ _ _ _ _ _ _ c.put_commit_head-at.ensures c.put_writes.ensures.put
