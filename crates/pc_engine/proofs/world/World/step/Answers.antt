use Rattle.std.proofs.Common.{◌≡◌}
use Rattle.std.specs.Int.{w64}
use Rattle.std.proofs.lemmas.Int.{to_z-of_z}
use Rattle.pc_types.proofs.NumberLaws.{fits_is}
use Rattle.pc_engine.proofs.Answered.{refused_begin, refused_get, refused_write, refused_add, refused_commit, refused_abort, refused_take}
use Rattle.pc_engine.proofs.Standing.{starts_keeps, seals_keeps, moves_keeps, shelves_keeps, joins_keeps}
use Rattle.pc_engine.proofs.Cycles.{starts_follows, seals_follows, opens_follows, shelves_follows, rests_follows, joins_follows}
use Rattle.pc_engine.proofs.world.World.step.Goals as goal

pub returns-in-Begin : goal.returns-in-Begin
returns-in-Begin c =
    let e = c.begin.ensures in
    rw c.begin_reply.ensures (record { follows = λ history stands. rw c.in-Begin.is (e.follows history stands); setting = e.setting; refused = refused_begin c.begin.result (c.begin.new.self ≡ c.args.self.now) e.refused })

pub returns-in-Get : goal.returns-in-Get
returns-in-Get c =
    let e = c.get.ensures in
    rw c.get_reply.ensures (record { follows = λ history stands. rw c.in-Get.is (e.follows history stands); setting = e.setting; refused = refused_get c.get.result (c.get.new.self ≡ c.args.self.now) e.refused })

pub returns-in-Put : goal.returns-in-Put
returns-in-Put c =
    let e = c.put.ensures in
    rw c.write_reply.ensures (record { follows = λ history stands. rw c.in-Put.is (e.follows history stands); setting = e.setting; refused = refused_write c.put.result (c.put.new.self ≡ c.args.self.now) e.refused })

pub returns-in-Del : goal.returns-in-Del
returns-in-Del c =
    let e = c.del.ensures in
    rw c.write_reply-in-Del.ensures (record { follows = λ history stands. rw c.in-Del.is (e.follows history stands); setting = e.setting; refused = refused_write c.del.result (c.del.new.self ≡ c.args.self.now) e.refused })

pub returns-in-Add : goal.returns-in-Add
returns-in-Add c =
    let e = c.add.ensures in
    let limits = rw c.in-Add.is at c.in_limits.ensures in
    let whole = to_z-of_z w64 c.in-Add.delta (fits_is c.in-Add.delta limits.1) in
    rw c.add_reply.ensures (record { follows = λ history stands. rw c.in-Add.is (rw whole at (e.follows history stands)); setting = e.setting; refused = refused_add c.add.result (c.add.new.self ≡ c.args.self.now) e.refused })

pub returns-in-Commit : goal.returns-in-Commit
returns-in-Commit c =
    let e = c.commit.ensures in
    rw c.commit_reply.ensures (record { follows = λ history stands. rw c.in-Commit.is (e.follows history stands); setting = e.setting; refused = refused_commit c.commit.result (c.commit.new.self ≡ c.args.self.now) e.refused })

pub returns-in-Abort : goal.returns-in-Abort
returns-in-Abort c =
    let e = c.abort.ensures in
    rw c.abort_reply.ensures (record { follows = λ history stands. rw c.in-Abort.is (e.follows history stands); setting = e.setting; refused = refused_abort c.abort.result (c.abort.new.self ≡ c.args.self.now) e.refused })

pub returns-in-StartPoint : goal.returns-in-StartPoint
returns-in-StartPoint c =
    let kept = starts_keeps _ _ _ c.advance.ensures in
    record { follows = λ history stands. rw c.in-StartPoint.is (starts_follows _ _ history _ stands c.advance.ensures); setting = kept.0; refused = kept.1 }

pub returns-in-Seal : goal.returns-in-Seal
returns-in-Seal c =
    let kept = seals_keeps _ _ _ c.advance-in-Seal.ensures in
    record { follows = λ history stands. rw c.in-Seal.is (seals_follows _ _ history _ stands c.advance-in-Seal.ensures); setting = kept.0; refused = kept.1 }

pub returns-in-OpenCapture : goal.returns-in-OpenCapture
returns-in-OpenCapture c =
    let kept = moves_keeps _ _ _ _ _ _ c.advance-in-OpenCapture.ensures in
    record { follows = λ history stands. rw c.in-OpenCapture.is (opens_follows _ _ history _ stands c.advance-in-OpenCapture.ensures); setting = kept.0; refused = kept.1 }

pub returns-in-Take : goal.returns-in-Take
returns-in-Take c =
    let e = c.take.ensures in
    rw c.take_reply.ensures (record { follows = λ history stands. rw c.in-Take.is (e.follows history stands); setting = e.setting; refused = refused_take c.take.result (c.take.new.self ≡ c.args.self.now) e.refused })

pub returns-in-Done : goal.returns-in-Done
returns-in-Done c =
    let kept = shelves_keeps _ _ _ c.shelve.ensures in
    record { follows = λ history stands. rw c.in-Done.is (shelves_follows _ _ history _ stands c.shelve.ensures); setting = kept.0; refused = kept.1 }

pub returns-in-Rest : goal.returns-in-Rest
returns-in-Rest c =
    let kept = moves_keeps _ _ _ _ _ _ c.advance-in-Rest.ensures in
    record { follows = λ history stands. rw c.in-Rest.is (rests_follows _ _ history _ stands c.advance-in-Rest.ensures); setting = kept.0; refused = kept.1 }

pub returns-in-Join : goal.returns-in-Join
returns-in-Join c =
    let kept = joins_keeps _ _ _ _ _ c.join_files.ensures in
    record { follows = λ history stands. rw c.in-Join.is (joins_follows _ _ history _ stands _ _ c.join_files.ensures); setting = kept.0; refused = kept.1 }
