use Rattle.std.proofs.Common.{Some, None}
use Rattle.std.specs.Int.{w64}
use Rattle.std.proofs.lemmas.Int.{to_z-of_z}
use Rattle.pc_types.proofs.NumberLaws.{fits_is}
use Rattle.pc_engine.proofs.Endings.{commits_follows}
use Rattle.pc_engine.proofs.Requests.{gets_follows, puts_follows, dels_follows, adds_follows}
use Rattle.pc_engine.proofs.world.World.refuse.Goals as goal

pub returns-in-Get-clause-follows : goal.returns-in-Get-clause-follows
returns-in-Get-clause-follows c = λ history stands. rw c.in-Get.is (gets_follows _ _ history _ _ stands _ c.get_refusal.ensures)

pub returns-in-Put-clause-follows : goal.returns-in-Put-clause-follows
returns-in-Put-clause-follows c = λ history stands. rw c.in-Put.is (puts_follows _ _ history _ _ stands _ _ (rw c.in-Put.is at c.in_limits.ensures) (c.write_refusal.ensures (Some _)))

pub returns-in-Del-clause-follows : goal.returns-in-Del-clause-follows
returns-in-Del-clause-follows c = λ history stands. rw c.in-Del.is (dels_follows _ _ history _ _ stands _ (rw c.in-Del.is at c.in_limits.ensures) (c.write_refusal-in-Del.ensures None))

pub returns-in-Add-clause-follows : goal.returns-in-Add-clause-follows
returns-in-Add-clause-follows c =
    let limits = rw c.in-Add.is at c.in_limits.ensures in
    let adds = rw (to_z-of_z w64 c.in-Add.delta (fits_is c.in-Add.delta limits.1)) at c.add_refusal.ensures in
    λ history stands. rw c.in-Add.is (adds_follows _ _ history _ _ stands _ _ limits adds)

pub returns-in-Commit-clause-follows : goal.returns-in-Commit-clause-follows
returns-in-Commit-clause-follows c = λ history stands. rw c.in-Commit.is (commits_follows _ _ history _ _ stands c.commit_refusal.ensures)
