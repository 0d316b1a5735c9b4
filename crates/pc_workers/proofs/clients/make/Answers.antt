use Rattle.std.specs.Int.{w64}
use Rattle.std.proofs.lemmas.Int.{to_z-of_z}
use Rattle.pc_types.proofs.NumberLaws.{fits_is}
use Rattle.pc_workers.proofs.AskedLaws.{get_call, put_call, del_call, add_call}
use Rattle.pc_workers.proofs.ClientJobs.{get_wrote, put_wrote, del_wrote, add_wrote}
use Rattle.pc_workers.proofs.clients.make.Goals as goal

pub returns-in_ok-key-in-Get-clause-wrote : goal.returns-in_ok-key-in-Get-clause-wrote
returns-in_ok-key-in-Get-clause-wrote g c =
    rw c.in-Get.is (get_wrote g.N.StoreName.name.setting c.args.session.now c.get.new.session c.get.ensures.number c.in_ok-key-in-Get.key c.get.result c.get.ensures.call)

pub returns-in_ok-value-in-Put-clause-wrote : goal.returns-in_ok-value-in-Put-clause-wrote
returns-in_ok-value-in-Put-clause-wrote g c =
    rw (c.in-Put.is, ← c.in_ok-key-in-Put.ensures.copy, ← c.in_ok-value-in-Put.ensures.copy)
    (put_wrote g.N.StoreName.name.setting c.args.session.now c.put.new.session c.put.ensures.number c.in_ok-key-in-Put.key c.in_ok-value-in-Put.value c.put.result c.put.ensures.call)

pub returns-in_ok-key-in-Del-clause-wrote : goal.returns-in_ok-key-in-Del-clause-wrote
returns-in_ok-key-in-Del-clause-wrote g c =
    rw (c.in-Del.is, ← c.in_ok-key-in-Del.ensures.copy)
    (del_wrote g.N.StoreName.name.setting c.args.session.now c.del.new.session c.del.ensures.number c.in_ok-key-in-Del.key c.del.result c.del.ensures.call)

pub returns-in_ok-key-in-Get-clause-asked : goal.returns-in_ok-key-in-Get-clause-asked
returns-in_ok-key-in-Get-clause-asked g c =
    rw (c.in-Get.is, ← c.in_ok-key-in-Get.ensures.copy)
    (get_call g.N.StoreName.name.setting c.args.session.now.number c.args.session.now.seen c.get.new.session.seen c.in_ok-key-in-Get.key c.get.result c.get.ensures.call)

pub returns-in_ok-value-in-Put-clause-asked : goal.returns-in_ok-value-in-Put-clause-asked
returns-in_ok-value-in-Put-clause-asked g c =
    rw (c.in-Put.is, ← c.in_ok-key-in-Put.ensures.copy, ← c.in_ok-value-in-Put.ensures.copy)
    (put_call g.N.StoreName.name.setting c.args.session.now.number c.args.session.now.seen c.put.new.session.seen c.in_ok-key-in-Put.key c.in_ok-value-in-Put.value c.put.result c.put.ensures.call)

pub returns-in_ok-key-in-Del-clause-asked : goal.returns-in_ok-key-in-Del-clause-asked
returns-in_ok-key-in-Del-clause-asked g c =
    rw (c.in-Del.is, ← c.in_ok-key-in-Del.ensures.copy)
    (del_call g.N.StoreName.name.setting c.args.session.now.number c.args.session.now.seen c.del.new.session.seen c.in_ok-key-in-Del.key c.del.result c.del.ensures.call)

pub returns-in_ok-key-in-Add-clause-wrote : goal.returns-in_ok-key-in-Add-clause-wrote
returns-in_ok-key-in-Add-clause-wrote g c =
    rw (c.in-Add.is, ← c.in_ok-key-in-Add.ensures.copy)
    (add_wrote g.N.StoreName.name.setting c.args.session.now c.add.new.session c.add.ensures.number c.in_ok-key-in-Add.key c.in-Add.delta c.add.result (rw (to_z-of_z w64 c.in-Add.delta (fits_is c.in-Add.delta (rw c.in-Add.is at c.in_range.ensures))) at c.add.ensures.call))

pub returns-in_ok-key-in-Add-clause-asked : goal.returns-in_ok-key-in-Add-clause-asked
returns-in_ok-key-in-Add-clause-asked g c =
    rw (c.in-Add.is, ← c.in_ok-key-in-Add.ensures.copy)
    (add_call g.N.StoreName.name.setting c.args.session.now.number c.args.session.now.seen c.add.new.session.seen c.in_ok-key-in-Add.key c.in-Add.delta c.add.result (rw (to_z-of_z w64 c.in-Add.delta (fits_is c.in-Add.delta (rw c.in-Add.is at c.in_range.ensures))) at c.add.ensures.call))
