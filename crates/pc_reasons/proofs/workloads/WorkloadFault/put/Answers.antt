use Rattle.pc_reasons.proofs.workloads.WorkloadFault.put.Goals as goal

pub returns-in-PointsAgain : goal.returns-in-PointsAgain
returns-in-PointsAgain g c = rw c.in-PointsAgain.is c.put-in-PointsAgain.ensures

pub returns-in-PointsBehindClient : goal.returns-in-PointsBehindClient
returns-in-PointsBehindClient g c = rw c.in-PointsBehindClient.is c.put-in-PointsBehindClient.ensures

pub returns-in-ClientAgain : goal.returns-in-ClientAgain
returns-in-ClientAgain g c = rw c.in-ClientAgain.is c.put-in-ClientAgain.ensures

pub returns-in-BeforeClients : goal.returns-in-BeforeClients
returns-in-BeforeClients g c = rw c.in-BeforeClients.is c.put-in-BeforeClients.ensures

pub returns-in-NoEnd : goal.returns-in-NoEnd
returns-in-NoEnd g c = rw c.in-NoEnd.is c.put-in-NoEnd.ensures

pub returns-in-OutsideTransaction : goal.returns-in-OutsideTransaction
returns-in-OutsideTransaction g c = rw c.in-OutsideTransaction.is c.put-in-OutsideTransaction.ensures
