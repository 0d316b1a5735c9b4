use Rattle.std.proofs.Common.{◌+◌, ◌++◌, List, sym, subst}
use Rattle.pc_shared.specs.Sitters.{Sitter}
use Rattle.pc_threads.specs.Clients.{HaveWorked}
use Rattle.pc_threads.proofs.ClientLaws.{both_worked}
use Rattle.pc_threads.proofs.clients.Ran.and.Goals as goal

pub returns-clause-worked : goal.returns-clause-worked
returns-clause-worked g c clients others have more =
    let st = g.N.StoreName.name.setting in
    let one = c.args.self in
    let other = c.args.other in
    subst (λ n. HaveWorked st (clients ++ others) n c.append.new.self.items) (sym c.in_ok-given_up.ensures.sum)
    (subst (λ (sessions : List Sitter). HaveWorked st (clients ++ others) (one.given_up + other.given_up) sessions) (sym c.in_ok-append.ensures.items)
    (both_worked st clients one.given_up one.sessions.items others other.given_up other.sessions.items have more))
