-- It owns nothing, so any thread may have it.
use denote.Param.Send.{IsSend}
use Rattle.pc_tie.specs.contracts.noted.NotedStep.{the_row}

pub send : IsSend the_row
send = record { owned = λ d vs x. (((λ a. (tt, ((λ b. (tt, tt)), tt))), tt), tt); leaving = λ k d w. tt }
