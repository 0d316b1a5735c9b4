use Rattle.std.proofs.Common.{refl, sym, ◌∙◌}
use Rattle.pc_log.proofs.TurnLaws.{entry_shorter, is_empty}
use Rattle.pc_restore.proofs.TokenSearch.{found_here, search_ends, search_goes_on, search_stops, stopped_finds}
use Rattle.pc_restore.proofs.lacks.has_token_in.Goals as goal

pub loop-rest-init : goal.loop-rest-init
loop-rest-init c = rw c.none-last.ensures refl

pub loop-rest-smaller : goal.loop-rest-smaller
loop-rest-smaller c = entry_shorter c.args.format c.loop-rest.last c.loop-rest.rest.now c.in-Ok.entry c.in-Ok.after.now c.in-Ok.ensures

pub loop-rest-smaller-else-is_token_of : goal.loop-rest-smaller-else-is_token_of
loop-rest-smaller-else-is_token_of c = entry_shorter c.args.format c.loop-rest.last c.loop-rest.rest.now c.in-Ok.entry c.in-Ok.after.now c.in-Ok.ensures

pub loop-rest-preserved : goal.loop-rest-preserved
loop-rest-preserved c = rw c.after-last.ensures (sym (search_goes_on c.args.format c.args.point c.loop-rest.last c.loop-rest.rest.now c.in-Ok.entry c.in-Ok.after.now c.in-Ok.ensures (sym c.is_token_of.ensures ∙ c.if-is_token_of.false)) ∙ c.loop-rest.invariant)

pub loop-rest-preserved-else-is_token_of : goal.loop-rest-preserved-else-is_token_of
loop-rest-preserved-else-is_token_of c = rw c.after-last.ensures (sym (search_goes_on c.args.format c.args.point c.loop-rest.last c.loop-rest.rest.now c.in-Ok.entry c.in-Ok.after.now c.in-Ok.ensures (sym c.is_token_of.ensures ∙ c.if-is_token_of.false)) ∙ c.loop-rest.invariant)

pub returns-then-is_token_of : goal.returns-then-is_token_of
returns-then-is_token_of c = sym (found_here c.args.format c.args.point c.loop-rest.last c.loop-rest.rest.now c.in-Ok.entry c.in-Ok.after.now c.in-Ok.ensures (sym c.is_token_of.ensures ∙ c.if-is_token_of.true)) ∙ c.loop-rest.invariant

pub returns-in-Err : goal.returns-in-Err
returns-in-Err c = stopped_finds c.stopped.result c.in-Err.fault _ c.stopped.ensures.read c.stopped.ensures.memory (λ other. sym c.loop-rest.invariant ∙ search_stops c.args.format c.args.point c.loop-rest.last c.loop-rest.rest.now c.in-Err.fault (c.in-Err.ensures other))

pub returns : goal.returns
returns c = sym (search_ends c.args.format c.args.point c.loop-rest.last c.loop-rest.rest.now (is_empty c.is_empty.result c.loop-rest.rest.now c.is_empty.ensures c.loop-rest-test.false)) ∙ c.loop-rest.invariant
