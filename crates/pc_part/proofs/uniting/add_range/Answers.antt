use Rattle.std.proofs.Common.{◌++◌, option_to_list, ap, sym, ◌∙◌}
use Rattle.pc_part.proofs.RangeUnions.{widens, stands_behind}
use Rattle.pc_part.proofs.uniting.add_range.Goals as goal

pub returns-in_ok-push-2 : goal.returns-in_ok-push-2
returns-in_ok-push-2 c =
    widens _ c.pop.new.self.items _ c.in-Some.last c.args.range (c.pop.ensures.items ∙ ap (λ o. c.pop.new.self.items ++ option_to_list o) c.in-Some.is)
    c.widened.result (sym c.meets.ensures ∙ c.if-meets.true) c.widened.ensures.low c.widened.ensures.high c.in_ok-push-2.ensures.items

pub returns-in_ok-push-4 : goal.returns-in_ok-push-4
returns-in_ok-push-4 c =
    stands_behind _ c.pop.new.self.items _ c.in-Some.last c.args.range (c.pop.ensures.items ∙ ap (λ o. c.pop.new.self.items ++ option_to_list o) c.in-Some.is)
    c.push-else-meets.new.self.items (sym c.meets.ensures ∙ c.if-meets.false) c.in_ok-push-3.ensures.items c.in_ok-push-4.ensures.items
