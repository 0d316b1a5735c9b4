use Rattle.std.proofs.Common.{◌≡◌, Bool, ℕ, true, false, cond, refl, sym, ap, ◌∙◌, Ok, Err, Result}
use Rattle.pc_types.specs.declared.refusal.Refusal.{Refusal}
use Rattle.pc_types.specs.declared.refusal.Refusal.TheVariants.{Conflict}
use Rattle.pc_part.proofs.JoinedLists.{count_one, stops, ends}
use Rattle.pc_part.proofs.joining.joined_len.Goals as goal

abbrev counted : ℕ → Result ℕ Refusal
counted n = Ok n

abbrev clashed : Result ℕ Refusal
clashed = Err Conflict

refuses : (b : Bool) (n : ℕ) → b ≡ false → clashed ≡ cond b (counted n) clashed
refuses true n e = cc
refuses false n e = refl

gives : (b : Bool) (m n : ℕ) → b ≡ true → m ≡ n → counted m ≡ cond b (counted n) clashed
gives true m n e is = ap counted is
gives false m n e is = cc

pub returns-then-clashes : goal.returns-then-clashes
returns-then-clashes c =
    refuses _ _ (stops c.args.a.now c.args.b.now c.loop-side.first c.loop-side.second c.loop-side.len c.loop-side.invariant c.in-Some.side (sym c.side_of.ensures ∙ c.in-Some.is) (sym c.clashes.ensures ∙ c.if-clashes.true))

pub loop-side-preserved : goal.loop-side-preserved
loop-side-preserved c =
    count_one c.args.a.now c.args.b.now c.loop-side.first c.loop-side.second c.loop-side.len c.loop-side.invariant c.in-Some.side (sym c.side_of.ensures ∙ c.in-Some.is) c.go_on.new.first c.go_on.new.second (sym c.clashes.ensures ∙ c.if-clashes.false) c.go_on.ensures.first c.go_on.ensures.second

pub returns : goal.returns
returns c =
    let all = ends c.args.a.now c.args.b.now c.loop-side.first c.loop-side.second c.loop-side.len c.loop-side.invariant (sym c.side_of.ensures ∙ c.in_default.is) in
    gives _ _ _ all.0 all.1
