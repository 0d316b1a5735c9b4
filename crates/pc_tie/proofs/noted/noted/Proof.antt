-- It makes a value of no bytes, whose step is the call's.
use Rattle.std.proofs.Common.{[], ◌∷◌, refl}
use mir.Syntax.{named}
use mir.Val.{Val, vstruct, vcons, vnil}
use base.Fml.{Fml}
use types.Kit.{‵, raw, ◌⊛◌, ◌$◌, ◌∵◌, !, qed, move, keep, split, join, fjoin, use0, suffices, done}
use types.Run.{no_more, and_then, returns, enter}
use types.Part.{agg}
use types.ByLocal.{alloc_all, pass_all, free_all, look_at, get, sets}
use denote.RattleType.{owns}
use denote.Exit.{yes}
use denote.Ref.{shr_vals, shr_Tells}
use denote.Builtin.{RefOf}
use denote.Shadow.{makes_shadow}
use denote.Signature.{types_at, type_at, plain}
use denote.Steps.{nothing}
use denote.Triple.Entry.{alive}
use denote.Triple.Walked.{Stays, stay_dropped, Goes-dropped, walk_of, says, ends_at}
use Rattle.std.proofs.raw_atomic.Walks.{proved}
use Rattle.pc_types.specs.declared.Step.{Step}
use Rattle.pc_tie.specs.Noted.{step_in}
use Rattle.pc_tie.specs.contracts.noted.NotedCall.{the_row as called}
use Rattle.pc_tie.specs.contracts.noted.noted as contract
use Rattle.pc_tie.proofs.noted.noted.Statement.{statement}
use Rattle.pc_tie.proofs.noted.noted.Code as code

abbrev stayed : Stays contract.ended.signature.params contract.ended.kept
stayed = (stay_dropped (RefOf (0 ∷ []) tt (plain (λ _. called)) (λ _. tt)) yes, tt)

pub noted_spec : {M : Type 1} → statement M
noted_spec 𝓤 𝓛 𝓜 𝓡 wired =
    let ended = contract.ended in let clauses = contract.clauses 𝓛 𝓜.mem 𝓡.returns in
    proved 𝓛 ended stayed clauses 𝓜 𝓡 (Goes-dropped 𝓛 1 (RefOf (0 ∷ []) tt (plain (λ _. called)) (λ _. tt)) yes (λ κs x w. refl), tt)
    contract.Key.name code.function (code.unfolded 𝓤 𝓛.H 𝓜 𝓡 wired)
    (λ κs. (shr_vals, tt)) (λ κs. (shr_Tells (named 0) κs.0 called, tt)) (λ κs qs bounds args none are.
    let entry : (walk_of 𝓛 ended stayed clauses).Ghost = ((κs, qs, bounds, args, (shr_vals args.0, tt)), none) in
    let passed : Fml = owns (types_at ended.signature.params κs) args (shr_vals args.0, tt) in
    let bytes : Val = vstruct (vcons (vstruct vnil) vnil) in
    let step : Step = step_in args.0.now in
    let made : Fml = (type_at ended.signature.result κs).own_val step (bytes ∷ []) in
    -- [the tokens; what is passed], of which the tokens stay
    qed 𝓛 ((raw (alive 𝓛 ended.signature κs qs) ⊛ ‵ passed) ∷ raw ((clauses κs args).requires none) ∷ []) ∵ split ! $ keep ! (0 ∷ []) $
    enter ! _ _ _ _ _ $ alloc_all ! (λ l. pass_all ! refl ((tt, tt), tt) $
    sets ! (agg ! (no_more !)) refl (tt, tt) $
    sets ! (agg ! (and_then ! (get ! refl) (no_more !))) refl (tt, (tt, tt)) $
    returns ! (look_at ! 0 refl) $ free_all ! refl $
    -- [the step that is made; the tokens]
    use0 𝓛 (‵ made) (makes_shadow 𝓛 made (λ x. (((λ us. (tt, ((λ ws. (tt, tt)), tt))), tt), tt))
    ((record { marker = record {}; step = step }, (refl, tt)), ((((vstruct vnil ∷ [], tt), (refl, ((tt, (refl, tt)), tt))), tt), tt))) $
    suffices ! _ (ends_at 𝓛 ended stayed clauses entry bytes step (tt, tt) (tt, tt)) $ says ! refl $
    nothing ! $ nothing ! $ fjoin ! $ join ! $ move ! (1 ∷ 0 ∷ []) $ join ! $ done !))
