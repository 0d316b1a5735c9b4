-- The order of a log's tokens: five for each point, from its prepare to its rest, and the points in order from 1 up to
-- 65,535.
use Rattle.std.specs.Prelude.{◌≡◌, ℕ, ◌==◌, Bool, ◌&&◌, nat_le, List, [], ◌∷◌, ⊤}
use Rattle.pc_types.specs.declared.Entry.{Entry}
use Rattle.pc_types.specs.declared.Entry.TheVariants.{Commit, Token}
use Rattle.pc_types.specs.declared.Phase.{Phase}
use Rattle.pc_types.specs.declared.Phase.TheVariants.{Rest}
use Rattle.pc_types.specs.Phases.{same_phase, next_phase, next_point}
use Rattle.pc_types.specs.declared.limits.TheConstants.{MOST_POINTS}
use Rattle.pc_log.specs.declared.order.LastToken.{LastToken}

-- from this phase and point on, each token is the next one
abbrev pub FollowFrom : Phase → ℕ → List Entry → Type 0
FollowFrom last n [] = ⊤
FollowFrom last n (Commit session writes ∷ entries) = FollowFrom last n entries
FollowFrom last n (Token phase point ∷ entries) = (phase ≡ next_phase last) × (point ≡ next_point last n) × FollowFrom phase point entries

-- the tokens keep their order
abbrev pub InOrder : List Entry → Type 0
InOrder entries = FollowFrom Rest 0 entries

-- whether a token of this phase and point comes next after the last one
abbrev pub comes_next : LastToken → Phase → ℕ → Bool
comes_next last phase point = same_phase phase (next_phase last.phase) && (point == next_point last.phase last.point) && nat_le point MOST_POINTS

-- the last token after one more entry
abbrev pub token_after : LastToken → Entry → LastToken
token_after last (Commit session writes) = last
token_after last (Token phase point) = record { phase = phase; point = point }

-- before the first token
abbrev pub no_token : LastToken
no_token = record { phase = Rest; point = 0 }
