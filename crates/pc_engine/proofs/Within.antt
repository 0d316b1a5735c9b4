-- That a world stays within its limits.
use Rattle.std.proofs.Common.{◌≡◌, ℕ, ◌+◌, ◌<◌, ◌≤◌, List, [], ◌∷◌, ◌++◌, length, Option, sym, ap, subst, arith}
use Rattle.std.specs.Prelude.{All}
use Rattle.std.proofs.lemmas.List.{length-append}
use Rattle.std.proofs.lemmas.List.Elements.{All-push}
use Rattle.pc_types.specs.declared.Entry.{Entry}
use Rattle.pc_types.specs.declared.Entry.TheVariants.{Commit, Token}
use Rattle.pc_types.specs.declared.Phase.{Phase}
use Rattle.pc_types.specs.declared.Write.{Write}
use Rattle.pc_model.specs.Files.{File}
use Rattle.pc_model.specs.FewWrites.{HasFewWrites}
use Rattle.pc_engine.specs.Limits.{IsWithinLimits}

-- a token is logged, which has no writes
pub token_logged : (log now : List Entry) (phase : Phase) (point : ℕ) → All HasFewWrites log → now ≡ log ++ Token phase point ∷ [] → All HasFewWrites now
token_logged log now phase point all is = subst (λ l. All HasFewWrites l) (sym is) (All-push HasFewWrites log (Token phase point) all tt)

-- a new world is within its limits
pub first_within : (log : List Entry) (open_keys closed : List (List ℕ)) (taken : List (List ℕ × Option (List ℕ))) (shelf : List File) → log ≡ [] → open_keys ≡ [] → closed ≡ [] → taken ≡ [] → shelf ≡ [] → IsWithinLimits log open_keys closed taken shelf
first_within log open_keys closed taken shelf a b c d e = rw (a, b, c, d, e) (record { most_logged = none_logged; most_open = omega arith; most_closed = omega arith; most_files = omega arith })
  where
    none_logged : All HasFewWrites []
    none_logged = λ k d below. absurd (omega (arith, below))

module _ (log : List Entry) (open_keys closed : List (List ℕ)) (taken : List (List ℕ × Option (List ℕ))) (shelf : List File) (limits : IsWithinLimits log open_keys closed taken shelf) where
  -- a commit is logged, and its keys are in the open set
  pub committed_within : (s : ℕ) (ws : List Write) (keys : List (List ℕ)) (now : List Entry) → length ws ≤ 256 → length keys ≤ 256 → now ≡ log ++ Commit s ws ∷ [] → IsWithinLimits now (open_keys ++ keys) closed taken shelf
  committed_within s ws keys now fits few is =
      let one : length (log ++ Commit s ws ∷ []) ≡ length log + 1 = length-append log (Commit s ws ∷ []) in
      let all : length (open_keys ++ keys) ≡ length open_keys + length keys = length-append open_keys keys in
      rw is (record { most_logged = All-push HasFewWrites log (Commit s ws) limits.most_logged fits; most_open = omega (arith, one, all, few, limits.most_open); most_closed = limits.most_closed; most_files = limits.most_files })

  -- the first key of the closed set is taken
  pub taken_within : (key : List ℕ) (keys : List (List ℕ)) (all : List (List ℕ × Option (List ℕ))) → closed ≡ key ∷ keys → length all ≤ length taken + 1 → IsWithinLimits log open_keys keys all shelf
  taken_within key keys all first one = record {
    most_logged = limits.most_logged;
    most_open = limits.most_open;
    most_closed = omega (arith, one, ap (λ (ks : List (List ℕ)). length ks) first, limits.most_closed);
    most_files = limits.most_files;
  }

  -- the open set is closed, and nothing was taken yet
  pub sealed_within : (to : Phase) (n : ℕ) (now : List Entry) (all : List (List ℕ × Option (List ℕ))) → length log < 16777216 → now ≡ log ++ Token to n ∷ [] → all ≡ [] → IsWithinLimits now [] open_keys all shelf
  sealed_within to n now all room is none =
      rw none (record { most_logged = token_logged log now to n limits.most_logged is; most_open = omega arith; most_closed = omega (arith, room, limits.most_open); most_files = limits.most_files })
