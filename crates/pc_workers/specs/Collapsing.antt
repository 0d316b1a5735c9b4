-- The numbers that a collapser has claimed, and the tickets that it holds. The point after number 0 is point 1, which is the point
-- of file 1.
use Rattle.std.specs.Prelude.{◌≡◌, ◌⊎◌, ◌≤◌, ◌<◌, ℕ, suc, Bool, List, [], ◌∷◌, ◌++◌, All, map}
use Rattle.std.specs.List.{list_any}
use Rattle.pc_types.specs.declared.Refusal.{Refusal}
use Rattle.pc_types.specs.declared.Refusal.TheVariants.{OutOfMemory}
use Rattle.pc_model.specs.Files.{File}
use Rattle.pc_model.specs.History.{History}
use Rattle.pc_model.specs.Numbers.{is_one_of}
use Rattle.pc_model.specs.Replies.{Setting, IsLegalHistory}
use Rattle.pc_model.specs.Sets as set
use Rattle.pc_types.specs.declared.limits.TheConstants.{MOST_CLAIMS}
use Rattle.pc_board.specs.Calls.{greatest_of}
use Rattle.pc_board.specs.Passes.{Pass, claims_made}
use Rattle.pc_latch.specs.Tickets.{IsNoTicket}
use Rattle.pc_workers.specs.Boards.{HasClaimed}

-- one of the files has the point
abbrev pub has_point : List File → ℕ → Bool
has_point files point = list_any (λ (file : File). set.contains file.points point) files

-- the number is below points, and the pass has seen published the point after it or a greater one
abbrev pub HasSeenPublished : ℕ → Pass → ℕ → Type 0
HasSeenPublished points pass number = (number < points) × (number < greatest_of pass.seen)

-- the number isn't below points, or the pass has seen published neither the point after it nor a greater one
abbrev pub IsUnshown : ℕ → Pass → ℕ → Type 0
IsUnshown points pass number = (points ≤ number) ⊎ (greatest_of pass.seen ≤ number)

-- why no more files are taken: no number was claimed, since the pass has used up its claims; or one was that isn't shown
abbrev pub IsAtEnd : ℕ → Pass → List ℕ → Type 0
IsAtEnd points pass [] = claims_made pass ≡ MOST_CLAIMS
IsAtEnd points pass (number ∷ []) = IsUnshown points pass number
IsAtEnd points pass (number ∷ other ∷ more) = ⊥

-- The numbers that were claimed since are those taken, and the last one at the end. Those taken were shown, and the files have just
-- the points after them.
pub record HasCollapsed (points : ℕ) (before after : Pass) (files : List File) : Type 0 where
  pub taken : List ℕ
  pub last : List ℕ
  pub claims : HasClaimed before after (taken ++ last)
  pub shown : All (HasSeenPublished points after) taken
  pub holds : (point : ℕ) → has_point files point ≡ is_one_of point (map suc taken)
  pub ended : IsAtEnd points after last

-- All numbers that were claimed since were shown. Then an allocation failed, or there was no ticket of the last one's file in the
-- legal history that the collapser's witness has then seen.
pub record CollapserHasStopped (st : Setting) (points : ℕ) (seen : History) (before after : Pass) (why : Refusal) : Type 0 where
  pub numbers : List ℕ
  pub claims : HasClaimed before after numbers
  pub shown : All (HasSeenPublished points after) numbers
  pub cause : (why ≡ OutOfMemory) ⊎ ((earlier : List ℕ) × (last : ℕ) × (numbers ≡ earlier ++ last ∷ []) × IsLegalHistory st seen × IsNoTicket st seen (suc last) why)

-- a number was claimed since, and shown
abbrev pub HasShown : ℕ → Pass → Pass → ℕ → Type 0
HasShown points before after number = HasClaimed before after (number ∷ []) × HasSeenPublished points after number

-- at most one number was claimed since, and no more files are taken
abbrev pub HasEnded : ℕ → Pass → Pass → Type 0
HasEnded points before after = (last : List ℕ) × HasClaimed before after last × IsAtEnd points after last
