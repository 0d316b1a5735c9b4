-- The files of tickets, and the histories that they fit.
use Rattle.std.specs.Prelude.{◌≡◌, ◌<◌, ⊤, ℕ, List, All, Option, None, MatchOption, length, get_or}
use Rattle.pc_types.specs.declared.Refusal.{Refusal}
use Rattle.pc_types.specs.declared.Refusal.TheVariants as why
use Rattle.pc_model.specs.History.{History, log_of}
use Rattle.pc_model.specs.Files.{File, file_at, shelf}
use Rattle.pc_model.specs.Standing.{IsOfItsPoints}
use Rattle.pc_model.specs.Replies.{Setting, IsLegalHistory}
use Rattle.pc_model.specs.Calls.{IsBeginning}

-- the history begins with each of these
abbrev pub BeginsWith : History → List History → Type 0
BeginsWith history seen = All (λ h. IsBeginning h history) seen

-- in every legal history that begins with all of these the file is that of its points
abbrev pub IsFileWorth : Setting → List History → File → Type 0
IsFileWorth st seen file = (h : History) → IsLegalHistory st h → BeginsWith h seen → IsOfItsPoints st.run st.base (log_of h) file

-- each is unchanged, or has grown
abbrev pub HaveGrown : List History → List History → Type 0
HaveGrown old new = (length new ≡ length old) × ((k : ℕ) (d : History) → k < length old → IsBeginning (get_or old k d) (get_or new k d))

-- the history's shelf has no file of this number
abbrev pub HasNoFile : Setting → History → ℕ → Type 0
HasNoFile st history number = file_at (shelf st.run history) number ≡ None

-- why there is no ticket of the file of this number: the history's shelf has no such file; or an allocation failed
abbrev pub IsNoTicket : Setting → History → ℕ → Refusal → Type 0
IsNoTicket st history number why.NoFile = HasNoFile st history number
IsNoTicket st history number why.OutOfMemory = ⊤
IsNoTicket st history number other = ⊥

-- why two tickets aren't joined: the refusal that is due, or, if none is, a failed allocation
abbrev pub IsRefusedJoin : Option Refusal → Refusal → Type 0
IsRefusedJoin due given = MatchOption due (given ≡ why.OutOfMemory) (λ refusal. given ≡ refusal)
