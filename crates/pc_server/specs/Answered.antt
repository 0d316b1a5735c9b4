-- The recovery of a process that served: nothing that was answered is lost.
use Rattle.std.specs.Prelude.{◌≡◌, ◌≤◌, ◌<◌, ◌+◌, ◌^◌, ℕ, List, [], ◌∷◌, ◌++◌, codes, length, take, Option, Some, All, ◌⊎◌, MatchResult}
use Rattle.pc_io.specs.Counted.{AppendsBeginning}
use Rattle.pc_types.specs.declared.Entry.{Entry}
use Rattle.pc_types.specs.declared.Entry.TheVariants.{Commit}
use Rattle.pc_types.specs.declared.Reply.TheVariants as told
use Rattle.pc_types.specs.declared.Write.{Write}
use Rattle.pc_types.specs.declared.refusal.Refusal.TheVariants.{Full}
use Rattle.pc_model.specs.History.{History, log_of}
use Rattle.pc_model.specs.Log.{after}
use Rattle.pc_model.specs.Replies.{Setting}
use Rattle.pc_recover.specs.Recovery.{Recovery, recovery}
use Rattle.pc_bases.specs.Lawful.{IsBaseFile, IsBaseText}
use Rattle.pc_recover.specs.Runs.{IsForeign, start_of}
use Rattle.pc_texts.specs.Texts.{reply_text}
use Rattle.pc_turn.specs.Devices.{Grows}
use Rattle.pc_server.specs.Acts.{Act, Lead, answers_of, lines_of}
use Rattle.pc_server.specs.Inputs.{AreFirstLines}

-- the line of the commit with this number
abbrev pub committed_line : ℕ → List ℕ
committed_line number = reply_text (told.Committed number) ++ codes "\n"

-- that line went out whole: after the answers of some first acts the bytes that were sent go on with it
abbrev pub IsCommitAnswered : List Act → List ℕ → ℕ → Type 0
IsCommitAnswered acts sent number = (later earlier : List Act) × (rest : List ℕ) × (acts ≡ later ++ earlier) × (sent ≡ answers_of earlier ++ (committed_line number ++ rest))

-- the log's entry of this number, from 1 on, is a commit
abbrev pub IsCommitEntry : List Entry → ℕ → Type 0
IsCommitEntry log number = (before later : List Entry) × (session : ℕ) × (writes : List Write) × (log ≡ before ++ Commit session writes ∷ later) × (number ≡ length before + 1)

-- Recovered is the database after the first entries of the log. Each number that was answered is that of a commit, and this is among
-- those entries, but for the last ones, as many as the lag.
pub record KeepsAnswered (st : Setting) (lag : ℕ) (acts : List Act) (sent : List ℕ) (log : List Entry) (found : Recovery) : Type 0 where
  pub first : ℕ
  pub pairs : found.pairs ≡ after st.base (take first log)
  pub answered : (number : ℕ) → number < 2 ^ 64 → IsCommitAnswered acts sent number → IsCommitEntry log number × (number ≤ first + lag)

-- The files that came back: a text of the base, texts that the points' files have, or none of the run, and of the log all that was kept,
-- and no more than was written.
pub record CameBackServed (st : Setting) (holds : ℕ → List ℕ → Type 0) (written kept : Option (List ℕ)) (base : List ℕ) (parts : List (List ℕ)) (log : List ℕ) : Type 0 where
  pub base_is : IsBaseText base (start_of st)
  pub base_fits : IsBaseFile (start_of st)
  pub parts_are : All (λ bytes. ((point : ℕ) × holds point bytes) ⊎ IsForeign st.run bytes) parts
  pub all_kept : Grows kept (Some log)
  pub as_written : Grows (Some log) written

-- There is a history that answers some first lines of the input; of its answers a prefix was sent, and nothing else; and whatever came
-- back, recovery gives each commit that was answered, but for the last entries of the log, as many as the lag.
abbrev pub LosesNoAnswer : (ℕ → List ℕ → Type 0) → Option (List ℕ) → Option (List ℕ) → List ℕ → Option (List ℕ) → Setting → ℕ → Type 0
LosesNoAnswer holds written kept sent input st lag =
    (gone turn : List Act) × (at history : History) × Lead st [] gone at × Lead st at turn history
    × ((rest : List (List ℕ)) × AreFirstLines input (lines_of (turn ++ gone) ++ rest))
    × AppendsBeginning (Some []) (Some sent) (answers_of gone)
    × ((base : List ℕ) (parts : List (List ℕ)) (log : List ℕ) → CameBackServed st holds written kept base parts log
    → MatchResult (recovery base parts log) (KeepsAnswered st lag gone sent (log_of history)) (λ refusal. refusal ≡ Full))
