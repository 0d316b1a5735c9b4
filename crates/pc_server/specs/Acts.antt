-- The acts of a process that serves, and its answers.
use Rattle.std.specs.Prelude.{◌≡◌, ◌+◌, ◌-◌, ◌^◌, min, ℕ, Bool, true, false, List, [], ◌∷◌, ◌++◌, codes, decimal, length}
use Rattle.pc_types.specs.declared.Entry.{Entry}
use Rattle.pc_types.specs.declared.Entry.TheVariants.{Commit, Token}
use Rattle.pc_types.specs.declared.Step.{Step}
use Rattle.pc_model.specs.Files.{shelf}
use Rattle.pc_model.specs.History.{History, contents, log_of}
use Rattle.pc_model.specs.Log.{after}
use Rattle.pc_model.specs.Maps.{len}
use Rattle.pc_model.specs.Replies.{Setting, IsLegal}
use Rattle.pc_engine.specs.Store.{Store}
use Rattle.pc_log.specs.Texts.{log_text}
use Rattle.pc_serving.specs.OpenSessions.{open_after}
use Rattle.pc_serving.specs.Points.{is_checkpoint}
use Rattle.pc_serving.specs.Requests.{request_of}
use Rattle.pc_serving.specs.Serving.{AnswersServed}
use Rattle.pc_serving.specs.declared.request.Request.{Request}
use Rattle.pc_serving.specs.declared.request.Request.TheVariants as request

-- what it does: a line is answered by a text, or the checkpointer takes a step between two lines
pub data Act : Type 0 where
  Answered : List ℕ → List ℕ → Act
  WentOn : Step → Act

-- it asks for the end
abbrev pub is_quit : Request → Bool
is_quit request.Quit = true
is_quit other = false

-- the line with the number of the run
abbrev pub run_line : ℕ → List ℕ
run_line run = codes "run " ++ (decimal run ++ codes "\n")

-- it is the entry of a commit
abbrev pub is_commit : Entry → Bool
is_commit (Commit session writes) = true
is_commit (Token phase point) = false

-- how many of the entries are commits
abbrev pub commits_in : List Entry → ℕ
commits_in [] = 0
commits_in (Commit session writes ∷ log) = commits_in log + 1
commits_in (Token phase point ∷ log) = commits_in log

-- how many bytes the log's text has, or the greatest number of 64 bits, if it has more
abbrev pub log_size : ℕ → List Entry → ℕ
log_size run log = min (length (log_text run log)) (2 ^ 64 - 1)

-- how many pairs are committed in the store: as many as its log replayed on its base gives
abbrev pub committed_in : Store → ℕ
committed_in world = len (after world.base.pairs world.log)

-- the line of these numbers of entries, commits, files of points, sessions with an open transaction, bytes, and pairs
abbrev pub stats_line : ℕ → ℕ → ℕ → ℕ → ℕ → ℕ → List ℕ
stats_line entries commits points open_sessions bytes pairs =
    codes "entries=" ++ (decimal entries ++ (codes " commits=" ++ (decimal commits ++ (codes " points=" ++ (decimal points ++ (codes " open=" ++ (decimal open_sessions ++ (codes " bytes=" ++ (decimal bytes ++ (codes " pairs=" ++ (decimal pairs ++ codes "\n")))))))))))

-- the line with the counts so far
abbrev pub stats_of : Setting → History → List ℕ
stats_of st history = stats_line (length (log_of history)) (commits_in (log_of history)) (length (shelf st.run history)) (open_after st history) (log_size st.run (log_of history)) (len (contents st.base history))

-- what a request may be answered, and the history then; the end is answered by nothing
abbrev pub AnswersRequest : Setting → History → Request → List ℕ → History → Type 0
AnswersRequest st before (request.Line line) text after = AnswersServed st before line text after
AnswersRequest st before request.Run text after = (text ≡ run_line st.run) × (after ≡ before)
AnswersRequest st before request.Stats text after = (text ≡ stats_of st before) × (after ≡ before)
AnswersRequest st before request.Quit text after = (text ≡ []) × (after ≡ before)

-- the acts, of which the last comes first, lead from the one history to the other
abbrev pub Lead : Setting → History → List Act → History → Type 0
Lead st before [] after = after ≡ before
Lead st before (Answered line text ∷ acts) after = (between : History) × Lead st before acts between × AnswersRequest st between (request_of line) text after
Lead st before (WentOn step ∷ acts) after =
    (between : History) × Lead st before acts between × (is_checkpoint step.event ≡ true) × IsLegal st between step.event step.reply × (after ≡ step ∷ between)

-- the lines that were answered, in order
abbrev pub lines_of : List Act → List (List ℕ)
lines_of [] = []
lines_of (Answered line text ∷ acts) = lines_of acts ++ line ∷ []
lines_of (WentOn step ∷ acts) = lines_of acts

-- the texts of their answers, in order
abbrev pub answers_of : List Act → List ℕ
answers_of [] = []
answers_of (Answered line text ∷ acts) = answers_of acts ++ text
answers_of (WentOn step ∷ acts) = answers_of acts
