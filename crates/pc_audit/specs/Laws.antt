-- The laws of files that a history gives their points.
use Rattle.pc_model.specs.Files.{File}
use Rattle.pc_model.specs.History.{History, log_of}
use Rattle.pc_model.specs.Replies.{Setting, IsLegalHistory}
use Rattle.pc_model.specs.Standing.{IsOfItsPoints}
use Rattle.pc_audit.specs.Checks.{IsFileRight}

-- A file that a legal history gives its points is correct by the log of that history.
abbrev pub FilesOfTheirPointsAreRight : Type 0
FilesOfTheirPointsAreRight = (st : Setting) (history : History) (file : File) → IsLegalHistory st history → IsOfItsPoints st.run st.base (log_of history) file → IsFileRight st.base (log_of history) file
