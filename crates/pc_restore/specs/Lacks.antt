-- The gaps of a recovery, and whether its folder is whole or damaged.
use Rattle.std.specs.Prelude.{ℕ, ◌==◌, slice_get, Bool, true, false, not, ◌&&◌, ◌||◌, is_some, if◌then◌else◌, List, [], length, Option, Some, None, Result, Ok, Err}
use Rattle.std.specs.List.{list_all}
use Rattle.pc_types.specs.declared.Entry.{Entry}
use Rattle.pc_types.specs.declared.refusal.Refusal.{Refusal}
use Rattle.pc_model.specs.Log.{has_token}
use Rattle.pc_log.specs.Reading.{LogRead, log_at}
use Rattle.pc_recover.specs.declared.recovered.Skipped.{Skipped}
use Rattle.pc_recover.specs.Recovery.{Recovery}
use Rattle.pc_restore.specs.declared.lacks.Lacks.{Lacks}
use Rattle.pc_restore.specs.declared.lacks.LogHeader.{LogHeader}
use Rattle.pc_restore.specs.declared.lacks.LogHeader.TheVariants.{Missing, Cut, Whole}
use Rattle.pc_restore.specs.Reports.{is_cut}

-- ---- the state of the log

-- the state of the log's header, if the log is there or not, and this is read of its bytes
abbrev pub log_header_state : Bool → Result LogRead Refusal → LogHeader
log_header_state false read = Missing
log_header_state true (Err why) = Cut
log_header_state true (Ok log) = Whole

-- the whole entries that are read of a log's bytes
abbrev pub entries_read : Result LogRead Refusal → List Entry
entries_read (Err why) = []
entries_read (Ok log) = log.entries

-- the count of a log's entries, if none of them is used: the recovered point isn't 0, and its token isn't one of them
abbrev pub unused_of : ℕ → ℕ → List Entry → Option ℕ
unused_of point count entries = if point == 0 then None else if has_token point entries then None else Some count

-- ---- the state of the parts

-- there is a text, and it has no bytes
abbrev pub is_empty_text : Option (List ℕ) → Bool
is_empty_text (Some []) = true
is_empty_text other = false

-- each of the parts that were skipped has no bytes
abbrev pub are_empty : List (List ℕ) → List Skipped → Bool
are_empty parts skipped = list_all (λ (one : Skipped). is_empty_text (slice_get parts one.place)) skipped

-- ---- all of them

-- the gaps of a recovery with this result, if the log is there or not, and the parts and the log have these bytes
abbrev pub lacks_of : Bool → List (List ℕ) → List ℕ → Recovery → Lacks
lacks_of is_there parts log found = record {
  header = log_header_state is_there (log_at log);
  fault = found.fault;
  unused = unused_of found.point found.entries (entries_read (log_at log));
  skipped = length found.skipped;
  are_empty = are_empty parts found.skipped;
}

-- ---- the size of the gaps

-- the header is whole
abbrev pub is_header_whole : LogHeader → Bool
is_header_whole Whole = true
is_header_whole other = false

-- a log's rest has a fault, and was not only truncated
abbrev pub is_rest_faulty : Option Refusal → Bool
is_rest_faulty None = false
is_rest_faulty (Some fault) = not (is_cut fault)

-- nothing is lacking: the log has its header, its rest has no fault, it reaches the recovered point's token, and no part was skipped
abbrev pub is_whole : Lacks → Bool
is_whole lacks = is_header_whole lacks.header && not (is_some lacks.fault) && not (is_some lacks.unused) && (lacks.skipped == 0)

-- A part was skipped that the log doesn't make up for. It does so for parts without bytes, as a file system leaves files whose bytes have
-- not reached its disk, if it reaches back to the token of the recovered point: then it has each commit after that.
abbrev pub lacks_parts : Lacks → Bool
lacks_parts lacks = not (lacks.skipped == 0) && not (lacks.are_empty && not (is_some lacks.unused))

-- More is lacking than a process leaves out that was killed, or whose machine has stopped: the log has no whole header, its rest was
-- not only truncated, or a part was skipped that the log doesn't make up for. A killed process leaves a log that is truncated, maybe
-- before the token of a point whose file is there.
abbrev pub is_damaged : Lacks → Bool
is_damaged lacks = not (is_header_whole lacks.header) || is_rest_faulty lacks.fault || lacks_parts lacks

-- ---- the consequences

-- the status of a recovery: 1 if not all went out; otherwise 0, or 4 if it is strict and has gaps
abbrev pub recovery_status : Bool → Option Lacks → ℕ
recovery_status is_strict None = 1
recovery_status is_strict (Some lacks) = if is_strict && not (is_whole lacks) then 4 else 0

-- a run doesn't start from a folder with these gaps
abbrev pub refuses : Bool → Lacks → Bool
refuses accepts_damage lacks = not accepts_damage && is_damaged lacks
