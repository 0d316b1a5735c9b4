-- The finding about a text that is expected to be a base, a part or a log.
use Rattle.std.specs.Prelude.{◌≡◌, ℕ, ◌-◌, ◌==◌, Bool, true, false, List, length, Option, Some, None, Ok, if◌then◌else◌, slice_get, codes}
use Rattle.std.specs.List.{ends_with}
use Rattle.pc_io.specs.declared.Format.{Format}
use Rattle.pc_io.specs.declared.Format.TheVariants.{First, Second}
use Rattle.pc_model.specs.Files.{BaseFile, File}
use Rattle.pc_model.specs.Maps as map_of
use Rattle.pc_model.specs.Sets as set
use Rattle.pc_part.specs.Reading.{part_at}
use Rattle.pc_bases.specs.Reading.{base_at}
use Rattle.pc_log.specs.Reading.{LogRead, log_at}
use Rattle.pc_faults.specs.Faults.{IsFaultOf}
use Rattle.pc_faults.specs.declared.texts.TextKind.TheVariants as text
use Rattle.pc_log_lines.specs.Lines.{rest_of_log}
use Rattle.pc_verify.specs.declared.findings.FileKind.{FileKind}
use Rattle.pc_verify.specs.declared.findings.FileKind.TheVariants as kind
use Rattle.pc_verify.specs.declared.findings.Finding.{Finding}
use Rattle.pc_verify.specs.declared.findings.Finding.TheVariants as found
use Rattle.pc_verify.specs.declared.findings.Head.{Head}

-- the kind of a file by the end of its name
abbrev pub kind_of : List ℕ → FileKind
kind_of name = if ends_with (λ a b. a == b) name (codes ".pcb") then kind.Base else (if ends_with (λ a b. a == b) name (codes ".pcl") then kind.Log else kind.Part)

-- the format by the last byte of a magic, which ends in 01 or 02
abbrev pub format_by : Option ℕ → Format
format_by None = Second
format_by (Some byte) = if byte == 49 then First else Second

-- that of a text
abbrev pub format_of : List ℕ → Format
format_of bytes = format_by (slice_get bytes 7)

-- the format and the run of a text
abbrev pub head_of : List ℕ → ℕ → Head
head_of bytes run = record { format = format_of bytes; run = run }

-- The finding about bytes: of a text of their kind its format, its run and its counts; otherwise the fault, with the byte with which
-- it is seen, or of a log with which begins what has it.
abbrev pub IsFinding : FileKind → List ℕ → Finding → Type 0
IsFinding kind.Base bytes (found.Base head point pairs) = (base : BaseFile) × (base_at bytes ≡ Ok base) × (head ≡ head_of bytes base.run) × (point ≡ base.point) × (pairs ≡ map_of.len base.pairs)
IsFinding kind.Base bytes (found.Fault why byte) = IsFaultOf text.Base bytes byte why
IsFinding kind.Part bytes (found.Part head points entries) = (file : File) × (part_at bytes ≡ Ok file) × (head ≡ head_of bytes file.run) × (points ≡ set.items file.points) × (entries ≡ map_of.len file.triples)
IsFinding kind.Part bytes (found.Fault why byte) = IsFaultOf text.Part bytes byte why
IsFinding kind.Log bytes (found.Log head entries) = (log : LogRead) × (log_at bytes ≡ Ok log) × (log.fault ≡ None) × (head ≡ head_of bytes log.run) × (entries ≡ length log.entries)
IsFinding kind.Log bytes (found.Fault why byte) = ((rest_of_log (length bytes) (log_at bytes)).fault ≡ Some why) × (byte ≡ length bytes - ((rest_of_log (length bytes) (log_at bytes)).bytes - 1))
IsFinding kind bytes other = ⊥

-- whether it is about bytes that were read
abbrev pub is_of_text : Finding → Bool
is_of_text (found.Unread why) = false
is_of_text other = true

-- whether it is a whole text
abbrev pub is_sound : Finding → Bool
is_sound (found.Fault why byte) = false
is_sound (found.Unread why) = false
is_sound other = true
