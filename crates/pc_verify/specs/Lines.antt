-- The output of `pcalc verify` for a file.
use Rattle.std.specs.Prelude.{ℕ, List, ◌++◌, codes, decimal}
use Rattle.pc_types.specs.Names.{refusal_name}
use Rattle.pc_io.specs.declared.Format.{Format}
use Rattle.pc_io.specs.declared.Format.TheVariants.{First, Second}
use Rattle.pc_types.specs.declared.refusal.Refusal.{Refusal}
use Rattle.pc_texts.specs.Texts.{joined_line, printed_name}
use Rattle.pc_verify.specs.declared.findings.Finding.{Finding}
use Rattle.pc_verify.specs.declared.findings.Finding.TheVariants as found
use Rattle.pc_verify.specs.declared.findings.Head.{Head}

-- the two digits of a format
abbrev pub format_digits : Format → List ℕ
format_digits First = codes "01"
format_digits Second = codes "02"

-- that a text is whole, its format and its run
abbrev pub head_words : Head → List ℕ
head_words head = codes " ok " ++ (format_digits head.format ++ (codes " run " ++ (decimal head.run ++ codes " ")))

-- the point of a base, and how many pairs it has
abbrev pub base_words : ℕ → ℕ → List ℕ
base_words point pairs = codes "point " ++ (decimal point ++ (codes " pairs " ++ (decimal pairs ++ codes "\n")))

-- how many entries a log has
abbrev pub log_words : ℕ → List ℕ
log_words entries = codes "entries " ++ (decimal entries ++ codes "\n")

-- a fault, and its byte
abbrev pub fault_words : Refusal → ℕ → List ℕ
fault_words why byte = codes " " ++ (refusal_name why ++ (codes " byte " ++ (decimal byte ++ codes "\n")))

-- why a file can't be read
abbrev pub unread_words : Refusal → List ℕ
unread_words why = codes " " ++ (refusal_name why ++ codes "\n")

-- what follows a file's name
abbrev pub finding_words : Finding → List ℕ
finding_words (found.Base head point pairs) = head_words head ++ base_words point pairs
finding_words (found.Part head points entries) = head_words head ++ joined_line points entries
finding_words (found.Log head entries) = head_words head ++ log_words entries
finding_words (found.Fault why byte) = fault_words why byte
finding_words (found.Unread why) = unread_words why

-- the line of a file of this name
abbrev pub finding_line : List ℕ → Finding → List ℕ
finding_line name finding = printed_name name ++ finding_words finding
