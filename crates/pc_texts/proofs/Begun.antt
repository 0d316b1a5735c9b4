-- What went out in part, and what a flush leaves as it is.
use Rattle.std.proofs.Common.{ℕ, List, Option, Some, None, length, ◌∙◌, arith}
use Rattle.std.specs.Io.KnownBytes.{Appends, Keeps}
use Rattle.std.proofs.lemmas.List.{take_all}
use Rattle.pc_io.specs.Counted.{AppendsBeginning}

-- what went out stays out at a flush
pub appends_kept : (a b c : Option (List ℕ)) (x : List ℕ) → Appends a b x → Keeps b c → Appends a c x
appends_kept None b c x out kept = tt
appends_kept (Some a) None c x out kept = absurd out
appends_kept (Some a) (Some b) None x out kept = absurd kept
appends_kept (Some a) (Some b) (Some c) x out kept = kept ∙ out

-- so does a prefix
pub begins_kept : (a b c : Option (List ℕ)) (x : List ℕ) → AppendsBeginning a b x → Keeps b c → AppendsBeginning a c x
begins_kept None b c x out kept = tt
begins_kept (Some a) None c x out kept = absurd out
begins_kept (Some a) (Some b) None x out kept = absurd kept
begins_kept (Some a) (Some b) (Some c) x out kept = (out.0, out.1, kept ∙ out.2)

-- a text that went out whole is a prefix of itself
pub whole_begins : (a b : Option (List ℕ)) (x : List ℕ) → Appends a b x → AppendsBeginning a b x
whole_begins None b x p = tt
whole_begins (Some a) None x p = absurd p
whole_begins (Some a) (Some b) x p = (length x, omega arith, rw (take_all (length x) x (omega arith)) p)
