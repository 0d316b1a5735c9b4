-- Applying a file to a base, and what it leaves out.
use Rattle.std.specs.Prelude.{ℕ, max, not, Option, fold, drop, find}
use Rattle.pc_model.specs.Sets as set
use Rattle.pc_model.specs.Sets.{Set, number_order}
use Rattle.pc_model.specs.Points.{laid}
use Rattle.pc_model.specs.Files.{File, BaseFile, numbers_to}

-- the greatest of the points, or 0
abbrev pub greatest : Set number_order → ℕ
greatest points = fold max 0 (set.items points)

-- Gap(p): p is the smallest point above this one and up to the greatest of the points that isn't one of them
abbrev pub gap_above : ℕ → Set number_order → Option ℕ
gap_above point points = find (λ p. not (set.contains points p)) (drop point (numbers_to (greatest points)))

-- the base with the file applied to it, if there is no gap
abbrev pub laid_file : BaseFile → File → BaseFile
laid_file base file = record { run = base.run; point = max base.point (greatest file.points); pairs = laid base.pairs base.point file.triples }
