-- Which points some files have.
use Rattle.std.specs.Prelude.{ℕ, ◌≤◌, List, IsTrue}
use Rattle.pc_model.specs.Files.{File}
use Rattle.pc_workers.specs.Collapsing.{has_point}

-- each of the points from 1 to this is one that some of the files has
abbrev pub HaveAllTo : ℕ → List File → Type 0
HaveAllTo points files = (point : ℕ) → 1 ≤ point → point ≤ points → IsTrue (has_point files point)

-- each point that some of the files has is one of those from 1 to this
abbrev pub HaveOnlyTo : ℕ → List File → Type 0
HaveOnlyTo points files = (point : ℕ) → IsTrue (has_point files point) → (1 ≤ point) × (point ≤ points)

-- the files have just the points from 1 to this
abbrev pub HaveJustTo : ℕ → List File → Type 0
HaveJustTo points files = HaveAllTo points files × HaveOnlyTo points files
