-- How base files are stored.
use Rattle.std.specs.Prelude.{ℕ}
use Rattle.std.specs.Coded.{Coded, code_by, coded×, coded_ℕ}
use Rattle.pc_model.specs.Database.{Database, database_code}
use Rattle.pc_model.specs.Files.{BaseFile}
use mathlib.Core.Path.{refl}

-- a base is stored as its run, its point and its pairs
abbrev pub base_code : Coded BaseFile
base_code = code_by (ℕ × (ℕ × Database)) (coded× coded_ℕ (coded× coded_ℕ database_code)) (λ b. (b.run, (b.point, b.pairs))) (λ t. record { run = t.0; point = t.1.0; pairs = t.1.1 }) (λ _. refl)
