-- The transactions of a fill.
use Rattle.std.specs.Prelude.{ℕ, List, [], ◌∷◌, ◌++◌}
use Rattle.pc_jobs.specs.declared.works.Fill.{Fill}
use Rattle.pc_jobs.specs.declared.works.Job.{Job}
use Rattle.pc_jobs.specs.declared.works.Op.TheVariants.{Put}
use Rattle.pc_jobs.specs.Prefixes.{six_digits}

-- the key of a fill's transaction of this number: the prefix followed by six digits
abbrev pub fill_key : Fill → ℕ → List ℕ
fill_key fill number = fill.prefix ++ six_digits number

-- the transaction itself: one put, of the fill's value under that key
abbrev pub job_of : Fill → ℕ → Job
job_of fill number = record { ops = Put (fill_key fill number) fill.value ∷ [] }
