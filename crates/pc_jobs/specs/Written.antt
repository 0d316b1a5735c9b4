-- The text of a workload, line by line, independent of how lines are read.
use Rattle.std.specs.Prelude.{◌≡◌, ◌⊎◌, Bool, true, false, List, [], ◌∷◌, ◌++◌, map, filter, nat_eq}
use Rattle.std.specs.List.{flat_map, IsDistinct}
use Rattle.pc_jobs.specs.declared.works.ClientTask.{ClientTask}
use Rattle.pc_jobs.specs.declared.works.ClientTask.TheVariants as work
use Rattle.pc_jobs.specs.declared.works.Client.{Client}
use Rattle.pc_jobs.specs.declared.works.Workload.{Workload}
use Rattle.pc_jobs.specs.declared.phrases.Phrase.{Phrase}
use Rattle.pc_jobs.specs.declared.phrases.Phrase.TheVariants as phrase

-- a line that says something
abbrev pub says : Phrase → Bool
says phrase.Silent = false
says line = true

-- the lines of a piece of work
abbrev pub work_lines : ClientTask → List Phrase
work_lines (work.Once job) = phrase.Begin ∷ map phrase.Does job.ops ++ phrase.End ∷ []
work_lines (work.Fill fill) = phrase.Fill fill ∷ []

-- the lines of a client
abbrev pub client_lines : Client → List Phrase
client_lines client = phrase.Client client.session ∷ flat_map work_lines client.works

-- the lines of some clients
abbrev pub clients_lines : List Client → List Phrase
clients_lines clients = flat_map client_lines clients

-- the lines write the workload: no session is named twice, and the lines that say something are the number of points and then
-- the clients; the first of them may be left out if there are no points
abbrev pub IsWorkloadWritten : List Phrase → Workload → Type 0
IsWorkloadWritten lines workload =
    IsDistinct nat_eq (map (λ (client : Client). client.session) workload.clients)
    × ((filter says lines ≡ phrase.Points workload.points ∷ clients_lines workload.clients) ⊎ ((workload.points ≡ 0) × (filter says lines ≡ clients_lines workload.clients)))
