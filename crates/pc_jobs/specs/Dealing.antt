-- Dealing clients to workers, who are seen as the lists of their clients: in turn, so that the client at a place is at the
-- worker whose number is what is left of the place when it is divided by the number of workers. Both count from 0.
use Rattle.std.specs.Prelude.{◌≡◌, ◌<◌, ◌%◌, ℕ, suc, nat_eq, if◌then◌else◌, List, [], ◌∷◌, length, slice_index_or}
use Rattle.pc_jobs.specs.declared.works.Client.{Client}

-- of the clients, the first of whom is at a place, those of this worker, if there are that many workers
abbrev pub share : ℕ → ℕ → ℕ → List Client → List Client
share workers worker place [] = []
share workers worker place (client ∷ clients) =
    let others = share workers worker (suc place) clients in
    if nat_eq (place % workers) worker then client ∷ others else others

-- there are that many workers, and each has its share of the clients
pub record IsDealt (workers : ℕ) (clients : List Client) (all : List (List Client)) : Type 0 where
  pub count : length all ≡ workers
  pub shares : (worker : ℕ) → worker < workers → slice_index_or all worker [] ≡ share workers worker 0 clients
