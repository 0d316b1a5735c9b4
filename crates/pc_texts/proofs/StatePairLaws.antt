-- The pairs of a state.
use Rattle.std.proofs.Common.{◌≡◌, ℕ, List, ap, sym, ◌∙◌}
use Rattle.pc_model.specs.Database.{Database, KeysRise, database_of}
use Rattle.pc_model.proofs.PairMapLaws.{entries_of}

-- the pairs of a database are the ascending pairs that it is made of
pub pairs_of : (pairs : List (List ℕ × List ℕ)) (db : Database) → KeysRise pairs → database_of pairs ≡ db → db.entries ≡ pairs
pairs_of pairs db rise is = ap (λ (d : Database). d.entries) (sym is) ∙ entries_of pairs rise
