-- The first key of the closed set, with what it has at the point.
use Rattle.std.proofs.Common.{◌≡◌, ℕ, List, [], ◌∷◌, Option, Some, None, sym, ap, ◌∙◌}
use Rattle.pc_records.specs.Rows.{Row, record_of, at_point}
use Rattle.pc_records.specs.Tables.{first_pinned}

abbrev key_of : Option (List ℕ × Option (List ℕ)) → List ℕ
key_of None = []
key_of (Some p) = p.0

abbrev content_of : Option (List ℕ × Option (List ℕ)) → Option (List ℕ)
content_of None = None
content_of (Some p) = p.1

-- if one was found the set begins with it
pub first_key : (rows : List Row) (shut : List (List ℕ)) (key : List ℕ) (content : Option (List ℕ)) → Some (key, content) ≡ first_pinned rows shut → (keys : List (List ℕ)) × (shut ≡ key ∷ keys) × (content ≡ at_point (record_of rows key))
first_key rows [] key content e = absurd cc
first_key rows (k ∷ keys) key content e =
    let same : key ≡ k = ap key_of e in
    (keys, ap (λ q. q ∷ keys) (sym same), ap content_of e ∙ ap (λ q. at_point (record_of rows q)) (sym same))
