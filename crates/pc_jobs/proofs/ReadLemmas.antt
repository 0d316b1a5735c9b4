-- Lines none of which is bad write the workload that they give.
use Rattle.std.proofs.Common.{◌≡◌, ℕ, ◌+◌, Bool, true, false, List, [], ◌∷◌, ◌++◌, length, map, refl, ap, ◌∙◌, append_assoc, inl, inr, subst}
use Rattle.std.proofs.lemmas.Bool.{eq-eqb, ne_eqb, both_ways}
use Rattle.std.specs.Prelude.{Option, Some, None, ◌||◌, not, ◌⊎◌, filter, nat_eq, if◌then◌else◌}
use Rattle.std.specs.List.{list_any, flat_map, IsDistinct, AllByRecursion}
use Rattle.std.proofs.lemmas.List.Sums.{fold-append}
use Rattle.pc_jobs.specs.declared.works.Client.{Client}
use Rattle.pc_jobs.specs.declared.works.Workload.{Workload}
use Rattle.pc_jobs.specs.declared.phrases.Phrase.{Phrase}
use Rattle.pc_jobs.specs.declared.phrases.Phrase.TheVariants as phrase
use Rattle.pc_jobs.specs.declared.workloads.WorkloadReading.TheVariants as reading
use Rattle.pc_jobs.specs.Workloads.{is_points, is_client, is_client_of, is_open_behind, is_open_after_lines, closes, is_bad_line, first_bad, ops_in, works_in, clients_of_lines, points_to_take, workload_of, reading_of_workload, worth}
use Rattle.pc_jobs.specs.Written.{says, work_lines, clients_lines, IsWorkloadWritten}
use Rattle.pc_jobs.proofs.WorkloadLemmas.{any_more}

pick : (b : Bool) (n : ℕ) (later : Option ℕ) → (if b then Some n else later) ≡ None → (b ≡ false) × (later ≡ None)
pick true n later e = absurd cc
pick false n later e = (refl, e)

-- a line that isn't bad, nor any after it
good : (b : List Phrase) (line : Phrase) (r : List Phrase) → first_bad b (line ∷ r) ≡ None → (is_bad_line b line r ≡ false) × (first_bad (b ++ line ∷ []) r ≡ None)
good b line r h = pick (is_bad_line b line r) (length b + 1) (first_bad (b ++ line ∷ []) r) h

-- whether a transaction is open after one line more
open_more : (b : List Phrase) (line : Phrase) → is_open_after_lines (b ++ line ∷ []) ≡ is_open_behind (is_open_after_lines b) line
open_more b line = fold-append is_open_behind false b (line ∷ [])

-- what some line has stays so
stays : (test : Phrase → Bool) (b : List Phrase) (line : Phrase) → list_any test b ≡ true → list_any test (b ++ line ∷ []) ≡ true
stays test b line h = rw (any_more test b line, h) refl

-- and a test that holds of the next line
comes : (test : Phrase → Bool) (b : List Phrase) (line : Phrase) → test line ≡ true → list_any test (b ++ line ∷ []) ≡ true
comes test b line h = rw (any_more test b line, h) (or_true (list_any test b))
  where
    or_true : (x : Bool) → (x || true) ≡ true
    or_true true = refl
    or_true false = refl

-- nor does one that doesn't
lacks : (test : Phrase → Bool) (b : List Phrase) (line : Phrase) → list_any test b ≡ false → test line ≡ false → list_any test (b ++ line ∷ []) ≡ false
lacks test b line h k = rw (any_more test b line, h, k) refl

begun : (x y : Bool) → (not x || not y) ≡ false → (x ≡ true) × (y ≡ true)
begun true true e = (refl, refl)
begun true false e = absurd cc
begun false y e = absurd cc

taken : (x y : Bool) → y ≡ true → (x || y) ≡ false → ⊥
taken true y h e = cc
taken false y h e = cc

given : (x y : Bool) → x ≡ true → (x || y) ≡ false → ⊥
given true y h e = cc
given false y h e = cc

unopened : (x : Bool) → x ≡ false → not x ≡ false → ⊥
unopened true h e = cc
unopened false h e = cc

regroup : (m w c : List Phrase) → m ++ phrase.End ∷ (w ++ c) ≡ ((m ++ phrase.End ∷ []) ++ w) ++ c
regroup m w c = simp append_assoc

-- the lines of what some lines give: the work of the client before them, after the end of an open transaction, and then the clients
abbrev pub left_lines : Bool → List Phrase → List Phrase
left_lines true r = map phrase.Does (ops_in r) ++ phrase.End ∷ (flat_map work_lines (works_in r) ++ clients_lines (clients_of_lines r))
left_lines false r = flat_map work_lines (works_in r) ++ clients_lines (clients_of_lines r)

-- after a client's line
work : (b r : List Phrase) (x : Bool) → list_any is_client b ≡ true → is_open_after_lines b ≡ x → (x ≡ true → closes r ≡ true) → first_bad b r ≡ None → filter says r ≡ left_lines x r
work b [] true cl o cs h = let e : false ≡ true = cs refl in absurd cc
work b [] false cl o cs h = refl
work b (phrase.Silent ∷ r) true cl o cs h = work (b ++ phrase.Silent ∷ []) r true (stays is_client b phrase.Silent cl) (open_more b phrase.Silent ∙ o) cs (good b phrase.Silent r h).1
work b (phrase.Silent ∷ r) false cl o cs h = work (b ++ phrase.Silent ∷ []) r false (stays is_client b phrase.Silent cl) (open_more b phrase.Silent ∙ o) (λ e. cc) (good b phrase.Silent r h).1
work b (phrase.Points n ∷ r) true cl o cs h = let e : false ≡ true = cs refl in absurd cc
work b (phrase.Client s ∷ r) true cl o cs h = let e : false ≡ true = cs refl in absurd cc
work b (phrase.Begin ∷ r) true cl o cs h = let e : false ≡ true = cs refl in absurd cc
work b (phrase.Fill f ∷ r) true cl o cs h = let e : false ≡ true = cs refl in absurd cc
work b (phrase.Points n ∷ r) false cl o cs h = absurd (taken (list_any is_points b) (list_any is_client b) cl (good b (phrase.Points n) r h).0)
work b (phrase.Client s ∷ r) false cl o cs h = ap (λ (z : List Phrase). phrase.Client s ∷ z) (work (b ++ phrase.Client s ∷ []) r false (stays is_client b (phrase.Client s) cl) (open_more b (phrase.Client s)) (λ e. cc) (good b (phrase.Client s) r h).1)
work b (phrase.Fill f ∷ r) false cl o cs h = ap (λ (z : List Phrase). phrase.Fill f ∷ z) (work (b ++ phrase.Fill f ∷ []) r false (stays is_client b (phrase.Fill f) cl) (open_more b (phrase.Fill f)) (λ e. cc) (good b (phrase.Fill f) r h).1)
work b (phrase.Begin ∷ r) false cl o cs h =
    let k = begun (list_any is_client b) (closes r) (good b phrase.Begin r h).0 in
    ap (λ (z : List Phrase). phrase.Begin ∷ z)
    (work (b ++ phrase.Begin ∷ []) r true (stays is_client b phrase.Begin cl) (open_more b phrase.Begin) (λ e. k.1) (good b phrase.Begin r h).1
    ∙ regroup (map phrase.Does (ops_in r)) (flat_map work_lines (works_in r)) (clients_lines (clients_of_lines r)))
work b (phrase.Does op ∷ r) true cl o cs h = ap (λ (z : List Phrase). phrase.Does op ∷ z) (work (b ++ phrase.Does op ∷ []) r true (stays is_client b (phrase.Does op) cl) (open_more b (phrase.Does op) ∙ o) cs (good b (phrase.Does op) r h).1)
work b (phrase.Does op ∷ r) false cl o cs h = absurd (unopened (is_open_after_lines b) o (good b (phrase.Does op) r h).0)
work b (phrase.End ∷ r) true cl o cs h = ap (λ (z : List Phrase). phrase.End ∷ z) (work (b ++ phrase.End ∷ []) r false (stays is_client b phrase.End cl) (open_more b phrase.End) (λ e. cc) (good b phrase.End r h).1)
work b (phrase.End ∷ r) false cl o cs h = absurd (unopened (is_open_after_lines b) o (good b phrase.End r h).0)
work b (phrase.Malformed ∷ r) x cl o cs h = let e : true ≡ false = (good b phrase.Malformed r h).0 in absurd cc

-- no line after a client's gives the points
no_points : (b r : List Phrase) → list_any is_client b ≡ true → first_bad b r ≡ None → points_to_take r ≡ 0
no_points b [] cl h = refl
no_points b (phrase.Silent ∷ r) cl h = no_points (b ++ phrase.Silent ∷ []) r (stays is_client b phrase.Silent cl) (good b phrase.Silent r h).1
no_points b (phrase.Client s ∷ r) cl h = no_points (b ++ phrase.Client s ∷ []) r (stays is_client b (phrase.Client s) cl) (good b (phrase.Client s) r h).1
no_points b (phrase.Begin ∷ r) cl h = no_points (b ++ phrase.Begin ∷ []) r (stays is_client b phrase.Begin cl) (good b phrase.Begin r h).1
no_points b (phrase.Does op ∷ r) cl h = no_points (b ++ phrase.Does op ∷ []) r (stays is_client b (phrase.Does op) cl) (good b (phrase.Does op) r h).1
no_points b (phrase.End ∷ r) cl h = no_points (b ++ phrase.End ∷ []) r (stays is_client b phrase.End cl) (good b phrase.End r h).1
no_points b (phrase.Fill f ∷ r) cl h = no_points (b ++ phrase.Fill f ∷ []) r (stays is_client b (phrase.Fill f) cl) (good b (phrase.Fill f) r h).1
no_points b (phrase.Malformed ∷ r) cl h = no_points (b ++ phrase.Malformed ∷ []) r (stays is_client b phrase.Malformed cl) (good b phrase.Malformed r h).1
no_points b (phrase.Points n ∷ r) cl h = absurd (taken (list_any is_points b) (list_any is_client b) cl (good b (phrase.Points n) r h).0)

-- no line is good before the first client's but one of the points
unled : (b r : List Phrase) (line : Phrase) → list_any is_client b ≡ false → (not (list_any is_client b) || not (closes r)) ≡ false → ⊥
unled b r line cl e = let k = begun (list_any is_client b) (closes r) e in both_ways (list_any is_client b) cl k.0

-- after the line of the points
pointed : (b r : List Phrase) → list_any is_client b ≡ false → list_any is_points b ≡ true → is_open_after_lines b ≡ false → first_bad b r ≡ None → filter says r ≡ clients_lines (clients_of_lines r)
pointed b [] cl p o h = refl
pointed b (phrase.Silent ∷ r) cl p o h = pointed (b ++ phrase.Silent ∷ []) r (lacks is_client b phrase.Silent cl refl) (stays is_points b phrase.Silent p) (open_more b phrase.Silent ∙ o) (good b phrase.Silent r h).1
pointed b (phrase.Points n ∷ r) cl p o h = absurd (given (list_any is_points b) (list_any is_client b) p (good b (phrase.Points n) r h).0)
pointed b (phrase.Client s ∷ r) cl p o h = ap (λ (z : List Phrase). phrase.Client s ∷ z) (work (b ++ phrase.Client s ∷ []) r false (comes is_client b (phrase.Client s) refl) (open_more b (phrase.Client s)) (λ e. cc) (good b (phrase.Client s) r h).1)
pointed b (phrase.Begin ∷ r) cl p o h = absurd (unled b r phrase.Begin cl (good b phrase.Begin r h).0)
pointed b (phrase.Does op ∷ r) cl p o h = absurd (unopened (is_open_after_lines b) o (good b (phrase.Does op) r h).0)
pointed b (phrase.End ∷ r) cl p o h = absurd (unopened (is_open_after_lines b) o (good b phrase.End r h).0)
pointed b (phrase.Fill f ∷ r) cl p o h = absurd (unopened (list_any is_client b) cl (good b (phrase.Fill f) r h).0)
pointed b (phrase.Malformed ∷ r) cl p o h = let e : true ≡ false = (good b phrase.Malformed r h).0 in absurd cc

-- from the first line on
head : (b r : List Phrase) → list_any is_client b ≡ false → is_open_after_lines b ≡ false → first_bad b r ≡ None
    → (filter says r ≡ phrase.Points (points_to_take r) ∷ clients_lines (clients_of_lines r)) ⊎ ((points_to_take r ≡ 0) × (filter says r ≡ clients_lines (clients_of_lines r)))
head b [] cl o h = inr (refl, refl)
head b (phrase.Silent ∷ r) cl o h = head (b ++ phrase.Silent ∷ []) r (lacks is_client b phrase.Silent cl refl) (open_more b phrase.Silent ∙ o) (good b phrase.Silent r h).1
head b (phrase.Points n ∷ r) cl o h = inl (ap (λ (z : List Phrase). phrase.Points n ∷ z) (pointed (b ++ phrase.Points n ∷ []) r (lacks is_client b (phrase.Points n) cl refl) (comes is_points b (phrase.Points n) refl) (open_more b (phrase.Points n)) (good b (phrase.Points n) r h).1))
head b (phrase.Client s ∷ r) cl o h =
    let led = comes is_client b (phrase.Client s) refl in
    inr (
      no_points (b ++ phrase.Client s ∷ []) r led (good b (phrase.Client s) r h).1,
      ap (λ (z : List Phrase). phrase.Client s ∷ z) (work (b ++ phrase.Client s ∷ []) r false led (open_more b (phrase.Client s)) (λ e. cc) (good b (phrase.Client s) r h).1),
    )
head b (phrase.Begin ∷ r) cl o h = absurd (unled b r phrase.Begin cl (good b phrase.Begin r h).0)
head b (phrase.Does op ∷ r) cl o h = absurd (unopened (is_open_after_lines b) o (good b (phrase.Does op) r h).0)
head b (phrase.End ∷ r) cl o h = absurd (unopened (is_open_after_lines b) o (good b phrase.End r h).0)
head b (phrase.Fill f ∷ r) cl o h = absurd (unopened (list_any is_client b) cl (good b (phrase.Fill f) r h).0)
head b (phrase.Malformed ∷ r) cl o h = let e : true ≡ false = (good b phrase.Malformed r h).0 in absurd cc

-- a session that was named isn't named again
named : (b r : List Phrase) (s : ℕ) → list_any (is_client_of s) b ≡ true → first_bad b r ≡ None
    → AllByRecursion (λ t. nat_eq s t ≡ false) (map (λ (c : Client). c.session) (clients_of_lines r))
named b [] s k h = tt
named b (phrase.Silent ∷ r) s k h = named (b ++ phrase.Silent ∷ []) r s (stays (is_client_of s) b phrase.Silent k) (good b phrase.Silent r h).1
named b (phrase.Points n ∷ r) s k h = named (b ++ phrase.Points n ∷ []) r s (stays (is_client_of s) b (phrase.Points n) k) (good b (phrase.Points n) r h).1
named b (phrase.Begin ∷ r) s k h = named (b ++ phrase.Begin ∷ []) r s (stays (is_client_of s) b phrase.Begin k) (good b phrase.Begin r h).1
named b (phrase.Does op ∷ r) s k h = named (b ++ phrase.Does op ∷ []) r s (stays (is_client_of s) b (phrase.Does op) k) (good b (phrase.Does op) r h).1
named b (phrase.End ∷ r) s k h = named (b ++ phrase.End ∷ []) r s (stays (is_client_of s) b phrase.End k) (good b phrase.End r h).1
named b (phrase.Fill f ∷ r) s k h = named (b ++ phrase.Fill f ∷ []) r s (stays (is_client_of s) b (phrase.Fill f) k) (good b (phrase.Fill f) r h).1
named b (phrase.Malformed ∷ r) s k h = named (b ++ phrase.Malformed ∷ []) r s (stays (is_client_of s) b phrase.Malformed k) (good b phrase.Malformed r h).1
named b (phrase.Client t ∷ r) s k h =
    let g = good b (phrase.Client t) r h in (
      ne_eqb s t (λ (e : s ≡ t). both_ways (list_any (is_client_of t) b) g.0 (subst (λ (z : ℕ). list_any (is_client_of z) b ≡ true) e k)),
      named (b ++ phrase.Client t ∷ []) r s (stays (is_client_of s) b (phrase.Client t) k) g.1,
    )

-- no session is named twice
distinct : (b r : List Phrase) → first_bad b r ≡ None → IsDistinct nat_eq (map (λ (c : Client). c.session) (clients_of_lines r))
unfolding IsDistinct
distinct b [] h = tt
distinct b (phrase.Silent ∷ r) h = distinct (b ++ phrase.Silent ∷ []) r (good b phrase.Silent r h).1
distinct b (phrase.Points n ∷ r) h = distinct (b ++ phrase.Points n ∷ []) r (good b (phrase.Points n) r h).1
distinct b (phrase.Begin ∷ r) h = distinct (b ++ phrase.Begin ∷ []) r (good b phrase.Begin r h).1
distinct b (phrase.Does op ∷ r) h = distinct (b ++ phrase.Does op ∷ []) r (good b (phrase.Does op) r h).1
distinct b (phrase.End ∷ r) h = distinct (b ++ phrase.End ∷ []) r (good b phrase.End r h).1
distinct b (phrase.Fill f ∷ r) h = distinct (b ++ phrase.Fill f ∷ []) r (good b (phrase.Fill f) r h).1
distinct b (phrase.Malformed ∷ r) h = distinct (b ++ phrase.Malformed ∷ []) r (good b phrase.Malformed r h).1
distinct b (phrase.Client s ∷ r) h =
    let g = good b (phrase.Client s) r h in
    (named (b ++ phrase.Client s ∷ []) r s (comes (is_client_of s) b (phrase.Client s) (eq-eqb s s refl)) g.1, distinct (b ++ phrase.Client s ∷ []) r g.1)

runs : (o : Option ℕ) (v w : Workload) → reading_of_workload o v ≡ reading.Runs w → (o ≡ None) × (v ≡ w)
runs (Some n) v w e = absurd cc
runs None v w e = (refl, cc)

-- lines that mean a workload write it
pub read_written : (lines : List Phrase) (w : Workload) → worth lines ≡ reading.Runs w → IsWorkloadWritten lines w
read_written lines w e =
    let k = runs (first_bad [] lines) (workload_of lines) w e in
    subst (λ (z : Workload). IsWorkloadWritten lines z) k.1 (distinct [] lines k.0, head [] lines refl refl k.0)
