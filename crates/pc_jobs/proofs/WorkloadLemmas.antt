-- A workload's lines, one by one.
use Rattle.std.proofs.Common.{◌≡◌, ℕ, ◌+◌, ◌<◌, Bool, true, false, List, [], ◌∷◌, ◌++◌, length, get_or, take, drop, refl, sym, ap, ◌∙◌, arith}
use Rattle.std.specs.Prelude.{Some, None, ◌||◌, if◌then◌else◌}
use Rattle.std.specs.List.{list_any}
use Rattle.std.proofs.lemmas.List.{take_more, drop_more, length-take-le}
use Rattle.std.proofs.lemmas.List.Folds.{list_any-append}
use Rattle.std.proofs.lemmas.List.Sums.{fold-append}
use Rattle.pc_jobs.specs.declared.phrases.Phrase.{Phrase}
use Rattle.pc_jobs.specs.declared.phrases.Phrase.TheVariants as phrase
use Rattle.pc_jobs.specs.declared.workloads.Gathered.{Gathered}
use Rattle.pc_jobs.specs.Workloads.{is_points, is_client, is_open_behind, closes, is_bad_line, first_bad}
use Rattle.pc_jobs.specs.Seeing.{seen_in_lines, seen_behind}
use Rattle.pc_jobs.specs.Gathering.{gathered_of, closing}

or_false : (b : Bool) → (b || false) ≡ b
or_false true = refl
or_false false = refl

pub any_more : (test : Phrase → Bool) (lines : List Phrase) (line : Phrase) → list_any test (lines ++ line ∷ []) ≡ (list_any test lines || test line)
any_more test lines line = list_any-append test lines (line ∷ []) ∙ ap (λ (b : Bool). list_any test lines || b) (or_false (test line))

-- what was seen, and one line more
pub seen_more : (lines : List Phrase) (line : Phrase) → seen_in_lines (lines ++ line ∷ []) ≡ seen_behind (seen_in_lines lines) line
seen_more lines line =
    let p = any_more is_points lines line in
    let q = any_more is_client lines line in
    let r = fold-append is_open_behind false lines (line ∷ []) in
    cc

-- the next line is reported as bad, or the search goes on
pub next_bad : (lines : List Phrase) (i : ℕ) (line : Phrase) → i < length lines → line ≡ get_or lines i line
    → first_bad (take i lines) (drop i lines) ≡ (if is_bad_line (take i lines) line (drop (i + 1) lines) then Some (i + 1) else first_bad (take (i + 1) lines) (drop (i + 1) lines))
next_bad lines i line lt is =
    let d : drop i lines ≡ line ∷ drop (i + 1) lines = drop_more lines i line lt ∙ ap (λ (z : Phrase). z ∷ drop (i + 1) lines) (sym is) in
    let t : take (i + 1) lines ≡ take i lines ++ line ∷ [] = take_more lines i line lt ∙ ap (λ (z : Phrase). take i lines ++ z ∷ []) (sym is) in
    let n : length (take i lines) ≡ i = length-take-le i lines (omega arith) in
    rw (d, t, n) refl

-- a line that tells whether a transaction is ended
pub closes_told : (line : Phrase) (lines : List Phrase) (b : Bool) → closing line ≡ Some b → closes (line ∷ lines) ≡ b
closes_told phrase.Silent lines b e = absurd cc
closes_told (phrase.Points n) lines b e = cc
closes_told (phrase.Client s) lines b e = cc
closes_told phrase.Begin lines b e = cc
closes_told (phrase.Does op) lines b e = absurd cc
closes_told phrase.End lines b e = cc
closes_told (phrase.Fill fill) lines b e = cc
closes_told phrase.Malformed lines b e = cc

-- and one that doesn't
pub closes_later : (line : Phrase) (lines : List Phrase) → closing line ≡ None → closes (line ∷ lines) ≡ closes lines
closes_later phrase.Silent lines e = refl
closes_later (phrase.Points n) lines e = absurd cc
closes_later (phrase.Client s) lines e = absurd cc
closes_later phrase.Begin lines e = absurd cc
closes_later (phrase.Does op) lines e = refl
closes_later phrase.End lines e = absurd cc
closes_later (phrase.Fill fill) lines e = absurd cc
closes_later phrase.Malformed lines e = absurd cc

-- the lines after those that are left were gathered
pub record Gathers (all left : List Phrase) (gathered : Gathered) : Type 0 where
  pub behind : List Phrase
  pub cut : left ++ behind ≡ all
  pub made : gathered ≡ gathered_of behind
