-- The first line of a text, as it is read up to its line feed.
use Rattle.std.proofs.Common.{◌≡◌, ◌<◌, ◌≤◌, ◌+◌, ℕ, suc, Bool, true, false, ◌||◌, nat_lt, List, [], ◌∷◌, ◌++◌, length, take, drop, map, Option, Some, None, cond, eqb, refl, sym, ap, ◌∙◌, arith, append_assoc, append-nil, take_all, length-take-le}
use Rattle.std.specs.Prelude.{IfSome}
use Rattle.std.proofs.lemmas.Bool.Decides.{nat_tests}
use Rattle.std.specs.Io.BufRead.{take_through, drop_through}
use Rattle.std.specs.Io.KnownBytes.{Consumes}
use Rattle.bstr.specs.Text.{line_len, lines_of, without_terminator}
use Rattle.bstr.proofs.lemmas.LineLemmas.{lines-nil, lines-step}
use Rattle.pc_serving.specs.Inputs.{IsNextLine, IsLinePiece, has_feed, line_of, whole_part, whole_lines}
use Rattle.pc_serving.specs.declared.lines.TheConstants.{MOST_LINE_BYTES}
use Rattle.pc_serving.proofs.PieceLaws.{no_feed_more, take_again, through_feed}

-- a line with its end is the text up to the first line feed
through_is_taken : (text : List ℕ) → take (line_len text) text ≡ take_through 10 text
unfolding line_len
through_is_taken [] = refl
through_is_taken (x ∷ text) = by_end (eqb x 10) (through_is_taken text)
  where
    by_end : (b : Bool) → take (line_len text) text ≡ take_through 10 text → take (cond b 1 (suc (line_len text))) (x ∷ text) ≡ cond b (x ∷ []) (x ∷ take_through 10 text)
    by_end true behind = refl
    by_end false behind = ap (λ (t : List ℕ). x ∷ t) behind

-- and the rest comes after it
through_is_dropped : (text : List ℕ) → drop (line_len text) text ≡ drop_through 10 text
unfolding line_len
through_is_dropped [] = refl
through_is_dropped (x ∷ text) = by_end (eqb x 10) (through_is_dropped text)
  where
    by_end : (b : Bool) → drop (line_len text) text ≡ drop_through 10 text → drop (cond b 1 (suc (line_len text))) (x ∷ text) ≡ cond b text (drop_through 10 text)
    by_end true behind = refl
    by_end false behind = behind

-- a text without a line feed has no whole part
none_whole : (text : List ℕ) → has_feed text ≡ false → whole_part text ≡ []
none_whole [] e = refl
none_whole (x ∷ text) e = ap (λ b. cond b (x ∷ whole_part text) []) e

-- the first line of the whole part is that of the text
whole_taken : (text : List ℕ) → has_feed text ≡ true → take_through 10 (whole_part text) ≡ take_through 10 text
whole_taken [] e = cc
whole_taken (x ∷ text) e = by_end (eqb x 10) (has_feed text) refl e (whole_taken text)
  where
    by_end : (b f : Bool) → eqb x 10 ≡ b → (b || f) ≡ true → (f ≡ true → take_through 10 (whole_part text) ≡ take_through 10 text) → take_through 10 (cond (b || f) (x ∷ whole_part text) []) ≡ cond b (x ∷ []) (x ∷ take_through 10 text)
    by_end true f is some behind = ap (λ b. cond b (x ∷ []) (x ∷ take_through 10 (whole_part text))) is
    by_end false true is some behind = ap (λ b. cond b (x ∷ []) (x ∷ take_through 10 (whole_part text))) is ∙ ap (λ (t : List ℕ). x ∷ t) (behind refl)
    by_end false false is some behind = cc

-- and the text after it is the whole part of the rest
whole_dropped : (text : List ℕ) → has_feed text ≡ true → drop_through 10 (whole_part text) ≡ whole_part (drop_through 10 text)
whole_dropped [] e = cc
whole_dropped (x ∷ text) e = by_end (eqb x 10) (has_feed text) refl e (whole_dropped text)
  where
    by_end : (b f : Bool) → eqb x 10 ≡ b → (b || f) ≡ true → (f ≡ true → drop_through 10 (whole_part text) ≡ whole_part (drop_through 10 text)) → drop_through 10 (cond (b || f) (x ∷ whole_part text) []) ≡ whole_part (cond b text (drop_through 10 text))
    by_end true f is some behind = ap (λ b. cond b (whole_part text) (drop_through 10 (whole_part text))) is
    by_end false true is some behind = ap (λ b. cond b (whole_part text) (drop_through 10 (whole_part text))) is ∙ behind refl
    by_end false false is some behind = cc

-- the whole part of a text with a line feed has some
some_whole : (text : List ℕ) → has_feed text ≡ true → 0 < length (whole_part text)
some_whole [] e = cc
some_whole (x ∷ text) e = by (cond (eqb x 10 || has_feed text) (x ∷ whole_part text) []) (ap (λ b. cond b (x ∷ whole_part text) []) e)
  where
    by : (part : List ℕ) → part ≡ x ∷ whole_part text → 0 < length part
    by part is = omega (arith, ap length is)

-- what is kept of a line tells as much as the whole one
pub kept_is_line : (line : List ℕ) → line_of (take (MOST_LINE_BYTES + 1) line) ≡ line_of line
kept_is_line line = kept_of MOST_LINE_BYTES line
  where
    kept_of : (most : ℕ) (line : List ℕ) → cond (nat_lt most (length (take (most + 1) line))) (63 ∷ []) (without_terminator (take (most + 1) line)) ≡ cond (nat_lt most (length line)) (63 ∷ []) (without_terminator line)
    kept_of most line = by (nat_lt most (length line)) refl
      where
        by : (b : Bool) → nat_lt most (length line) ≡ b → cond (nat_lt most (length (take (most + 1) line))) (63 ∷ []) (without_terminator (take (most + 1) line)) ≡ cond b (63 ∷ []) (without_terminator line)
        by true e =
            let within : most + 1 ≤ length line = grind (arith, nat_tests) in
            let long : nat_lt most (length (take (most + 1) line)) ≡ true = grind (arith, nat_tests, length-take-le (most + 1) line within) in
            ap (λ b. cond b (63 ∷ []) (without_terminator (take (most + 1) line))) long
        by false e =
            let all : take (most + 1) line ≡ line = take_all (most + 1) line (grind (arith, nat_tests)) in
            ap (λ t. cond (nat_lt most (length t)) (63 ∷ []) (without_terminator t)) all ∙ ap (λ b. cond b (63 ∷ []) (without_terminator line)) e

-- the first whole line of a text with a line feed
first_line : (text line : List ℕ) → has_feed text ≡ true → line ≡ line_of (take_through 10 text) → whole_lines text ≡ line ∷ whole_lines (drop_through 10 text)
first_line text line feeds is =
    let part = whole_part text in
    ap (map line_of) (lines-step part (some_whole text feeds))
    ∙ (ap (λ (t : List ℕ). line_of t ∷ map line_of (lines_of (drop (line_len part) part))) (through_is_taken part ∙ whole_taken text feeds)
    ∙ (ap (λ (t : List ℕ). t ∷ map line_of (lines_of (drop (line_len part) part))) (sym is) ∙ ap (λ (t : List ℕ). line ∷ map line_of (lines_of t)) (through_is_dropped part ∙ whole_dropped text feeds)))

-- what was read is the next line
line_read : (done front text rest line : List ℕ) → has_feed done ≡ false → has_feed front ≡ false → text ≡ (done ++ (front ++ 10 ∷ [])) ++ rest → line ≡ line_of (done ++ (front ++ 10 ∷ [])) → IsNextLine text true line (Some rest)
line_read done front text rest line none more is ended =
    let joined : done ++ (front ++ 10 ∷ []) ≡ (done ++ front) ++ 10 ∷ [] = sym (append_assoc done front (10 ∷ [])) in
    let split : text ≡ (done ++ front) ++ 10 ∷ rest = is ∙ ap (λ (t : List ℕ). t ++ rest) joined ∙ append_assoc (done ++ front) (10 ∷ []) rest in
    let (taken, dropped, some) = through_feed (done ++ front) rest (no_feed_more done front none more) in
    let first : line ≡ line_of (take_through 10 text) = ended ∙ ap line_of (joined ∙ sym (ap (take_through 10) split ∙ taken)) in
    (rest, refl, first_line text line (ap has_feed split ∙ some) first ∙ ap (λ (t : List ℕ). line ∷ whole_lines t) (ap (drop_through 10) split ∙ dropped))

-- a text without a line feed has no whole line
none_read : (text line : List ℕ) (left : Option (List ℕ)) → has_feed text ≡ false → IsNextLine text false line left
none_read text line left none = ap (λ (t : List ℕ). map line_of (lines_of t)) (none_whole text none) ∙ ap (map line_of) lines-nil

-- the last piece of a line, or of the input, was read
pub piece_ends : (old mid new : Option (List ℕ)) (whole : Bool) (done bytes kept taken line : List ℕ) → Consumes old mid done → has_feed done ≡ false → kept ≡ take (MOST_LINE_BYTES + 1) done → Consumes mid new bytes → IsLinePiece (Some whole) bytes mid
    → taken ≡ take (MOST_LINE_BYTES + 1) (kept ++ bytes) → line ≡ line_of taken → IfSome old (λ text. IsNextLine text whole line new)
piece_ends None mid new whole done bytes kept taken line before none keeps reads piece takes ended = tt
piece_ends (Some text) None new whole done bytes kept taken line before none keeps reads piece takes ended = absurd before
piece_ends (Some text) (Some middle) None whole done bytes kept taken line before none keeps reads piece takes ended = absurd reads
piece_ends (Some text) (Some middle) (Some rest) true done bytes kept taken line before none keeps reads (front, is, more) takes ended =
    let both : text ≡ (done ++ (front ++ 10 ∷ [])) ++ rest = before ∙ ap (λ (t : List ℕ). done ++ t) (reads ∙ ap (λ (t : List ℕ). t ++ rest) is) ∙ sym (append_assoc done (front ++ 10 ∷ []) rest) in
    let held : taken ≡ take (MOST_LINE_BYTES + 1) (done ++ (front ++ 10 ∷ [])) =
    takes ∙ ap (λ (t : List ℕ). take (MOST_LINE_BYTES + 1) (t ++ bytes)) keeps ∙ take_again (MOST_LINE_BYTES + 1) done bytes ∙ ap (λ (t : List ℕ). take (MOST_LINE_BYTES + 1) (done ++ t)) is in
    line_read done front text rest line none more both (ended ∙ ap line_of held ∙ kept_is_line (done ++ (front ++ 10 ∷ [])))
piece_ends (Some text) (Some middle) (Some rest) false done bytes kept taken line before none keeps reads (is, end) takes ended =
    let all : text ≡ done = before ∙ ap (λ (t : List ℕ). done ++ t) end ∙ append-nil done in
    none_read text line (Some rest) (ap has_feed all ∙ none)
