-- What is read of ranges, keys and entries is what was written, and what was written is read again.
use Rattle.std.proofs.Common.{◌≡◌, ℕ, zero, suc, ◌+◌, ◌-◌, ◌^◌, ◌<◌, ◌≤◌, ◌&&◌, nat_le, eqb, true, false, cond, List, [], ◌∷◌, ◌++◌, length, Option, Some, None, Ok, refl, sym, ap, subst, ◌∙◌, append_assoc, arith}
use Rattle.std.specs.Prelude.{IfSome}
use Rattle.std.specs.List.{flat_map}
use Rattle.std.specs.Ordering.{is_lt}
use Rattle.std.specs.Int.{w16, w32, to_be_bytes}
use Rattle.std.proofs.lemmas.Bool.{eqb-true}
use Rattle.std.proofs.lemmas.Bool.Decides.{nat_tests}
use Rattle.std.proofs.lemmas.List.{length-append}
use Rattle.std.proofs.lemmas.List.Concat.{flat_map-cons}
use Rattle.pc_types.specs.declared.Refusal.TheVariants.{Short, NotCovered}
use Rattle.pc_types.specs.Limits.{IsValue}
use Rattle.pc_io.specs.declared.formats.Format.{Format}
use Rattle.pc_io.specs.Fields.{◌>>=◌, where_true, number_at, content_at, key_text_in, sized_key_text, HasKey, content_text}
use Rattle.pc_io.proofs.FieldLaws.{bind_ok, where_ok, ok_is, TakesText-then, wide16, wide32, number_takes, number_again, content_takes, content_again}
use Rattle.pc_types.specs.Bytes.{IsBytes}
use Rattle.pc_io.specs.FieldForms.{TakesText}
use Rattle.pc_model.specs.Database.{key_cmp}
use Rattle.pc_model.specs.Points.{AtPoint}
use Rattle.pc_types.specs.declared.Triple.{Triple}
use Rattle.pc_part.specs.declared.ranges.Range.{Range}
use Rattle.pc_part.specs.Lawful.{HasLimits}
use Rattle.pc_part.specs.Parts.{RangesFrom, covers}
use Rattle.pc_part.specs.Reading.{range_at, ranges_at, next_key_at, point_at, part_entry_at, next_entry_at, entries_from, part_entries_at}
use Rattle.pc_part.specs.Texts.{bounds_text, triple_text_in}
use Rattle.pc_part.proofs.ItemLaws.{items_take, items_again}
use Rattle.pc_part.proofs.ReadLists.{range_steps, covered_fits}
use Rattle.pc_part.proofs.NextKeyLaws.{key_takes, key_text_takes, key_again}

-- ---- ranges

range_takes : (least : ℕ) (bytes : List ℕ) (x : Range × List ℕ) → IsBytes bytes → range_at least bytes ≡ Ok x → TakesText bytes (bounds_text x.0) x.1 × (least ≤ x.0.low) × (x.0.low ≤ x.0.high) × (x.0.high ≤ 65535)
range_takes least bytes x fits e =
    let s = range_steps least bytes x e in
    let low = number_takes Short w32 (2 ^ 32) wide32 bytes x.0.low s.0 fits s.1 in
    let high = number_takes Short w32 (2 ^ 32) wide32 s.0 x.0.high x.1 low.0.rest_fits s.2 in
    (TakesText-then bytes (to_be_bytes w32 x.0.low) s.0 (to_be_bytes w32 x.0.high) x.1 low.0 high.0, s.3, s.4, s.5)

range_again : (least : ℕ) (r : Range) (rest : List ℕ) → least ≤ r.low → r.low ≤ r.high → r.high ≤ 65535 → range_at least (bounds_text r ++ rest) ≡ Ok (r, rest)
unfolding range_at
range_again least r rest from ends limit =
    let parts : bounds_text r ++ rest ≡ to_be_bytes w32 r.low ++ (to_be_bytes w32 r.high ++ rest) = append_assoc (to_be_bytes w32 r.low) (to_be_bytes w32 r.high) rest in
    let low : number_at Short w32 (bounds_text r ++ rest) ≡ Ok (r.low, to_be_bytes w32 r.high ++ rest) = ap (number_at Short w32) parts ∙ number_again Short w32 (2 ^ 32) wide32 r.low (to_be_bytes w32 r.high ++ rest) (omega arith) in
    let lawful : (nat_le least r.low && nat_le r.low r.high && nat_le r.high 65535) ≡ true = grind (arith, nat_tests) in
    rw (low, number_again Short w32 (2 ^ 32) wide32 r.high rest (omega arith), lawful) refl

-- ranges that were read are those of the text, as many as asked for, and ascend with gaps between them
pub ranges_take : (count least : ℕ) (bytes : List ℕ) (x : List Range × List ℕ) → IsBytes bytes → ranges_at count least bytes ≡ Ok x → TakesText bytes (flat_map bounds_text x.0) x.1 × (length x.0 ≡ count) × RangesFrom least x.0
ranges_take = items_take _ _ bounds_text RangesFrom (λ least. tt) (λ least bytes x fits e. let taken = range_takes least bytes x fits e in (taken.0, λ others rise. (taken.1, taken.2, taken.3, rise)))

pub ranges_again : (least : ℕ) (ranges : List Range) (rest : List ℕ) → RangesFrom least ranges → ranges_at (length ranges) least (flat_map bounds_text ranges ++ rest) ≡ Ok (ranges, rest)
ranges_again = items_again _ _ bounds_text RangesFrom (λ least r ranges rest h. (range_again least r rest h.0 h.1 h.2, h.3))

-- ---- keys and entries

-- the bytes of an entry after its key
abbrev there_text : AtPoint → List ℕ
there_text there = to_be_bytes w32 there.point ++ content_text there.content

entry_takes : (ranges : List Range) (bytes : List ℕ) (x : AtPoint × List ℕ) → IsBytes bytes → part_entry_at ranges bytes ≡ Ok x → TakesText bytes (there_text x.0) x.1 × (covers ranges x.0.point ≡ true) × IfSome x.0.content IsValue
unfolding part_entry_at point_at
entry_takes ranges bytes x fits e =
    let a = bind_ok (point_at ranges bytes) (λ point. content_at Short point.1 >>= λ content. Ok (record { point = point.0; content = content.0 }, content.1)) x e in
    let b = bind_ok (content_at Short a.0.1) (λ content. Ok (record { point = a.0.0; content = content.0 }, content.1)) x a.2 in
    let n = bind_ok (number_at Short w32 bytes) (λ point. where_true (covers ranges point.0) NotCovered point) a.0 a.1 in
    let g = where_ok (covers ranges n.0.0) NotCovered n.0 a.0 n.2 in
    let first = number_takes Short w32 (2 ^ 32) wide32 bytes n.0.0 n.0.1 fits n.1 in
    let point = subst (λ (y : ℕ × List ℕ). TakesText bytes (to_be_bytes w32 y.0) y.1 × (covers ranges y.0 ≡ true)) {x = n.0} g.1 (first.0, g.0) in
    let content = content_takes Short a.0.1 b.0.0 b.0.1 point.0.rest_fits b.1 in
    let made : AtPoint × List ℕ = (record { point = a.0.0; content = b.0.0 }, b.0.1) in
    subst (λ (y : AtPoint × List ℕ). TakesText bytes (there_text y.0) y.1 × (covers ranges y.0.point ≡ true) × IfSome y.0.content IsValue) {x = made} (ok_is made x b.2)
    (TakesText-then bytes (to_be_bytes w32 a.0.0) a.0.1 (content_text b.0.0) b.0.1 point.0 content.0, point.1, content.1)

entry_again : (ranges : List Range) (there : AtPoint) (rest : List ℕ) → there.point ≤ 65535 → covers ranges there.point ≡ true → IfSome there.content IsValue → part_entry_at ranges (there_text there ++ rest) ≡ Ok (there, rest)
unfolding part_entry_at point_at
entry_again ranges there rest limit covered is_value =
    let parts : there_text there ++ rest ≡ to_be_bytes w32 there.point ++ (content_text there.content ++ rest) = append_assoc (to_be_bytes w32 there.point) (content_text there.content) rest in
    let point : number_at Short w32 (there_text there ++ rest) ≡ Ok (there.point, content_text there.content ++ rest) = ap (number_at Short w32) parts ∙ number_again Short w32 (2 ^ 32) wide32 there.point (content_text there.content ++ rest) (omega arith) in
    rw (point, covered, content_again Short there.content rest is_value) refl

-- entries of the ranges' points, whose keys ascend, the first above this one, and each of which the format has a text
abbrev pub EntriesFrom : Format → List Range → List ℕ → List Triple → Type 0
EntriesFrom format ranges last [] = Unit {0}
EntriesFrom format ranges last (t ∷ triples) = (is_lt (key_cmp last t.key) ≡ true) × HasLimits t × (covers ranges t.point ≡ true) × HasKey format t.key × EntriesFrom format ranges t.key triples

-- the end mark
abbrev pub end_mark : List ℕ
end_mark = to_be_bytes w16 0

-- what the next entry takes of the bytes: the end mark, or the text of an entry that may be there
abbrev pub NextTakes : Format → List Range → List ℕ → List ℕ → Option Triple → List ℕ → Type 0
NextTakes format ranges last bytes None rest = TakesText bytes end_mark rest
NextTakes format ranges last bytes (Some entry) rest = TakesText bytes (triple_text_in format entry) rest × (is_lt (key_cmp last entry.key) ≡ true) × HasLimits entry × (covers ranges entry.point ≡ true) × HasKey format entry.key

pub next_entry_takes : (format : Format) (ranges : List Range) (last bytes : List ℕ) (x : Option Triple × List ℕ) → IsBytes bytes → next_entry_at format ranges last bytes ≡ Ok x → NextTakes format ranges last bytes x.0 x.1
unfolding next_entry_at
next_entry_takes format ranges last bytes x fits e =
    let a = bind_ok (number_at Short w16 bytes) (λ count. cond (eqb count.0 0) (Ok (None, count.1))
    (next_key_at format last count.0 count.1 >>= λ key. part_entry_at ranges key.1 >>= λ there. Ok (Some (record { key = key.0; point = there.0.point; content = there.0.content }), there.1))) x e in
    let len = number_takes Short w16 (2 ^ 16) wide16 bytes a.0.0 a.0.1 fits a.1 in
    elim (eqb a.0.0 0) as (λ b. eqb a.0.0 0 ≡ b → cond b (Ok (None, a.0.1))
    (next_key_at format last a.0.0 a.0.1 >>= λ key. part_entry_at ranges key.1 >>= λ there. Ok (Some (record { key = key.0; point = there.0.point; content = there.0.content }), there.1)) ≡ Ok x
    → NextTakes format ranges last bytes x.0 x.1) [
      | true ↦ λ none is.
          let made : Option Triple × List ℕ = (None, a.0.1) in
          subst (λ (y : Option Triple × List ℕ). NextTakes format ranges last bytes y.0 y.1) {x = made} (ok_is made x is)
          (subst (λ (n : ℕ). TakesText bytes (to_be_bytes w16 n) a.0.1) (eqb-true _ _ none) len.0)
      | false ↦ λ some is.
          let k = bind_ok (next_key_at format last a.0.0 a.0.1) (λ key. part_entry_at ranges key.1 >>= λ there. Ok (Some (record { key = key.0; point = there.0.point; content = there.0.content }), there.1)) x is in
          let t = bind_ok (part_entry_at ranges k.0.1) (λ there. Ok (Some (record { key = k.0.0; point = there.0.point; content = there.0.content }), there.1)) x k.2 in
          let key = key_takes format last a.0.0 a.0.1 k.0 len.0.rest_fits k.1 in
          let there = entry_takes ranges k.0.1 t.0 key.0.rest_fits t.1 in
          let entry : Triple = record { key = k.0.0; point = t.0.0.point; content = t.0.0.content } in
          let made : Option Triple × List ℕ = (Some entry, t.0.1) in
          let all = TakesText-then bytes (key_text_in format k.0.0) k.0.1 (there_text t.0.0) t.0.1 (key_text_takes format bytes a.0.0 a.0.1 k.0.0 k.0.1 len.0 key.0 key.1) there.0 in
          subst (λ (y : Option Triple × List ℕ). NextTakes format ranges last bytes y.0 y.1) {x = made} (ok_is made x t.2) (all, key.4, (key.2, there.2), there.1, key.3)
    ] refl a.2

-- the bytes are the texts of entries that may be there, and the end mark
abbrev pub EntriesTake : Format → List Range → List ℕ → List ℕ → List Triple × List ℕ → Type 0
EntriesTake format ranges last bytes x = TakesText bytes (flat_map (triple_text_in format) x.0 ++ end_mark) x.1 × EntriesFrom format ranges last x.0

entries_behind : (format : Format) (turns : ℕ) (ranges : List Range) (last bytes : List ℕ) (x : List Triple × List ℕ)
    → ((last bytes : List ℕ) (x : List Triple × List ℕ) → IsBytes bytes → part_entries_at format turns ranges last bytes ≡ Ok x → EntriesTake format ranges last bytes x)
    → (next : Option Triple) (rest : List ℕ) → NextTakes format ranges last bytes next rest → entries_from (part_entries_at format turns ranges) next rest ≡ Ok x → EntriesTake format ranges last bytes x
entries_behind format turns ranges last bytes x again None rest takes is =
    let made : List Triple × List ℕ = ([], rest) in
    subst (EntriesTake format ranges last bytes) {x = made} (ok_is made x is) (takes, tt)
entries_behind format turns ranges last bytes x again (Some entry) rest takes is =
    let o = bind_ok (part_entries_at format turns ranges entry.key rest) (λ others. Ok (entry ∷ others.0, others.1)) x is in
    let others = again entry.key rest o.0 takes.0.rest_fits o.1 in
    let made : List Triple × List ℕ = (entry ∷ o.0.0, o.0.1) in
    let all = TakesText-then bytes (triple_text_in format entry) rest (flat_map (triple_text_in format) o.0.0 ++ end_mark) o.0.1 takes.0 others.0 in
    let text : triple_text_in format entry ++ (flat_map (triple_text_in format) o.0.0 ++ end_mark) ≡ flat_map (triple_text_in format) (entry ∷ o.0.0) ++ end_mark =
    sym (append_assoc (triple_text_in format entry) (flat_map (triple_text_in format) o.0.0) end_mark) ∙ ap (λ (s : List ℕ). s ++ end_mark) (sym (flat_map-cons (triple_text_in format) entry o.0.0)) in
    subst (EntriesTake format ranges last bytes) {x = made} (ok_is made x o.2) (subst (λ (s : List ℕ). TakesText bytes s o.0.1) text all, (takes.1, takes.2, takes.3, takes.4, others.1))

pub entries_take : (format : Format) (turns : ℕ) (ranges : List Range) (last bytes : List ℕ) (x : List Triple × List ℕ) → IsBytes bytes → part_entries_at format turns ranges last bytes ≡ Ok x → EntriesTake format ranges last bytes x
unfolding part_entries_at
entries_take format zero ranges last bytes x fits e = absurd cc
entries_take format (suc turns) ranges last bytes x fits e =
    let a = bind_ok (next_entry_at format ranges last bytes) (λ next. entries_from (part_entries_at format turns ranges) next.0 next.1) x e in
    entries_behind format turns ranges last bytes x (entries_take format turns ranges) a.0.0 a.0.1 (next_entry_takes format ranges last bytes a.0 fits a.1) a.2

-- an entry takes at least a byte
pub few_entries : (format : Format) (triples : List Triple) → length triples ≤ length (flat_map (triple_text_in format) triples)
few_entries format [] = omega arith
few_entries format (t ∷ triples) =
    let long : length (flat_map (triple_text_in format) (t ∷ triples)) ≡ length (triple_text_in format t) + length (flat_map (triple_text_in format) triples) = ap length (flat_map-cons (triple_text_in format) t triples) ∙ length-append (triple_text_in format t) (flat_map (triple_text_in format) triples) in
    let some : 1 ≤ length (triple_text_in format t) = omega arith in
    omega (arith, long, some, few_entries format triples)

pub next_entry_again : (format : Format) (least : ℕ) (ranges : List Range) → RangesFrom least ranges → (last : List ℕ) (t : Triple) (rest : List ℕ) → is_lt (key_cmp last t.key) ≡ true → HasLimits t → covers ranges t.point ≡ true → HasKey format t.key
    → next_entry_at format ranges last (triple_text_in format t ++ rest) ≡ Ok (Some t, rest)
unfolding next_entry_at
next_entry_again format least ranges apart last t rest above limits covered has =
    let there : AtPoint = record { point = t.point; content = t.content } in
    let fits = covered_fits least ranges t.point apart covered in
    let text : triple_text_in format t ++ rest ≡ to_be_bytes w16 (length t.key - 2) ++ (sized_key_text format t.key ++ (there_text there ++ rest)) = regrouped (to_be_bytes w16 (length t.key - 2)) (sized_key_text format t.key) (there_text there) rest in
    let len = number_again Short w16 (2 ^ 16) wide16 (length t.key - 2) (sized_key_text format t.key ++ (there_text there ++ rest)) (omega (arith, limits.0.1)) in
    let some : eqb (length t.key - 2) 0 ≡ false = grind (arith, limits.0.0, nat_tests) in
    ap (next_entry_at format ranges last) text
    ∙ rw (len, some, key_again format last t.key (there_text there ++ rest) limits.0 has above, entry_again ranges there rest fits covered limits.1) refl
  where
    regrouped : (len key there rest : List ℕ) → (((len ++ key) ++ there) ++ rest) ≡ len ++ (key ++ (there ++ rest))
    regrouped len key there rest = simp append_assoc

pub end_mark_again : (format : Format) (ranges : List Range) (last rest : List ℕ) → next_entry_at format ranges last (end_mark ++ rest) ≡ Ok (None, rest)
unfolding next_entry_at
end_mark_again format ranges last rest = rw (number_again Short w16 (2 ^ 16) wide16 0 rest (omega arith)) refl

pub entries_again : (format : Format) (turns least : ℕ) (ranges : List Range) → RangesFrom least ranges → (last : List ℕ) (triples : List Triple) (rest : List ℕ) → EntriesFrom format ranges last triples → length triples < turns
    → part_entries_at format turns ranges last ((flat_map (triple_text_in format) triples ++ end_mark) ++ rest) ≡ Ok (triples, rest)
unfolding part_entries_at
entries_again format zero least ranges apart last triples rest h more = absurd (omega (arith, more))
entries_again format (suc turns) least ranges apart last [] rest h more = rw (end_mark_again format ranges last rest) refl
entries_again format (suc turns) least ranges apart last (t ∷ triples) rest h more =
    let after : List ℕ = (flat_map (triple_text_in format) triples ++ end_mark) ++ rest in
    let text : (flat_map (triple_text_in format) (t ∷ triples) ++ end_mark) ++ rest ≡ triple_text_in format t ++ after =
    ap (λ (s : List ℕ). (s ++ end_mark) ++ rest) (flat_map-cons (triple_text_in format) t triples) ∙ regrouped (triple_text_in format t) (flat_map (triple_text_in format) triples) end_mark rest in
    ap (part_entries_at format (suc turns) ranges last) text
    ∙ rw (next_entry_again format least ranges apart last t after h.0 h.1 h.2 h.3, entries_again format turns least ranges apart t.key triples rest h.4 (omega arith)) refl
  where
    regrouped : (first others mark rest : List ℕ) → (((first ++ others) ++ mark) ++ rest) ≡ first ++ ((others ++ mark) ++ rest)
    regrouped first others mark rest = simp append_assoc
