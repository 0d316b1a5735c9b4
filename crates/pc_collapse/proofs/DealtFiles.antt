-- The parts dealt, and those that come back, represent the files of the round.
use Rattle.std.proofs.Common.{◌≡◌, ℕ, zero, suc, ◌<◌, true, false, List, [], ◌∷◌, ◌++◌, length, map, set, get_or, take, drop, Option, Result, Ok, Err, ⊎_elim, refl, sym, ap, subst, ◌∙◌, arith, append_assoc, append-nil}
use Rattle.std.specs.Prelude.{IsErr, IsErrAnd}
use Rattle.std.specs.Option.{option_to_list}
use Rattle.std.specs.declared.vec.Vec.{Vec}
use Rattle.std.specs.declared.alloc.Global.{Global}
use Rattle.std.proofs.Math.Seq.{take-append_seam}
use Rattle.pc_types.specs.declared.Refusal.{Refusal}
use Rattle.pc_model.specs.Files.{File}
use Rattle.pc_collapse.specs.declared.rounds.Dealt.{Dealt}
use Rattle.pc_collapse.specs.declared.rounds.Neighbours.{Neighbours}
use Rattle.pc_collapse.specs.Worth.{AreFactsGiven, AreWorth, IsCauseFor}
use Rattle.pc_collapse.specs.Rounds.{neighbour_files, hand_files, dealt_files, together, Become, AllBecome}
use Rattle.pc_collapse.proofs.FactLists.{among_front, among_back, among_split, sound_trans, sound_front, sound_back, worth_same, worth_itself, worth_trans, worth_append}
use Rattle.pc_collapse.proofs.FoldedFiles.{cause_for}

-- ---- lists in another order

sound_move : (a b c : List File) → AreFactsGiven (a ++ (b ++ c)) (b ++ (a ++ c))
sound_move a b c = λ w h. ⊎_elim
    (λ i. among_back w a (b ++ c) (among_front w b c i))
    (λ r. ⊎_elim (λ i. among_front w a (b ++ c) i) (λ i. among_back w a (b ++ c) (among_back w b c i)) (among_split w a c r))
    (among_split w b (a ++ c) h)

worth_move : (a b c : List File) → AreWorth (a ++ (b ++ c)) (b ++ (a ++ c))
worth_move a b c = worth_same (a ++ (b ++ c)) (b ++ (a ++ c)) (sound_move a b c) (sound_move b a c)

-- files that go before others, and represent more of them
worth_behind : (a b c d : List File) → AreWorth (a ++ c) d → AreWorth (a ++ (b ++ c)) (b ++ d)
worth_behind a b c d worth = worth_trans (a ++ (b ++ c)) (b ++ (a ++ c)) (b ++ d) (worth_move a b c) (worth_append b b (a ++ c) d (worth_itself b) worth)

worth_before : (a b c d : List File) → AreWorth (a ++ b) d → AreWorth (a ++ (b ++ c)) (d ++ c)
worth_before a b c d worth = subst (λ (l : List File). AreWorth l (d ++ c)) (append_assoc a b c) (worth_append (a ++ b) d c c worth (worth_itself c))

-- ---- dealing

module _ {G : Type 0} where
  -- two neighbours more
  pair_more : (pairs : List (Neighbours G)) (pair : Neighbours G) → AreWorth (neighbour_files pair ++ together (map neighbour_files pairs)) (together (map neighbour_files (pairs ++ pair ∷ [])))
  pair_more [] pair = worth_itself (neighbour_files pair ++ [])
  pair_more (x ∷ xs) pair = worth_behind (neighbour_files pair) (neighbour_files x) (together (map neighbour_files xs)) (together (map neighbour_files (xs ++ pair ∷ []))) (pair_more xs pair)

  hand_more : (before after : Dealt G) (pair : Neighbours G) → after.pairs.items ≡ before.pairs.items ++ pair ∷ [] → AreWorth (neighbour_files pair ++ hand_files before) (hand_files after)
  hand_more before after pair is = subst (λ (pairs : List (Neighbours G)). AreWorth (neighbour_files pair ++ hand_files before) (together (map neighbour_files pairs))) (sym is) (pair_more before.pairs.items pair)

  hands_more : (files : List File) (all : List (Dealt G)) (number : ℕ) (before after : Dealt G) → number < length all → before ≡ get_or all number before → AreWorth (files ++ hand_files before) (hand_files after) → AreWorth (files ++ dealt_files all) (dealt_files (set all number after))
  hands_more files [] number before after inside at more = absurd (omega (arith, inside))
  hands_more files (x ∷ xs) zero before after inside at more = worth_before files (hand_files x) (dealt_files xs) (hand_files after) (subst (λ (h : Dealt G). AreWorth (files ++ hand_files h) (hand_files after)) at more)
  hands_more files (x ∷ xs) (suc n) before after inside at more = worth_behind files (hand_files x) (dealt_files xs) (dealt_files (set xs n after)) (hands_more files xs n before after (omega (arith, inside)) at more)

  -- a collapser is given two neighbours
  pub given_pair : (all : List (Dealt G)) (number : ℕ) (before after : Dealt G) (pair : Neighbours G) → number < length all → before ≡ get_or all number before → after.pairs.items ≡ before.pairs.items ++ pair ∷ []
      → AreWorth (neighbour_files pair ++ dealt_files all) (dealt_files (set all number after))
  given_pair all number before after pair inside at is = hands_more (neighbour_files pair) all number before after inside at (hand_more before after pair is)

  -- an empty hand more
  pub empty_more : (old new : List (Dealt G)) (hand : Dealt G) → dealt_files old ≡ [] → hand.pairs.items ≡ [] → new ≡ old ++ hand ∷ [] → dealt_files new ≡ []
  empty_more old new hand none empty is = ap dealt_files is ∙ by old none
    where
      by : (old : List (Dealt G)) → dealt_files old ≡ [] → dealt_files (old ++ hand ∷ []) ≡ []
      by [] none = ap (λ (pairs : List (Neighbours G)). together (map neighbour_files pairs) ++ []) empty
      by (x ∷ xs) none = both (hand_files x) (dealt_files xs) none (λ rest. by xs rest)
        where
          both : (a b : List File) → a ++ b ≡ [] → (b ≡ [] → dealt_files (xs ++ hand ∷ []) ≡ []) → a ++ dealt_files (xs ++ hand ∷ []) ≡ []
          both [] b none rest = rest none
          both (y ∷ ys) b none rest = cc

-- the next two are dealt
pub dealt_two : (given old new rest others left : List File) (first : File) (second : Option File) → AreWorth given (old ++ rest) → rest ≡ first ∷ others → others ≡ option_to_list second ++ left
    → AreWorth ((first ∷ option_to_list second) ++ old) new → AreWorth given (new ++ left)
dealt_two given old new rest others left first second worth is_rest is_others more =
    let pair : List File = first ∷ option_to_list second in
    let whole : rest ≡ pair ++ left = is_rest ∙ ap (λ l. first ∷ l) is_others in
    let moved : AreWorth (old ++ (pair ++ left)) (pair ++ (old ++ left)) = worth_move old pair left in
    worth_trans given (old ++ rest) (new ++ left) worth
    (subst (λ (l : List File). AreWorth (old ++ l) (new ++ left)) (sym whole) (worth_trans (old ++ (pair ++ left)) (pair ++ (old ++ left)) (new ++ left) moved (worth_before pair old left new more)))

-- what is borrowed and given back
pub lent_back : {C : Type 0} (n : ℕ) (xs ys : List C) → n ≡ length xs → take n (xs ++ drop (length xs) ys) ≡ xs
lent_back n xs ys len = ap (λ k. take k (xs ++ drop (length xs) ys)) len ∙ take-append_seam xs (drop (length xs) ys)

-- ---- joining

-- the next two are joined
pub joined_two : (given done pair rest : List File) (file : File) → AreWorth given (done ++ (pair ++ rest)) → AreWorth pair (file ∷ []) → AreWorth given ((done ++ file ∷ []) ++ rest)
joined_two given done pair rest file worth joined =
    worth_trans given (done ++ (pair ++ rest)) ((done ++ file ∷ []) ++ rest) worth
    (subst (λ (l : List File). AreWorth (done ++ (pair ++ rest)) l) (sym (append_assoc done (file ∷ []) rest))
    (worth_append done done (pair ++ rest) (file ∷ [] ++ rest) (worth_itself done) (worth_append pair (file ∷ []) rest rest joined (worth_itself rest))))

-- why two can't be joined is why all may not be
pub cause_within : (given done pair rest : List File) (why : Refusal) → AreWorth given (done ++ (pair ++ rest)) → IsCauseFor pair why → IsCauseFor given why
cause_within given done pair rest why worth cause = cause_for given pair why
    (sound_trans given (done ++ (pair ++ rest)) pair worth.sound (sound_trans (done ++ (pair ++ rest)) (pair ++ rest) pair (sound_back done (pair ++ rest)) (sound_front pair rest))) cause

-- ---- what comes back

abbrev Came : Type 0
Came = Result (Vec File Global) Refusal

-- a refusal is handed on
pub become_refused : (files : List File) (why : Refusal) (r : Came) → IsErr r × IsErrAnd r (λ e. e ≡ why) → IsCauseFor files why → Become files r
become_refused files why (Ok left) is cause = let bad : false ≡ true = is.0 in absurd cc
become_refused files why (Err e) is cause = subst (IsCauseFor files) (sym is.1) cause

-- what the files became represents the given ones
pub become_worth : (given files : List File) (r : Came) → AreWorth given files → Become files r → Become given r
become_worth given files (Ok left) worth become = worth_trans given files left.items worth become
become_worth given files (Err why) worth cause = cause_for given files why worth.sound cause

-- the first that comes back is of the first list
pub first_back : (lists : List (List File)) (items : List Came) (r : Came) (rs : List Came) → items ≡ r ∷ rs → AllBecome lists items
    → (files : List File) × (others : List (List File)) × (together lists ≡ files ++ together others) × Become files r × AllBecome others rs
first_back lists items r rs is all = by lists (subst (AllBecome lists) is all)
  where
    by : (lists : List (List File)) → AllBecome lists (r ∷ rs) → (files : List File) × (others : List (List File)) × (together lists ≡ files ++ together others) × Become files r × AllBecome others rs
    by [] none = absurd none
    by (files ∷ others) both = (files, others, refl, both.0, both.1)

-- nothing comes back of no list
pub none_back : (lists : List (List File)) (items : List Came) → items ≡ [] → AllBecome lists items → together lists ≡ []
none_back lists items is all = by lists (subst (AllBecome lists) is all)
  where
    by : (lists : List (List File)) → AllBecome lists [] → together lists ≡ []
    by [] none = refl
    by (files ∷ others) bad = absurd bad

-- each collapser's answer is of what it was dealt
pub all_become : {G : Type 0} (hands : List (Dealt G)) (rs : List Came) → length rs ≡ length hands → ((i : ℕ) (d : Dealt G) (e : Came) → i < length hands → Become (hand_files (get_or hands i d)) (get_or rs i e)) → AllBecome (map hand_files hands) rs
all_become [] [] len each = tt
all_become [] (r ∷ rs) len each = absurd (omega (arith, len))
all_become (h ∷ hs) [] len each = absurd (omega (arith, len))
all_become (h ∷ hs) (r ∷ rs) len each = (each 0 h r (omega arith), all_become hs rs (omega (arith, len)) (λ i d e inside. each (suc i) d e (omega (arith, inside))))

-- one came back, and its files go to the others
pub came_back : (lists : List (List File)) (left : List File) (rest : List (List File)) (items : List Came) (r : Came) (rs : List Came) (v : Vec File Global) (new : List File)
    → AreWorth (together lists) (left ++ together rest) → items ≡ r ∷ rs → AllBecome rest items → r ≡ Ok v → new ≡ left ++ v.items
    → (others : List (List File)) × AllBecome others rs × AreWorth (together lists) (new ++ together others)
came_back lists left rest items r rs v new worth is all came appended =
    let next = first_back rest items r rs is all in
    let became : AreWorth next.0 v.items = subst (Become next.0) came next.3 in (
      next.1,
      next.4,
      subst (λ (l : List File). AreWorth (together lists) (l ++ together next.1)) (sym appended)
          (worth_trans (together lists) (left ++ (next.0 ++ together next.1)) ((left ++ v.items) ++ together next.1)
          (subst (λ (l : List File). AreWorth (together lists) (left ++ l)) next.2 worth)
          (subst (λ (l : List File). AreWorth (left ++ (next.0 ++ together next.1)) l) (sym (append_assoc left v.items (together next.1)))
          (worth_append left left (next.0 ++ together next.1) (v.items ++ together next.1) (worth_itself left) (worth_append next.0 v.items (together next.1) (together next.1) became (worth_itself (together next.1)))))),
    )

-- one came back refused
pub came_refused : (lists : List (List File)) (left : List File) (rest : List (List File)) (items : List Came) (r : Came) (rs : List Came) (why : Refusal) (result : Came)
    → AreWorth (together lists) (left ++ together rest) → items ≡ r ∷ rs → AllBecome rest items → r ≡ Err why → IsErr result × IsErrAnd result (λ e. e ≡ why) → Become (together lists) result
came_refused lists left rest items r rs why result worth is all came handed =
    let next = first_back rest items r rs is all in
    become_refused (together lists) why result handed
    (cause_within (together lists) left next.0 (together next.1) why (subst (λ (l : List File). AreWorth (together lists) (left ++ l)) next.2 worth) (subst (Become next.0) came next.3))

-- all came back
none_left : (items : List Came) → length items ≡ 0 → items ≡ []
none_left [] len = refl
none_left (r ∷ rs) len = absurd (omega (arith, len))

pub came_all : (lists : List (List File)) (left : List File) (rest : List (List File)) (items : List Came) → AreWorth (together lists) (left ++ together rest) → length items ≡ 0 → AllBecome rest items → AreWorth (together lists) left
came_all lists left rest items worth len all = let is = none_left items len in subst (AreWorth (together lists)) (append-nil left) (subst (λ (l : List File). AreWorth (together lists) (left ++ l)) (none_back rest items is all) worth)
