-- A workload that was read has a session of the store for each client, and keeps it when its clients are dealt to workers.
use Rattle.std.proofs.Common.{◌≡◌, ◌==◌, ◌≤◌, ◌+◌, ◌||◌, ◌&&◌, ℕ, zero, suc, Bool, true, false, List, [], ◌∷◌, ◌++◌, Option, Some, None, map, All, refl, ap, subst, ◌∙◌, arith}
use Rattle.std.specs.Prelude.{⊤, ℤ, codes, if◌then◌else◌, nat_eq, nat_le}
use Rattle.std.specs.List.{AllByRecursion, IsDistinct}
use Rattle.std.proofs.lemmas.Bool.Decides.{nat_tests}
use Rattle.std.proofs.lemmas.List.Elements.{All-nil, All-cons, All-head, All-tail}
use Rattle.std.proofs.lemmas.List.Folds.{list_any-append}
use Rattle.std.specs.Str.{bytes_eq}
use Rattle.pc_types.specs.declared.limits.TheConstants.{MOST_SESSIONS}
use Rattle.pc_jobs.specs.Dealing.{IsDealt}
use Rattle.pc_jobs.specs.declared.phrases.Phrase.{Phrase}
use Rattle.pc_jobs.specs.declared.phrases.Phrase.TheVariants as phrase
use Rattle.pc_jobs.specs.declared.phrases.TheConstants.{MOST_FILL, MOST_RUN_POINTS}
use Rattle.pc_jobs.specs.declared.works.Client.{Client}
use Rattle.pc_jobs.specs.declared.works.Workload.{Workload}
use Rattle.pc_jobs.specs.declared.workloads.WorkloadReading.TheVariants as reading
use Rattle.pc_jobs.specs.Phrases.{add_op_line, client_line, del_op_line, fill_line, get_op_line, spelled_key, number_within, points_line, prefix_of, put_op_line, spelled_phrase, phrase_of_words, two_word_phrase, spelled_value, within}
use Rattle.pc_jobs.specs.Workloads as workloads
use Rattle.pc_model.specs.Replies.{Setting}
use Rattle.pc_shared.specs.Sitters.{HasAll, Sitter, has_sitter, new_sitters, sitter}
use Rattle.pc_threads.specs.Clients.{AreSeated, HaveSeats, HaveWorked, clients_in, is_taken}
use Rattle.pc_threads.proofs.SeatLaws.{neither}
use Rattle.pc_runs.proofs.DealingLaws.{same_total, to_dealt, total}

-- one if a test holds
abbrev count_of : Bool → ℕ
count_of true = 1
count_of false = 0

-- how often a client has the session
module _ (n : ℕ) where
  abbrev has : Client → ℕ
  has client = count_of (client.session == n)

  none_when : (clients : List Client) → is_taken clients n ≡ false → total has clients ≡ 0
  none_when [] free = refl
  none_when (c ∷ clients) free =
      let off = neither (c.session == n) (is_taken clients n) free in
      let here = ap count_of off.0 in
      let behind = none_when clients off.1 in
      omega (arith, here, behind)

  when_none : (clients : List Client) → total has clients ≡ 0 → is_taken clients n ≡ false
  when_none [] is = refl
  when_none (c ∷ clients) is = by (c.session == n) refl (when_none clients)
    where
      by : (mine : Bool) → (c.session == n) ≡ mine → (total has clients ≡ 0 → is_taken clients n ≡ false) → (mine || is_taken clients n) ≡ false
      by true at rest = let here = ap count_of at in absurd (omega (arith, here, is))
      by false at rest = rest (omega (arith, is))

  at_most : (sessions : List Sitter) (clients : List Client) → HaveSeats sessions clients → total has clients ≤ 1
  at_most sessions [] seats = omega arith
  at_most sessions (c ∷ clients) (there, apart, rest) = by (c.session == n) refl (at_most sessions clients rest)
    where
      by : (mine : Bool) → (c.session == n) ≡ mine → total has clients ≤ 1 → count_of (c.session == n) + total has clients ≤ 1
      by true at few =
          let same : c.session ≡ n = grind (arith, nat_tests) in
          let here = ap count_of at in
          let behind = none_when clients (subst (λ k. is_taken clients k ≡ false) same apart) in
          omega (arith, here, behind)
      by false at few = let here = ap count_of at in omega (arith, here, few)

each_there : (sessions : List Sitter) (clients : List Client) → HaveSeats sessions clients → All (λ (c : Client). has_sitter sessions c.session ≡ true) clients
each_there sessions [] seats = All-nil (λ (c : Client). has_sitter sessions c.session ≡ true)
each_there sessions (c ∷ clients) (there, apart, rest) = All-cons (λ (k : Client). has_sitter sessions k.session ≡ true) c clients there (each_there sessions clients rest)

seats_from : (sessions : List Sitter) (clients : List Client) → All (λ (c : Client). has_sitter sessions c.session ≡ true) clients → ((n : ℕ) → total (has n) clients ≤ 1) → HaveSeats sessions clients
seats_from sessions [] there few = tt
seats_from sessions (c ∷ clients) there few =
    let itself : (c.session == c.session) ≡ true = grind (arith, nat_tests) in
    let here = ap count_of itself in
    let own = few c.session in (
      All-head (λ (k : Client). has_sitter sessions k.session ≡ true) c clients there,
      when_none c.session clients (omega (arith, here, own)),
      seats_from sessions clients (All-tail (λ (k : Client). has_sitter sessions k.session ≡ true) c clients there) (λ n. let all = few n in omega (arith, all)),
    )

-- clients that are dealt to workers have their seats
pub dealt_seats : (sessions : List Sitter) (workers : ℕ) (clients : List Client) (dealt : List (List Client)) → 1 ≤ workers → IsDealt workers clients dealt → HaveSeats sessions clients → HaveSeats sessions (clients_in dealt)
dealt_seats sessions workers clients dealt some is seats =
    seats_from sessions (clients_in dealt) (to_dealt (λ (c : Client). has_sitter sessions c.session ≡ true) workers clients dealt is (each_there sessions clients seats))
    (λ n. let same = same_total (has n) workers clients dealt some is in let few = at_most n sessions clients seats in omega (arith, same, few))

-- each number from 1 on is that of a new session
is_new : (count n : ℕ) → 1 ≤ n → n ≤ count → has_sitter (new_sitters count) n ≡ true
is_new zero n low high = absurd (omega (arith, low, high))
is_new (suc count) n low high = list_any-append (λ (s : Sitter). s.number == n) (new_sitters count) (sitter (suc count) [] [] ∷ []) ∙ by (suc count == n) refl (is_new count n low)
  where
    any : (a : Bool) → (a || (true || false)) ≡ true
    any true = refl
    any false = refl

    by : (mine : Bool) → (suc count == n) ≡ mine → (n ≤ count → has_sitter (new_sitters count) n ≡ true) → (has_sitter (new_sitters count) n || (mine || false)) ≡ true
    by true at rest = any (has_sitter (new_sitters count) n)
    by false at rest =
        let below : n ≤ count = grind (arith, nat_tests) in
        ap (λ b. b || false) (rest below)

-- the client's session is one of the given number
abbrev pub IsOfCount : ℕ → Client → Type 0
IsOfCount count client = (1 ≤ client.session) × (client.session ≤ count)

none_later : (n : ℕ) (clients : List Client) → AllByRecursion (λ m. nat_eq n m ≡ false) (map (λ (c : Client). c.session) clients) → is_taken clients n ≡ false
none_later n [] apart = refl
none_later n (c ∷ clients) (off, apart) =
    let other : (c.session == n) ≡ false = grind (arith, nat_tests) in
    ap (λ b. b || is_taken clients n) other ∙ none_later n clients apart

-- clients none of whose sessions is named twice have seats at a new store
pub new_seats : (count : ℕ) (clients : List Client) → IsDistinct nat_eq (map (λ (c : Client). c.session) clients) → All (IsOfCount count) clients → HaveSeats (new_sitters count) clients
unfolding IsDistinct
new_seats count [] apart range = tt
new_seats count (c ∷ clients) (off, apart) range =
    let low = All-head (IsOfCount count) c clients range in
    (is_new count c.session low.0 low.1, none_later c.session clients off, new_seats count clients apart (All-tail (IsOfCount count) c clients range))

-- the sessions of the clients that have worked
same_there : (st : Setting) (n : ℕ) (clients : List Client) (given_up : ℕ) (sessions : List Sitter) → HaveWorked st clients given_up sessions → has_sitter sessions n ≡ is_taken clients n
same_there st n [] given_up [] have = refl
same_there st n (c ∷ clients) given_up (s ∷ sessions) (own, others, sum, has, have) =
    ap (λ m. (m == n) || has_sitter sessions n) has.run.committed.number ∙ ap (λ b. (c.session == n) || b) (same_there st n clients others sessions have)
same_there st n [] given_up (s ∷ sessions) have = absurd have
same_there st n (c ∷ clients) given_up [] have = absurd have

-- if the clients' sessions come back, all are there
pub all_back : (st : Setting) (count : ℕ) (clients : List Client) (given_up : ℕ) (idle worked : List Sitter) → AreSeated clients (new_sitters count) idle → HaveWorked st clients given_up worked → HasAll count (idle ++ worked)
all_back st count clients given_up idle worked seated have k low =
    list_any-append (λ (s : Sitter). s.number == k + 1) idle worked ∙ ap (λ b. has_sitter idle (k + 1) || b) (same_there st (k + 1) clients given_up worked have)
    ∙ seated (k + 1) (is_new count (k + 1) (omega arith) (omega (arith, low)))

-- a line that a client's work begins with names a session of the given number
abbrev IsInRange : Phrase → Type 0
IsInRange (phrase.Client session) = (1 ≤ session) × (session ≤ MOST_SESSIONS)
IsInRange other = ⊤

if_range : (b : Bool) (p q : Phrase) → IsInRange p → IsInRange q → IsInRange (if b then p else q)
if_range true p q x y = x
if_range false p q x y = y

client_range : (o : Option ℕ) → IsInRange (client_line (within 1 MOST_SESSIONS o))
client_range None = tt
client_range (Some n) = by (nat_le 1 n) refl (nat_le n MOST_SESSIONS) refl
  where
    by : (a : Bool) → nat_le 1 n ≡ a → (b : Bool) → nat_le n MOST_SESSIONS ≡ b → IsInRange (client_line (if a && b then Some n else None))
    by true x true y = (grind (arith, nat_tests), grind (arith, nat_tests))
    by true x false y = tt
    by false x b y = tt

client_word : (word : List ℕ) → IsInRange (client_line (number_within 1 MOST_SESSIONS word))
client_word word = search (client_range)

points_range : (o : Option ℕ) → IsInRange (points_line o)
points_range None = tt
points_range (Some n) = tt

get_range : (o : Option (List ℕ)) → IsInRange (get_op_line o)
get_range None = tt
get_range (Some key) = tt

del_range : (o : Option (List ℕ)) → IsInRange (del_op_line o)
del_range None = tt
del_range (Some key) = tt

put_range : (key value : Option (List ℕ)) → IsInRange (put_op_line key value)
put_range None value = tt
put_range (Some k) None = tt
put_range (Some k) (Some v) = tt

add_range : (key : Option (List ℕ)) (delta : Option ℤ) → IsInRange (add_op_line key delta)
add_range None delta = tt
add_range (Some k) None = tt
add_range (Some k) (Some d) = tt

fill_range : (prefix : Option (List ℕ)) (count : Option ℕ) (value : Option (List ℕ)) → IsInRange (fill_line prefix count value)
fill_range None count value = tt
fill_range (Some p) None value = tt
fill_range (Some p) (Some n) None = tt
fill_range (Some p) (Some n) (Some v) = tt

two_range : (verb word : List ℕ) → IsInRange (two_word_phrase verb word)
two_range verb word =
    if_range (bytes_eq verb (codes "points")) (points_line (number_within 0 MOST_RUN_POINTS word)) _ (points_range (number_within 0 MOST_RUN_POINTS word))
    (if_range (bytes_eq verb (codes "client")) (client_line (number_within 1 MOST_SESSIONS word)) _ (client_word word)
    (if_range (bytes_eq verb (codes "get")) (get_op_line (spelled_key word)) _ (get_range (spelled_key word))
    (if_range (bytes_eq verb (codes "del")) (del_op_line (spelled_key word)) phrase.Malformed (del_range (spelled_key word)) tt)))

words_range : (words : List (List ℕ)) → IsInRange (phrase_of_words words)
words_range [] = tt
words_range (verb ∷ []) = if_range (bytes_eq verb (codes "txn")) phrase.Begin _ tt (if_range (bytes_eq verb (codes "end")) phrase.End phrase.Malformed tt tt)
words_range (verb ∷ word ∷ []) = two_range verb word
words_range (verb ∷ key ∷ word ∷ []) =
    if_range (bytes_eq verb (codes "put")) (put_op_line (spelled_key key) (spelled_value word)) _ (put_range (spelled_key key) (spelled_value word))
    (if_range (bytes_eq verb (codes "add")) _ phrase.Malformed (add_range (spelled_key key) _) tt)
words_range (verb ∷ prefix ∷ count ∷ value ∷ []) =
    if_range (bytes_eq verb (codes "fill")) (fill_line (prefix_of prefix) (number_within 1 MOST_FILL count) (spelled_value value)) phrase.Malformed
    (fill_range (prefix_of prefix) (number_within 1 MOST_FILL count) (spelled_value value)) tt
words_range (a ∷ b ∷ c ∷ d ∷ e ∷ words) = tt

line_range : (silent : Bool) (words : List (List ℕ)) → IsInRange (if silent then phrase.Silent else phrase_of_words words)
line_range silent words = if_range silent phrase.Silent (phrase_of_words words) tt (words_range words)

text_range : (text : List ℕ) → IsInRange (spelled_phrase text)
text_range text = search (line_range)

clients_range : (lines : List (List ℕ)) → All (IsOfCount MOST_SESSIONS) (workloads.clients_of_lines (map spelled_phrase lines))
clients_range [] = All-nil (IsOfCount MOST_SESSIONS)
clients_range (text ∷ lines) = by (spelled_phrase text) (text_range text) (clients_range lines)
  where
    by : (p : Phrase) → IsInRange p → All (IsOfCount MOST_SESSIONS) (workloads.clients_of_lines (map spelled_phrase lines)) → All (IsOfCount MOST_SESSIONS) (workloads.clients_of_lines (p ∷ map spelled_phrase lines))
    by (phrase.Client session) range rest = All-cons (IsOfCount MOST_SESSIONS) _ (workloads.clients_of_lines (map spelled_phrase lines)) range rest
    by (phrase.Points points) range rest = rest
    by phrase.Begin range rest = rest
    by (phrase.Does op) range rest = rest
    by phrase.End range rest = rest
    by (phrase.Fill fill) range rest = rest
    by phrase.Malformed range rest = rest
    by phrase.Silent range rest = rest

the_workload : (o : Option ℕ) (v w : Workload) → workloads.reading_of_workload o v ≡ reading.Runs w → v ≡ w
the_workload (Some line) v w is = absurd cc
the_workload None v w is = cc

read_clients : (text : List ℕ) → All (IsOfCount MOST_SESSIONS) (workloads.clients_of_lines (workloads.phrases_in text))
read_clients text = search (clients_range)

-- the sessions of a workload that was read are those of a run
pub read_range : (text : List ℕ) (workload : Workload) → workloads.reading_of text ≡ reading.Runs workload → All (IsOfCount MOST_SESSIONS) workload.clients
read_range text workload is =
    let lines = workloads.phrases_in text in
    subst (λ (w : Workload). All (IsOfCount MOST_SESSIONS) w.clients) (the_workload (workloads.first_bad [] lines) (workloads.workload_of lines) workload is) (read_clients text)
