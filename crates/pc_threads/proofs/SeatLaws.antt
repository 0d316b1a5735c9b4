-- The sessions that are in the list, while clients are given theirs.
use Rattle.std.proofs.Common.{◌≡◌, ◌==◌, ◌||◌, ℕ, zero, suc, Bool, true, false, List, [], ◌∷◌, ◌++◌, drop, map, get_or, All, refl, ap, sym, subst, ◌∙◌, arith, append_assoc}
use Rattle.std.specs.List.{remove}
use Rattle.std.proofs.lemmas.List.{append-nil, map-append}
use Rattle.std.proofs.lemmas.List.Elements.{All-nil, All-cons, All-head, All-tail}
use Rattle.std.proofs.lemmas.List.Folds.{list_any-append}
use Rattle.std.proofs.lemmas.Bool.Decides.{nat_tests}
use Rattle.pc_jobs.specs.declared.works.Client.{Client}
use Rattle.pc_shared.specs.Sitters.{Sitter, has_sitter}
use Rattle.pc_threads.specs.Clients.{AreSeated, HaveSeats, clients_in, is_taken}

-- of tests, some of which hold
turned : (a b : Bool) → (a || b) ≡ true → (b || a) ≡ true
turned true true is = refl
turned true false is = refl
turned false true is = refl
turned false false is = is

below : (a b c d : Bool) → (a || b) ≡ true → (b ≡ true → (c || d) ≡ true) → ((a || c) || d) ≡ true
below true b c d is rest = refl
below false b c d is rest = rest is

either : (a b c d : Bool) → (a || b) ≡ true → (a ≡ true → (c || d) ≡ true) → (c || (b || d)) ≡ true
either true b true d is rest = refl
either true true false d is rest = refl
either true false false d is rest = rest refl
either false true true d is rest = refl
either false true false d is rest = refl
either false false c d is rest = absurd (cc (is))

left_alone : (a b : Bool) → b ≡ false → (a || b) ≡ true → a ≡ true
left_alone true b off is = refl
left_alone false b off is = absurd (cc (off, is))

pub neither : (a b : Bool) → (a || b) ≡ false → (a ≡ false) × (b ≡ false)
neither true b is = absurd (cc (is))
neither false b is = (refl, is)

both_off : (a b : Bool) → a ≡ false → b ≡ false → (a || b) ≡ false
both_off true b x y = absurd (cc (x))
both_off false b x y = y

beside : (a : Bool) → a ≡ true → (a || false) ≡ true
beside true is = refl
beside false is = is

other_way : (m n : ℕ) → (m == n) ≡ false → (n == m) ≡ false
other_way m n is = grind (arith, nat_tests)

-- a session that isn't the next is after it
pub stands_behind : (sessions : List Sitter) (place n : ℕ) (d : Sitter) → ((get_or sessions place d).number == n) ≡ false → has_sitter (drop place sessions) n ≡ true → has_sitter (drop (suc place) sessions) n ≡ true
stands_behind [] zero n d off there = absurd (cc (there))
stands_behind [] (suc place) n d off there = absurd (cc (there))
stands_behind (s ∷ sessions) zero n d off there = left_alone (has_sitter sessions n) (s.number == n) off (turned (s.number == n) (has_sitter sessions n) there)
stands_behind (s ∷ sessions) (suc place) n d off there = stands_behind sessions place n d off there

-- if the session of a number is taken out, the others are still there
pub others_stay : (sessions : List Sitter) (place n m : ℕ) (d : Sitter) → (get_or sessions place d).number ≡ n → has_sitter sessions m ≡ true → (has_sitter (remove sessions place) m || (n == m)) ≡ true
others_stay [] place n m d at there = absurd (cc (there))
others_stay (s ∷ sessions) zero n m d at there = subst (λ k. (has_sitter sessions m || (k == m)) ≡ true) at (turned (s.number == m) (has_sitter sessions m) there)
others_stay (s ∷ sessions) (suc place) n m d at there =
    below (s.number == m) (has_sitter sessions m) (has_sitter (remove sessions place) m) (n == m) there (others_stay sessions place n m d at)

-- sessions that aren't used are still there
pub kept : (used : ℕ → Bool) (old new : List Sitter) (clients : List Client) → ((m : ℕ) → has_sitter old m ≡ true → (has_sitter new m || used m) ≡ true) → All (λ (c : Client). used c.session ≡ false) clients
    → HaveSeats old clients → HaveSeats new clients
kept used old new [] left free seats = tt
kept used old new (c ∷ clients) left free (there, apart, rest) = (
  left_alone (has_sitter new c.session) (used c.session) (All-head (λ (k : Client). used k.session ≡ false) c clients free) (left c.session there),
  apart,
  kept used old new clients left (All-tail (λ (k : Client). used k.session ≡ false) c clients free) rest,
)

-- no client has the session
pub none_has : (n : ℕ) (clients : List Client) → is_taken clients n ≡ false → All (λ (c : Client). (n == c.session) ≡ false) clients
none_has n [] free = All-nil (λ (c : Client). (n == c.session) ≡ false)
none_has n (c ∷ clients) free =
    let off = neither (c.session == n) (is_taken clients n) free in
    All-cons (λ (k : Client). (n == k.session) ≡ false) c clients (other_way c.session n off.0) (none_has n clients off.1)

-- of some clients and others after them: each part by itself, and none of the later ones has a session of the earlier ones
pub front_seats : (sessions : List Sitter) (xs ys : List Client) → HaveSeats sessions (xs ++ ys) → HaveSeats sessions xs
front_seats sessions [] ys seats = tt
front_seats sessions (x ∷ xs) ys (there, apart, rest) =
    (there, (neither (is_taken xs x.session) (is_taken ys x.session) (sym (list_any-append (λ (c : Client). c.session == x.session) xs ys) ∙ apart)).0, front_seats sessions xs ys rest)

pub back_seats : (sessions : List Sitter) (xs ys : List Client) → HaveSeats sessions (xs ++ ys) → HaveSeats sessions ys
back_seats sessions [] ys seats = seats
back_seats sessions (x ∷ xs) ys (there, apart, rest) = back_seats sessions xs ys rest

pub back_free : (sessions : List Sitter) (xs ys : List Client) → HaveSeats sessions (xs ++ ys) → All (λ (c : Client). is_taken xs c.session ≡ false) ys
back_free sessions [] ys seats = none ys
  where
    none : (clients : List Client) → All (λ (c : Client). false ≡ false) clients
    none [] = All-nil (λ (c : Client). false ≡ false)
    none (c ∷ clients) = All-cons (λ (k : Client). false ≡ false) c clients refl (none clients)
back_free sessions (x ∷ xs) ys (there, apart, rest) =
    joined ys (none_has x.session ys (neither (is_taken xs x.session) (is_taken ys x.session) (sym (list_any-append (λ (c : Client). c.session == x.session) xs ys) ∙ apart)).1) (back_free sessions xs ys rest)
  where
    joined : (clients : List Client) → All (λ (c : Client). (x.session == c.session) ≡ false) clients → All (λ (c : Client). is_taken xs c.session ≡ false) clients → All (λ (c : Client). is_taken (x ∷ xs) c.session ≡ false) clients
    joined [] a b = All-nil (λ (c : Client). is_taken (x ∷ xs) c.session ≡ false)
    joined (c ∷ clients) a b =
        All-cons (λ (k : Client). is_taken (x ∷ xs) k.session ≡ false) c clients
        (both_off (x.session == c.session) (is_taken xs c.session) (All-head (λ (k : Client). (x.session == k.session) ≡ false) c clients a) (All-head (λ (k : Client). is_taken xs k.session ≡ false) c clients b))
        (joined clients (All-tail (λ (k : Client). (x.session == k.session) ≡ false) c clients a) (All-tail (λ (k : Client). is_taken xs k.session ≡ false) c clients b))

-- if the earlier ones have theirs, the later ones still have seats
pub seats_behind : (old new : List Sitter) (xs ys : List Client) → HaveSeats old (xs ++ ys) → AreSeated xs old new → HaveSeats new ys
seats_behind old new xs ys seats seated = kept (is_taken xs) old new ys seated (back_free old xs ys seats) (back_seats old xs ys seats)

-- before the first client
pub none_seated : (sessions : List Sitter) → AreSeated [] sessions sessions
none_seated sessions m there = beside (has_sitter sessions m) there

-- some clients and then others
pub seated_then : (old between new : List Sitter) (xs ys : List Client) → AreSeated xs old between → AreSeated ys between new → AreSeated (xs ++ ys) old new
seated_then old between new xs ys first then m there =
    (λ k. has_sitter new m || list_any-append (λ (c : Client). c.session == m) xs ys k) ∙ either (has_sitter between m) (is_taken xs m) (has_sitter new m) (is_taken ys m) (first m there) (then m)

-- one client
pub one_seated : (old new : List Sitter) (client : Client) → ((m : ℕ) → has_sitter old m ≡ true → (has_sitter new m || (client.session == m)) ≡ true) → AreSeated (client ∷ []) old new
one_seated old new client left m there = more (has_sitter new m) (client.session == m) (left m there)
  where
    more : (a b : Bool) → (a || b) ≡ true → (a || (b || false)) ≡ true
    more true b is = refl
    more false true is = refl
    more false false is = is

-- the clients of one worker more
pub worker_seated : (old between new : List Sitter) (workers : List (List Client)) (clients : List Client) → AreSeated (clients_in workers) old between → AreSeated clients between new → AreSeated (clients_in (workers ++ clients ∷ [])) old new
worker_seated old between new workers clients first then = subst (λ (cs : List Client). AreSeated cs old new) (sym (in_all workers)) (seated_then old between new (clients_in workers) clients first then)
  where
    in_all : (ws : List (List Client)) → clients_in (ws ++ clients ∷ []) ≡ clients_in ws ++ clients
    in_all [] = append-nil clients
    in_all (w ∷ ws) = ap (λ cs. w ++ cs) (in_all ws) ∙ sym (append_assoc w (clients_in ws) clients)

-- one more of some items goes to those that were iterated over
pub one_over : {X : Type 0} (before now : List X) (x y : X) (rest all whole : List X) → now ≡ before ++ x ∷ [] → x ≡ y → all ≡ y ∷ rest → before ++ all ≡ whole → now ++ rest ≡ whole
one_over before now x y rest all whole is same steps was =
    ap (λ xs. xs ++ rest) is ∙ append_assoc before (x ∷ []) rest ∙ ap (λ z. before ++ z ∷ rest) same ∙ ap (λ xs. before ++ xs) (sym steps) ∙ was

-- the same if each has a client
pub client_more : {X : Type 0} (f : X → Client) (before now : List X) (x : X) → now ≡ before ++ x ∷ [] → map f now ≡ map f before ++ f x ∷ []
client_more f before now x is = ap (map f) is ∙ map-append f before (x ∷ [])
