-- A fact of the clients of all workers is one of all clients.
use Rattle.std.proofs.Common.{◌≡◌, ◌<◌, ◌≤◌, ◌+◌, ◌%◌, ℕ, zero, suc, Bool, true, false, List, [], ◌∷◌, ◌++◌, length, All, refl, ap, sym, ◌∙◌, subst, arith}
use Rattle.std.specs.Prelude.{nat_eq, slice_index_or, if◌then◌else◌}
use Rattle.std.proofs.lemmas.List.Elements.{All-nil, All-cons, All-head, All-tail, All-append}
use Rattle.std.proofs.lemmas.Bool.Decides.{nat_tests}
use Rattle.pc_jobs.specs.declared.works.Client.{Client}
use Rattle.pc_jobs.specs.Dealing.{share, IsDealt}
use Rattle.pc_threads.specs.Clients.{clients_in}

module _ (P : Client → Type 0) where
  -- a fact of all clients is one of a share
  pub share_has : (workers worker place : ℕ) (clients : List Client) → All P clients → All P (share workers worker place clients)
  share_has workers worker place [] all = All-nil P
  share_has workers worker place (c ∷ clients) all = by (nat_eq (place % workers) worker) (share_has workers worker (suc place) clients (All-tail P c clients all))
    where
      by : (mine : Bool) → All P (share workers worker (suc place) clients) → All P (if mine then c ∷ share workers worker (suc place) clients else share workers worker (suc place) clients)
      by true others = All-cons P c (share workers worker (suc place) clients) (All-head P c clients all) others
      by false others = others

  -- and a fact of all shares is one of all clients
  pub shares_have : (workers place : ℕ) (clients : List Client) → 1 ≤ workers → ((worker : ℕ) → worker < workers → All P (share workers worker place clients)) → All P clients
  shares_have workers place [] some all = All-nil P
  shares_have workers place (c ∷ clients) some all =
      All-cons P c clients (first (nat_eq (place % workers) (place % workers)) (grind (arith, nat_tests)) (all (place % workers) (omega (arith, some))))
      (shares_have workers (suc place) clients some (λ worker low. rest worker (nat_eq (place % workers) worker) (all worker low)))
    where
      first : (mine : Bool) → mine ≡ true → All P (if mine then c ∷ share workers (place % workers) (suc place) clients else share workers (place % workers) (suc place) clients) → P c
      first true is has = All-head P c (share workers (place % workers) (suc place) clients) has
      first false is has = absurd (cc (is))

      rest : (worker : ℕ) (mine : Bool) → All P (if mine then c ∷ share workers worker (suc place) clients else share workers worker (suc place) clients) → All P (share workers worker (suc place) clients)
      rest worker true has = All-tail P c (share workers worker (suc place) clients) has
      rest worker false has = has

  pub all_in : (all : List (List Client)) → ((worker : ℕ) → worker < length all → All P (slice_index_or all worker [])) → All P (clients_in all)
  all_in [] has = All-nil P
  all_in (first ∷ others) has = All-append P first (clients_in others) (has 0 (omega arith)) (all_in others (λ worker low. has (suc worker) (omega (arith, low))))

  front : (xs ys : List Client) → All P (xs ++ ys) → All P xs
  front [] ys has = All-nil P
  front (x ∷ xs) ys has = All-cons P x xs (All-head P x (xs ++ ys) has) (front xs ys (All-tail P x (xs ++ ys) has))

  back : (xs ys : List Client) → All P (xs ++ ys) → All P ys
  back [] ys has = has
  back (x ∷ xs) ys has = back xs ys (All-tail P x (xs ++ ys) has)

  pub in_each : (all : List (List Client)) → All P (clients_in all) → (worker : ℕ) → worker < length all → All P (slice_index_or all worker [])
  in_each [] has worker low = absurd (omega (arith, low))
  in_each (first ∷ others) has zero low = front first (clients_in others) has
  in_each (first ∷ others) has (suc worker) low = in_each others (back first (clients_in others) has) worker (omega (arith, low))

-- a sum over clients
module _ (f : Client → ℕ) where
  abbrev pub total : List Client → ℕ
  total [] = 0
  total (c ∷ clients) = f c + total clients

  pub total-append : (xs ys : List Client) → total (xs ++ ys) ≡ total xs + total ys
  total-append [] ys = omega arith
  total-append (x ∷ xs) ys = ap (λ n. f x + n) (total-append xs ys) ∙ omega arith

  module _ (workers : ℕ) where
    -- over the shares of the given number of workers, from one on
    abbrev of_shares : ℕ → ℕ → ℕ → List Client → ℕ
    of_shares worker zero place clients = 0
    of_shares worker (suc count) place clients = total (share workers worker place clients) + of_shares (suc worker) count place clients

    in_turn : (all : List (List Client)) (worker place : ℕ) (clients : List Client) → ((w : ℕ) → w < length all → slice_index_or all w [] ≡ share workers (worker + w) place clients)
        → total (clients_in all) ≡ of_shares worker (length all) place clients
    in_turn [] worker place clients is = refl
    in_turn (first ∷ others) worker place clients is =
        let here : first ≡ share workers worker place clients = is 0 (omega arith) ∙ ap (λ w. share workers w place clients) (omega arith) in
        let behind = in_turn others (suc worker) place clients (λ w low. is (suc w) (omega (arith, low)) ∙ ap (λ n. share workers n place clients) (omega arith)) in
        total-append first (clients_in others) ∙ ap (λ (cs : List Client). total cs + total (clients_in others)) here ∙ ap (λ n. total (share workers worker place clients) + n) behind

    of_none : (worker count place : ℕ) → of_shares worker count place [] ≡ 0
    of_none worker zero place = refl
    of_none worker (suc count) place = let behind = of_none (suc worker) count place in omega (arith, behind)

    module _ (c : Client) (place : ℕ) (clients : List Client) where
      others : (worker : ℕ) → ℕ
      others worker = total (share workers worker (suc place) clients)

      one : (worker : ℕ) (mine : Bool) → nat_eq (place % workers) worker ≡ mine → total (share workers worker place (c ∷ clients)) ≡ (if mine then f c + total (share workers worker (suc place) clients) else total (share workers worker (suc place) clients))
      one worker true is = ap (λ b. total (if b then c ∷ share workers worker (suc place) clients else share workers worker (suc place) clients)) is
      one worker false is = ap (λ b. total (if b then c ∷ share workers worker (suc place) clients else share workers worker (suc place) clients)) is

      -- the client is at none of these workers
      before : (worker count : ℕ) → place % workers < worker → of_shares worker count place (c ∷ clients) ≡ of_shares worker count (suc place) clients
      before worker zero low = refl
      before worker (suc count) low =
          ap (λ n. n + of_shares (suc worker) count place (c ∷ clients)) (one worker false (grind (arith, nat_tests)))
          ∙ ap (λ n. total (share workers worker (suc place) clients) + n) (before (suc worker) count (omega (arith, low)))

      -- it is at one of them
      among : (worker count : ℕ) → worker ≤ place % workers → place % workers < worker + count → of_shares worker count place (c ∷ clients) ≡ f c + of_shares worker count (suc place) clients
      among worker zero low high = absurd (omega (arith, low, high))
      among worker (suc count) low high = by (nat_eq (place % workers) worker) refl (λ off. among (suc worker) count off (omega (arith, high)))
        where
          by : (mine : Bool) → nat_eq (place % workers) worker ≡ mine → (suc worker ≤ place % workers → of_shares (suc worker) count place (c ∷ clients) ≡ f c + of_shares (suc worker) count (suc place) clients)
              → of_shares worker (suc count) place (c ∷ clients) ≡ f c + of_shares worker (suc count) (suc place) clients
          by true is rest =
              let at : place % workers ≡ worker = grind (arith, nat_tests) in
              ap (λ n. n + of_shares (suc worker) count place (c ∷ clients)) (one worker true is)
              ∙ ap (λ n. f c + total (share workers worker (suc place) clients) + n) (before (suc worker) count (omega (arith, at)))
              ∙ omega arith
          by false is rest =
              let off : suc worker ≤ place % workers = grind (arith, nat_tests) in
              ap (λ n. n + of_shares (suc worker) count place (c ∷ clients)) (one worker false is)
              ∙ ap (λ n. total (share workers worker (suc place) clients) + n) (rest off)
              ∙ omega arith

    of_all : 1 ≤ workers → (place : ℕ) (clients : List Client) → of_shares 0 workers place clients ≡ total clients
    of_all some place [] = of_none 0 workers place
    of_all some place (c ∷ clients) = among c place clients 0 workers (omega arith) (omega (arith, some)) ∙ ap (λ n. f c + n) (of_all some (suc place) clients)

  -- the sum over the clients of all workers is that over all clients
  pub same_total : (workers : ℕ) (clients : List Client) (all : List (List Client)) → 1 ≤ workers → IsDealt workers clients all → total (clients_in all) ≡ total clients
  same_total workers clients all some dealt =
      in_turn workers all 0 0 clients (λ w low. dealt.shares w (omega (arith, low, dealt.count)) ∙ ap (λ n. share workers n 0 clients) (omega arith))
      ∙ ap (λ n. of_shares workers 0 n 0 clients) dealt.count ∙ of_all workers some 0 clients

-- a fact of the clients of all workers is one of all clients, and conversely
pub of_dealt : (P : Client → Type 0) (workers : ℕ) (clients : List Client) (all : List (List Client)) → 1 ≤ workers → IsDealt workers clients all → All P (clients_in all) → All P clients
of_dealt P workers clients all some dealt has =
    shares_have P workers 0 clients some (λ worker low. subst (All P) (dealt.shares worker low) (in_each P all has worker (omega (arith, low, dealt.count))))

pub to_dealt : (P : Client → Type 0) (workers : ℕ) (clients : List Client) (all : List (List Client)) → IsDealt workers clients all → All P clients → All P (clients_in all)
to_dealt P workers clients all dealt has =
    all_in P all (λ worker low. subst (All P) (sym (dealt.shares worker (omega (arith, low, dealt.count)))) (share_has P workers worker 0 clients has))
