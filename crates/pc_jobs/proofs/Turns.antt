-- Each worker's clients, as one client after the other is dealt.
use Rattle.std.proofs.Common.{◌≡◌, ◌≢◌, ℕ, suc, ◌<◌, ◌%◌, ◌++◌, Bool, true, false, nat_eq, if◌then◌else◌, List, [], ◌∷◌, length, replicate, slice_index_or, slice_set, refl, sym, ap, ◌∙◌, arith}
use Rattle.std.proofs.lemmas.Bool.Decides.{nat_tests}
use Rattle.std.proofs.lemmas.List.{append_assoc, get_or-replicate, get_or-set_same, get_or-set_other}
use Rattle.pc_jobs.specs.declared.works.Client.{Client}
use Rattle.pc_jobs.specs.Dealing.{share}

-- what each worker has, with its share of those that are left, is its share of all
abbrev pub HasTheirs : ℕ → List Client → List (List Client) → ℕ → List Client → Type 0
HasTheirs workers clients all place rest = (worker : ℕ) → worker < workers → slice_index_or all worker [] ++ share workers worker place rest ≡ share workers worker 0 clients

pub none_yet : (workers : ℕ) (clients : List Client) (all : List (List Client)) → all ≡ replicate workers [] → HasTheirs workers clients all 0 clients
none_yet workers clients all is worker below =
    ap (λ (own : List Client). own ++ share workers worker 0 clients) (ap (λ (lists : List (List Client)). slice_index_or lists worker []) is ∙ get_or-replicate workers worker [] [] below)

pub one_more : (workers : ℕ) (clients : List Client) (all new : List (List Client)) (place turn : ℕ) (client : Client) (rest : List Client) → turn ≡ place % workers → turn < length all
    → new ≡ slice_set all turn (slice_index_or all turn [] ++ client ∷ []) → HasTheirs workers clients all place (client ∷ rest) → HasTheirs workers clients new (suc place) rest
one_more workers clients all new place turn client rest turn_is within new_is before worker below = by (nat_eq (place % workers) worker) refl
  where
    own : List Client
    own = slice_index_or all turn []

    others : List Client
    others = share workers worker (suc place) rest

    by : (is : Bool) → nat_eq (place % workers) worker ≡ is → slice_index_or new worker [] ++ share workers worker (suc place) rest ≡ share workers worker 0 clients
    by true e =
        let same : worker ≡ turn = grind (arith, nat_tests, e, turn_is) in
        ap (λ (lists : List (List Client)). slice_index_or lists worker [] ++ others) new_is
        ∙ ap (λ n. slice_index_or (slice_set all turn (own ++ client ∷ [])) n [] ++ others) same
        ∙ ap (λ (has : List Client). has ++ others) (get_or-set_same all turn (own ++ client ∷ []) [] within)
        ∙ append_assoc own (client ∷ []) others
        ∙ ap (λ n. slice_index_or all n [] ++ client ∷ others) (sym same)
        ∙ ap (λ (b : Bool). slice_index_or all worker [] ++ (if b then client ∷ others else others)) (sym e)
        ∙ before worker below
    by false e =
        let other : worker ≢ turn = λ same. grind (arith, nat_tests, e, turn_is, same) in
        ap (λ (lists : List (List Client)). slice_index_or lists worker [] ++ others) new_is
        ∙ ap (λ (has : List Client). has ++ others) (get_or-set_other all turn worker (own ++ client ∷ []) [] other)
        ∙ ap (λ (b : Bool). slice_index_or all worker [] ++ (if b then client ∷ others else others)) (sym e)
        ∙ before worker below
