-- Counts of claims, and of the claims of each pass.
use Rattle.std.proofs.Common.{◌≡◌, ◌≢◌, ◌==◌, ℕ, zero, suc, ◌+◌, ◌*◌, ◌<◌, ◌≤◌, max, eqb, Bool, true, false, cond, List, [], ◌∷◌, ◌++◌, refl, ap, ◌∙◌, arith, eq-eqb, ne_eqb}
use Rattle.std.proofs.Common.{All}
use Rattle.std.proofs.lemmas.List.Elements.{filter-append, All-head, All-tail}
use native.Mathlib.Decide.{ℕ_discrete}
use Rattle.pc_board.specs.declared.calls.Call.{Call}
use Rattle.pc_board.specs.Calls.{claims_in, claims_of, greatest_of, calls_by}

pub claims_of-append : (xs ys : List Call) → claims_of (xs ++ ys) ≡ claims_of xs + claims_of ys
claims_of-append [] ys = omega arith
claims_of-append (x ∷ xs) ys = omega (arith, claims_of-append xs ys)

pub greatest_of-append : (xs ys : List Call) → greatest_of (xs ++ ys) ≡ max (greatest_of xs) (greatest_of ys)
greatest_of-append [] ys = omega arith
greatest_of-append (x ∷ xs) ys = omega (arith, greatest_of-append xs ys)

pub calls_by-append : (n : ℕ) (xs ys : List Call) → calls_by n (xs ++ ys) ≡ calls_by n xs ++ calls_by n ys
calls_by-append n xs ys = filter-append (λ (c : Call). c.by == n) xs ys

pub calls_by-own : (c : Call) → calls_by c.by (c ∷ []) ≡ c ∷ []
calls_by-own c = ap (λ (b : Bool). cond b (c ∷ []) []) (eq-eqb c.by c.by refl)

pub calls_by-other : (n : ℕ) (c : Call) → c.by ≢ n → calls_by n (c ∷ []) ≡ []
calls_by-other n c ne = ap (λ (b : Bool). cond b (c ∷ []) []) (ne_eqb c.by n ne)

-- a call of the pass is one more of it
pub claims_of-own : (calls : List Call) (c : Call) → claims_of (calls_by c.by (calls ++ c ∷ [])) ≡ claims_of (calls_by c.by calls) + claims_in c.kind
claims_of-own calls c =
    ap claims_of (calls_by-append c.by calls (c ∷ []) ∙ ap (λ cs. calls_by c.by calls ++ cs) (calls_by-own c)) ∙ (claims_of-append (calls_by c.by calls) (c ∷ []) ∙ omega arith)

-- f of each number below p, added up
abbrev total_by : ℕ → (ℕ → ℕ) → ℕ
total_by zero f = 0
total_by (suc p) f = f p + total_by p f

total_le : (p m : ℕ) (f : ℕ → ℕ) → ((n : ℕ) → f n ≤ m) → total_by p f ≤ p * m
total_le zero m f le = omega arith
total_le (suc p) m f le = let a = le p in let b = total_le p m f le in omega arith

total_mono : (p : ℕ) (f g : ℕ → ℕ) → ((n : ℕ) → f n ≤ g n) → total_by p f ≤ total_by p g
total_mono zero f g le = omega arith
total_mono (suc p) f g le = let a = le p in let b = total_mono p f g le in omega arith

total_same : (p b x : ℕ) (f : ℕ → ℕ) → p ≤ b → total_by p (λ n. cond (eqb b n) (x + f n) (f n)) ≡ total_by p f
total_same zero b x f le = refl
total_same (suc p) b x f le =
    let ne : b ≢ p = (λ e. omega arith) in
    let here : cond (eqb b p) (x + f p) (f p) ≡ f p = ap (λ (t : Bool). cond t (x + f p) (f p)) (ne_eqb b p ne) in
    let rest = total_same p b x f (omega arith) in omega arith

total_bump : (p b x : ℕ) (f : ℕ → ℕ) → b < p → total_by p (λ n. cond (eqb b n) (x + f n) (f n)) ≡ x + total_by p f
total_bump zero b x f lt = absurd (omega arith)
total_bump (suc p) b x f lt = bumped (λ h. total_bump p b x f h) (ℕ_discrete b p)
  where
    bumped : (b < p → total_by p (λ n. cond (eqb b n) (x + f n) (f n)) ≡ x + total_by p f) → Dec (b ≡ p) → total_by (suc p) (λ n. cond (eqb b n) (x + f n) (f n)) ≡ x + total_by (suc p) f
    bumped more (yes e) =
        let here : cond (eqb b p) (x + f p) (f p) ≡ x + f p = ap (λ (t : Bool). cond t (x + f p) (f p)) (eq-eqb b p e) in
        let rest = total_same p b x f (omega arith) in omega arith
    bumped more (no ne) =
        let here : cond (eqb b p) (x + f p) (f p) ≡ f p = ap (λ (t : Bool). cond t (x + f p) (f p)) (ne_eqb b p ne) in
        let rest = more (omega arith) in omega arith

one_more : (c : Call) (cs : List Call) (n : ℕ) (b : Bool) → cond b (claims_in c.kind + claims_of (calls_by n cs)) (claims_of (calls_by n cs)) ≤ claims_of (cond b (c ∷ calls_by n cs) (calls_by n cs))
one_more c cs n true = omega arith
one_more c cs n false = omega arith

all_by : (p : ℕ) (log : List Call) → All (λ (c : Call). c.by < p) log → claims_of log ≤ total_by p (λ n. claims_of (calls_by n log))
all_by p [] h = omega arith
all_by p (c ∷ cs) h =
    let f : ℕ → ℕ = λ n. claims_of (calls_by n cs) in
    let a = total_bump p c.by (claims_in c.kind) f (All-head (λ (d : Call). d.by < p) c cs h) in
    let b = total_mono p (λ n. cond (eqb c.by n) (claims_in c.kind + f n) (f n)) (λ n. claims_of (calls_by n (c ∷ cs))) (λ n. one_more c cs n (eqb c.by n)) in
    let rest = all_by p cs (All-tail (λ (d : Call). d.by < p) c cs h) in omega arith

-- if each pass has at most m claims, there are at most m for each
pub claims_bound : (p m : ℕ) (log : List Call) → All (λ (c : Call). c.by < p) log → ((n : ℕ) → claims_of (calls_by n log) ≤ m) → claims_of log ≤ p * m
claims_bound p m log known le = let a = all_by p log known in let b = total_le p m (λ n. claims_of (calls_by n log)) le in omega arith
