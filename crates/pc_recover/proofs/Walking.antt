-- How far files reach, point by point from the base on.
use Rattle.std.proofs.Common.{◌≡◌, ℕ, zero, suc, ◌+◌, ◌-◌, ◌≤◌, ◌<◌, max, nat_le, Bool, true, false, not, ◌&&◌, List, [], ◌∷◌, length, get_or, Option, Some, None, refl, sym, ap, ◌∙◌, subst, arith}
use Rattle.std.specs.Prelude.{if◌then◌else◌}
use Rattle.std.specs.List.{list_all, find}
use Rattle.std.specs.Option.{is_some, option_or}
use Rattle.std.proofs.lemmas.Bool.Decides.{nat_tests}
use Rattle.pc_model.specs.Files.{File}
use Rattle.pc_recover.specs.Recovery.{is_covered, files_to, reaches, last_reached}
use Rattle.pc_recover.specs.Reach.{least_top, AreTops, IsReach}
use Rattle.pc_recover.proofs.Reaching.{is_to, least_to, least_there, points_to, none_to, all_more, find_more, none_fails}

and_false : (b : Bool) → (b && false) ≡ false
and_false true = refl
and_false false = refl

-- the facts once the points up to this one are seen: how far the files reach there, up to which point they are needed for all of
-- them, and that some file covers each
pub record IsReached (base : ℕ) (files : List File) (below point needed : ℕ) : Type 0 where
  pub from : base ≤ below
  pub reached : point ≡ last_reached base files below
  pub to : (n : ℕ) → list_all (is_covered (files_to n files)) (points_to base below) ≡ nat_le needed n
  pub all : list_all (is_covered files) (points_to base below) ≡ true

-- at the base
pub at_base : (base below : ℕ) (files : List File) → below ≡ base → IsReached base files below base 0
at_base base below files is = subst (λ m. IsReached base files m base 0) (sym is) known
  where
    least : (n : ℕ) → true ≡ nat_le 0 n
    least n = grind (arith, nat_tests)

    first : (b : ℕ) → reaches b files b ≡ true → b ≡ last_reached b files b
    first zero all = refl
    first (suc b) all = sym (ap (λ t. if t then suc b else last_reached (suc b) files b) all)

    known : IsReached base files base base 0
    known = record {
      from = omega arith;
      reached = first base (ap (list_all (is_covered (files_to base files))) (none_to base));
      to = λ n. ap (list_all (is_covered (files_to n files))) (none_to base) ∙ least n;
      all = ap (list_all (is_covered files)) (none_to base);
    }

module _ (base : ℕ) (files : List File) (below point needed : ℕ) (is : IsReached base files below point needed) where
  -- one more point, which a file covers
  pub one_further : (top next : ℕ) → least_top files (below + 1) ≡ Some top → next ≡ (if nat_le (max needed top) (below + 1) then below + 1 else point) → IsReached base files (below + 1) next (max needed top)
  one_further top next found chosen = subst (λ m. IsReached base files m next (max needed top)) same further
    where
      same : suc below ≡ below + 1
      same = omega arith

      tops : least_top files (suc below) ≡ Some top
      tops = ap (least_top files) same ∙ found

      both : (n : ℕ) → (nat_le needed n && nat_le top n) ≡ nat_le (max needed top) n
      both n = grind (arith, nat_tests)

      seen_to : (n : ℕ) → is_covered (files_to n files) (suc below) ≡ nat_le top n
      seen_to n = sym (least_to n (suc below) None files) ∙ ap (is_to n) tops

      all_to : (n : ℕ) → list_all (is_covered (files_to n files)) (points_to base (suc below)) ≡ nat_le (max needed top) n
      all_to n = all_more (is_covered (files_to n files)) base below is.from
          ∙ ap (λ t. t && is_covered (files_to n files) (suc below)) (is.to n)
          ∙ ap (λ t. nat_le needed n && t) (seen_to n)
          ∙ both n

      further : IsReached base files (suc below) next (max needed top)
      further = record {
        from = let f = is.from in omega (arith, f);
        reached = chosen
            ∙ ap (λ m. if nat_le (max needed top) m then m else point) (sym same)
            ∙ ap (λ p. if nat_le (max needed top) (suc below) then suc below else p) is.reached
            ∙ sym (ap (λ t. if t then suc below else last_reached base files below) (all_to (suc below)));
        to = all_to;
        all = all_more (is_covered files) base below is.from
            ∙ ap (λ t. t && is_covered files (suc below)) is.all
            ∙ sym (least_there (suc below) None files)
            ∙ ap is_some tops;
      }

  module _ (none : least_top files (below + 1) ≡ None) where
    same_next : suc below ≡ below + 1
    same_next = omega arith

    tops_none : least_top files (suc below) ≡ None
    tops_none = ap (least_top files) same_next ∙ none

    never_to : (n : ℕ) → is_covered (files_to n files) (suc below) ≡ false
    never_to n = sym (least_to n (suc below) None files) ∙ ap (is_to n) tops_none

    never : is_covered files (suc below) ≡ false
    never = sym (least_there (suc below) None files) ∙ ap is_some tops_none

    not_all : (n k : ℕ) → list_all (is_covered (files_to n files)) (points_to base (suc (k + below))) ≡ false
    not_all n zero = let f = is.from in
        ap (λ m. list_all (is_covered (files_to n files)) (points_to base (suc m))) (let e : 0 + below ≡ below = omega arith in e)
        ∙ all_more (is_covered (files_to n files)) base below f
        ∙ ap (λ t. list_all (is_covered (files_to n files)) (points_to base below) && t) (never_to n)
        ∙ and_false (list_all (is_covered (files_to n files)) (points_to base below))
    not_all n (suc k) = let f = is.from in let e : suc k + below ≡ suc (k + below) = omega arith in
        ap (λ m. list_all (is_covered (files_to n files)) (points_to base (suc m))) e
        ∙ all_more (is_covered (files_to n files)) base (suc (k + below)) (omega (arith, f))
        ∙ ap (λ t. t && is_covered (files_to n files) (suc (suc (k + below)))) (not_all n k)

    stays : (k : ℕ) → last_reached base files (k + below) ≡ last_reached base files below
    stays zero = ap (last_reached base files) (let e : 0 + below ≡ below = omega arith in e)
    stays (suc k) = let e : suc k + below ≡ suc (k + below) = omega arith in
        ap (last_reached base files) e
        ∙ ap (λ t. if t then suc (k + below) else last_reached base files (k + below)) (not_all (suc (k + below)) k)
        ∙ stays k

    -- the files reach no further than a point that none covers
    pub stuck_at : (last : ℕ) → below ≤ last → point ≡ last_reached base files last
    stuck_at last from = is.reached ∙ sym (stays (last - below)) ∙ ap (last_reached base files) (let e : (last - below) + below ≡ last = omega arith in e)

    lacks : (k : ℕ) → find (λ p. not (is_covered files p)) (points_to base (suc (k + below))) ≡ Some (suc below)
    lacks zero = let f = is.from in
        ap (λ m. find (λ p. not (is_covered files p)) (points_to base (suc m))) (let e : 0 + below ≡ below = omega arith in e)
        ∙ find_more (λ p. not (is_covered files p)) base below f
        ∙ ap (λ o. option_or o (if not (is_covered files (suc below)) then Some (suc below) else None)) (none_fails (is_covered files) (points_to base below) is.all)
        ∙ ap (λ (t : Bool). if not t then Some (suc below) else None) never
    lacks (suc k) = let f = is.from in let e : suc k + below ≡ suc (k + below) = omega arith in
        ap (λ m. find (λ p. not (is_covered files p)) (points_to base (suc m))) e
        ∙ find_more (λ p. not (is_covered files p)) base (suc (k + below)) (omega (arith, f))
        ∙ ap (λ o. option_or o (if not (is_covered files (suc (suc (k + below)))) then Some (suc (suc (k + below))) else None)) (lacks k)

    -- that point is the first one
    pub lack_at : (last : ℕ) → below < last → Some (below + 1) ≡ find (λ p. not (is_covered files p)) (points_to base last)
    lack_at last from = ap Some (sym same_next) ∙ sym (lacks (last - suc below)) ∙ ap (λ m. find (λ p. not (is_covered files p)) (points_to base m)) (let e : suc ((last - suc below) + below) ≡ last = omega arith in e)

  -- none is lacking if a file covers each
  pub no_lack : None ≡ find (λ p. not (is_covered files p)) (points_to base below)
  no_lack = sym (none_fails (is_covered files) (points_to base below) is.all)

-- the element at a place within the table
item_is : {X : Type 0} (xs : List X) (i : ℕ) (x d : X) → i < length xs → x ≡ get_or xs i x → get_or xs i d ≡ x
item_is [] i x d within is = absurd (omega (arith, within))
item_is (y ∷ xs) zero x d within is = sym is
item_is (y ∷ xs) (suc i) x d within is = item_is xs i x d (omega (arith, within)) is

-- the number at a point's place is its least greatest point
pub read_at : (tops : List (Option ℕ)) (files : List File) (place point : ℕ) (x : Option ℕ) → AreTops tops files → length tops ≡ 65536 → place ≡ point → point ≤ 65535 → x ≡ get_or tops place x → least_top files point ≡ x
read_at tops files place point x are len same within is = sym (are point within) ∙ item_is tops point x None (omega arith) (is ∙ ap (λ i. get_or tops i x) same)

module _ (base : ℕ) (files : List File) (below point needed : ℕ) (is : IsReached base files below point needed) where
  -- the walk ends at the first point that no file covers
  pub ends_at : below < 65535 → least_top files (below + 1) ≡ None → IsReach base files (record { point = point; missing = Some (below + 1) })
  ends_at within none = record { point = stuck_at base files below point needed is none 65535 (omega (arith, within)); missing = lack_at base files below point needed is none 65535 within }

  -- or at the last of all
  pub ends_last : below ≡ 65535 → IsReach base files (record { point = point; missing = None })
  ends_last last = subst (λ n. IsReached base files n point needed → IsReach base files (record { point = point; missing = None })) (sym last) (λ at. record { point = at.reached; missing = no_lack base files 65535 point needed at }) is

  module _ (top most next : ℕ) (found : least_top files (below + 1) ≡ Some top) (greater : most ≡ max needed top) where
    chosen_by : (t : Bool) → nat_le (max needed top) (below + 1) ≡ t → next ≡ (if t then below + 1 else point) → IsReached base files (below + 1) next most
    chosen_by t test chosen = subst (λ m. IsReached base files (below + 1) next m) (sym greater)
        (one_further base files below point needed is top next found (chosen ∙ sym (ap (λ b. if b then below + 1 else point) test)))

    -- the files up to the greatest of the tops reach this point
    pub reaches_next : most ≤ below + 1 → next ≡ below + 1 → IsReached base files (below + 1) next most
    reaches_next le chosen = chosen_by true (let m : max needed top ≤ below + 1 = omega (arith, le, greater) in grind (arith, nat_tests, m)) chosen

    -- or they don't
    pub reaches_no_more : below + 1 < most → next ≡ point → IsReached base files (below + 1) next most
    reaches_no_more lt chosen = chosen_by false (let m : below + 1 < max needed top = omega (arith, lt, greater) in grind (arith, nat_tests, m)) chosen
