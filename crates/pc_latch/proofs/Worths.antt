-- The files of tickets: of one that was just handed out, and of the join of two.
use Rattle.std.proofs.Common.{◌≡◌, ◌≢◌, ◌⊎◌, inl, inr, ◌<◌, get_or, ⊎_elim, ℕ, ◌+◌, Bool, true, false, List, [], ◌∷◌, ◌++◌, ◌-◌, eqb, cond, length, length-append, All, ap, sym, ◌∙◌, subst, arith}
use Rattle.std.specs.Prelude.{Some, None, Contains, slice_get, Result, Ok, Err, IfErr}
use Rattle.std.proofs.lemmas.Bool.{cases_eq}
use Rattle.std.proofs.lemmas.List.{get_or_append_left, get_or-append-add}
use Rattle.std.proofs.lemmas.List.Elements.{All-head, Contains-get_or}
use Rattle.std.proofs.lemmas.Option.{slice_get_within, get_or_from_slice_get}
use Rattle.pc_types.specs.declared.Refusal.TheVariants as why
use Rattle.pc_model.specs.History.{History, log_of}
use Rattle.pc_model.specs.Sets as set
use Rattle.pc_model.specs.Files.{File, joined_file, shelf, file_at}
use Rattle.pc_model.specs.Standing.{IsOfItsPoints}
use Rattle.pc_model.specs.Replies.{Setting}
use Rattle.pc_model.specs.Calls.{IsBeginning}
use Rattle.pc_model.specs.SessionLaws.{HasNoJoins}
use Rattle.pc_model.proofs.LegalEffectLaws.{legal_has_legal_effects}
use Rattle.pc_model.proofs.ShelfFileLaws.{joined_of_points, shelf_of_points}
use Rattle.pc_model.proofs.BeginningLaws.{files_stay}
use Rattle.pc_model.proofs.FileNumberLaws.{files_numbered}
use Rattle.pc_engine.specs.Store.{Store, setting_of}
use Rattle.pc_engine.specs.Stands.{Stands}
use Rattle.pc_types.specs.declared.Refusal.{Refusal}
use Rattle.pc_latch.specs.Tickets.{IsFileWorth, HasNoFile, IsNoTicket}

all_left : {X : Type 0} (P : X → Type 0) (xs ys : List X) → All P (xs ++ ys) → All P xs
all_left P xs ys all k d lt = subst P (get_or_append_left xs ys d k lt) (all k d (omega (arith, length-append xs ys, lt)))

all_right : {X : Type 0} (P : X → Type 0) (xs ys : List X) → All P (xs ++ ys) → All P ys
all_right P xs ys all k d lt = subst P (get_or-append-add xs ys k d) (all (length xs + k) d (omega (arith, length-append xs ys, lt)))

pub worth_same : (st : Setting) (xs ys : List History) (file : File) → ys ≡ xs → IsFileWorth st xs file → IsFileWorth st ys file
worth_same st xs ys file is worth = subst (λ (hs : List History). IsFileWorth st hs file) (sym is) worth

pub worth_joined : (st : Setting) (xs ys zs : List History) (a b file : File) → zs ≡ xs ++ ys → file ≡ joined_file a b → IsFileWorth st xs a → IsFileWorth st ys b → IsFileWorth st zs file
worth_joined st xs ys zs a b file is of k m = subst (λ (y : List History × File). IsFileWorth st y.0 y.1) (λ i. (sym is i, sym of i))
    (λ h legal begins. joined_of_points st.run st.base (log_of h) a b (k h legal (all_left (λ (d : History). IsBeginning d h) xs ys begins)) (m h legal (all_right (λ (d : History). IsBeginning d h) xs ys begins)))

-- a witness of the history, and a file that is that of its points in it
pub worth_new : (st : Setting) (h w : History) (ws : List History) (file : File) → ws ≡ w ∷ [] → w ≡ h → IsOfItsPoints st.run st.base (log_of h) file → IsFileWorth st ws file
worth_new st h w ws file is sees of = worth_same st (w ∷ []) ws file is
    (λ g legal begins. files_stay st h g file legal (subst (λ (l : History). IsBeginning l g) sees (All-head (λ (d : History). IsBeginning d g) w [] begins)) of)

file_in : (files : List File) (n : ℕ) (f : File) → file_at files n ≡ Some f → Contains files f
file_in files n f = by_zero (eqb n 0)
  where
    by_zero : (b : Bool) → cond b None (slice_get files (n - 1)) ≡ Some f → Contains files f
    by_zero true is = absurd (cc (is))
    by_zero false is = subst (Contains files) (get_or_from_slice_get files (n - 1) f f is) (Contains-get_or files (n - 1) f (slice_get_within files (n - 1) f is))

-- the shelf's file is that of its points, and those are the one of its number
pub shelved_worth : (st : Setting) (w : Store) (h : History) (n : ℕ) (f : File) → setting_of w ≡ st → Stands w h → file_at w.shelf n ≡ Some f → IsOfItsPoints st.run st.base (log_of h) f
shelved_worth st w h n f is s at =
    subst (λ (t : Setting). IsOfItsPoints t.run t.base (log_of h) f) is
    (shelf_of_points (setting_of w) h (legal_has_legal_effects (setting_of w) h s.legal) s.values f (file_in (shelf (setting_of w).run h) n f (ap (λ l. file_at l n) (sym s.parts.cycle.shelved) ∙ at)))

pub shelved_points : (w : Store) (h : History) (n : ℕ) (f : File) → Stands w h → HasNoJoins h → file_at w.shelf n ≡ Some f → f.points ≡ set.insert set.empty n
shelved_points w h n f s none at = files_numbered (setting_of w) h n f (legal_has_legal_effects (setting_of w) h s.legal) none (ap (λ l. file_at l n) (sym s.parts.cycle.shelved) ∙ at)

-- the world's shelf has the files of the shelf of the history that it represents
pub shelved_by_history : (st : Setting) (w : Store) (h seen : History) (n : ℕ) → setting_of w ≡ st → Stands w h → h ≡ seen → file_at (shelf st.run seen) n ≡ file_at w.shelf n
shelved_by_history st w h seen n is s same =
    ap (λ (l : History). file_at (shelf st.run l) n) (sym same) ∙ (ap (λ (t : Setting). file_at (shelf t.run h) n) (sym is) ∙ ap (λ l. file_at l n) (sym s.parts.cycle.shelved))

-- why no ticket was handed out
pub none_handed : (st : Setting) (w : Store) (h seen : History) (n : ℕ) (given : Refusal) → setting_of w ≡ st → Stands w h → h ≡ seen → (given ≡ why.NoFile → file_at w.shelf n ≡ None) → (given ≡ why.NoFile) ⊎ (given ≡ why.OutOfMemory) → IsNoTicket st seen n given
none_handed st w h seen n given is s same none (inl e) = subst (IsNoTicket st seen n) (sym e) (shelved_by_history st w h seen n is s same ∙ none e)
none_handed st w h seen n given is s same none (inr e) = subst (IsNoTicket st seen n) (sym e) tt

-- a file is there
pub some_handed : (st : Setting) (w : Store) (h seen : History) (n : ℕ) (f : File) → setting_of w ≡ st → Stands w h → h ≡ seen → file_at w.shelf n ≡ Some f → file_at (shelf st.run seen) n ≡ Some f
some_handed st w h seen n f is s same at = shelved_by_history st w h seen n is s same ∙ at

pub not_missing : (st : Setting) (w : Store) (h seen : History) (n : ℕ) (f : File) → setting_of w ≡ st → Stands w h → h ≡ seen → file_at w.shelf n ≡ Some f → HasNoFile st seen n → ⊥
not_missing st w h seen n f is s same at none = no_file (sym none ∙ some_handed st w h seen n f is s same at)
  where
    no_file : None ≡ Some f → ⊥
    no_file e = cc

-- a fact of tickets in one history holds in another one with the same shelf
pub same_refusal : {T : Type 0} (st : Setting) (h seen : History) (n : ℕ) (r : Result T Refusal) → shelf st.run h ≡ shelf st.run seen → IfErr r (IsNoTicket st h n) → IfErr r (IsNoTicket st seen n)
same_refusal st h seen n (Ok ticket) same told = tt
same_refusal st h seen n (Err given) same told = by_why given told
  where
    by_why : (given : Refusal) → IsNoTicket st h n given → IsNoTicket st seen n given
    by_why why.NoFile none = ap (λ l. file_at l n) (sym same) ∙ none
    by_why why.OutOfMemory none = tt
    by_why other none = absurd none

-- one more keeps the fact
pub worth_more : (P : File → Type 0) (files : List File) (k : ℕ) → ((d : File) → P (get_or files k d)) → ((j : ℕ) (d : File) → j < k → P (get_or files j d)) → (j : ℕ) (d : File) → j < k + 1 → P (get_or files j d)
worth_more P files k now before j d lt =
    ⊎_elim (λ (e : j ≡ k). subst (λ (n : ℕ). P (get_or files n d)) (sym e) (now d)) (λ (e : j ≢ k). before j d (omega (arith, lt, e))) (cases_eq j k)
