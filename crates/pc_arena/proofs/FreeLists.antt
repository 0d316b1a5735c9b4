-- What taking, freeing and linking slots makes of the list of the free ones.
use Rattle.std.proofs.Common.{◌≡◌, ◌≢◌, ℕ, zero, suc, ◌+◌, ◌<◌, List, [], ◌∷◌, ◌++◌, length, set, Option, Some, None, is_none, sym, ap, subst, ◌∙◌, arith}
use Rattle.std.proofs.lemmas.Option.{none-some}
use Rattle.pc_chain.specs.declared.chain.Chain.{Chain}
use Rattle.pc_chain.specs.Chains.{first_of, rest_of, Avoids, AllHave, IsChain}
use Rattle.pc_chain.proofs.ChainLaws.{have_still, have_push, have_others, have_both, avoids_all, all_avoids, avoids_pushed, chain_still, empty_chain}
use Rattle.pc_chain.specs.Slots.{at, is_full, IsTaken}
use Rattle.pc_arena.specs.Cells.{IsFreeList}
use Rattle.pc_chain.proofs.SlotLaws.{at_here, at_other, not_both, not_full, full_where_none}

module _ {T : Type 0} where
  -- a slot that has a record isn't in the list
  pub taken_avoids : (items : List (Option T)) (ids : List ℕ) (id : ℕ) → AllHave (λ y. at items y ≡ None) ids → IsTaken items id → Avoids id ids
  taken_avoids items ids id b e =
      all_avoids id ids (have_still (λ y. at items y ≡ None) (λ y. y ≢ id) (λ y n s. not_both (at items id) (ap (at items) (sym s) ∙ n) e) ids b)

  -- each slot has a record if and only if the list has no first
  pub full_is : (n : ℕ) (items : List (Option T)) (links : List (Option ℕ)) (free : Chain ℕ) (ids : List ℕ) → length items ≡ n → IsFreeList n items links free ids → is_full items ≡ is_none (first_of ids)
  full_is n items links free [] l f = full_where_none items (λ id h. f.all id (omega (arith, h.0, l)) h.1 tt)
  full_is n items links free (x ∷ xs) l f = not_full items x ((let w : x < n = f.line.held.0 in omega (arith, w, l)), f.bare.0)

  -- the records other than one are as they were
  bare_still : (items : List (Option T)) (id : ℕ) (v : Option T) (ids : List ℕ) → Avoids id ids → AllHave (λ y. at items y ≡ None) ids → AllHave (λ y. at (set items id v) y ≡ None) ids
  bare_still items id v ids a b = have_both (λ y. at items y ≡ None) (λ y. y ≢ id) (λ y. at (set items id v) y ≡ None) ids (λ y e d. at_other items id y v d ∙ e) b (avoids_all id ids a)

  -- a slot that got a record is another than one without
  other_than : (items : List (Option T)) (id y : ℕ) (v : T) → id < length items → at (set items id (Some v)) y ≡ None → y ≢ id
  other_than items id y v w e s = none-some v (sym (sym (at_here items id (Some v) w) ∙ (ap (at (set items id (Some v))) (sym s) ∙ e)))

  -- the first of the list gets a record
  free_taken : (n : ℕ) (items : List (Option T)) (links : List (Option ℕ)) (free new : Chain ℕ) (x : ℕ) (xs : List ℕ) (v : T) → length items ≡ n → IsFreeList n items links free (x ∷ xs) →
      IsChain (λ id. id < n) (at links) new xs → IsFreeList n (set items x (Some v)) links new xs
  free_taken n items links free new x xs v l f c = record {
    line = c;
    bare = bare_still items x (Some v) xs f.line.leads.1 f.bare.1;
    all = λ id w e a.
        let n : id ≢ x = other_than items x id v (let h : x < n = f.line.held.0 in omega (arith, h, l)) e in
        f.all id w (sym (at_other items x id (Some v) n) ∙ e) ((λ (s : x ≡ id). n (sym s)), a);
  }

  pub free_taken_first : (n : ℕ) (items : List (Option T)) (links : List (Option ℕ)) (free new : Chain ℕ) (ids : List ℕ) (x : ℕ) (v : T) → length items ≡ n → IsFreeList n items links free ids → Some x ≡ first_of ids →
      IsChain (λ id. id < n) (at links) new (rest_of ids) → IsFreeList n (set items x (Some v)) links new (rest_of ids)
  free_taken_first n items links free new [] x v l f e c = absurd cc
  free_taken_first n items links free new (y ∷ ys) x v l f e c =
      let s : y ≡ x = cc in subst (λ (z : ℕ). IsFreeList n (set items z (Some v)) links new ys) s (free_taken n items links free new y ys v l f c)

  -- a slot without a record is none that came after with one
  bare_pushed : (items : List (Option T)) (v : T) (id : ℕ) → at (items ++ Some v ∷ []) id ≡ None → id < length items + 1 → (id < length items) × (at items id ≡ None)
  bare_pushed [] v zero e w = absurd cc
  bare_pushed [] v (suc id) e w = absurd (omega (arith, w))
  bare_pushed (x ∷ xs) v zero e w = (omega arith, e)
  bare_pushed (x ∷ xs) v (suc id) e w = let r = bare_pushed xs v id e (omega (arith, w)) in (let u = r.0 in omega (arith, u), r.1)

  -- no slot is free, and one more that has a record comes after them
  pub free_fresh : (n : ℕ) (items : List (Option T)) (links links' : List (Option ℕ)) (free new : Chain ℕ) (ids : List ℕ) (v : T) → length items ≡ n → IsFreeList n items links free ids → None ≡ first_of ids →
      IsChain (λ id. id < n) (at links) new (rest_of ids) → IsFreeList (n + 1) (items ++ Some v ∷ []) links' new []
  free_fresh n items links links' free new (y ∷ ys) v l f e c = absurd cc
  free_fresh n items links links' free new [] v l f e c = record {
    line = empty_chain (λ id. id < n + 1) (at links') new (c.first, c.last);
    bare = tt;
    all = λ id w h a. let r = bare_pushed items v id h (omega (arith, w, l)) in f.all id (let u = r.0 in omega (arith, u, l)) r.1 tt;
  }

  -- a slot that has a record gets another one
  pub free_changed : (n : ℕ) (items : List (Option T)) (links : List (Option ℕ)) (free : Chain ℕ) (ids : List ℕ) (id : ℕ) (v : T) → id < length items → IsTaken items id →
      IsFreeList n items links free ids → IsFreeList n (set items id (Some v)) links free ids
  free_changed n items links free ids id v w e f = record {
    line = f.line;
    bare = bare_still items id (Some v) ids (taken_avoids items ids id f.bare e) f.bare;
    all = λ y u h a. f.all y u (sym (at_other items id y (Some v) (other_than items id y v w h)) ∙ h) a;
  }

  -- a slot has no record any more, and is last in the list
  pub free_given : (n : ℕ) (items : List (Option T)) (links links' : List (Option ℕ)) (free new : Chain ℕ) (ids : List ℕ) (id : ℕ) → id < length items → IsFreeList n items links free ids → Avoids id ids →
      IsChain (λ id. id < n) (at links') new (ids ++ id ∷ []) → IsFreeList n (set items id None) links' new (ids ++ id ∷ [])
  free_given n items links links' free new ids id w f a c = record {
    line = c;
    bare = have_push (λ y. at (set items id None) y ≡ None) ids id (bare_still items id None ids a f.bare) (at_here items id None w);
    all = λ y v e b.
        let r = avoids_pushed y id ids b in
        f.all y v (sym (at_other items id y None (λ (s : y ≡ id). r.1 (sym s))) ∙ e) r.0;
  }

  -- the link of a slot that has a record is set
  pub free_linked : (n : ℕ) (items : List (Option T)) (links links' : List (Option ℕ)) (free : Chain ℕ) (ids : List ℕ) (id : ℕ) → IsTaken items id → ((y : ℕ) → y ≢ id → at links' y ≡ at links y) →
      IsFreeList n items links free ids → IsFreeList n items links' free ids
  free_linked n items links links' free ids id e o f = record {
    line = chain_still (λ id. id < n) (λ id. id < n) (at links) (at links') free ids (λ x h. h) (have_others (λ y. at links' y ≡ at links y) id o ids (taken_avoids items ids id f.bare e)) f.line;
    bare = f.bare;
    all = f.all;
  }
