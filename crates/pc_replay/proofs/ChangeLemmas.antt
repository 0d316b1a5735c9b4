-- What changes laid over a database have at a key, what a new change does, and what a merge with the pairs makes of them.
use Rattle.std.proofs.Common.{◌≡◌, ℕ, List, [], ◌∷◌, drop, Option, Some, None, cond, Bool, true, false, refl, sym, ap, ◌∙◌}
use Rattle.std.specs.BTreeMap as tree
use Rattle.std.specs.BTreeMap.{BTreeMap, Updates}
use Rattle.std.specs.FinMap.{find}
use Rattle.std.proofs.lemmas.Cmp.{eq_by_cmp_equiv}
use Rattle.pc_model.specs.Maps.{get}
use Rattle.pc_model.specs.Database.{Database, KeysRise, database_of, key_cmp, key_order, same_bytes, put}
use Rattle.pc_model.specs.Merges.{gathered, merged}
use Rattle.pc_replay.specs.Changes.{overlaid, overlaid_there}
use Rattle.pc_model.proofs.PairMapLaws.{same_database, of_get}
use Rattle.pc_model.proofs.JoinLaws.{get_put, one_key}
use Rattle.pc_model.proofs.MergeItemLaws.{items}
use Rattle.pc_model.proofs.MergeLaws.{Merges, merges}
use Rattle.pc_model.proofs.KeyTreeLaws.{find-lookup}
use Rattle.itertools.specs.declared.either_or_both.EitherOrBoth.{EitherOrBoth}

abbrev Content : Type 0
Content = Option (List ℕ)

get-overlaid : (db : Database) (changes : List (List ℕ × Content)) (q : List ℕ) → get (overlaid db changes) q ≡ overlaid_there (get db q) (find key_cmp q changes)
get-overlaid db [] q = refl
get-overlaid db (c ∷ cs) q = get_put (overlaid db cs) c.0 q c.1 ∙ ap (cond (same_bytes q c.0) c.1) (get-overlaid db cs q) ∙ first (same_bytes q c.0)
  where
    first : (b : Bool) → cond b c.1 (overlaid_there (get db q) (find key_cmp q cs)) ≡ overlaid_there (get db q) (cond b (Some c.1) (find key_cmp q cs))
    first true = refl
    first false = refl

module _ (db : Database) (old new : BTreeMap (List ℕ) Content) (key : List ℕ) where
  find-updated : (w : Option Content) → Updates key_cmp old new key w → (q : List ℕ) → find key_cmp q new.entries ≡ cond (same_bytes q key) w (find key_cmp q old.entries)
  find-updated w updates q =
      find-lookup new.entries q ∙ updates.0 q ∙ ap (λ b. cond b w (tree.get key_cmp old q)) ((eq_by_cmp_equiv key_order.total).symm key q)
      ∙ ap (cond (same_bytes q key) w) (sym (find-lookup old.entries q))

  -- a change that is noted is a write
  pub noted : (content : Content) → Updates key_cmp old new key (Some content) → overlaid db new.entries ≡ put (overlaid db old.entries) key content
  noted content updates = same_database _ _ (λ q.
      get-overlaid db new.entries q ∙ ap (overlaid_there (get db q)) (find-updated (Some content) updates q) ∙ step (same_bytes q key) (find key_cmp q old.entries) (get db q)
      ∙ ap (cond (same_bytes q key) content) (sym (get-overlaid db old.entries q)) ∙ sym (get_put (overlaid db old.entries) key q content))
    where
      step : (b : Bool) (f : Option Content) (there : Content) → overlaid_there there (cond b (Some content) f) ≡ cond b content (overlaid_there there f)
      step true f there = refl
      step false f there = refl

  -- a write beneath is one above, if no change of the key is left
  pub forgotten : (after : Database) (content : Content) → after ≡ put db key content → Updates key_cmp old new key None → overlaid after new.entries ≡ put (overlaid db old.entries) key content
  forgotten after content is updates = same_database _ _ (λ q.
      get-overlaid after new.entries q ∙ ap (overlaid_there (get after q)) (find-updated None updates q)
      ∙ ap (λ there. overlaid_there there (cond (same_bytes q key) None (find key_cmp q old.entries))) (ap (λ m. get m q) is ∙ get_put db key q content) ∙ step (same_bytes q key) (find key_cmp q old.entries) (get db q)
      ∙ ap (cond (same_bytes q key) content) (sym (get-overlaid db old.entries q)) ∙ sym (get_put (overlaid db old.entries) key q content))
    where
      step : (b : Bool) (f : Option Content) (there : Content) → overlaid_there (cond b content there) (cond b None f) ≡ cond b content (overlaid_there there f)
      step true f there = refl
      step false f there = refl

-- the content of a key of which this is noted
pub noted_there : (db : Database) (changes : BTreeMap (List ℕ) Content) (key : List ℕ) (o : Option Content) → o ≡ tree.get key_cmp changes key → get (overlaid db changes.entries) key ≡ overlaid_there (get db key) o
noted_there db changes key o is = get-overlaid db changes.entries key ∙ ap (overlaid_there (get db key)) (find-lookup changes.entries key ∙ sym is)

-- a key that isn't there is removed by nothing
pub absent : (db : Database) (key : List ℕ) → get db key ≡ None → db ≡ put db key None
absent db key none = same_database _ _ (λ q. kept q (same_bytes q key) refl ∙ sym (get_put db key q None))
  where
    kept : (q : List ℕ) (b : Bool) → same_bytes q key ≡ b → get db q ≡ cond b None (get db q)
    kept q true same = ap (get db) (one_key q key same) ∙ none
    kept q false same = refl

abbrev Pair : Type 0
Pair = List ℕ × List ℕ

-- the pairs and the changes, key by key, and what is made of those from one on
abbrev pub overlaid_items : List Pair → List (List ℕ × Content) → List (EitherOrBoth Pair (List ℕ × Content))
overlaid_items pairs changes = items pairs changes

abbrev pub overlays : List Pair → List (List ℕ × Content) → List Pair
overlays = merged overlaid_there

abbrev pub overlays_from : List Pair → List (List ℕ × Content) → ℕ → List Pair
overlays_from pairs changes n = gathered overlaid_there (drop n (overlaid_items pairs changes))

-- a merge of pairs that ascend and changes that ascend is the changes laid over the pairs
module _ (pairs : List Pair) (changes : List (List ℕ × Content)) (rise_p : KeysRise pairs) (rise_c : KeysRise changes) where
  the_merge : Merges overlaid_there pairs changes (overlays pairs changes)
  the_merge = merges overlaid_there refl pairs changes rise_p rise_c

  pub overlay_rises : KeysRise (overlays pairs changes)
  overlay_rises = the_merge.rise

  pub overlay_map : database_of (overlays pairs changes) ≡ overlaid (database_of pairs) changes
  overlay_map = same_database _ _ (λ q. sym (of_get (overlays pairs changes) q) ∙ the_merge.finds q ∙ ap (λ there. overlaid_there there (find key_cmp q changes)) (of_get pairs q)
      ∙ sym (get-overlaid (database_of pairs) changes q))
