-- The text that a logger writes, piece after piece; and that its text and the rest's are together the text of the whole log.
use Rattle.std.proofs.Common.{◌≡◌, ◌≤◌, ◌+◌, ◌-◌, ◌⊎◌, ℕ, List, [], ◌++◌, length, take, drop, append-nil, Option, Some, None, Ok, Err, refl, sym, ap, subst, ◌∙◌, inl, inr, append_assoc, arith}
use Rattle.std.specs.Prelude.{Result, IfOk, slice_range}
use Rattle.std.specs.Io.KnownBytes.{Appends, Keeps}
use Rattle.std.specs.List.{flat_map}
use Rattle.std.proofs.lemmas.List.{take-append-drop, drop_all}
use Rattle.std.proofs.lemmas.List.Concat.{flat_map-append}
use Rattle.pc_io.specs.Tallies.{Puts}
use Rattle.pc_types.specs.declared.Entry.{Entry}
use Rattle.pc_types.specs.declared.refusal.Refusal.{Refusal}
use Rattle.pc_types.specs.declared.refusal.Refusal.TheVariants.{OutOfMemory}
use Rattle.pc_io.specs.declared.tally.Tally.{Tally}
use Rattle.pc_io.proofs.KnownBytesLaws.{appends_then, appends_nothing}
use Rattle.pc_io.proofs.PutsLaws.{puts_then, puts_stop}
use Rattle.pc_types.proofs.SliceLaws.{ranges, to_end}
use Rattle.pc_log.specs.Texts.{header_text, entry_text, log_text}
use Rattle.pc_shared.specs.Written.{HasGoneOut}
use Rattle.pc_workers.specs.Logging.{FailsBehind, Flushes, rest_text}

-- the text of a log is that of its beginning, followed by that of the others
more_text : (run : ℕ) (before more after : List Entry) → after ≡ before ++ more → log_text run before ++ flat_map entry_text more ≡ log_text run after
more_text run before more after is =
    append_assoc (header_text run) (flat_map entry_text before) (flat_map entry_text more)
    ∙ ap (λ (t : List ℕ). header_text run ++ t) (sym (flat_map-append entry_text before more)) ∙ ap (log_text run) (sym is)

-- known bytes that have grown and then stay
grown_stays : (a b c : Option (List ℕ)) (x : List ℕ) → Appends a b x → Keeps b c → Appends a c x
grown_stays None b c x p q = tt
grown_stays (Some a) None c x p q = absurd p
grown_stays (Some a) (Some b) None x p q = absurd q
grown_stays (Some a) (Some b) (Some c) x p q = q ∙ p

module _ {T : Type 0} (contents : T → Option (List ℕ)) where
  -- a text that went out, and then a flush
  pub flushed : (a b c : Tally T) (x : List ℕ) → Puts contents a b (Ok tt) x → Flushes contents b c (Ok tt) → Puts contents a c (Ok tt) x
  flushed a b c x p q = (grown_stays (contents a.inner) (contents b.inner) (contents c.inner) x p.0 q.0, q.1 ∙ p.1)

  -- or one that failed
  pub flush_failed : (a b c : Tally T) (e : Refusal) (x : List ℕ) → Puts contents a b (Ok tt) x → Flushes contents b c (Err e) → FailsBehind contents a c e x
  flush_failed a b c e x p q = (q.0, omega (arith, q.1, p.1), grown_stays (contents a.inner) (contents b.inner) (contents c.inner) x p.0 q.2)

  -- a flush that failed after another text
  fails_then : (a b c : Tally T) (e : Refusal) (x y : List ℕ) → Puts contents a b (Ok tt) x → FailsBehind contents b c e y → FailsBehind contents a c e (x ++ y)
  fails_then a b c e x y p q = (q.0, omega (arith, q.1, p.1), appends_then (contents a.inner) (contents b.inner) (contents c.inner) x y p.0 q.2)

  -- more entries, after those whose text has gone out
  pub logs_on : (a b c : Tally T) (run : ℕ) (before more after : List Entry) → after ≡ before ++ more → Puts contents a b (Ok tt) (log_text run before)
      → Puts contents b c (Ok tt) (flat_map entry_text more) → Puts contents a c (Ok tt) (log_text run after)
  logs_on a b c run before more after is p q =
      subst (λ (t : List ℕ). Puts contents a c (Ok tt) t) (more_text run before more after is)
      (puts_then contents a b c (Ok tt) (log_text run before) (flat_map entry_text more) p q)

  -- an allocation failed after the text, or the device failed in it or after it
  abbrev Stops : Tally T → Tally T → Refusal → List ℕ → Type 0
  Stops old new e text = ((e ≡ OutOfMemory) × Puts contents old new (Ok tt) text) ⊎ (Puts contents old new (Err e) text ⊎ FailsBehind contents old new e text)

  -- the last entries, if an allocation or the device failed
  pub logs_stop : (a b c : Tally T) (e : Refusal) (run : ℕ) (before more after : List Entry) → after ≡ before ++ more → Puts contents a b (Ok tt) (log_text run before)
      → Stops b c e (flat_map entry_text more) → Stops a c e (log_text run after)
  logs_stop a b c e run before more after is p (inl h) = inl (h.0, logs_on a b c run before more after is p h.1)
  logs_stop a b c e run before more after is p (inr (inl h)) =
      inr (inl
      (subst (λ (t : List ℕ). Puts contents a c (Err e) t) (more_text run before more after is)
      (puts_then contents a b c (Err e) (log_text run before) (flat_map entry_text more) p h)))
  logs_stop a b c e run before more after is p (inr (inr h)) =
      inr (inr (subst (λ (t : List ℕ). FailsBehind contents a c e t) (more_text run before more after is) (fails_then a b c e (log_text run before) (flat_map entry_text more) p h)))

  -- the text that has gone out, and more entries after it
  pub gone_out : (b c : Tally T) (run : ℕ) (before more after : List Entry) → after ≡ before ++ more → HasGoneOut contents b (log_text run before)
      → Puts contents b c (Ok tt) (flat_map entry_text more) → HasGoneOut contents c (log_text run after)
  gone_out b c run before more after is out q = (out.0, logs_on out.0 b c run before more after is out.1 q)

  -- If the logger has written the entries that were handed out, which are the first `logged` ones of the log, and then the rest has
  -- gone out, the text of the whole log has.
  pub whole_log : (a b c : Tally T) (run logged : ℕ) (log given : List Entry) → given ≡ take logged log → Puts contents a b (Ok tt) (log_text run given)
      → Puts contents b c (Ok tt) (rest_text logged log) → Puts contents a c (Ok tt) (log_text run log)
  whole_log a b c run logged log given is p q =
      logs_on a b c run given (drop logged log) log (sym (take-append-drop logged log) ∙ ap (λ (l : List Entry). l ++ drop logged log) (sym is)) p q

  -- some of the entries after the first ones have gone out, and then more of them
  pub rest_goes_on : (a b c : Tally T) (log : List Entry) (from done count : ℕ) (text : List ℕ) → text ≡ flat_map entry_text (slice_range log done (done + count)) → from ≤ done
      → Puts contents a b (Ok tt) (flat_map entry_text (slice_range log from done)) → Puts contents b c (Ok tt) text → Puts contents a c (Ok tt) (flat_map entry_text (slice_range log from (done + count)))
  rest_goes_on a b c log from done count text is order p q =
      subst (λ (t : List ℕ). Puts contents a c (Ok tt) t)
      (ap (λ (t : List ℕ). flat_map entry_text (slice_range log from done) ++ t) is ∙ (sym (flat_map-append entry_text (slice_range log from done) (slice_range log done (done + count)))
      ∙ ap (flat_map entry_text) (ranges log from done (done + count) order (omega arith))))
      (puts_then contents a b c (Ok tt) (flat_map entry_text (slice_range log from done)) text p q)

  -- or of these in part
  pub rest_stops : (a b c : Tally T) (e : Refusal) (log : List Entry) (from done count : ℕ) (text : List ℕ) → text ≡ flat_map entry_text (slice_range log done (done + count)) → from ≤ done
      → Puts contents a b (Ok tt) (flat_map entry_text (slice_range log from done)) → Puts contents b c (Err e) text → Puts contents a c (Err e) (rest_text from log)
  rest_stops a b c e log from done count text is order p q =
      let front = flat_map entry_text (slice_range log from done) in
      let left = drop (done + count) log in
      let behind : drop done log ≡ slice_range log done (done + count) ++ left = to_end log done (done + count) (omega arith) in
      let all : drop from log ≡ slice_range log from done ++ drop done log = to_end log from done order in
      subst (λ (t : List ℕ). Puts contents a c (Err e) t)
      (ap (λ (t : List ℕ). front ++ (t ++ flat_map entry_text left)) is
      ∙ (ap (λ (t : List ℕ). front ++ t) (sym (flat_map-append entry_text (slice_range log done (done + count)) left) ∙ ap (flat_map entry_text) (sym behind))
      ∙ (sym (flat_map-append entry_text (slice_range log from done) (drop done log)) ∙ ap (flat_map entry_text) (sym all))))
      (puts_then contents a b c (Err e) front (text ++ flat_map entry_text left) p (puts_stop contents b c e text (flat_map entry_text left) q))

  -- or all of them
  pub rest_is_out : (a b : Tally T) (log : List Entry) (from done : ℕ) → length log ≤ done → from ≤ done → Puts contents a b (Ok tt) (flat_map entry_text (slice_range log from done)) → Puts contents a b (Ok tt) (rest_text from log)
  rest_is_out a b log from done all order p =
      let none : drop done log ≡ [] = drop_all done log all in
      let same : slice_range log from done ≡ drop from log = sym (to_end log from done order ∙ (ap (λ (l : List Entry). slice_range log from done ++ l) none ∙ append-nil (slice_range log from done))) in
      subst (λ (l : List Entry). Puts contents a b (Ok tt) (flat_map entry_text l)) same p

  -- nothing has gone out yet
  pub none_is_out : (a : Tally T) (log : List Entry) (from : ℕ) → Puts contents a a (Ok tt) (flat_map entry_text (slice_range log from from))
  none_is_out a log from =
      let none : from - from ≡ 0 = omega arith in
      subst (λ (n : ℕ). Puts contents a a (Ok tt) (flat_map entry_text (take n (drop from log)))) (sym none) (appends_nothing (contents a.inner), refl)

  -- the same of the current writer
  pub whole_rest : (b c : Tally T) (run logged : ℕ) (log : List Entry) (result : Result (Unit {0}) Refusal) → HasGoneOut contents b (log_text run (take logged log)) → Puts contents b c result (rest_text logged log)
      → IfOk result (λ _. HasGoneOut contents c (log_text run log))
  whole_rest b c run logged log (Ok u) out q = (out.0, whole_log out.0 b c run logged log (take logged log) refl out.1 q)
  whole_rest b c run logged log (Err e) out q = tt
