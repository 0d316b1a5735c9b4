-- A line of a script has a fault if it is a bad line, and nowhere else.
use Rattle.std.proofs.Common.{◌≡◌, ℕ, ℤ, ◌+◌, ◌<◌, Bool, true, false, List, [], ◌∷◌, ◌++◌, length, get_or, drop, Result, Ok, Err, refl, sym, ap, ◌∙◌, append_assoc}
use Rattle.std.proofs.lemmas.List.{drop_more}
use Rattle.std.specs.Prelude.{Option, Some, None, is_some, IsSome, IfOk, ◌↔◌, if◌then◌else◌, codes}
use Rattle.std.specs.Str.{bytes_eq}
use Rattle.pc_lines.specs.Words.{parsed_number, signed_number_of, word_text, key_text_of}
use Rattle.pc_lines.specs.Lines.{words_of, is_comment, is_key, is_value, base_line, get_line, del_line, put_line, add_line, join_line, numbered, spelled_by, spelled}
use Rattle.pc_lines.specs.declared.lines.Line.{Line}
use Rattle.pc_lines.specs.declared.lines.Line.TheVariants as line
use Rattle.pc_reasons.specs.declared.faults.LineFault.{LineFault}
use Rattle.pc_reasons.specs.declared.faults.LineFault.TheVariants.{CarriageReturn}
use Rattle.pc_reasons.specs.declared.told_lines.BadLine.{BadLine}
use Rattle.pc_reasons.specs.LineFaults.{earlier_fault, ends_with_cr, reported_fault}
use Rattle.pc_reasons.specs.Scripts.{command_fault, words_fault, script_fault, with_bad_line, bad_lines, is_malformed}
use Rattle.pc_reasons.proofs.WordLemmas.{either}

-- the first word and those after it are split alike here and there
abbrev pub Agrees : List (List ℕ) → List ℕ → Type 0
Agrees words verb = is_some (command_fault verb words) ≡ is_malformed (spelled_by (verb ∷ words))

-- both ways of a length lead to no bad line
sound : (b : Bool) (x y : Line) → is_malformed x ≡ false → is_malformed y ≡ false → false ≡ is_malformed (if b then x else y)
sound true x y e f = sym e
sound false x y e f = sym f

-- the fault of a word, if it is no such word
abbrev fault_unless : Bool → LineFault → Option LineFault
fault_unless b f = if b then None else Some f

get_told : (f g : LineFault) (s : Option ℕ) (k : Option (List ℕ)) → is_some (earlier_fault (fault_unless (is_some s) f) (fault_unless (is_some k) g)) ≡ is_malformed (get_line s k)
get_told f g None k = refl
get_told f g (Some s) None = refl
get_told f g (Some s) (Some k) = sound (is_key k) _ _ refl refl

del_told : (f g : LineFault) (s : Option ℕ) (k : Option (List ℕ)) → is_some (earlier_fault (fault_unless (is_some s) f) (fault_unless (is_some k) g)) ≡ is_malformed (del_line s k)
del_told f g None k = refl
del_told f g (Some s) None = refl
del_told f g (Some s) (Some k) = sound (is_key k) _ _ refl refl

lengths : (b c : Bool) (x y z : Line) → is_malformed x ≡ false → is_malformed y ≡ false → is_malformed z ≡ false → false ≡ is_malformed (if b then (if c then x else y) else z)
lengths true true x y z e f g = sym e
lengths true false x y z e f g = sym f
lengths false c x y z e f g = sym g

base_told : (f g : LineFault) (k v : Option (List ℕ)) → is_some (earlier_fault (fault_unless (is_some k) f) (fault_unless (is_some v) g)) ≡ is_malformed (base_line k v)
base_told f g None v = refl
base_told f g (Some k) None = refl
base_told f g (Some k) (Some v) = lengths (is_key k) (is_value v) _ _ _ refl refl refl

join_told : (f g : LineFault) (m n : Option ℕ) → is_some (earlier_fault (fault_unless (is_some m) f) (fault_unless (is_some n) g)) ≡ is_malformed (join_line m n)
join_told f g None n = refl
join_told f g (Some m) None = refl
join_told f g (Some m) (Some n) = refl

put_told : (f g h : LineFault) (s : Option ℕ) (k v : Option (List ℕ)) → is_some (earlier_fault (earlier_fault (fault_unless (is_some s) f) (fault_unless (is_some k) g)) (fault_unless (is_some v) h)) ≡ is_malformed (put_line s k v)
put_told f g h None k v = refl
put_told f g h (Some s) None v = refl
put_told f g h (Some s) (Some k) None = refl
put_told f g h (Some s) (Some k) (Some v) = lengths (is_key k) (is_value v) _ _ _ refl refl refl

add_told : (f g h : LineFault) (s : Option ℕ) (k : Option (List ℕ)) (d : Option ℤ) → is_some (earlier_fault (earlier_fault (fault_unless (is_some s) f) (fault_unless (is_some k) g)) (fault_unless (is_some d) h)) ≡ is_malformed (add_line s k d)
add_told f g h None k d = refl
add_told f g h (Some s) None d = refl
add_told f g h (Some s) (Some k) None = refl
add_told f g h (Some s) (Some k) (Some d) = sound (is_key k) _ _ refl refl

-- each command
un_point : (o : Option ℕ) → true ≡ is_malformed (numbered (codes "point") o)
un_point None = refl
un_point (Some n) = refl

at_point : (words : List (List ℕ)) → Agrees words (codes "point")
at_point [] = refl
at_point (a ∷ []) = un_point (parsed_number a)
at_point (a ∷ b ∷ []) = refl
at_point (a ∷ b ∷ c ∷ []) = refl
at_point (a ∷ b ∷ c ∷ d ∷ words) = refl

un_seal : (o : Option ℕ) → true ≡ is_malformed (numbered (codes "seal") o)
un_seal None = refl
un_seal (Some n) = refl

at_seal : (words : List (List ℕ)) → Agrees words (codes "seal")
at_seal [] = refl
at_seal (a ∷ []) = un_seal (parsed_number a)
at_seal (a ∷ b ∷ []) = refl
at_seal (a ∷ b ∷ c ∷ []) = refl
at_seal (a ∷ b ∷ c ∷ d ∷ words) = refl

un_capture : (o : Option ℕ) → true ≡ is_malformed (numbered (codes "capture") o)
un_capture None = refl
un_capture (Some n) = refl

at_capture : (words : List (List ℕ)) → Agrees words (codes "capture")
at_capture [] = refl
at_capture (a ∷ []) = un_capture (parsed_number a)
at_capture (a ∷ b ∷ []) = refl
at_capture (a ∷ b ∷ c ∷ []) = refl
at_capture (a ∷ b ∷ c ∷ d ∷ words) = refl

un_take : (o : Option ℕ) → true ≡ is_malformed (numbered (codes "take") o)
un_take None = refl
un_take (Some n) = refl

at_take : (words : List (List ℕ)) → Agrees words (codes "take")
at_take [] = refl
at_take (a ∷ []) = un_take (parsed_number a)
at_take (a ∷ b ∷ []) = refl
at_take (a ∷ b ∷ c ∷ []) = refl
at_take (a ∷ b ∷ c ∷ d ∷ words) = refl

un_done : (o : Option ℕ) → true ≡ is_malformed (numbered (codes "done") o)
un_done None = refl
un_done (Some n) = refl

at_done : (words : List (List ℕ)) → Agrees words (codes "done")
at_done [] = refl
at_done (a ∷ []) = un_done (parsed_number a)
at_done (a ∷ b ∷ []) = refl
at_done (a ∷ b ∷ c ∷ []) = refl
at_done (a ∷ b ∷ c ∷ d ∷ words) = refl

un_rest : (o : Option ℕ) → true ≡ is_malformed (numbered (codes "rest") o)
un_rest None = refl
un_rest (Some n) = refl

at_rest : (words : List (List ℕ)) → Agrees words (codes "rest")
at_rest [] = refl
at_rest (a ∷ []) = un_rest (parsed_number a)
at_rest (a ∷ b ∷ []) = refl
at_rest (a ∷ b ∷ c ∷ []) = refl
at_rest (a ∷ b ∷ c ∷ d ∷ words) = refl

un_check : (o : Option ℕ) → true ≡ is_malformed (numbered (codes "check") o)
un_check None = refl
un_check (Some n) = refl

at_check : (words : List (List ℕ)) → Agrees words (codes "check")
at_check [] = refl
at_check (a ∷ []) = un_check (parsed_number a)
at_check (a ∷ b ∷ []) = refl
at_check (a ∷ b ∷ c ∷ []) = refl
at_check (a ∷ b ∷ c ∷ d ∷ words) = refl

by_begin : (o : Option ℕ) (f : LineFault) → is_some (fault_unless (is_some o) f) ≡ is_malformed (numbered (codes "begin") o)
by_begin None f = refl
by_begin (Some n) f = refl

at_begin : (words : List (List ℕ)) → Agrees words (codes "begin")
at_begin [] = refl
at_begin (a ∷ []) = by_begin (parsed_number a) _
at_begin (a ∷ b ∷ []) = refl
at_begin (a ∷ b ∷ c ∷ []) = refl
at_begin (a ∷ b ∷ c ∷ d ∷ words) = refl

by_commit : (o : Option ℕ) (f : LineFault) → is_some (fault_unless (is_some o) f) ≡ is_malformed (numbered (codes "commit") o)
by_commit None f = refl
by_commit (Some n) f = refl

at_commit : (words : List (List ℕ)) → Agrees words (codes "commit")
at_commit [] = refl
at_commit (a ∷ []) = by_commit (parsed_number a) _
at_commit (a ∷ b ∷ []) = refl
at_commit (a ∷ b ∷ c ∷ []) = refl
at_commit (a ∷ b ∷ c ∷ d ∷ words) = refl

by_abort : (o : Option ℕ) (f : LineFault) → is_some (fault_unless (is_some o) f) ≡ is_malformed (numbered (codes "abort") o)
by_abort None f = refl
by_abort (Some n) f = refl

at_abort : (words : List (List ℕ)) → Agrees words (codes "abort")
at_abort [] = refl
at_abort (a ∷ []) = by_abort (parsed_number a) _
at_abort (a ∷ b ∷ []) = refl
at_abort (a ∷ b ∷ c ∷ []) = refl
at_abort (a ∷ b ∷ c ∷ d ∷ words) = refl

by_state : (o : Option ℕ) (f : LineFault) → is_some (fault_unless (is_some o) f) ≡ is_malformed (numbered (codes "state") o)
by_state None f = refl
by_state (Some n) f = refl

at_state : (words : List (List ℕ)) → Agrees words (codes "state")
at_state [] = refl
at_state (a ∷ []) = by_state (parsed_number a) _
at_state (a ∷ b ∷ []) = refl
at_state (a ∷ b ∷ c ∷ []) = refl
at_state (a ∷ b ∷ c ∷ d ∷ words) = refl

by_text : (o : Option ℕ) (f : LineFault) → is_some (fault_unless (is_some o) f) ≡ is_malformed (numbered (codes "text") o)
by_text None f = refl
by_text (Some n) f = refl

at_text : (words : List (List ℕ)) → Agrees words (codes "text")
at_text [] = refl
at_text (a ∷ []) = by_text (parsed_number a) _
at_text (a ∷ b ∷ []) = refl
at_text (a ∷ b ∷ c ∷ []) = refl
at_text (a ∷ b ∷ c ∷ d ∷ words) = refl

un_get : (o : Option ℕ) → true ≡ is_malformed (numbered (codes "get") o)
un_get None = refl
un_get (Some n) = refl

at_get : (words : List (List ℕ)) → Agrees words (codes "get")
at_get [] = refl
at_get (a ∷ []) = un_get (parsed_number a)
at_get (a ∷ b ∷ []) = get_told _ _ (parsed_number a) (key_text_of b)
at_get (a ∷ b ∷ c ∷ []) = refl
at_get (a ∷ b ∷ c ∷ d ∷ words) = refl

un_del : (o : Option ℕ) → true ≡ is_malformed (numbered (codes "del") o)
un_del None = refl
un_del (Some n) = refl

at_del : (words : List (List ℕ)) → Agrees words (codes "del")
at_del [] = refl
at_del (a ∷ []) = un_del (parsed_number a)
at_del (a ∷ b ∷ []) = del_told _ _ (parsed_number a) (key_text_of b)
at_del (a ∷ b ∷ c ∷ []) = refl
at_del (a ∷ b ∷ c ∷ d ∷ words) = refl

un_base : (o : Option ℕ) → true ≡ is_malformed (numbered (codes "base") o)
un_base None = refl
un_base (Some n) = refl

at_base : (words : List (List ℕ)) → Agrees words (codes "base")
at_base [] = refl
at_base (a ∷ []) = un_base (parsed_number a)
at_base (a ∷ b ∷ []) = base_told _ _ (key_text_of a) (word_text b)
at_base (a ∷ b ∷ c ∷ []) = refl
at_base (a ∷ b ∷ c ∷ d ∷ words) = refl

un_join : (o : Option ℕ) → true ≡ is_malformed (numbered (codes "join") o)
un_join None = refl
un_join (Some n) = refl

at_join : (words : List (List ℕ)) → Agrees words (codes "join")
at_join [] = refl
at_join (a ∷ []) = un_join (parsed_number a)
at_join (a ∷ b ∷ []) = join_told _ _ (parsed_number a) (parsed_number b)
at_join (a ∷ b ∷ c ∷ []) = refl
at_join (a ∷ b ∷ c ∷ d ∷ words) = refl

un_put : (o : Option ℕ) → true ≡ is_malformed (numbered (codes "put") o)
un_put None = refl
un_put (Some n) = refl

at_put : (words : List (List ℕ)) → Agrees words (codes "put")
at_put [] = refl
at_put (a ∷ []) = un_put (parsed_number a)
at_put (a ∷ b ∷ []) = refl
at_put (a ∷ b ∷ c ∷ []) = put_told _ _ _ (parsed_number a) (key_text_of b) (word_text c)
at_put (a ∷ b ∷ c ∷ d ∷ words) = refl

un_add : (o : Option ℕ) → true ≡ is_malformed (numbered (codes "add") o)
un_add None = refl
un_add (Some n) = refl

at_add : (words : List (List ℕ)) → Agrees words (codes "add")
at_add [] = refl
at_add (a ∷ []) = un_add (parsed_number a)
at_add (a ∷ b ∷ []) = refl
at_add (a ∷ b ∷ c ∷ []) = add_told _ _ _ (parsed_number a) (key_text_of b) (signed_number_of c)
at_add (a ∷ b ∷ c ∷ d ∷ words) = refl

-- no command
module _ (verb : List ℕ)
    (e0 : bytes_eq verb (codes "point") ≡ false)
    (e1 : bytes_eq verb (codes "seal") ≡ false)
    (e2 : bytes_eq verb (codes "capture") ≡ false)
    (e3 : bytes_eq verb (codes "take") ≡ false)
    (e4 : bytes_eq verb (codes "done") ≡ false)
    (e5 : bytes_eq verb (codes "rest") ≡ false)
    (e6 : bytes_eq verb (codes "check") ≡ false)
    (e7 : bytes_eq verb (codes "begin") ≡ false)
    (e8 : bytes_eq verb (codes "commit") ≡ false)
    (e9 : bytes_eq verb (codes "abort") ≡ false)
    (e10 : bytes_eq verb (codes "state") ≡ false)
    (e11 : bytes_eq verb (codes "text") ≡ false)
    (e12 : bytes_eq verb (codes "get") ≡ false)
    (e13 : bytes_eq verb (codes "del") ≡ false)
    (e14 : bytes_eq verb (codes "base") ≡ false)
    (e15 : bytes_eq verb (codes "join") ≡ false)
    (e16 : bytes_eq verb (codes "put") ≡ false)
    (e17 : bytes_eq verb (codes "add") ≡ false)
  where
    other_numbered : (o : Option ℕ) → true ≡ is_malformed (numbered verb o)
    other_numbered None = refl
    other_numbered (Some n) = rw (e7, e8, e9, e10, e11) refl

    unknown : (words : List (List ℕ)) → is_some (command_fault verb words) ≡ true
    unknown words = rw (e0, e1, e2, e3, e4, e5, e6, e7, e8, e9, e10, e11, e12, e13, e14, e15, e16, e17) refl

    other_bad : (words : List (List ℕ)) → true ≡ is_malformed (spelled_by (verb ∷ words))
    other_bad [] = rw (e0, e1, e2, e3, e4, e5, e6) refl
    other_bad (a ∷ []) = other_numbered (parsed_number a)
    other_bad (a ∷ b ∷ []) = rw (e12, e13, e14, e15) refl
    other_bad (a ∷ b ∷ c ∷ []) = rw (e16, e17) refl
    other_bad (a ∷ b ∷ c ∷ d ∷ words) = refl

    at_other : (words : List (List ℕ)) → Agrees words verb
    at_other words = unknown words ∙ other_bad words

by_command : (words : List (List ℕ)) (verb : List ℕ) → Agrees words verb
by_command words verb =
    either (Agrees words) (codes "point") verb (at_point words) (λ e0.
    either (Agrees words) (codes "seal") verb (at_seal words) (λ e1.
    either (Agrees words) (codes "capture") verb (at_capture words) (λ e2.
    either (Agrees words) (codes "take") verb (at_take words) (λ e3.
    either (Agrees words) (codes "done") verb (at_done words) (λ e4.
    either (Agrees words) (codes "rest") verb (at_rest words) (λ e5.
    either (Agrees words) (codes "check") verb (at_check words) (λ e6.
    either (Agrees words) (codes "begin") verb (at_begin words) (λ e7.
    either (Agrees words) (codes "commit") verb (at_commit words) (λ e8.
    either (Agrees words) (codes "abort") verb (at_abort words) (λ e9.
    either (Agrees words) (codes "state") verb (at_state words) (λ e10.
    either (Agrees words) (codes "text") verb (at_text words) (λ e11.
    either (Agrees words) (codes "get") verb (at_get words) (λ e12.
    either (Agrees words) (codes "del") verb (at_del words) (λ e13.
    either (Agrees words) (codes "base") verb (at_base words) (λ e14.
    either (Agrees words) (codes "join") verb (at_join words) (λ e15.
    either (Agrees words) (codes "put") verb (at_put words) (λ e16.
    either (Agrees words) (codes "add") verb (at_add words) (λ e17.
    at_other verb e0 e1 e2 e3 e4 e5 e6 e7 e8 e9 e10 e11 e12 e13 e14 e15 e16 e17 words))))))))))))))))))

words_told : (words : List (List ℕ)) → is_some (words_fault words) ≡ is_malformed (spelled_by words)
words_told [] = refl
words_told (verb ∷ words) = by_command words verb

told_some : (text : List ℕ) (fault : Option LineFault) → is_some (reported_fault text fault) ≡ is_some fault
told_some text None = refl
told_some text (Some fault) = by (ends_with_cr text)
  where
    by : (b : Bool) → is_some (if b then Some CarriageReturn else Some fault) ≡ true
    by true = refl
    by false = refl

script_told : (text : List ℕ) → is_some (script_fault text) ≡ is_malformed (spelled text)
script_told text = by (is_comment text)
  where
    by : (b : Bool) → is_some (if b then None else reported_fault text (words_fault (words_of text))) ≡ is_malformed (if b then line.Silent else spelled_by (words_of text))
    by true = refl
    by false = told_some text (words_fault (words_of text)) ∙ words_told (words_of text)

-- what is malformed is the one variant
is_bad : (l : Line) → is_malformed l ≡ true → l ≡ line.Malformed
is_bad line.Silent e = absurd cc
is_bad line.Malformed e = refl
is_bad (line.Sets key value) e = absurd cc
is_bad (line.SetsRefused why) e = absurd cc
is_bad (line.Asks event) e = absurd cc
is_bad (line.AsksRefused why) e = absurd cc
is_bad (line.Shows view) e = absurd cc

-- a line has a fault if and only if it is a bad one
pub bad_exactly : (text : List ℕ) → IsSome (script_fault text) ↔ (spelled text ≡ line.Malformed)
bad_exactly text = (
  λ has. is_bad (spelled text) (sym (script_told text) ∙ has),
  λ is. script_told text ∙ ap is_malformed is,
)

-- the same of what a call has returned
pub returned_exactly : {E : Type 0} (returned : Result (Option LineFault) E) (text : List ℕ) → IfOk returned (λ fault. fault ≡ script_fault text) → IfOk returned (λ fault. IsSome fault ↔ (spelled text ≡ line.Malformed))
returned_exactly (Ok fault) text is = rw is (bad_exactly text)
returned_exactly (Err e) text is = tt

with_more : (number : ℕ) (fault : Option LineFault) (bad : List BadLine) → with_bad_line number fault bad ≡ with_bad_line number fault [] ++ bad
with_more number None bad = refl
with_more number (Some fault) bad = refl

-- one line more was read
pub bad_more : (lines : List (List ℕ)) (i : ℕ) (line : List ℕ) (before bad all : List BadLine) → i < length lines → line ≡ get_or lines i []
    → before ++ bad_lines (i + 1) (drop i lines) ≡ all → bad ≡ before ++ with_bad_line (i + 1) (script_fault line) []
    → bad ++ bad_lines (i + 1 + 1) (drop (i + 1) lines) ≡ all
bad_more lines i line before bad all lt is so_far more =
    let rest = bad_lines (i + 1 + 1) (drop (i + 1) lines) in
    let next : drop i lines ≡ line ∷ drop (i + 1) lines = drop_more lines i [] lt ∙ ap (λ (l : List ℕ). l ∷ drop (i + 1) lines) (sym is) in
    ap (λ (b : List BadLine). b ++ rest) more
    ∙ append_assoc before (with_bad_line (i + 1) (script_fault line) []) rest
    ∙ ap (λ (b : List BadLine). before ++ b) (sym (with_more (i + 1) (script_fault line) rest))
    ∙ ap (λ (left : List (List ℕ)). before ++ bad_lines (i + 1) left) (sym next)
    ∙ so_far
