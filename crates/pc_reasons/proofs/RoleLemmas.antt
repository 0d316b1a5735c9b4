-- The reported role of a line of a workload, and its meaning.
use Rattle.std.proofs.Common.{◌≡◌, ℕ, ℤ, Bool, true, false, List, [], ◌∷◌, map, refl, sym, ap, ◌∙◌, subst}
use Rattle.std.specs.Prelude.{Option, Some, None, is_some, ◌||◌, if◌then◌else◌, codes}
use Rattle.std.specs.List.{list_any}
use Rattle.std.specs.Str.{bytes_eq}
use Rattle.pc_types.specs.declared.limits.TheConstants.{MOST_SESSIONS}
use Rattle.pc_lines.specs.Words.{signed_number_of}
use Rattle.pc_lines.specs.Lines.{words_of, is_comment}
use Rattle.pc_jobs.specs.declared.phrases.Phrase.{Phrase}
use Rattle.pc_jobs.specs.declared.phrases.Phrase.TheVariants as phrase
use Rattle.pc_jobs.specs.declared.phrases.TheConstants.{MOST_FILL, MOST_RUN_POINTS}
use Rattle.pc_jobs.specs.Phrases.{spelled_key, spelled_value, prefix_of, number_within, points_line, client_line, get_op_line, del_op_line, put_op_line, add_op_line, fill_line, phrase_of_words, spelled_phrase}
use Rattle.pc_jobs.specs.Workloads.{is_client}
use Rattle.pc_reasons.specs.declared.faults.LineFault.{LineFault}
use Rattle.pc_reasons.specs.declared.faults.LineFault.TheVariants.{NoCommand, CarriageReturn}
use Rattle.pc_reasons.specs.declared.workloads.LineRole.{LineRole}
use Rattle.pc_reasons.specs.declared.workloads.LineRole.TheVariants as role
use Rattle.pc_reasons.specs.LineFaults.{earlier_fault, ends_with_cr}
use Rattle.pc_reasons.specs.Workloads.{role_with, verb_role, words_role, told_role, role_of, is_client_role, is_client_line}
use Rattle.pc_reasons.proofs.WordLemmas.{either}

-- the role is that of what is spelled
abbrev pub Agrees : Phrase → LineRole → Type 0
Agrees phrase.Silent its = its ≡ role.Silent
Agrees (phrase.Points points) its = its ≡ role.Points
Agrees (phrase.Client session) its = its ≡ role.Client
Agrees phrase.Begin its = its ≡ role.Begin
Agrees (phrase.Does op) its = its ≡ role.Inside
Agrees phrase.End its = its ≡ role.Inside
Agrees (phrase.Fill fill) its = its ≡ role.Fill
Agrees phrase.Malformed its = (fault : LineFault) × (its ≡ role.Wrong fault)

-- the role of a line that begins with this word
abbrev pub AgreesAt : List (List ℕ) → List ℕ → Type 0
AgreesAt words verb = Agrees (phrase_of_words (verb ∷ words)) (verb_role verb words)

abbrev fault_unless : Bool → LineFault → Option LineFault
fault_unless b fault = if b then None else Some fault

points_told : (f : LineFault) (o : Option ℕ) → Agrees (points_line o) (role_with role.Points (fault_unless (is_some o) f))
points_told f None = (f, refl)
points_told f (Some n) = refl

client_told : (f : LineFault) (o : Option ℕ) → Agrees (client_line o) (role_with role.Client (fault_unless (is_some o) f))
client_told f None = (f, refl)
client_told f (Some n) = refl

get_told : (f : LineFault) (k : Option (List ℕ)) → Agrees (get_op_line k) (role_with role.Inside (fault_unless (is_some k) f))
get_told f None = (f, refl)
get_told f (Some k) = refl

del_told : (f : LineFault) (k : Option (List ℕ)) → Agrees (del_op_line k) (role_with role.Inside (fault_unless (is_some k) f))
del_told f None = (f, refl)
del_told f (Some k) = refl

put_told : (f g : LineFault) (k v : Option (List ℕ)) → Agrees (put_op_line k v) (role_with role.Inside (earlier_fault (fault_unless (is_some k) f) (fault_unless (is_some v) g)))
put_told f g None v = (f, refl)
put_told f g (Some k) None = (g, refl)
put_told f g (Some k) (Some v) = refl

add_told : (f g : LineFault) (k : Option (List ℕ)) (d : Option ℤ) → Agrees (add_op_line k d) (role_with role.Inside (earlier_fault (fault_unless (is_some k) f) (fault_unless (is_some d) g)))
add_told f g None d = (f, refl)
add_told f g (Some k) None = (g, refl)
add_told f g (Some k) (Some d) = refl

fill_told : (f g h : LineFault) (p : Option (List ℕ)) (n : Option ℕ) (v : Option (List ℕ)) → Agrees (fill_line p n v) (role_with role.Fill (earlier_fault (earlier_fault (fault_unless (is_some p) f) (fault_unless (is_some n) g)) (fault_unless (is_some v) h)))
fill_told f g h None n v = (f, refl)
fill_told f g h (Some p) None v = (g, refl)
fill_told f g h (Some p) (Some n) None = (h, refl)
fill_told f g h (Some p) (Some n) (Some v) = refl

-- each command
at_points : (words : List (List ℕ)) → AgreesAt words (codes "points")
at_points [] = (_, refl)
at_points (a ∷ []) = points_told _ (number_within 0 MOST_RUN_POINTS a)
at_points (a ∷ b ∷ []) = (_, refl)
at_points (a ∷ b ∷ c ∷ []) = (_, refl)
at_points (a ∷ b ∷ c ∷ d ∷ words) = (_, refl)

at_client : (words : List (List ℕ)) → AgreesAt words (codes "client")
at_client [] = (_, refl)
at_client (a ∷ []) = client_told _ (number_within 1 MOST_SESSIONS a)
at_client (a ∷ b ∷ []) = (_, refl)
at_client (a ∷ b ∷ c ∷ []) = (_, refl)
at_client (a ∷ b ∷ c ∷ d ∷ words) = (_, refl)

at_txn : (words : List (List ℕ)) → AgreesAt words (codes "txn")
at_txn [] = refl
at_txn (a ∷ []) = (_, refl)
at_txn (a ∷ b ∷ []) = (_, refl)
at_txn (a ∷ b ∷ c ∷ []) = (_, refl)
at_txn (a ∷ b ∷ c ∷ d ∷ words) = (_, refl)

at_fill : (words : List (List ℕ)) → AgreesAt words (codes "fill")
at_fill [] = (_, refl)
at_fill (a ∷ []) = (_, refl)
at_fill (a ∷ b ∷ []) = (_, refl)
at_fill (a ∷ b ∷ c ∷ []) = fill_told _ _ _ (prefix_of a) (number_within 1 MOST_FILL b) (spelled_value c)
at_fill (a ∷ b ∷ c ∷ d ∷ words) = (_, refl)

at_end : (words : List (List ℕ)) → AgreesAt words (codes "end")
at_end [] = refl
at_end (a ∷ []) = (_, refl)
at_end (a ∷ b ∷ []) = (_, refl)
at_end (a ∷ b ∷ c ∷ []) = (_, refl)
at_end (a ∷ b ∷ c ∷ d ∷ words) = (_, refl)

at_get : (words : List (List ℕ)) → AgreesAt words (codes "get")
at_get [] = (_, refl)
at_get (a ∷ []) = get_told _ (spelled_key a)
at_get (a ∷ b ∷ []) = (_, refl)
at_get (a ∷ b ∷ c ∷ []) = (_, refl)
at_get (a ∷ b ∷ c ∷ d ∷ words) = (_, refl)

at_del : (words : List (List ℕ)) → AgreesAt words (codes "del")
at_del [] = (_, refl)
at_del (a ∷ []) = del_told _ (spelled_key a)
at_del (a ∷ b ∷ []) = (_, refl)
at_del (a ∷ b ∷ c ∷ []) = (_, refl)
at_del (a ∷ b ∷ c ∷ d ∷ words) = (_, refl)

at_put : (words : List (List ℕ)) → AgreesAt words (codes "put")
at_put [] = (_, refl)
at_put (a ∷ []) = (_, refl)
at_put (a ∷ b ∷ []) = put_told _ _ (spelled_key a) (spelled_value b)
at_put (a ∷ b ∷ c ∷ []) = (_, refl)
at_put (a ∷ b ∷ c ∷ d ∷ words) = (_, refl)

at_add : (words : List (List ℕ)) → AgreesAt words (codes "add")
at_add [] = (_, refl)
at_add (a ∷ []) = (_, refl)
at_add (a ∷ b ∷ []) = add_told _ _ (spelled_key a) (signed_number_of b)
at_add (a ∷ b ∷ c ∷ []) = (_, refl)
at_add (a ∷ b ∷ c ∷ d ∷ words) = (_, refl)

-- no command
module _ (verb : List ℕ)
    (e0 : bytes_eq verb (codes "points") ≡ false)
    (e1 : bytes_eq verb (codes "client") ≡ false)
    (e2 : bytes_eq verb (codes "txn") ≡ false)
    (e3 : bytes_eq verb (codes "fill") ≡ false)
    (e4 : bytes_eq verb (codes "end") ≡ false)
    (e5 : bytes_eq verb (codes "get") ≡ false)
    (e6 : bytes_eq verb (codes "del") ≡ false)
    (e7 : bytes_eq verb (codes "put") ≡ false)
    (e8 : bytes_eq verb (codes "add") ≡ false)
  where
    unknown : (words : List (List ℕ)) → verb_role verb words ≡ role.Wrong NoCommand
    unknown words = rw (e0, e1, e2, e3, e4, e5, e6, e7, e8) refl

    other_bad : (words : List (List ℕ)) → phrase_of_words (verb ∷ words) ≡ phrase.Malformed
    other_bad [] = rw (e2, e4) refl
    other_bad (a ∷ []) = rw (e0, e1, e5, e6) refl
    other_bad (a ∷ b ∷ []) = rw (e7, e8) refl
    other_bad (a ∷ b ∷ c ∷ []) = rw e3 refl
    other_bad (a ∷ b ∷ c ∷ d ∷ words) = refl

    at_other : (words : List (List ℕ)) → AgreesAt words verb
    at_other words = subst (λ (line : Phrase). Agrees line (verb_role verb words)) (sym (other_bad words)) (NoCommand, unknown words)

by_command : (words : List (List ℕ)) (verb : List ℕ) → AgreesAt words verb
by_command words verb =
    either (AgreesAt words) (codes "points") verb (at_points words) (λ e0.
    either (AgreesAt words) (codes "client") verb (at_client words) (λ e1.
    either (AgreesAt words) (codes "txn") verb (at_txn words) (λ e2.
    either (AgreesAt words) (codes "fill") verb (at_fill words) (λ e3.
    either (AgreesAt words) (codes "end") verb (at_end words) (λ e4.
    either (AgreesAt words) (codes "get") verb (at_get words) (λ e5.
    either (AgreesAt words) (codes "del") verb (at_del words) (λ e6.
    either (AgreesAt words) (codes "put") verb (at_put words) (λ e7.
    either (AgreesAt words) (codes "add") verb (at_add words) (λ e8.
    at_other verb e0 e1 e2 e3 e4 e5 e6 e7 e8 words)))))))))

words_told : (words : List (List ℕ)) → Agrees (phrase_of_words words) (words_role words)
words_told [] = refl
words_told (verb ∷ words) = by_command words verb

-- a CR at the end changes the fault alone
cr_told : (line : Phrase) (its : LineRole) (text : List ℕ) → Agrees line its → Agrees line (told_role text its)
cr_told phrase.Silent its text e = ap (told_role text) e
cr_told (phrase.Points points) its text e = ap (told_role text) e
cr_told (phrase.Client session) its text e = ap (told_role text) e
cr_told phrase.Begin its text e = ap (told_role text) e
cr_told (phrase.Does op) its text e = ap (told_role text) e
cr_told phrase.End its text e = ap (told_role text) e
cr_told (phrase.Fill fill) its text e = ap (told_role text) e
cr_told phrase.Malformed its text (fault, e) = by (ends_with_cr text) refl
  where
    by : (b : Bool) → ends_with_cr text ≡ b → (told : LineFault) × (told_role text its ≡ role.Wrong told)
    by true r = (CarriageReturn, ap (told_role text) e ∙ ap (λ (x : Bool). if x then role.Wrong CarriageReturn else role.Wrong fault) r)
    by false r = (fault, ap (told_role text) e ∙ ap (λ (x : Bool). if x then role.Wrong CarriageReturn else role.Wrong fault) r)

-- the role of a line is that of what it spells
pub role_told : (text : List ℕ) → Agrees (spelled_phrase text) (role_of text)
role_told text = by (is_comment text)
  where
    by : (b : Bool) → Agrees (if b then phrase.Silent else phrase_of_words (words_of text)) (if b then role.Silent else told_role text (words_role (words_of text)))
    by true = refl
    by false = cr_told (phrase_of_words (words_of text)) (words_role (words_of text)) text (words_told (words_of text))

client_role : (line : Phrase) (its : LineRole) → Agrees line its → is_client_role its ≡ is_client line
client_role phrase.Silent its e = ap is_client_role e
client_role (phrase.Points points) its e = ap is_client_role e
client_role (phrase.Client session) its e = ap is_client_role e
client_role phrase.Begin its e = ap is_client_role e
client_role (phrase.Does op) its e = ap is_client_role e
client_role phrase.End its e = ap is_client_role e
client_role (phrase.Fill fill) its e = ap is_client_role e
client_role phrase.Malformed its (fault, e) = ap is_client_role e

-- so is whether some line is a client's
pub any_client_told : (lines : List (List ℕ)) → list_any is_client_line lines ≡ list_any is_client (map spelled_phrase lines)
any_client_told [] = refl
any_client_told (line ∷ lines) =
    ap (λ (x : Bool). x || list_any is_client_line lines) (client_role (spelled_phrase line) (role_of line) (role_told line))
    ∙ ap (λ (x : Bool). is_client (spelled_phrase line) || x) (any_client_told lines)
