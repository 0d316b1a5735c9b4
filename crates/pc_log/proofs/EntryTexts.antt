-- What was read of an entry is its text.
use Rattle.std.proofs.Common.{◌≡◌, ℕ, zero, suc, ◌^◌, ◌<◌, ◌≤◌, Bool, false, ltb, eqb, List, [], ◌∷◌, ◌++◌, length, take, drop, ◌&&◌, ◌||◌, not, Ok, refl, sym, ap, subst, ◌∙◌, append_assoc, arith}
use Rattle.std.specs.Prelude.{nat_le}
use Rattle.std.specs.List.{flat_map, list_any, IsDistinct, AllByRecursion}
use Rattle.std.specs.Int.{w8, w16, w32, to_be_bytes}
use Rattle.std.specs.Cmp.{IsEquivalence}
use Rattle.std.specs.Cmp.Lexicographic.{nat_list_cmp_total}
use Rattle.std.proofs.lemmas.Bool.{not-true, eqb-true}
use Rattle.std.proofs.lemmas.Bool.Decides.{nat_tests}
use Rattle.std.proofs.lemmas.Cmp.{eq_by_cmp_equiv}
use Rattle.std.proofs.lemmas.List.{append-nil, nil_from_length, map-append}
use Rattle.std.proofs.lemmas.Map.Keys.{IsDistinct-push}
use Rattle.pc_types.specs.declared.refusal.Refusal.{Refusal}
use Rattle.pc_types.specs.declared.refusal.Refusal.TheVariants.{Short, KeyOrder, BadLength, Trailing, TokenOrder}
use Rattle.pc_types.specs.declared.Entry.{Entry}
use Rattle.pc_io.specs.declared.Format.{Format}
use Rattle.pc_types.specs.declared.Entry.TheVariants.{Commit, Token}
use Rattle.pc_types.specs.declared.Change.{Change}
use Rattle.pc_types.specs.declared.Write.{Write}
use Rattle.pc_io.specs.Fields.{◌>>=◌, where_true, bytes_at, number_at, key_at, key_text_in, HasKey}
use Rattle.pc_types.proofs.ByteLaws.{IsBytes-take, IsBytes-rest}
use Rattle.pc_io.proofs.FieldLaws.{bind_ok, guard_ok, where_ok, ok_is, TakesText-then, bytes_take, wide16, wide32, number_takes, key_takes}
use Rattle.pc_types.specs.Bytes.{IsBytes}
use Rattle.pc_io.specs.FieldForms.{TakesText}
use Rattle.pc_log.specs.declared.order.LastToken.{LastToken}
use Rattle.pc_model.specs.FewWrites.{HasFewWrites}
use Rattle.pc_log.specs.Texts.{change_text, write_text_in, phase_number, body_text_in, entry_text_in, same_key, keys_of, IsWrite, IsEntry, HasEntry}
use Rattle.pc_log.specs.Orders.{comes_next}
use Rattle.pc_log.specs.Reading.{byte_at, is_written, change_at, write_at, writes_at, commit_at, phase_numbered, token_at, kind_at, body_at, entry_at}
use Rattle.pc_log.proofs.TokenOrders.{ComesNext, HasBegun, next_is, number_is}
use Rattle.pc_log.proofs.StepLaws.{where_then, made_ok}
use Rattle.pc_log.proofs.ChangeTexts.{TakesText-front, change_takes}
use Rattle.pc_log.proofs.TurnLaws.{entry_parts}

pub byte_takes : (bytes : List ℕ) (byte : ℕ) (rest : List ℕ) → IsBytes bytes → byte_at bytes ≡ Ok (byte, rest) → TakesText bytes (byte ∷ []) rest × (byte < 256)
byte_takes [] byte rest fits e = absurd cc
byte_takes (b ∷ bs) byte rest fits e =
    subst (λ (p : ℕ × List ℕ). TakesText (b ∷ bs) (p.0 ∷ []) p.1 × (p.0 < 256)) (ok_is (b, bs) (byte, rest) e) (record { parts = refl; rest_fits = IsBytes-rest b bs fits }, fits 0)

pub one_byte : (n : ℕ) → n < 256 → to_be_bytes w8 n ≡ n ∷ []
one_byte n lt = ap (λ (b : ℕ). b ∷ []) (omega arith)

-- ---- writes

pub same_key_laws : IsEquivalence same_key
same_key_laws = eq_by_cmp_equiv nat_list_cmp_total

-- whether a key is written, by the keys
pub by_keys : (writes : List Write) (key : List ℕ) → list_any (same_key key) (keys_of writes) ≡ is_written writes key
by_keys [] key = refl
by_keys (w ∷ ws) key = ap (λ (b : Bool). same_key key w.key || b) (by_keys ws key)

abbrev write_of : List ℕ → Change × List ℕ → Write × List ℕ
write_of key change = (record { key = key; change = change.0 }, change.1)

record WriteTakes (format : Format) (earlier : List Write) (bytes : List ℕ) (write : Write) (rest : List ℕ) : Type 0 where
  taken : TakesText bytes (write_text_in format write) rest
  in_limits : IsWrite write
  has : HasKey format write.key
  new : is_written earlier write.key ≡ false

write_takes : (format : Format) (earlier : List Write) (bytes : List ℕ) (write : Write) (rest : List ℕ) → IsBytes bytes → write_at format earlier bytes ≡ Ok (write, rest) → WriteTakes format earlier bytes write rest
unfolding write_at
write_takes format earlier bytes write rest fits e =
    let a = bind_ok (key_at format BadLength bytes) (λ key. where_true (not (is_written earlier key.0)) KeyOrder key >>= λ first. change_at first.1 >>= λ change. Ok (write_of first.0 change)) (write, rest) e in
    let g = where_then (not (is_written earlier a.0.0)) KeyOrder a.0 (λ first. change_at first.1 >>= λ change. Ok (write_of first.0 change)) (write, rest) a.2 in
    let c = made_ok (change_at a.0.1) (write_of a.0.0) (write, rest) g.1 in
    let k = key_takes format BadLength bytes a.0.0 a.0.1 fits a.1 in
    let v = change_takes a.0.1 c.0.0 c.0.1 k.0.rest_fits c.1 in
    subst (λ (p : Write × List ℕ). WriteTakes format earlier bytes p.0 p.1) c.2 (record {
      taken = TakesText-then bytes (key_text_in format a.0.0) a.0.1 (change_text c.0.0) c.0.1 k.0 v.0;
      in_limits = (k.1, v.1);
      has = k.2;
      new = not-true (is_written earlier a.0.0) g.0;
    })

-- the writes that were read after the earlier ones
record WritesTake (format : Format) (earlier : List Write) (count : ℕ) (bytes : List ℕ) (all : List Write) (rest : List ℕ) : Type 0 where
  more : List Write
  all_is : all ≡ earlier ++ more
  counted : length more ≡ count
  taken : TakesText bytes (flat_map (write_text_in format) more) rest
  in_limits : AllByRecursion IsWrite more
  has : AllByRecursion (λ (write : Write). HasKey format write.key) more
  once : IsDistinct same_key (keys_of earlier) → IsDistinct same_key (keys_of all)

keys_push : (earlier : List Write) (write : Write) → is_written earlier write.key ≡ false → IsDistinct same_key (keys_of earlier) → IsDistinct same_key (keys_of (earlier ++ write ∷ []))
keys_push earlier write new once =
    subst (λ (ks : List (List ℕ)). IsDistinct same_key ks) (sym (map-append (λ (w : Write). w.key) earlier (write ∷ [])))
    (IsDistinct-push same_key_laws (keys_of earlier) write.key once (by_keys earlier write.key ∙ new))

writes_take : (format : Format) (count : ℕ) (earlier : List Write) (bytes : List ℕ) (x : List Write × List ℕ) → IsBytes bytes → writes_at format count earlier bytes ≡ Ok x → WritesTake format earlier count bytes x.0 x.1
unfolding writes_at
writes_take format zero earlier bytes x fits e =
    subst (λ (p : List Write × List ℕ). WritesTake format earlier 0 bytes p.0 p.1) (ok_is (earlier, bytes) x e) (record {
      more = [];
      all_is = sym (append-nil earlier);
      counted = refl;
      taken = record { parts = refl; rest_fits = fits };
      in_limits = tt;
      has = tt;
      once = λ once. once;
    })
writes_take format (suc count) earlier bytes x fits e =
    let a = bind_ok (write_at format earlier bytes) (λ write. writes_at format count (earlier ++ write.0 ∷ []) write.1) x e in
    let first = write_takes format earlier bytes a.0.0 a.0.1 fits a.1 in
    let others = writes_take format count (earlier ++ a.0.0 ∷ []) a.0.1 x first.taken.rest_fits a.2 in
    record {
      more = a.0.0 ∷ others.more;
      all_is = others.all_is ∙ append_assoc earlier (a.0.0 ∷ []) others.more;
      counted = ap suc others.counted;
      taken = TakesText-then bytes (write_text_in format a.0.0) a.0.1 (flat_map (write_text_in format) others.more) x.1 first.taken others.taken;
      in_limits = (first.in_limits, others.in_limits);
      has = (first.has, others.has);
      once = λ once. others.once (keys_push earlier a.0.0 first.new once);
    }

-- ---- bodies

-- a body, and what it is of
pub record BodyTakes (format : Format) (last : LastToken) (bytes : List ℕ) (entry : Entry) (rest : List ℕ) : Type 0 where
  pub taken : TakesText bytes (body_text_in format entry) rest
  pub lawful : IsEntry entry
  pub has : HasEntry format entry
  pub next : ComesNext last entry

abbrev commit_of : ℕ → List Write × List ℕ → Entry × List ℕ
commit_of session writes = (Commit session writes.0, writes.1)

commit_takes : (format : Format) (last : LastToken) (bytes : List ℕ) (entry : Entry) (rest : List ℕ) → IsBytes bytes → commit_at format bytes ≡ Ok (entry, rest) → BodyTakes format last (1 ∷ bytes) entry rest
unfolding commit_at IsDistinct
commit_takes format last bytes entry rest fits e =
    let a = bind_ok (byte_at bytes) (λ session. where_true (nat_le 1 session.0 && nat_le session.0 64) BadLength session >>= λ lawful. number_at BadLength w16 lawful.1 >>= λ count. where_true (nat_le count.0 256) BadLength count >>= λ few. writes_at format few.0 [] few.1 >>= λ writes. Ok (commit_of lawful.0 writes)) (entry, rest) e in
    let g = where_then (nat_le 1 a.0.0 && nat_le a.0.0 64) BadLength a.0 (λ lawful. number_at BadLength w16 lawful.1 >>= λ count. where_true (nat_le count.0 256) BadLength count >>= λ few. writes_at format few.0 [] few.1 >>= λ writes. Ok (commit_of lawful.0 writes)) (entry, rest) a.2 in
    let n = bind_ok (number_at BadLength w16 a.0.1) (λ count. where_true (nat_le count.0 256) BadLength count >>= λ few. writes_at format few.0 [] few.1 >>= λ writes. Ok (commit_of a.0.0 writes)) (entry, rest) g.1 in
    let h = where_then (nat_le n.0.0 256) BadLength n.0 (λ few. writes_at format few.0 [] few.1 >>= λ writes. Ok (commit_of a.0.0 writes)) (entry, rest) n.2 in
    let ws = made_ok (writes_at format n.0.0 [] n.0.1) (commit_of a.0.0) (entry, rest) h.1 in
    let s = byte_takes bytes a.0.0 a.0.1 fits a.1 in
    let c = number_takes BadLength w16 (2 ^ 16) wide16 a.0.1 n.0.0 n.0.1 s.0.rest_fits n.1 in
    let w = writes_take format n.0.0 [] n.0.1 ws.0 c.0.rest_fits ws.1 in
    let counted : length ws.0.0 ≡ n.0.0 = ap length w.all_is ∙ w.counted in
    let few : length ws.0.0 ≤ 256 = grind (arith, nat_tests, counted, h.0) in
    let sessions : (1 ≤ a.0.0) × (a.0.0 ≤ 64) = grind (arith, nat_tests, g.0) in
    let texts : TakesText n.0.1 (flat_map (write_text_in format) ws.0.0) ws.0.1 = subst (λ (l : List Write). TakesText n.0.1 (flat_map (write_text_in format) l) ws.0.1) (sym w.all_is) w.taken in
    let count_and : TakesText a.0.1 (to_be_bytes w16 (length ws.0.0) ++ flat_map (write_text_in format) ws.0.0) ws.0.1 =
    subst (λ (k : ℕ). TakesText a.0.1 (to_be_bytes w16 k ++ flat_map (write_text_in format) ws.0.0) ws.0.1) (sym counted) (TakesText-then a.0.1 (to_be_bytes w16 n.0.0) n.0.1 (flat_map (write_text_in format) ws.0.0) ws.0.1 c.0 texts) in
    let session_and : TakesText bytes (to_be_bytes w8 a.0.0 ++ (to_be_bytes w16 (length ws.0.0) ++ flat_map (write_text_in format) ws.0.0)) ws.0.1 =
    subst (λ (t : List ℕ). TakesText bytes (t ++ (to_be_bytes w16 (length ws.0.0) ++ flat_map (write_text_in format) ws.0.0)) ws.0.1) (sym (one_byte a.0.0 s.1)) (TakesText-then bytes (a.0.0 ∷ []) a.0.1 (to_be_bytes w16 (length ws.0.0) ++ flat_map (write_text_in format) ws.0.0) ws.0.1 s.0 count_and) in
    subst (λ (p : Entry × List ℕ). BodyTakes format last (1 ∷ bytes) p.0 p.1) ws.2 (record {
      taken = TakesText-front 1 bytes (to_be_bytes w8 a.0.0 ++ (to_be_bytes w16 (length ws.0.0) ++ flat_map (write_text_in format) ws.0.0)) ws.0.1 session_and;
      lawful = record {
        first_session = sessions.0;
        last_session = sessions.1;
        count = few;
        in_limits = subst (λ (l : List Write). AllByRecursion IsWrite l) (sym w.all_is) w.in_limits;
        once = w.once tt;
      };
      has = subst (λ (l : List Write). AllByRecursion (λ (write : Write). HasKey format write.key) l) (sym w.all_is) w.has;
      next = tt;
    })

token_takes : (format : Format) (last : LastToken) (bytes : List ℕ) (entry : Entry) (rest : List ℕ) → IsBytes bytes → HasBegun last → token_at last bytes ≡ Ok (entry, rest) → BodyTakes format last (2 ∷ bytes) entry rest
unfolding token_at
token_takes format last bytes entry rest fits begun e =
    let a = bind_ok (byte_at bytes) (λ number. phase_numbered number.0 >>= λ phase. number_at BadLength w32 number.1 >>= λ point. where_true (comes_next last phase point.0) TokenOrder (Token phase point.0, point.1)) (entry, rest) e in
    let p = bind_ok (phase_numbered a.0.0) (λ phase. number_at BadLength w32 a.0.1 >>= λ point. where_true (comes_next last phase point.0) TokenOrder (Token phase point.0, point.1)) (entry, rest) a.2 in
    let n = bind_ok (number_at BadLength w32 a.0.1) (λ point. where_true (comes_next last p.0 point.0) TokenOrder (Token p.0 point.0, point.1)) (entry, rest) p.2 in
    let g = where_ok (comes_next last p.0 n.0.0) TokenOrder (Token p.0 n.0.0, n.0.1) (entry, rest) n.2 in
    let s = byte_takes bytes a.0.0 a.0.1 fits a.1 in
    let c = number_takes BadLength w32 (2 ^ 32) wide32 a.0.1 n.0.0 n.0.1 s.0.rest_fits n.1 in
    let next = next_is last p.0 n.0.0 begun g.0 in
    let both = subst (λ (k : ℕ). TakesText bytes (k ∷ to_be_bytes w32 n.0.0) n.0.1) (sym (number_is a.0.0 p.0 p.1)) (TakesText-then bytes (a.0.0 ∷ []) a.0.1 (to_be_bytes w32 n.0.0) n.0.1 s.0 c.0) in
    subst (λ (x : Entry × List ℕ). BodyTakes format last (2 ∷ bytes) x.0 x.1) g.1 (record {
      taken = TakesText-front 2 bytes (phase_number p.0 ∷ to_be_bytes w32 n.0.0) n.0.1 both;
      lawful = next.1;
      has = tt;
      next = next.0;
    })

kind_takes : (format : Format) (kind : ℕ) (last : LastToken) (bytes : List ℕ) (entry : Entry) (rest : List ℕ) → IsBytes bytes → HasBegun last → kind_at format kind last bytes ≡ Ok (entry, rest) → BodyTakes format last (kind ∷ bytes) entry rest
unfolding kind_at
kind_takes format zero last bytes entry rest fits begun e = absurd cc
kind_takes format (suc zero) last bytes entry rest fits begun e = commit_takes format last bytes entry rest fits e
kind_takes format (suc (suc zero)) last bytes entry rest fits begun e = token_takes format last bytes entry rest fits begun e
kind_takes format (suc (suc (suc kind))) last bytes entry rest fits begun e = absurd cc

-- ---- entries

-- what has a text can be written
pub few_writes : (entry : Entry) → IsEntry entry → HasFewWrites entry
few_writes (Commit session writes) lawful = lawful.count
few_writes (Token phase point) lawful = tt

-- an entry that was read in front of the bytes
pub record EntryTakes (format : Format) (last : LastToken) (bytes : List ℕ) (entry : Entry) (rest : List ℕ) : Type 0 where
  pub taken : TakesText bytes (entry_text_in format entry) rest
  pub lawful : IsEntry entry
  pub has : HasEntry format entry
  pub next : ComesNext last entry

body_takes : (format : Format) (last : LastToken) (bytes : List ℕ) (entry : Entry) → IsBytes bytes → HasBegun last → body_at format last bytes ≡ Ok entry → BodyTakes format last bytes entry []
unfolding body_at
body_takes format last bytes entry fits begun e =
    let a = bind_ok (byte_at bytes) (λ kind. kind_at format kind.0 last kind.1 >>= λ x. where_true (eqb (length x.1) 0) Trailing x.0) entry e in
    let b = bind_ok (kind_at format a.0.0 last a.0.1) (λ x. where_true (eqb (length x.1) 0) Trailing x.0) entry a.2 in
    let g = where_ok (eqb (length b.0.1) 0) Trailing b.0.0 entry b.2 in
    let k = byte_takes bytes a.0.0 a.0.1 fits a.1 in
    let none : b.0.1 ≡ [] = nil_from_length b.0.1 (eqb-true _ _ g.0) in
    let t = kind_takes format a.0.0 last a.0.1 b.0.0 b.0.1 k.0.rest_fits begun b.1 in
    subst (λ (bs : List ℕ). BodyTakes format last bs entry []) (sym k.0.parts) (subst (λ (r : List ℕ). BodyTakes format last (a.0.0 ∷ a.0.1) entry r) none (subst (λ (x : Entry). BodyTakes format last (a.0.0 ∷ a.0.1) x b.0.1) g.1 t))

bytes_fit : (missing : Refusal) (count : ℕ) (bytes text rest : List ℕ) → IsBytes bytes → bytes_at missing count bytes ≡ Ok (text, rest) → IsBytes text
bytes_fit missing count bytes text rest fits e =
    let g = guard_ok (ltb (length bytes) count) missing (take count bytes, drop count bytes) (text, rest) e in
    subst (λ (p : List ℕ × List ℕ). IsBytes p.0) g.1 (IsBytes-take count bytes fits)

pub entry_takes : (format : Format) (last : LastToken) (bytes : List ℕ) (entry : Entry) (rest : List ℕ) → IsBytes bytes → HasBegun last → entry_at format last bytes ≡ Ok (entry, rest) → EntryTakes format last bytes entry rest
entry_takes format last bytes entry rest fits begun e =
    let parts = entry_parts format last bytes entry rest e in
    let n = number_takes Short w32 (2 ^ 32) wide32 bytes parts.size parts.behind fits parts.size_read in
    let b = bytes_take Short parts.size parts.behind parts.body rest n.0.rest_fits parts.body_there in
    let body_fits = bytes_fit Short parts.size parts.behind parts.body rest n.0.rest_fits parts.body_there in
    let t = body_takes format last parts.body entry body_fits begun parts.body_read in
    let body_is : parts.body ≡ body_text_in format entry = t.taken.parts ∙ append-nil (body_text_in format entry) in
    let both = TakesText-then bytes (to_be_bytes w32 parts.size) parts.behind parts.body rest n.0 b.0 in
    let sized : TakesText bytes (to_be_bytes w32 (length parts.body) ++ parts.body) rest = subst (λ (k : ℕ). TakesText bytes (to_be_bytes w32 k ++ parts.body) rest) (sym b.1) both in
    record {
      taken = subst (λ (t : List ℕ). TakesText bytes (to_be_bytes w32 (length t) ++ t) rest) body_is sized;
      lawful = t.lawful;
      has = t.has;
      next = t.next;
    }
