-- What the code has of a literal, a null or this that was read (01, 'Program stream'; 000, definition 2).
use Rattle.std.specs.Prelude.{ℕ, zero, suc, ◌+◌, ◌*◌, ◌/◌, ◌%◌, ◌^◌, ◌<◌, ◌≤◌, ◌≡◌, List, [], ◌∷◌, length, get_or}
use Rattle.std.proofs.Common.{arith, ◌∙◌, lt-ltb, le-ltb}
use Rattle.std.proofs.Math.Decide.{dec_lt}
use Rattle.std.proofs.Math.Path.{refl}
use Rattle.little_endian.specs.Numbers.{word_at}
use Rattle.types.specs.Limits.{nat_end, int_half}
use Rattle.types.specs.Types.{Ty, code}
use Rattle.types.proofs.Laws.TypeLaws.{type_of_code}
use Rattle.types.specs.Values.{int_word, word_int, word, value_of}
use Rattle.program.specs.Tree.{Expr, Expr.int_lit, Expr.nat_lit, Expr.bool_lit, Expr.null, Expr.self}
use Rattle.program.specs.Encoding.{enc_word}
use Rattle.program.specs.Reader.{Result.ok, Result.bad, wrong_byte, made, Form, Form.form_inv, Form.form_make, Form.form_path, Form.form_int}
use Rattle.program.specs.Reader.{Form.form_nat, Form.form_bool, Form.form_null, Form.form_self, Form.form_op, Form.form_none, form, bool_end}
use Rattle.program.specs.Reader.{word_bytes, ranged, read_word, read_type, rule_expr, read_expr}
use Rattle.program.specs.Exact.{Stands, Stands.done, Stands.letter}
use Rattle.program.proofs.Laws.PartLaws.{told_is, made_ok}
use Rattle.program.proofs.Laws.ExprLaws.{Opens, opens, op_range}
use Rattle.program.proofs.Laws.WordLaws.{word_exact, type_exact}
use Rattle.commands.specs.Commands.{expr_coms, flatten}
use Rattle.commands.specs.Coding.{coded, com_word, command_word, words}
use Rattle.emit.specs.Written.{Good, next_of, code_of, expr_words}
use Rattle.emit.specs.Leaf.{null_word, leaf_size, leaf_of, byte_word}
use Rattle.emit.specs.Laws.ReadLaws.{made_value, ranged_value}
use Rattle.emit.specs.Laws.ExprLaws.{expr_step, expr_in}
use Rattle.commands.specs.CommandKinds.{this_kind, push_kind}

-- a number of four bytes off its bytes
pub word_off : (s : List ℕ) (n v m : ℕ) → v < 256 ^ 4 → Stands s n (enc_word 4 v) m → (word_at s n ≡ v) × (m ≡ n + 4) × (n + 4 ≤ length s)
unfolding enc_word word_at
word_off s n v m h (letter h0 e0 (letter h1 e1 (letter h2 e2 (letter h3 e3 done)))) =
    let i1 : n + 1 + 1 ≡ n + 2 = omega arith in
    let i2 : n + 1 + 1 + 1 ≡ n + 3 = omega arith in
    (rw (e0, e1, ← i1, e2) (rw (← i2, e3) (digits v h)), omega arith, omega arith)
  where
    digits : (v : ℕ) → v < 256 ^ 4 → v % 256 + 256 * (v / 256 % 256) + 65536 * (v / 256 / 256 % 256) + 16777216 * (v / 256 / 256 / 256 % 256) ≡ v
    digits v h = omega arith

-- an Int goes to its word and back
int_back : (w : ℕ) → w < nat_end → int_word (word_int w) ≡ w
unfolding int_word word_int
int_back w h = go (dec_lt w int_half)
  where
    go : Dec (w < int_half) → int_word (word_int w) ≡ w
    go (yes l) = rw (word_int, lt-ltb w int_half l)
    go (no l) = rw (word_int, le-ltb w int_half (omega arith)) (omega arith)

-- the words of each literal, of null and of this
int_words : (w : ℕ) → w < nat_end → expr_words (int_lit w) ≡ coded push_kind 0 w ∷ []
unfolding expr_words expr_coms flatten words command_word com_word code word value_of
int_words w h = rw (int_back w h)

nat_words : (w : ℕ) → expr_words (nat_lit w) ≡ coded push_kind 1 w ∷ []
unfolding expr_words expr_coms flatten words command_word com_word code word value_of
nat_words w = refl

bool_words : (w : ℕ) → w < 2 → expr_words (bool_lit w) ≡ coded push_kind 2 w ∷ []
unfolding expr_words expr_coms flatten words command_word com_word code word value_of
bool_words zero h = refl
bool_words (suc zero) h = refl
bool_words (suc (suc w)) h = absurd (omega arith)

null_words : (t : Ty) → expr_words (null t) ≡ null_word (code t) ∷ []
unfolding expr_words expr_coms flatten words command_word com_word null_word
null_words t = rw (type_of_code t)

this_words : expr_words self ≡ coded this_kind 0 0 ∷ []
unfolding expr_words expr_coms flatten words command_word com_word
this_words = refl

-- what the code has of the form that the byte b opens
pub record LeafFacts (ar s : List ℕ) (d at b : ℕ) : Type 0 where
  pub low : 19 ≤ b
  pub fits : at + leaf_size b ≤ length s
  pub code : code_of expr_words (read_expr ar s d at) ≡ leaf_of s at b ∷ []
  pub next : next_of (read_expr ar s d at) ≡ at + leaf_size b

module _ (ar s : List ℕ) (d at : ℕ) (g : Good (read_expr ar s d at)) where
  -- by the value that was read
  leaf_by : (b m : ℕ) (e : Expr) → read_expr ar s d at ≡ ok e m → 19 ≤ b → m ≡ at + leaf_size b → m ≤ length s → expr_words e ≡ leaf_of s at b ∷ []
      → LeafFacts ar s d at b
  unfolding code_of next_of
  leaf_by b m e p l n i w = record { low = l; fits = rw n at i; code = rw p w; next = rw p n }

  -- an Int or a Nat
  number : (c : ℕ → Expr) (b t : ℕ) → 19 ≤ b → leaf_size b ≡ 5 → leaf_of s at b ≡ coded push_kind t (word_at s (at + 1))
      → read_expr ar s d at ≡ made c (read_word s word_bytes (at + 1)) → ((w : ℕ) → w < nat_end → expr_words (c w) ≡ coded push_kind t w ∷ [])
      → LeafFacts ar s d at b
  number c b t l z f p w =
      let v = made_value c (read_word s word_bytes (at + 1)) (rw p at g) in
      let x = told_is ((word_exact word_bytes).sound s (at + 1)) v.2 in
      let y = word_off s (at + 1) v.0 v.1 x.0 x.1 in
      leaf_by b v.1 (c v.0) (p ∙ v.3) l (omega arith) (omega arith) (w v.0 x.0 ∙ rw (f, y.0))

  -- a Bool
  truth : read_expr ar s d at ≡ made bool_lit (ranged s 0 bool_end (at + 1)) → LeafFacts ar s d at 21
  unfolding leaf_size leaf_of byte_word
  truth p =
      let v = made_value bool_lit (ranged s 0 bool_end (at + 1)) (rw p at g) in
      let x = ranged_value s 0 bool_end (at + 1) (rw v.2 tt) in
      leaf_by 21 (at + 1 + 1) (bool_lit (get_or s (at + 1) 0)) (p ∙ made_ok bool_lit x.2) (omega arith) (omega arith) (omega arith)
      (bool_words (get_or s (at + 1) 0) x.1.1)

  -- a null
  nothing : read_expr ar s d at ≡ made null (read_type s (length ar) (at + 1)) → LeafFacts ar s d at 22
  unfolding leaf_size leaf_of byte_word
  nothing p =
      let v = made_value null (read_type s (length ar) (at + 1)) (rw p at g) in
      go v.0 v.1 (p ∙ v.3) (told_is ((type_exact (length ar)).sound s (at + 1)) v.2).1
    where
      go : (t : Ty) (m : ℕ) → read_expr ar s d at ≡ ok (null t) m → Stands s (at + 1) (code t ∷ []) m → LeafFacts ar s d at 22
      go t m q (letter h e done) = leaf_by 22 m (null t) q (omega arith) (omega arith) (omega arith) (rw e (null_words t))

  -- this
  this : read_expr ar s d at ≡ ok self (at + 1) → LeafFacts ar s d at 23
  unfolding leaf_size leaf_of
  this p = leaf_by 23 (at + 1) self p (omega arith) (omega arith) (omega (arith, expr_in ar s d at g)) this_words

  -- below 24 there is no operator
  pub leaf_facts : (get_or s at 0 ≡ 16 → ⊥) → (get_or s at 0 ≡ 17 → ⊥) → (get_or s at 0 ≡ 18 → ⊥) → get_or s at 0 < 24 → LeafFacts ar s d at (get_or s at 0)
  unfolding rule_expr leaf_size leaf_of
  leaf_facts n16 n17 n18 h = go (form (get_or s at 0)) refl (opens (get_or s at 0))
    where
      go : (f : Form) → form (get_or s at 0) ≡ f → Opens (get_or s at 0) f → LeafFacts ar s d at (get_or s at 0)
      go form_inv e o = absurd (n16 o)
      go form_make e o = absurd (n17 o)
      go form_path e o = absurd (n18 o)
      go form_int e o = rw o (number int_lit 19 0 (omega arith) refl refl ((expr_step ar s d at g).2 ∙ rw e refl) int_words)
      go form_nat e o = rw o (number nat_lit 20 1 (omega arith) refl refl ((expr_step ar s d at g).2 ∙ rw e refl) (λ w l. nat_words w))
      go form_bool e o = rw o (truth ((expr_step ar s d at g).2 ∙ rw e refl))
      go form_null e o = rw o (nothing ((expr_step ar s d at g).2 ∙ rw e refl))
      go form_self e o = rw o (this ((expr_step ar s d at g).2 ∙ rw e refl))
      go (form_op c) e o = absurd (omega (arith, op_range c))
      go form_none e o =
          let p : read_expr ar s d at ≡ bad at wrong_byte = (expr_step ar s d at g).2 ∙ rw e refl in
          absurd (rw p at g)
