-- The words off the bytes of the stream, one law for each way through the code.
use Prim.Native.Nat.{ℕ, zero, suc, ◌+◌, ◌-◌, ◌<◌, ◌≤◌}
use Rattle.std.proofs.Common.{arith, sub-one, ◌∙◌}
use Rattle.std.proofs.Math.Numerals.{add-one}
use Rattle.std.proofs.Math.Decide.{dec_lt}
use Rattle.std.specs.Prelude.{◌≡◌, refl, List, length, get_or, set}
use Rattle.std.proofs.lemmas.List.Edits.{sets}
use borrow.Author.Tests.{lt-ltb, le-ltb}
use Rattle.little_endian.specs.Numbers.{word_at}
use Rattle.types.specs.Types.{type_of}
use Rattle.types.specs.Values.{default, word}
use Rattle.commands.specs.Coding.{coded}
use Rattle.emit.specs.declared.Put.{Put}
use Rattle.emit.specs.Leaf.{leaf_size, byte_word, leaf_of, leaf_word, null_word, rd_words}
use Rattle.commands.specs.CommandKinds.{this_kind, push_kind, rd_kind}
use Rattle.program.specs.Forms.{int_form, bool_form, null_form, this_form}

-- a null pushes the default of its type
pub null_is : (b t v r : ℕ) → t ≡ b → v ≡ word (default (type_of b)) → r ≡ coded push_kind t v → r ≡ null_word b
unfolding null_word
null_is b t v r e d p = p ∙ rw (e, d)

-- how many bytes a form has, by its byte
size_low : (b : ℕ) → b < bool_form → leaf_size b ≡ 5
unfolding leaf_size
size_low b h = rw (leaf_size, lt-ltb b bool_form h)

size_mid : (b : ℕ) → bool_form ≤ b → b < this_form → leaf_size b ≡ 2
unfolding leaf_size
size_mid b h k = rw (leaf_size, le-ltb b bool_form h, lt-ltb b this_form k)

size_high : (b : ℕ) → bool_form ≤ b → this_form ≤ b → leaf_size b ≡ 1
unfolding leaf_size
size_high b h k = rw (leaf_size, le-ltb b bool_form h, le-ltb b this_form k)

-- a form has a byte
pub size_pos : (b : ℕ) → 0 < leaf_size b
size_pos b = go (dec_lt b bool_form) (dec_lt b this_form)
  where
    go : Dec (b < bool_form) → Dec (b < this_form) → 0 < leaf_size b
    go (yes h) k = omega (arith, size_low b h)
    go (no h) (yes k) = omega (arith, size_mid b (omega arith) k)
    go (no h) (no k) = omega (arith, size_high b (omega arith) (omega arith))

-- a form that ends in the stream has its bytes there
module _ (s : List ℕ) (at : ℕ) where
  pub leaf_in : at + leaf_size (get_or s at 0) ≤ length s → at < length s
  leaf_in h = omega (arith, size_pos (get_or s at 0))

  pub leaf_word_in : at + leaf_size (get_or s at 0) ≤ length s → get_or s at 0 < bool_form → at + 1 + 4 ≤ length s
  leaf_word_in h l = omega (arith, size_low (get_or s at 0) l)

  pub leaf_byte_in : at + leaf_size (get_or s at 0) ≤ length s → bool_form ≤ get_or s at 0 → get_or s at 0 < this_form → at + 1 < length s
  leaf_byte_in h k l = omega (arith, size_mid (get_or s at 0) k l)

  -- an Int or a Nat
  pub leaf_word_is : get_or s at 0 < bool_form → {v t r : ℕ} → v ≡ word_at s (at + 1) → t ≡ get_or s at 0 - int_form → r ≡ coded push_kind t v → r ≡ leaf_word s at
  unfolding leaf_of
  leaf_word_is h p q e = e ∙ rw (leaf_of, lt-ltb (get_or s at 0) bool_form h, p, q)

  -- a Bool
  pub leaf_bool_is : bool_form ≤ get_or s at 0 → get_or s at 0 < this_form → get_or s at 0 < null_form → {v r : ℕ} → v ≡ get_or s (at + 1) 0
      → r ≡ coded push_kind 2 v → r ≡ leaf_word s at
  unfolding leaf_of byte_word
  leaf_bool_is h k l p e = e ∙ rw (leaf_of, le-ltb (get_or s at 0) bool_form h, lt-ltb (get_or s at 0) this_form k, byte_word, lt-ltb (get_or s at 0) null_form l, p)

  -- a null
  pub leaf_null_is : bool_form ≤ get_or s at 0 → get_or s at 0 < this_form → null_form ≤ get_or s at 0 → {r : ℕ} → r ≡ null_word (get_or s (at + 1) 0)
      → r ≡ leaf_word s at
  unfolding leaf_of byte_word
  leaf_null_is h k l e = e ∙ rw (leaf_of, le-ltb (get_or s at 0) bool_form h, lt-ltb (get_or s at 0) this_form k, byte_word, le-ltb (get_or s at 0) null_form l)

  -- this
  pub leaf_this_is : bool_form ≤ get_or s at 0 → this_form ≤ get_or s at 0 → {r : ℕ} → r ≡ coded this_kind 0 0 → r ≡ leaf_word s at
  unfolding leaf_of
  leaf_this_is h k e = e ∙ rw (leaf_of, le-ltb (get_or s at 0) bool_form h, le-ltb (get_or s at 0) this_form k)

-- n reads stand from k on, and reading goes on behind n bytes
abbrev pub Reads : List ℕ → ℕ → ℕ → List ℕ → ℕ → Put → List ℕ → Type 0
Reads s at n out k r out' = (r.next ≡ at + n) × (r.at ≡ k + n) × (out' ≡ sets out k (rd_words s at n))

-- n reads are left, which give what is to come out
pub record ReadsLeft (s : List ℕ) (at n k : ℕ) (out end : List ℕ) : Type 0 where
  pub gives : sets out k (rd_words s at n) ≡ end

module _ (s : List ℕ) (at n k : ℕ) {out end : List ℕ} (x : ReadsLeft s at n k out end) where
  -- no variable, no rd
  pub reads_none : n ≡ 0 → out ≡ end
  unfolding rd_words
  reads_none e = rw e at x.gives

  -- an rd, and those of the other variables behind it
  pub reads_more : (n ≡ 0 → ⊥) → {b v : ℕ} {out1 : List ℕ} → b ≡ get_or s at 0 → v ≡ coded rd_kind 0 b → out1 ≡ set out k v
      → ReadsLeft s (at + 1) (n - 1) (k + 1) out1 end
  unfolding rd_words
  reads_more z {out1 = out1} e f g = go n z x
    where
      go : (n : ℕ) → (n ≡ 0 → ⊥) → ReadsLeft s at n k out end → ReadsLeft s (at + 1) (n - 1) (k + 1) out1 end
      go zero z q = absurd (z refl)
      go (suc n) z q = record { gives = rw (sub-one, add-one k, g, f, e) q.gives }
