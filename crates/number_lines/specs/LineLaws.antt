-- Laws of words as text: word after word.
use Rattle.std.specs.Prelude.{ℕ, ◌+◌, ◌*◌, ◌%◌, ◌≤◌, ◌<◌, ◌≡◌, refl, Bool, true, List, [], ◌∷◌, ◌++◌}
use Rattle.std.proofs.Common.{arith, add-one, sym, ◌∙◌}
use Rattle.std.proofs.Math.Path.{ap}
use Rattle.std.proofs.Math.Bool.{false}
use Rattle.std.proofs.Math.ListN.{length, get_or, drop, length-append, drop_of_length-le}
use Rattle.std.proofs.Math.Seq.{sets, drop-cons, length-sets}
use borrow.Author.Tests.{lt-ltb, le-ltb}
use Rattle.emit.specs.Laws.WrittenLaws.{sets_append}
use Rattle.text.specs.Listing.{Placed}
use Rattle.number_lines.specs.Lines.{separator, sign, word_text, last_end, words_text, lines}

module _ (w : ℕ) where
  pub separator_blank : w < 8589934592 → separator false w ≡ 32 ∷ []
  unfolding separator
  separator_blank h = rw (separator, lt-ltb w 8589934592 h)

  pub separator_line : 8589934592 ≤ w → separator false w ≡ 10 ∷ []
  unfolding separator
  separator_line h = rw (separator, le-ltb w 8589934592 h)

  pub sign_none : w % 8589934592 < 4294967296 → sign w ≡ []
  unfolding sign
  sign_none h = rw (sign, lt-ltb (w % 8589934592) 4294967296 h)

  pub sign_minus : 4294967296 ≤ w % 8589934592 → sign w ≡ 45 ∷ []
  unfolding sign
  sign_minus h = rw (sign, le-ltb (w % 8589934592) 4294967296 h)

-- i words were written: those left lead to the text of all
pub record LinesPassed (ws out₀ out : List ℕ) (k : ℕ) (begin : Bool) (i : ℕ) : Type 0 where
  pub within : i ≤ length ws
  pub near : k ≤ 22 * i
  pub kept : length out ≡ length out₀
  pub count : k + length (words_text begin (drop i ws)) ≡ length (lines ws)
  pub written : sets out k (words_text begin (drop i ws)) ≡ sets out₀ 0 (lines ws)

pub lines_begin : (ws out : List ℕ) → LinesPassed ws out out 0 true 0
lines_begin ws out = record { within = omega arith; near = omega arith; kept = refl; count = omega arith; written = refl }

module _ {ws out₀ out : List ℕ} {k : ℕ} {begin : Bool} {i : ℕ} (r : LinesPassed ws out₀ out k begin i) where
  pub lines_next : {q : ℕ} {out1 : List ℕ} → i < length ws → Placed (word_text begin (get_or ws i 0)) out k q out1 → q ≤ k + 22
      → LinesPassed ws out₀ out1 q false (i + 1)
  unfolding words_text
  lines_next {q} h p few =
      let d : drop i ws ≡ get_or ws i 0 ∷ drop (i + 1) ws = rw (add-one, drop-cons ws i 0) in
      let t = word_text begin (get_or ws i 0) in
      let u = words_text false (drop (i + 1) ws) in
      let e : k + length (t ++ u) ≡ length (lines ws) = rw d at r.count in
      let f : sets out k (t ++ u) ≡ sets out₀ 0 (lines ws) = rw d at r.written in
      record {
        within = omega arith;
        near = omega (arith, r.near);
        kept = ap length p.list ∙ length-sets out k t ∙ r.kept;
        count = omega (arith, e, p.end, length-append t u);
        written = rw (p.list, p.end) (sym (sets_append out k t u) ∙ f);
      }

  pub lines_end : {q : ℕ} {out1 : List ℕ} → length ws ≤ i → Placed (last_end begin) out k q out1 → Placed (lines ws) out₀ 0 q out1
  unfolding words_text
  lines_end h p =
      let d = drop_of_length-le ws {i = i} h in
      record {
        end = omega (arith, p.end, rw d at r.count);
        list = p.list ∙ rw d at r.written;
      }
