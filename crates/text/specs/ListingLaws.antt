-- Laws of the text of a listing: digits by their number, and texts placed one behind the other.
use Rattle.std.specs.Prelude.{ℕ, zero, suc, ◌+◌, ◌-◌, ◌*◌, ◌/◌, ◌%◌, ◌≤◌, ◌<◌, ◌≡◌, refl, List, [], ◌∷◌, ◌++◌, length, drop, get_or}
use Rattle.std.proofs.Common.{arith, sym, ap, ◌∙◌, append_assoc, take, length-append, drop_of_length-le, drop-drop, lt-ltb, le-ltb}
use Rattle.std.proofs.Math.Seq.{sets, length-sets, sets-eq}
use borrow.Rule.Slice.PartMut.{put_mid}
use Rattle.types.proofs.Laws.ListLaws.{drop_next}
use Rattle.emit.specs.Laws.WrittenLaws.{sets_append}
use Rattle.text.specs.Listing.{digits, decimal, tail, row, Placed}

-- Digits -----------------------------------------------------------------------

pub digits_none : (w n : ℕ) → w ≡ 0 → digits w n ≡ []
unfolding digits
digits_none zero n e = refl
digits_none (suc w) n e = absurd (omega arith)

pub digits_one : (w n : ℕ) → (w ≡ 0 → ⊥) → n < 10 → digits w n ≡ (48 + n) ∷ []
unfolding digits
digits_one zero n e h = absurd (e refl)
digits_one (suc w) n e h = rw (digits, lt-ltb n 10 h)

pub digits_more : (w n : ℕ) → (w ≡ 0 → ⊥) → 10 ≤ n → digits w n ≡ digits (w - 1) (n / 10) ++ (48 + n % 10) ∷ []
unfolding digits
digits_more zero n e h = absurd (e refl)
digits_more (suc w) n e h = let f : suc w - 1 ≡ w = omega arith in rw (digits, le-ltb n 10 h, f)

-- Elements ---------------------------------------------------------------------

pub drop_end : (t : List ℕ) (i : ℕ) → length t ≤ i → drop i t ≡ []
drop_end t i h = drop_of_length-le t h

-- Placed -----------------------------------------------------------------------

pub placed_none : (out : List ℕ) (k : ℕ) → Placed [] out k k out
placed_none out k = record { end = omega arith; list = refl }

-- the same text in other terms
pub placed_as : {t u out out1 : List ℕ} {k r : ℕ} → u ≡ t → Placed t out k r out1 → Placed u out k r out1
placed_as e p = record { end = rw e p.end; list = rw e p.list }

-- as many bytes as before
pub placed_kept : {t out out1 : List ℕ} {k r : ℕ} → Placed t out k r out1 → length out1 ≡ length out
placed_kept {t} {out} {k = k} p = ap length p.list ∙ length-sets out k t

-- a text behind another
pub placed_on : {t u out out1 out2 : List ℕ} {k i r : ℕ} → Placed t out k i out1 → Placed u out1 i r out2 → Placed (t ++ u) out k r out2
placed_on {t} {u} {out} {k = k} p q = record {
  end = rw length-append (omega (arith, p.end, q.end));
  list = q.list ∙ rw (p.list, p.end) (sym (sets_append out k t u));
}

-- a text that is copied into its place
pub placed_mid : (t out u : List ℕ) (k : ℕ) → k + length t ≤ length out → u ≡ t → Placed t out k (k + length t) (put_mid k (k + length t - k) out u)
placed_mid t out u k h e =
    let f : k + length t - k ≡ length t = omega arith in record { end = refl; list = rw (e, f, drop-drop) (sym (sets-eq t out k h ∙ append_assoc (take k out) t _)) }

-- Written so far: the text u, placed from r on, makes it the text t from k on
pub record Leading (t out : List ℕ) (k : ℕ) (u : List ℕ) (r : ℕ) (out1 : List ℕ) : Type 0 where
  pub end : r + length u ≡ k + length t
  pub list : sets out1 r u ≡ sets out k t
  pub kept : length out1 ≡ length out

pub leading_start : (t out : List ℕ) (k : ℕ) → Leading t out k t k out
leading_start t out k = record { end = refl; list = refl; kept = refl }

-- a part more
pub leading_on : {t v u out out1 out2 : List ℕ} {k r i : ℕ} → Leading t out k (v ++ u) r out1 → Placed v out1 r i out2 → Leading t out k u i out2
leading_on {v = v} {u = u} {out1 = out1} {r = r} l p = record {
  end = omega (arith, l.end, p.end, length-append v u);
  list = rw (p.list, p.end) (sym (sets_append out1 r v u) ∙ l.list);
  kept = placed_kept p ∙ l.kept;
}

-- the last part
pub leading_end : {t u out out1 out2 : List ℕ} {k r i : ℕ} → Leading t out k u r out1 → Placed u out1 r i out2 → Placed t out k i out2
leading_end l p = record { end = p.end ∙ l.end; list = p.list ∙ l.list }

-- a line feed behind the last number, and a space and a number before the others
pub tail_end : (ns : List ℕ) (i : ℕ) → length ns ≤ i → tail (drop i ns) ≡ 10 ∷ []
unfolding tail
tail_end ns i h = rw (drop_end ns i h)

pub tail_next : (ns : List ℕ) (i : ℕ) → i < length ns → tail (drop i ns) ≡ (32 ∷ []) ++ (decimal (get_or ns i 0) ++ tail (drop (i + 1) ns))
unfolding tail
tail_next ns i h = rw (drop_next ns i h)

-- a row with its numbers from i on still to come
abbrev pub RowLeft : List ℕ → List ℕ → List ℕ → ℕ → ℕ → ℕ → List ℕ → Type 0
RowLeft word ns out k i r out1 = Leading (row word ns) out k (tail (drop i ns)) r out1 × (r ≤ k + length word + 21 * i)

pub row_start : (word ns out : List ℕ) (k : ℕ) {r : ℕ} {out1 : List ℕ} → Placed word out k r out1 → RowLeft word ns out k 0 r out1
unfolding row
row_start word ns out k p = (leading_on (leading_start (row word ns) out k) p, omega (arith, p.end))

pub row_next : (word ns : List ℕ) {out out1 out2 out3 : List ℕ} {k i r q s : ℕ} → i < length ns → RowLeft word ns out k i r out1 → Placed (32 ∷ []) out1 r q out2
    → Placed (decimal (get_or ns i 0)) out2 q s out3 → s ≤ q + 20 → RowLeft word ns out k (i + 1) s out3
row_next word ns {i = i} h l p d few = (leading_on (leading_on (rw (tail_next ns i h) at l.0) p) d, omega (arith, l.1, p.end, few))

pub row_end : (word ns : List ℕ) {out out1 out2 : List ℕ} {k i r q : ℕ} → length ns ≤ i → RowLeft word ns out k i r out1 → Placed (10 ∷ []) out1 r q out2
    → Placed (row word ns) out k q out2
row_end word ns {i = i} h l p = leading_end (rw (tail_end ns i h) at l.0) p
