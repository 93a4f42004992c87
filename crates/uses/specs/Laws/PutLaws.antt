-- A part of a table that was lent and came back with other numbers in it: what stands there then, and what stays.
use Rattle.std.specs.Prelude.{ℕ, ◌+◌, ◌-◌, ◌≤◌, ◌≡◌, List, ◌++◌, length, get_or, set, take, drop}
use Rattle.std.proofs.Common.{arith, sym, ap, ◌∙◌, length-take, length-drop, take_at, drop_at, drop-drop, get_or-drop, length-take-le}
use Rattle.std.proofs.lemmas.List.Edits.{sets, sets-eq}
use Rattle.std.proofs.lemmas.List.{take-append-le}
use Rattle.std.proofs.Math.Seq.{take-append_seam}
use borrow.Rule.Slice.PartMut.{same_len_mid}
use Rattle.resolve.specs.Checks.{part_of}
use Rattle.uses.specs.Laws.PartLaws.{part_part, part_before}
use Rattle.uses.specs.Tabling.{Front}

-- l with the k places from a on as they are in m
abbrev pub put : ℕ → ℕ → List ℕ → List ℕ → List ℕ
put a k l m = take a l ++ (m ++ drop k (drop a l))

-- what is stored from the front stands there
pub sets_front : (t l : List ℕ) → length l ≤ length t → take (length l) (sets t 0 l) ≡ l
sets_front t l h = ap (take (length l)) (sets-eq l t 0 (omega (arith, h))) ∙ take-append_seam l (drop (0 + length l) t)

part_front : (l : List ℕ) (a c d : ℕ) → d ≤ a → part_of (take a l) c d ≡ part_of l c d
part_front l a c d h =
    let e : a ≡ a - 0 = omega arith in
    let f : 0 + c ≡ c = omega arith in
    let g : 0 + d ≡ d = omega arith in
    ap (λ n. part_of (take n l) c d) e ∙ part_part l 0 a c d (omega (arith, h)) ∙ ap (λ n. part_of l n (0 + d)) f ∙ ap (part_of l c) g

part_same : (l m : List ℕ) (a c d : ℕ) → a ≤ c → drop a l ≡ drop a m → part_of l c d ≡ part_of m c d
part_same l m a c d h e =
    let f : a + (c - a) ≡ c = omega (arith, h) in
    let g : (k : List ℕ) → drop c k ≡ drop (c - a) (drop a k) = λ k. ap (λ n. drop n k) (sym f) ∙ sym (drop-drop (c - a) a k) in
    ap (take (d - c)) (g l ∙ ap (drop (c - a)) e ∙ sym (g m))

module _ (a k : ℕ) (l m : List ℕ) (fits : a + k ≤ length l) (many : length m ≡ k) where
  pub put_long : length (put a k l m) ≡ length l
  put_long = same_len_mid a k l m (let h = length-take k (drop a l) in let i = length-drop a l in omega (arith, h, i, fits, many))

  from_start : drop a (put a k l m) ≡ m ++ drop k (drop a l)
  from_start = drop_at (take a l) (m ++ drop k (drop a l)) a (length-take-le a l (omega (arith, fits)))

  pub put_here : (n : ℕ) → n ≤ k → part_of (put a k l m) a (a + n) ≡ take n m
  put_here n h =
      let e : (a + n) - a ≡ n = omega arith in
      ap (λ j. take j (drop a (put a k l m))) e ∙ ap (take n) from_start ∙ take-append-le n m (drop k (drop a l)) (omega (arith, h, many))

  pub put_before : (c d : ℕ) → d ≤ a → part_of (put a k l m) c d ≡ part_of l c d
  put_before c d h =
      let e : take a (put a k l m) ≡ take a l = take_at (take a l) (m ++ drop k (drop a l)) a (length-take-le a l (omega (arith, fits))) in
      sym (part_front (put a k l m) a c d h) ∙ ap (λ j. part_of j c d) e ∙ part_front l a c d h

  from_end : drop (a + k) (put a k l m) ≡ drop (a + k) l
  from_end =
      sym (drop-drop k a (put a k l m)) ∙ ap (drop k) from_start ∙ drop_at m (drop k (drop a l)) k many ∙ drop-drop k a l

  pub put_behind : (c d : ℕ) → a + k ≤ c → part_of (put a k l m) c d ≡ part_of l c d
  put_behind c d h = part_same (put a k l m) l (a + k) c d h from_end

  pub put_at_behind : (c : ℕ) → a + k ≤ c → get_or (put a k l m) c 0 ≡ get_or l c 0
  put_at_behind c h =
      let f : (a + k) + (c - (a + k)) ≡ c = omega (arith, h) in
      let g : (j : List ℕ) → get_or j c 0 ≡ get_or (drop (a + k) j) (c - (a + k)) 0 =
      λ j. ap (λ n. get_or j n 0) (sym f) ∙ sym (get_or-drop (a + k) j (c - (a + k)) 0) in
      g (put a k l m) ∙ ap (λ j. get_or j (c - (a + k)) 0) from_end ∙ sym (g l)

  -- the front of the part, and those of parts before and behind it
  pub front_put : (t v : List ℕ) → m ≡ sets t 0 v → length t ≡ k → Front (put a k l m) a (a + k) v
  front_put t v e f h = put_here (length v) (omega (arith, h)) ∙ ap (take (length v)) e ∙ sets_front t v (omega (arith, h, f))

  pub front_before : (c d : ℕ) (v : List ℕ) → c ≤ d → d ≤ a → Front l c d v → Front (put a k l m) c d v
  front_before c d v h i f j = put_before c (c + length v) (omega (arith, h, i, j)) ∙ f j

  pub front_behind : (c d : ℕ) (v : List ℕ) → a + k ≤ c → Front l c d v → Front (put a k l m) c d v
  front_behind c d v h f j = put_behind c (c + length v) h ∙ f j

pub front_set : (l : List ℕ) (i b c d : ℕ) (v : List ℕ) → c ≤ d → d ≤ i → Front l c d v → Front (set l i b) c d v
front_set l i b c d v h k f j = part_before l i b c (c + length v) (omega arith) (omega (arith, h, k, j)) ∙ f j
