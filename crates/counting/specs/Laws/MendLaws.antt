-- A list that differs from another in some parts is the other once the parts are put back (02 §14); so is memory after a command.
use Rattle.std.specs.Prelude.{ℕ, suc, ◌+◌, ◌-◌, ◌*◌, ◌<◌, ◌≤◌, ◌≡◌, refl, Bool, true, false, ◌⊎◌, List, [], ◌∷◌, length, get_or, set, take, drop, ltb, leb}
use Rattle.std.proofs.Common.{arith, sym, ap₂, subst, ◌∙◌, inl, inr, ⊎_elim, length-set, length-drop, length-take-le, get_or-take, get_or-drop, get_or-set_same, get_or-set_other, ltb-true, ltb-false, leb-true, leb-false}
use Rattle.std.proofs.Math.Decide.{ℕ_discrete}
use Rattle.std.proofs.lemmas.List.Edits.{sets}
use Rattle.std.proofs.Math.Seq.{length-sets}
use Rattle.layout.specs.Layout.{head_size, row_size}
use Rattle.layout.specs.State.{State}
use Rattle.memory.proofs.Laws.RowLaws.{sets_other, sets_at}
use Rattle.counting.specs.declared.rows.Saved.{Saved}
use Rattle.counting.specs.Framed.{InPart, InHead, InRow, Framed, numbers_of, row_of, Saves, restored_heads, restored_cells}

-- two lists with the same elements
pub same_elements : (xs ys : List ℕ) → length xs ≡ length ys → ((a : ℕ) → get_or xs a 0 ≡ get_or ys a 0) → xs ≡ ys
same_elements [] [] e h = refl
same_elements [] (y ∷ ys) e h = absurd (omega (arith, e))
same_elements (x ∷ xs) [] e h = absurd (omega (arith, e))
same_elements (x ∷ xs) (y ∷ ys) e h = ap₂ {C = List ℕ} (λ a b. a ∷ b) (h 0) (same_elements xs ys (omega (arith, e)) (λ a. h (suc a)))

in_part : (i n a : ℕ) {X : Type 0} → (InPart i n a → X) → ((InPart i n a → ⊥) → X) → X
in_part i n a {X} f g = go (leb i a) refl (ltb a (i + n)) refl
  where
    go : (s : Bool) → leb i a ≡ s → (t : Bool) → ltb a (i + n) ≡ t → X
    go true p true q = f (leb-true i a p, ltb-true a (i + n) q)
    go true p false q = g (λ h. let w = ltb-false a (i + n) q in let v = h.1 in omega (arith, w, v))
    go false p t q = g (λ h. let w = leb-false i a p in let v = h.0 in omega (arith, w, v))

-- y differs from z in a part and where D holds; with the part put back, where D holds alone
pub mended : (z y : List ℕ) (i n : ℕ) (D : ℕ → Type 0) → length y ≡ length z → i + n ≤ length z
    → ((a : ℕ) → (InPart i n a → ⊥) → (D a → ⊥) → get_or y a 0 ≡ get_or z a 0)
    → (a : ℕ) → (D a → ⊥) → get_or (sets y i (take n (drop i z))) a 0 ≡ get_or z a 0
mended z y i n D e b h a d =
    let long : length (take n (drop i z)) ≡ n = length-take-le n (drop i z) (omega (arith, length-drop i z, b)) in
    in_part i n a
    (λ w.
    let lo = w.0 in
    let hi = w.1 in
    let q : i + (a - i) ≡ a = omega (arith, lo) in
    let low : a - i < n = omega (arith, lo, hi) in
    subst (λ x. get_or (sets y i (take n (drop i z))) x 0 ≡ get_or z x 0) q
    (sets_at y i (take n (drop i z)) (a - i) (omega (arith, low, long)) (omega (arith, long, e, b)) ∙ get_or-take n (drop i z) (a - i) 0 low ∙ get_or-drop i z (a - i) 0))
    (λ w. sets_other y i (take n (drop i z)) a (λ p q. w (p, omega (arith, q, long))) ∙ h a w d)

-- the same of one place
pub mended_place : (z y : List ℕ) (r : ℕ) (D : ℕ → Type 0) → length y ≡ length z → r < length z
    → ((a : ℕ) → (a ≡ r → ⊥) → (D a → ⊥) → get_or y a 0 ≡ get_or z a 0)
    → (a : ℕ) → (D a → ⊥) → get_or (set y r (get_or z r 0)) a 0 ≡ get_or z a 0
mended_place z y r D e b h a d = go (ℕ_discrete a r)
  where
    go : Dec (a ≡ r) → get_or (set y r (get_or z r 0)) a 0 ≡ get_or z a 0
    go (yes q) =
        let w = get_or-set_same y r (get_or z r 0) 0 (omega (arith, e, b)) in subst (λ x. get_or (set y r (get_or z r 0)) x 0 ≡ get_or z x 0) (sym q) w
    go (no q) = get_or-set_other y r a (get_or z r 0) 0 q ∙ h a q d

-- Memory -------------------------------------------------------------------------------------

module _ (z y : State) (l n r : ℕ) (f : Framed z l n r y) (s : Saved) (k : Saves z.heads z.cells l n r s) where
  abbrev Nowhere : ℕ → Type 0
  Nowhere a = ⊥

  pub heads_back : head_size * l + head_size ≤ length z.heads → head_size * n + head_size ≤ length z.heads → restored_heads y.heads l n s ≡ z.heads
  heads_back b c =
      let one = sets y.heads (head_size * n) (numbers_of z.heads n) in
      let long : length one ≡ length z.heads = length-sets y.heads (head_size * n) (numbers_of z.heads n) ∙ f.heads_long in
      rw (k.fresh, k.actor)
      (same_elements (sets one (head_size * l) (numbers_of z.heads l)) z.heads
      (length-sets one (head_size * l) (numbers_of z.heads l) ∙ long)
      (λ a.
      mended z.heads one (head_size * l) head_size Nowhere long b
      (λ a u w. mended z.heads y.heads (head_size * n) head_size (InHead l) f.heads_long c (λ a u w. f.heads a w u) a u) a (λ x. x)))

  pub cells_back : row_size * l + row_size ≤ length z.cells → row_size * n + row_size ≤ length z.cells → r < length z.cells
      → restored_cells y.cells l n s ≡ z.cells
  cells_back b c d =
      let one = sets y.cells (row_size * n) (row_of z.cells n) in
      let two = sets one (row_size * l) (row_of z.cells l) in
      let long : length one ≡ length z.cells = length-sets y.cells (row_size * n) (row_of z.cells n) ∙ f.cells_long in
      let wide : length two ≡ length z.cells = length-sets one (row_size * l) (row_of z.cells l) ∙ long in
      rw (k.other, k.row, k.at, k.cell)
      (same_elements (set two r (get_or z.cells r 0)) z.cells (length-set two r (get_or z.cells r 0) ∙ wide)
      (λ a.
      mended_place z.cells two r Nowhere wide d
      (λ a u w.
      mended z.cells one (row_size * l) row_size (λ a. a ≡ r) long b
      (λ a p q.
      mended z.cells y.cells (row_size * n) row_size (λ a. (InRow l a) ⊎ (a ≡ r)) f.cells_long c
      (λ a p q. f.cells a (λ x. q (inl x)) p (λ x. q (inr x))) a (⊎_elim p q))
      a u)
      a (λ x. x)))
