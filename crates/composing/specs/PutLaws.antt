-- One role in memory: what each of its marks picks, and the three in a row; the number of a literal.
use Rattle.std.specs.Prelude.{ℕ, zero, suc, ◌+◌, ◌≤◌, ◌<◌, ◌≡◌, refl, Bool, true, ◌&&◌, List, length, get_or, Option, Some, None}
use Rattle.std.specs.Option.{unwrap_or}
use Rattle.std.proofs.Common.{arith, sym, ap, ◌∙◌}
use Rattle.std.proofs.Math.ListN.{get_or-eq_default}
use Rattle.compose.specs.Writing.{op_shift, Writing, formed, behinds, pourings, stackings, behind_marks, forms, stack_marks, pour_marks, spelt, put}
use Rattle.compose.specs.Fits.{kept, word_value, within}
use Rattle.compose.proofs.Laws.FitsLaws.{formed_alike, stacked_alike, kept_within, spelt_within}
use Rattle.text_shape.specs.RoleNames.{role_count}

-- By a mark ------------------------------------------------------------------------------------------

-- the one that a mark names
pub picked : (g : Writing → Writing) (l : List (Writing → Writing)) (y : Writing) {m k : ℕ} {x : Writing} → m ≡ k → x ≡ g (get_or l k (λ x. x) y)
    → x ≡ g (get_or l m (λ x. x) y)
picked g l y e f = rw e f

-- nothing, by a mark that names none of the others
pub picked_none : (l : List (Writing → Writing)) (m : ℕ) (y : Writing) → get_or l 0 (λ x. x) y ≡ y → (0 < m → length l ≤ m) → y ≡ get_or l m (λ x. x) y
picked_none l zero y e h = sym e
picked_none l (suc m) y e h = ap (λ f. f y) (sym (get_or-eq_default l (λ x. x) {n = suc m} (h (omega arith))))

-- A role ----------------------------------------------------------------------------------------------

-- its own bytes by three marks, one after the other
spelt_by : (c v m b k : ℕ) (x₀ x₁ x₂ x₃ : Writing) → m ≡ get_or behind_marks c 0 → b ≡ get_or forms c 0 → k ≡ get_or stack_marks c 0
    → kept x₁ ≡ kept (get_or (behinds v) m (λ x. x) x₀) → x₂ ≡ formed b x₁ → kept x₃ ≡ kept (get_or (stackings (c + op_shift)) k (λ x. x) x₂)
    → kept x₃ ≡ kept (spelt c v x₀)
unfolding spelt
spelt_by c v m b k x₀ x₁ x₂ x₃ e f g p q r =
    let t : kept x₂ ≡ kept (formed b (get_or (behinds v) m (λ x. x) x₀)) = ap kept q ∙ formed_alike b x₁ (get_or (behinds v) m (λ x. x) x₀) p in
    let u : kept x₃ ≡ kept (get_or (stackings (c + op_shift)) k (λ x. x) (formed b (get_or (behinds v) m (λ x. x) x₀))) =
    r ∙ stacked_alike (c + op_shift) k x₂ (formed b (get_or (behinds v) m (λ x. x) x₀)) t in
    rw (e, f, g) at u

-- behind what it lets go first, as far as there is room
pub put_by : (room c v a m b k : ℕ) (x y x₁ x₂ x₃ : Writing) → a ≡ get_or pour_marks c 0 → m ≡ get_or behind_marks c 0 → b ≡ get_or forms c 0
    → k ≡ get_or stack_marks c 0 → within room y ≡ within room (get_or (pourings (c + op_shift)) a (λ x. x) x) → kept x₁ ≡ kept (get_or (behinds v) m (λ x. x) y)
    → x₂ ≡ formed b x₁ → kept x₃ ≡ kept (get_or (stackings (c + op_shift)) k (λ x. x) x₂) → within room x₃ ≡ within room (put c v x)
unfolding put
put_by room c v a m b k x y x₁ x₂ x₃ d e f g w p q r =
    kept_within room x₃ (spelt c v y) (spelt_by c v m b k y x₁ x₂ x₃ e f g p q r)
    ∙ spelt_within room c v y (get_or (pourings (c + op_shift)) a (λ x. x) x) w
    ∙ ap (λ i. within room (spelt c v (get_or (pourings (c + op_shift)) i (λ x. x) x))) d

-- a byte that is no role's does nothing
behind_none : (c : ℕ) → role_count ≤ c → get_or behind_marks c 0 ≡ 0
unfolding behind_marks
behind_none c l = get_or-eq_default behind_marks 0 {n = c} l

form_none : (c : ℕ) → role_count ≤ c → get_or forms c 0 ≡ 0
unfolding forms
form_none c l = get_or-eq_default forms 0 {n = c} l

stack_none : (c : ℕ) → role_count ≤ c → get_or stack_marks c 0 ≡ 0
unfolding stack_marks
stack_none c l = get_or-eq_default stack_marks 0 {n = c} l

pour_none : (c : ℕ) → role_count ≤ c → get_or pour_marks c 0 ≡ 0
unfolding pour_marks
pour_none c l = get_or-eq_default pour_marks 0 {n = c} l

pub put_none : (room c v : ℕ) (x : Writing) → role_count ≤ c → within room x ≡ within room (put c v x)
unfolding behinds formed stackings pourings
put_none room c v x l =
    put_by room c v 0 0 0 0 x x x x x (sym (pour_none c l)) (sym (behind_none c l)) (sym (form_none c l)) (sym (stack_none c l)) refl refl refl refl

-- Literals and room -----------------------------------------------------------------------------------

pub word_is : (w : Option ℕ) (n : ℕ) → w ≡ Some n → n ≡ word_value w
unfolding word_value
word_is w n e = rw e refl

pub word_outside : (w : Option ℕ) → w ≡ None → 0 ≡ word_value w
unfolding word_value
word_outside w e = rw e refl

pub word_or : (w : Option ℕ) → unwrap_or w 0 ≡ word_value w
unfolding word_value
word_or (Some n) = refl
word_or None = refl

pub both_on : (f g : Bool) → f ≡ true → g ≡ (f && g)
both_on f g e = rw e refl
