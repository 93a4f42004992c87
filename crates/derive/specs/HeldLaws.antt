-- Laws of a shape in memory: one for each way through the code, and the loop over the kinds.
use Prim.Native.Nat.{ℕ, zero, suc, ◌+◌, ◌-◌, ◌<◌, ◌≤◌}
use Rattle.std.proofs.Common.{arith, add-one, sym, ◌∙◌, append-nil, get_or-set_same, get_or-set_other, take-suc, ne_eqb}
use Rattle.std.proofs.Math.Numerals.{sub-one}
use Rattle.std.specs.Prelude.{◌≡◌, Bool, true, false, List, [], ◌∷◌, ◌++◌, length, get_or, set, take, eqb}
use Rattle.std.proofs.Math.Path.{refl, ap}
use Rattle.std.proofs.Math.Seq.{take-length}
use Rattle.tokens.specs.Marking.{kinds_in}
use Rattle.text_shape.specs.Shape.{Shape, Shape.shape, act, acted, acted_below, moved, move, sample, moves, at_end, derived}
use Rattle.derive.specs.Held.{held, Kept, Kept.kept, passed, ends}
use Rattle.text_shape.specs.declared.Act.{Act}
use Rattle.text_shape.specs.declared.Act.TheVariants.{Go, Open, Below, Stop}
use Rattle.text_shape.specs.CodeNames.{dead_code, first_defs_code}

-- a store from the height on leaves what is held; one at the height is held on top
pub held_set : (s : List ℕ) (i v h : ℕ) → h ≤ i → held (set s i v) h ≡ held s h
unfolding held
held_set s i v zero l = refl
held_set s i v (suc h) l = rw (get_or-set_other s i h v 0 (λ e. absurd (omega arith)), held_set s i v h (omega arith)) refl

pub held_push : (s : List ℕ) (h v : ℕ) → h < length s → held (set s h v) (h + 1) ≡ v ∷ held s h
unfolding held
held_push s h v l = rw (add-one h, get_or-set_same s h v 0 l, held_set s h v h (omega arith)) refl

-- what a function answers: nothing goes on; a place was opened
abbrev pub Dead : ℕ → ℕ → Type 0
Dead x y = (x ≡ dead_code) × (y ≡ 0)

kept_dead : {x y : ℕ} (t : List ℕ) → Dead x y → Kept x y t (shape dead_code [])
unfolding held
kept_dead t (a, b) = rw (a, b) (kept refl)

kept_open : {x y : ℕ} (t s : List ℕ) (h q r : ℕ) → h < length s → (x ≡ q) × (y ≡ h + 1) → t ≡ set s h r → Kept x y t (shape q (r ∷ held s h))
kept_open t s h q r l (a, b) e = rw (a, b, e) (kept (held_push s h r l))

-- One token -------------------------------------------------------------------------------------

module _ (q k h : ℕ) (s : List ℕ) where
  abbrev after_step : Shape
  after_step = move (shape q (held s h)) (sample k)

  pub step_go : (p : ℕ) → Go p ≡ act q (sample k) → Kept p h s after_step
  unfolding move moved
  step_go p e = rw (← e) (kept refl)

  pub step_open : {x y : ℕ} (t : List ℕ) (p r : ℕ) → Open p r ≡ act q (sample k) → h < length s → (x ≡ p) × (y ≡ h + 1) → t ≡ set s h r → Kept x y t after_step
  unfolding move moved
  step_open t p r e l a b = rw (← e) (kept_open t s h p r l a b)

  pub step_below : {x y : ℕ} (t : List ℕ) → Below ≡ act q (sample k) → Kept x y t (acted_below (held s h) (sample k)) → Kept x y t after_step
  unfolding move moved
  step_below t e b = rw (← e) b

  pub step_stop : {x y : ℕ} (t : List ℕ) → Stop ≡ act q (sample k) → Dead x y → Kept x y t after_step
  unfolding move moved
  step_stop t e d = rw (← e) (kept_dead t d)

-- what was opened last takes it
module _ (k h : ℕ) (s : List ℕ) where
  abbrev after_below : Shape
  after_below = acted_below (held s h) (sample k)

  pub below_none : {x y : ℕ} (t : List ℕ) → h ≡ 0 → Dead x y → Kept x y t after_below
  unfolding acted_below held
  below_none t e d = rw e (kept_dead t d)

  module _ (n : h ≡ 0 → ⊥) where
    abbrev top : Act
    top = act (get_or s (h - 1) 0) (sample k)

    popped : after_below ≡ acted top (held s (h - 1))
    unfolding acted_below held
    popped = go h n
      where
        go : (h : ℕ) → (h ≡ 0 → ⊥) → acted_below (held s h) (sample k) ≡ acted (act (get_or s (h - 1) 0) (sample k)) (held s (h - 1))
        go zero n = absurd (n refl)
        go (suc i) n = rw sub-one refl

    pub below_go : (p : ℕ) → Go p ≡ top → Kept p (h - 1) s after_below
    unfolding acted
    below_go p e = rw (popped, ← e) (kept refl)

    pub below_open : {x y : ℕ} (t : List ℕ) (p r : ℕ) → Open p r ≡ top → h ≤ length s → (x ≡ p) × (y ≡ (h - 1) + 1) → t ≡ set s (h - 1) r
        → Kept x y t after_below
    unfolding acted
    below_open t p r e l a b = rw (popped, ← e) (kept_open t s (h - 1) p r (omega (arith, n)) a b)

    pub below_below : {x y : ℕ} (t : List ℕ) → Below ≡ top → Dead x y → Kept x y t after_below
    unfolding acted
    below_below t e d = rw (popped, ← e) (kept_dead t d)

    pub below_stop : {x y : ℕ} (t : List ℕ) → Stop ≡ top → Dead x y → Kept x y t after_below
    unfolding acted
    below_stop t e d = rw (popped, ← e) (kept_dead t d)

-- The loop -----------------------------------------------------------------------------------------

moves_append : (x : Shape) (ks : List ℕ) (k : ℕ) → moves x (ks ++ (k ∷ [])) ≡ move (moves x ks) (sample k)
unfolding moves
moves_append x [] k = refl
moves_append x (l ∷ ks) k = moves_append (move x (sample l)) ks k

kinds_append : (ks ls : List ℕ) → kinds_in (ks ++ ls) ≡ kinds_in ks ++ kinds_in ls
unfolding kinds_in
kinds_append [] ls = refl
kinds_append (k ∷ ks) ls = go (eqb k 0) refl (kinds_append ks ls)
  where
    go : (t : Bool) → eqb k 0 ≡ t → kinds_in (ks ++ ls) ≡ kinds_in ks ++ kinds_in ls → kinds_in ((k ∷ ks) ++ ls) ≡ kinds_in (k ∷ ks) ++ kinds_in ls
    go true e i = rw (e, kinds_in) i
    go false e i = rw (e, kinds_in) (ap (λ l. k ∷ l) i)

kinds_one : (k : ℕ) → (k ≡ 0 → ⊥) → kinds_in (k ∷ []) ≡ k ∷ []
unfolding kinds_in
kinds_one k n = rw (ne_eqb k 0 n, kinds_in) refl

module _ (ks : List ℕ) (i : ℕ) (l : i < length ks) where
  kinds_next : kinds_in (take (i + 1) ks) ≡ kinds_in (take i ks) ++ kinds_in (get_or ks i 0 ∷ [])
  kinds_next = rw (add-one i, take-suc ks i 0 l) (kinds_append (take i ks) (get_or ks i 0 ∷ []))

  pub passed_none : get_or ks i 0 ≡ 0 → passed ks (i + 1) ≡ passed ks i
  unfolding passed kinds_in
  passed_none e = ap (moves (shape first_defs_code [])) (kinds_next ∙ rw e (append-nil (kinds_in (take i ks))))

  pub passed_token : (get_or ks i 0 ≡ 0 → ⊥) → passed ks (i + 1) ≡ move (passed ks i) (sample (get_or ks i 0))
  unfolding passed
  passed_token n =
      ap (moves (shape first_defs_code [])) (kinds_next ∙ ap (λ u. kinds_in (take i ks) ++ u) (kinds_one (get_or ks i 0) n))
      ∙ moves_append (shape first_defs_code []) (kinds_in (take i ks)) (get_or ks i 0)

pub kept_shape : {q h : ℕ} {s : List ℕ} {x : Shape} → Kept q h s x → x ≡ shape q (held s h)
kept_shape (kept e) = rw (← e) refl

pub loop_start : (ks s : List ℕ) → Kept first_defs_code 0 s (passed ks 0)
unfolding passed kinds_in moves held
loop_start ks s = kept refl

pub loop_past : (ks s : List ℕ) (q h i : ℕ) → i < length ks → get_or ks i 0 ≡ 0 → Kept q h s (passed ks i) → Kept q h s (passed ks (i + 1))
loop_past ks s q h i l e k = rw (passed_none ks i l e) k

pub loop_token : (ks s t : List ℕ) (q h r g i : ℕ) → i < length ks → (get_or ks i 0 ≡ 0 → ⊥) → Kept q h s (passed ks i)
    → Kept r g t (move (shape q (held s h)) (sample (get_or ks i 0))) → Kept r g t (passed ks (i + 1))
loop_token ks s t q h r g i l e k m = rw (passed_token ks i l e, kept_shape k) m

at_height : (q h : ℕ) (s : List ℕ) → ends q h ≡ at_end (shape q (held s h))
unfolding at_end held ends
at_height q zero s = refl
at_height q (suc h) s = rw (ne_eqb (suc h) 0 (λ e. omega arith), ends) refl

passed_all : (ks : List ℕ) → passed ks (length ks) ≡ moves (shape first_defs_code []) (kinds_in ks)
unfolding passed
passed_all ks = ap (λ u. moves (shape first_defs_code []) (kinds_in u)) (take-length ks)

pub loop_end : (ks s : List ℕ) (q h i : ℕ) → i ≡ length ks → Kept q h s (passed ks i) → ends q h ≡ derived (kinds_in ks)
unfolding derived
loop_end ks s q h i e k =
    let f : shape q (held s h) ≡ passed ks i = sym (kept_shape k) in
    let g : passed ks i ≡ moves (shape first_defs_code []) (kinds_in ks) = ap (passed ks) e ∙ passed_all ks in
    at_height q h s ∙ ap at_end (f ∙ g)
