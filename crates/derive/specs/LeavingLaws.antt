-- What the loop leaves is each token's role in its place. And the loop's invariant.
use Rattle.std.specs.Prelude.{ℕ, ◌+◌, ◌<◌, ◌≡◌, refl, Bool, true, false, List, [], ◌∷◌, ◌++◌, length, set, eqb, Option, Some, None, IfSome, unwrap_or}
use Rattle.std.proofs.Common.{arith, sym, ap, ◌∙◌, append_assoc, length-set, length-append, eqb-true, ne_eqb}
use Rattle.std.proofs.lemmas.List.{set-append_left, set_at}
use Rattle.tokens.specs.Marking.{kinds_in}
use Rattle.text_shape.specs.Shape.{Shape, Shape.shape, sample, move}
use Rattle.text_shape.specs.RoleMarks.{role, waits, renamed, kept_or, by_next, settled, role_codes, placed}
use Rattle.derive.specs.Leaving.{amended, left, renames, leaves}
use Rattle.text_shape.specs.CodeNames.{first_defs_code}

-- a name's role by what follows it
settled_last : (r : ℕ) (s : Shape) → settled r s [] ≡ r
unfolding settled by_next
settled_last r (shape q st) = go (waits q) refl
  where
    go : (b : Bool) → waits q ≡ b → settled r (shape q st) [] ≡ r
    go true e = rw (settled, e)
    go false e = rw (settled, e)

settled_next : (r : ℕ) (s : Shape) (k : ℕ) (ks : List ℕ) → settled r s (k ∷ ks) ≡ kept_or r (renames s k)
unfolding settled by_next renames renamed kept_or
settled_next r (shape q st) k ks = go (waits q) refl
  where
    go : (b : Bool) → waits q ≡ b → settled r (shape q st) (k ∷ ks) ≡ kept_or r (renames (shape q st) k)
    go true e = rw (settled, renames, renamed, e)
    go false e = rw (settled, renames, renamed, e)

-- the last token stood before place i, or it was no name that waits
data Ready (s : Shape) (last i : ℕ) : Type 0 where
  stood : last < i → Ready s last i
  quiet : ((k : ℕ) → renames s k ≡ 0) → Ready s last i

pub length_amended : (m : List ℕ) (last w : ℕ) → length (amended m last w) ≡ length m
unfolding amended
length_amended m last w = go (eqb w 0) refl
  where
    go : (b : Bool) → eqb w 0 ≡ b → length (amended m last w) ≡ length m
    go true e = rw (amended, e)
    go false e = rw (amended, e, length-set)

amended_left : (d e : List ℕ) (last w : ℕ) → last < length d → amended (d ++ e) last w ≡ amended d last w ++ e
unfolding amended
amended_left d e last w l = go (eqb w 0) refl
  where
    go : (b : Bool) → eqb w 0 ≡ b → amended (d ++ e) last w ≡ amended d last w ++ e
    go true q = rw (amended, q)
    go false q = rw (amended, q, set-append_left d e last w l)

amended_front : {s : Shape} {last i : ℕ} (d e : List ℕ) (k : ℕ) → Ready s last i → length d ≡ i
    → amended (d ++ e) last (renames s k) ≡ amended d last (renames s k) ++ e
unfolding amended
amended_front {s} {last} d e k (stood l) h = amended_left d e last (renames s k) (omega arith)
amended_front d e k (quiet q) h = rw (q k) refl

amended_top : (d : List ℕ) (i r w : ℕ) → length d ≡ i → amended (d ++ (r ∷ [])) i w ≡ d ++ (kept_or r w ∷ [])
unfolding amended kept_or
amended_top d i r w h = go (eqb w 0) refl
  where
    go : (b : Bool) → eqb w 0 ≡ b → amended (d ++ (r ∷ [])) i w ≡ d ++ (kept_or r w ∷ [])
    go true e = rw (amended, kept_or, e)
    go false e = rw (amended, kept_or, e, set_at d r [] w i h)

-- as the code leaves them
left_other : (m : List ℕ) (i last r x : ℕ) → 0 < x → set (set m last x) i r ≡ left m i last r x
unfolding left amended
left_other m i last r x p = rw (left, amended, ne_eqb x 0 (λ z. omega (arith, p, z))) refl

pub left_some : (m : List ℕ) (i last r : ℕ) {o : Option ℕ} (x : ℕ) → o ≡ Some x → IfSome o (λ w. 0 < w) → set (set m last x) i r ≡ left m i last r (unwrap_or o 0)
left_some m i last r x e p = left_other m i last r x (rw e at p) ∙ ap (λ o. left m i last r (unwrap_or o 0)) (sym e)

pub left_none : (m : List ℕ) (i last r : ℕ) {o : Option ℕ} → o ≡ None → set m i r ≡ left m i last r (unwrap_or o 0)
unfolding left amended
left_none m i last r e = rw e refl

-- what stands before place i, once the next token came
awaits : Shape → ℕ → List ℕ → List ℕ → List ℕ
awaits s last [] d = d
awaits s last (k ∷ ks) d = amended d last (renames s k)

awaits_front : {s : Shape} {last i : ℕ} (ks d e : List ℕ) → Ready s last i → length d ≡ i → awaits s last ks (d ++ e) ≡ awaits s last ks d ++ e
unfolding awaits
awaits_front [] d e r h = refl
awaits_front (k ∷ ks) d e r h = amended_front d e k r h

awaits_top : (s : Shape) (ks d : List ℕ) (i r : ℕ) → length d ≡ i → awaits s i ks (d ++ (r ∷ [])) ≡ d ++ (settled r s ks ∷ [])
unfolding awaits
awaits_top s [] d i r h = rw (settled_last r s) refl
awaits_top s (k ∷ ks) d i r h = rw (settled_next r s k ks) (amended_top d i r (renames s k) h)

-- bytes in the places of tokens
placed_gap : (ks rs : List ℕ) → placed (0 ∷ ks) rs ≡ 0 ∷ placed ks rs
unfolding placed
placed_gap [] [] = refl
placed_gap (k ∷ ks) [] = refl
placed_gap ks (r ∷ rs) = refl

placed_token : (k r : ℕ) (ks rs : List ℕ) → eqb k 0 ≡ false → placed (k ∷ ks) (r ∷ rs) ≡ r ∷ placed ks rs
unfolding placed
placed_token k r ks rs e = rw (e, placed)

left_front : {s : Shape} {last i : ℕ} (d ks : List ℕ) (k r : ℕ) → Ready s last i → length d ≡ i
    → left (d ++ (k ∷ ks)) i last r (renames s k) ≡ (amended d last (renames s k) ++ (r ∷ [])) ++ ks
unfolding left
left_front {s} {last} {i} d ks k r p h =
    ap (λ m. set m i r) (amended_front d (k ∷ ks) k p h)
    ∙ set_at (amended d last (renames s k)) k ks r i (length_amended d last (renames s k) ∙ h)
    ∙ sym (append_assoc (amended d last (renames s k)) (r ∷ []) ks)

ready_on : {s : Shape} {last i : ℕ} → Ready s last i → Ready s last (i + 1)
ready_on (stood l) = stood (omega arith)
ready_on (quiet q) = quiet q

one_more : (d : List ℕ) (k i : ℕ) → length d ≡ i → length (d ++ (k ∷ [])) ≡ i + 1
one_more d k i h = length-append d (k ∷ []) ∙ ap (λ n. n + 1) h

-- what the loop leaves of a memory whose front d is done
abbrev Leaves : List ℕ → Type 0
Leaves ks = (s : Shape) (last i : ℕ) (d : List ℕ) → Ready s last i → length d ≡ i
    → leaves s last i ks (d ++ ks) ≡ awaits s last (kinds_in ks) d ++ placed ks (role_codes s (kinds_in ks))

leaves_gap : (ks : List ℕ) → Leaves ks → Leaves (0 ∷ ks)
unfolding leaves kinds_in
leaves_gap ks rec s last i d p h =
    ap (leaves s last (i + 1) ks) (sym (append_assoc d (0 ∷ []) ks))
    ∙ rec s last (i + 1) (d ++ (0 ∷ [])) (ready_on p) (one_more d 0 i h)
    ∙ ap (λ u. u ++ placed ks (role_codes s (kinds_in ks))) (awaits_front (kinds_in ks) d (0 ∷ []) p h)
    ∙ append_assoc (awaits s last (kinds_in ks) d) (0 ∷ []) (placed ks (role_codes s (kinds_in ks)))
    ∙ ap (λ u. awaits s last (kinds_in ks) d ++ u) (sym (placed_gap ks (role_codes s (kinds_in ks))))

leaves_token : (ks : List ℕ) (k : ℕ) → eqb k 0 ≡ false → Leaves ks → Leaves (k ∷ ks)
unfolding leaves kinds_in awaits role_codes
leaves_token ks k e rec s last i d p h =
    let f : List ℕ = amended d last (renames s k) in
    let z : Shape = move s (sample k) in
    let g : length f ≡ i = length_amended d last (renames s k) ∙ h in
    rw (e, leaves, kinds_in)
    (ap (leaves z i (i + 1) ks) (left_front d ks k (role s k) p h)
    ∙ rec z i (i + 1) (f ++ (role s k ∷ [])) (stood (omega arith)) (one_more f (role s k) i g)
    ∙ ap (λ u. u ++ placed ks (role_codes z (kinds_in ks))) (awaits_top z (kinds_in ks) f i (role s k) g)
    ∙ append_assoc f (settled (role s k) z (kinds_in ks) ∷ []) (placed ks (role_codes z (kinds_in ks)))
    ∙ ap (λ u. f ++ u) (sym (placed_token k (settled (role s k) z (kinds_in ks)) ks (role_codes z (kinds_in ks)) e)))

leaves_all : (ks : List ℕ) → Leaves ks
unfolding leaves kinds_in awaits placed role_codes
leaves_all [] s last i d p h = refl
leaves_all (k ∷ ks) s last i d p h = go (eqb k 0) refl (λ s last i d p h. leaves_all ks s last i d p h)
  where
    go : (b : Bool) → eqb k 0 ≡ b → Leaves ks
        → leaves s last i (k ∷ ks) (d ++ (k ∷ ks)) ≡ awaits s last (kinds_in (k ∷ ks)) d ++ placed (k ∷ ks) (role_codes s (kinds_in (k ∷ ks)))
    go true e rec = rw (eqb-true k 0 e) (leaves_gap ks rec s last i d p h)
    go false e rec = leaves_token ks k e rec s last i d p h

-- from the first place on
pub left_all : (ks : List ℕ) → leaves (shape first_defs_code []) 0 0 ks ks ≡ placed ks (role_codes (shape first_defs_code []) (kinds_in ks))
unfolding awaits amended renames renamed waits
left_all ks = leaves_all ks (shape first_defs_code []) 0 0 [] (quiet (λ k. refl)) refl ∙ front (kinds_in ks)
  where
    front : (l : List ℕ) → awaits (shape first_defs_code []) 0 l [] ++ placed ks (role_codes (shape first_defs_code []) (kinds_in ks))
        ≡ placed ks (role_codes (shape first_defs_code []) (kinds_in ks))
    front [] = refl
    front (k ∷ l) = refl
