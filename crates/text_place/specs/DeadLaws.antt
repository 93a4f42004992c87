-- Behind the token that `stuck_from` finds no derivation goes on: no text that begins with the tokens up to it, and with it, is derived (02 §1, 16).
use Rattle.std.specs.Prelude.{ℕ, suc, ◌<◌, ◌≡◌, refl, Bool, true, false, List, [], ◌∷◌, ◌++◌, length, take, eqb}
use Rattle.std.proofs.Common.{arith, ap, ◌∙◌, eqb-true, ne_eqb}
use Rattle.std.proofs.lemmas.Bool.{eqb-false}
use Rattle.tokens.specs.Tokens.{Token}
use Rattle.tokens.specs.Marking.{kinds_in}
use Rattle.text_shape.specs.Shape.{Shape, Shape.shape, acts, act, moved, move, sample, moves, at_end, derived}
use Rattle.text_place.specs.Place.{dead, stuck_from}
use Rattle.text_place.specs.PlaceLaws.{stuck_past, stuck_here, stuck_on}
use Rattle.text_shape.specs.CodeNames.{first_defs_code}

-- what is dead stays so, and is not the end of a derivation
dead_move : (s : Shape) (t : Token) → dead s ≡ true → dead (move s t) ≡ true
unfolding dead move moved act acts
dead_move (shape q st) t e = rw (eqb-true q 0 e) refl

dead_moves : (s : Shape) (ks : List ℕ) → dead s ≡ true → dead (moves s ks) ≡ true
unfolding moves
dead_moves s [] e = e
dead_moves s (k ∷ ks) e = dead_moves (move s (sample k)) ks (dead_move s (sample k) e)

dead_end : (s : Shape) → dead s ≡ true → at_end s ≡ false
unfolding dead at_end
dead_end (shape q []) e = rw (eqb-true q 0 e) refl
dead_end (shape q (r ∷ st)) e = refl

moves_both : (s : Shape) (l m : List ℕ) → moves s (l ++ m) ≡ moves (moves s l) m
unfolding moves
moves_both s [] m = refl
moves_both s (k ∷ l) m = moves_both (move s (sample k)) l m

kinds_past : (k : ℕ) (l : List ℕ) → k ≡ 0 → kinds_in (k ∷ l) ≡ kinds_in l
unfolding kinds_in
kinds_past k l e = rw e refl

kinds_on : (k : ℕ) (l : List ℕ) → (k ≡ 0 → ⊥) → kinds_in (k ∷ l) ≡ k ∷ kinds_in l
unfolding kinds_in
kinds_on k l n = rw (ne_eqb k 0 n, kinds_in) refl

-- the kinds up to the token, and with it, leave what is dead
abbrev DeadBehind : Shape → List ℕ → ℕ → Type 0
DeadBehind s ks n = dead (moves s (kinds_in (take (suc n) ks))) ≡ true

stuck_dead : (s : Shape) (ks : List ℕ) → stuck_from s ks < length ks → DeadBehind s ks (stuck_from s ks)
unfolding stuck_from moves
stuck_dead s [] l = absurd (omega arith)
stuck_dead s (k ∷ ks) l = go (eqb k 0) refl (dead (move s (sample k))) refl (stuck_dead s ks) (stuck_dead (move s (sample k)) ks)
  where
    go : (b : Bool) → eqb k 0 ≡ b → (c : Bool) → dead (move s (sample k)) ≡ c
        → (stuck_from s ks < length ks → DeadBehind s ks (stuck_from s ks))
        → (stuck_from (move s (sample k)) ks < length ks → DeadBehind (move s (sample k)) ks (stuck_from (move s (sample k)) ks))
        → DeadBehind s (k ∷ ks) (stuck_from s (k ∷ ks))
    go true e c f g h =
        let z = eqb-true k 0 e in let w = stuck_past s k ks z in
        rw (w, kinds_past k (take (suc (stuck_from s ks)) ks) z) (g (omega (arith, w)))
    go false e true f g h =
        let n = eqb-false k 0 e in let w = stuck_here s k ks n f in rw (w, kinds_on k (take 0 ks) n) (dead_moves (move s (sample k)) (kinds_in (take 0 ks)) f)
    go false e false f g h =
        let n = eqb-false k 0 e in let w = stuck_on s k ks n f in
        rw (w, kinds_on k (take (suc (stuck_from (move s (sample k)) ks)) ks) n) (h (omega (arith, w)))

-- no derivation goes on with that token
pub stuck_underived : (ks more : List ℕ) → stuck_from (shape first_defs_code []) ks < length ks
    → derived (kinds_in (take (suc (stuck_from (shape first_defs_code []) ks)) ks) ++ more) ≡ false
unfolding derived
stuck_underived ks more l =
    let front = kinds_in (take (suc (stuck_from (shape first_defs_code []) ks)) ks) in
    ap at_end (moves_both (shape first_defs_code []) front more)
    ∙ dead_end _ (dead_moves (moves (shape first_defs_code []) front) more (stuck_dead (shape first_defs_code []) ks l))
