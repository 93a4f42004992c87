-- Laws of runs of bytes, of fronts and of the first close, and of the classes of bytes.
use Rattle.std.specs.Prelude.{ℕ, zero, suc, ◌≤◌, ◌≡◌, refl, Bool, true, false, ◌&&◌, List, [], ◌∷◌, ◌++◌, length, take, drop, eqb, leb}
use Rattle.std.proofs.Common.{arith, sym, ap, ◌∙◌, append_assoc, length-append, eqb-true, eq-eqb, leb-true}
use Rattle.std.proofs.lemmas.Bool.{false≢true, lt-leb}
use Rattle.tokens.specs.Tokens.{between, letter, digit, blank, every, same}
use Rattle.tokens.specs.Lexing.{close, Closes}
use Rattle.tokens.specs.Scanning.{span, begins, one_more, closing, Class, Class.letters, Class.digits, Class.blanks, Class.others, class}
use Rattle.tokens.specs.Bytes.{star, slash}

-- Tests ------------------------------------------------------------------------------

pub both_true : (a b : Bool) → (a && b) ≡ true → (a ≡ true) × (b ≡ true)
both_true true b e = (refl, e)
both_true false b e = absurd (false≢true e)

-- Runs -------------------------------------------------------------------------------

pub span_within : (p : ℕ → Bool) (s : List ℕ) → span p s ≤ length s
unfolding span
span_within p [] = omega arith
span_within p (b ∷ s) = go (p b) refl (span_within p s)
  where
    go : (t : Bool) → p b ≡ t → span p s ≤ length s → span p (b ∷ s) ≤ suc (length s)
    go true e h = rw (e, span) (omega arith)
    go false e h = rw (e, span) (omega arith)

pub span_every : (p : ℕ → Bool) (s : List ℕ) → every p (take (span p s) s) ≡ true
unfolding span every
span_every p [] = refl
span_every p (b ∷ s) = go (p b) refl (span_every p s)
  where
    go : (t : Bool) → p b ≡ t → every p (take (span p s) s) ≡ true → every p (take (span p (b ∷ s)) (b ∷ s)) ≡ true
    go true e h = rw (e, span) (rw (e, h) refl)
    go false e h = rw (e, span) refl

pub span_most : (p : ℕ → Bool) (w v : List ℕ) → every p w ≡ true → length w ≤ span p (w ++ v)
unfolding span every
span_most p [] v h = omega arith
span_most p (b ∷ w) v h =
    let e = both_true (p b) (every p w) h in
    let i = span_most p w v e.1 in
    rw (e.0, span) (omega arith)

pub span_ends : (p : ℕ → Bool) (w : List ℕ) (c : ℕ) (v : List ℕ) → every p w ≡ true → p c ≡ false → span p (w ++ (c ∷ v)) ≡ length w
unfolding span every
span_ends p [] c v h n = rw (n, span) refl
span_ends p (b ∷ w) c v h n =
    let e = both_true (p b) (every p w) h in
    rw (e.0, span) (ap suc (span_ends p w c v e.1 n))

-- Fronts -----------------------------------------------------------------------------

pub same_true : (s t : List ℕ) → same s t ≡ true → s ≡ t
unfolding same
same_true [] [] e = refl
same_true [] (b ∷ t) e = absurd (false≢true e)
same_true (a ∷ s) [] e = absurd (false≢true e)
same_true (a ∷ s) (b ∷ t) e =
    let h = both_true (eqb a b) (same s t) e in
    rw (eqb-true a b h.0, same_true s t h.1) refl

pub begins_true : (u x : List ℕ) → begins u x ≡ true → u ++ drop (length u) x ≡ x
unfolding begins
begins_true [] x e = refl
begins_true (a ∷ u) [] e = absurd (false≢true e)
begins_true (a ∷ u) (b ∷ x) e =
    let h = both_true (eqb a b) (begins u x) e in
    rw (eqb-true a b h.0) (ap (λ l. b ∷ l) (begins_true u x h.1))

pub begins_front : (u x : List ℕ) → begins u (u ++ x) ≡ true
unfolding begins
begins_front [] x = refl
begins_front (a ∷ u) x = rw (eq-eqb a a refl) (begins_front u x)

-- The first close ----------------------------------------------------------------------

-- a byte in front of a close that stays the first one
closes_behind : (b : ℕ) (w : List ℕ) → Closes (b ∷ w) → Closes w
closes_behind b w c a r e = c (b ∷ a) r (ap (λ l. b ∷ l) e)

closes_before : (b : ℕ) (w s : List ℕ) → begins close (b ∷ (w ++ (close ++ s))) ≡ false → Closes w → Closes (b ∷ w)
closes_before b w s n c [] r e = absurd (false≢true (sym n ∙ here))
  where
    here : begins close (b ∷ (w ++ (close ++ s))) ≡ true
    here = rw (← append_assoc w close s, ap (λ l. l ++ s) e) (begins_front close (r ++ s))
closes_before b w s n c (x ∷ a) r e = c a r (let f : w ++ close ≡ a ++ (close ++ r) = cc in f)

-- no close begins before the first
never_earlier : (b : ℕ) (w s : List ℕ) → Closes (b ∷ w) → begins close (b ∷ (w ++ (close ++ s))) ≡ true → ⊥
unfolding begins
never_earlier b [] s c e = false≢true (both_true (eqb star b) false e).1
never_earlier b (x ∷ w) s c e =
    let h = both_true (eqb star b) (eqb slash x && true) e in
    let p : star ≡ b = eqb-true star b h.0 in
    let q : slash ≡ x = eqb-true slash x (both_true (eqb slash x) true h.1).0 in
    let n : w ++ close ≡ [] = c [] (w ++ close) (rw (← p, ← q) refl) in
    omega (arith, ap length n, length-append w close)

pub closing_first : (w s : List ℕ) → Closes w → closing (w ++ (close ++ s)) ≡ suc (suc (length w))
unfolding closing one_more
closing_first [] s c = rw (begins_front close s, closing) refl
closing_first (b ∷ w) s c = go (begins close (b ∷ (w ++ (close ++ s)))) refl (closing_first w s (closes_behind b w c))
  where
    go : (t : Bool) → begins close (b ∷ (w ++ (close ++ s))) ≡ t → closing (w ++ (close ++ s)) ≡ suc (suc (length w))
        → closing ((b ∷ w) ++ (close ++ s)) ≡ suc (suc (suc (length w)))
    go true e h = absurd (never_earlier b w s c e)
    go false e h = rw (e, closing, h) refl

-- what closing finds: the bytes before the first close
pub record Closed (s : List ℕ) (n : ℕ) : Type 0 where
  pub inside : List ℕ
  pub rest : List ℕ
  pub first : Closes inside
  pub whole : inside ++ (close ++ rest) ≡ s
  pub sized : n ≡ suc (suc (length inside))

closes_at_once : Closes []
closes_at_once [] r e = sym (let f : [] ≡ r = cc in f)
closes_at_once (x ∷ []) r e = absurd (let z : ◌≡◌ {A = ℕ} star slash = cc in omega arith)
closes_at_once (x ∷ y ∷ a) r e = absurd (omega (arith, ap length e, length-append a (close ++ r)))

pub closing_found : (s : List ℕ) (n : ℕ) → closing s ≡ suc n → Closed s (suc n)
unfolding closing one_more
closing_found [] n e = absurd (omega (arith, e))
closing_found (b ∷ s) n e = go (begins close (b ∷ s)) refl (closing s) refl (λ m. closing_found s m)
  where
    found_here : begins close (b ∷ s) ≡ true → closing (b ∷ s) ≡ 2
    found_here t = rw (t, closing) refl

    found_none : begins close (b ∷ s) ≡ false → closing s ≡ 0 → closing (b ∷ s) ≡ 0
    found_none t f = rw (t, closing, f, one_more) refl

    found_later : {m : ℕ} → begins close (b ∷ s) ≡ false → closing s ≡ suc m → closing (b ∷ s) ≡ suc (suc m)
    found_later t f = rw (t, closing, f, one_more) refl

    go : (t : Bool) → begins close (b ∷ s) ≡ t → (k : ℕ) → closing s ≡ k → ((m : ℕ) → closing s ≡ suc m → Closed s (suc m)) → Closed (b ∷ s) (suc n)
    go true t k f rec =
        record { inside = []; rest = drop 2 (b ∷ s); first = closes_at_once; whole = begins_true close (b ∷ s) t; sized = sym e ∙ found_here t }
    go false t zero f rec = absurd (omega (arith, sym e ∙ found_none t f))
    go false t (suc m) f rec =
        let c = rec m f in
        record {
          inside = b ∷ c.inside;
          rest = c.rest;
          first = closes_before b c.inside c.rest (rw c.whole t) c.first;
          whole = ap (λ l. b ∷ l) c.whole;
          sized = sym e ∙ found_later t f ∙ ap suc c.sized;
        }

-- Classes of bytes -----------------------------------------------------------------------

pub class_letter : (b : ℕ) → letter b ≡ true → class b ≡ letters
unfolding class
class_letter b e = rw (e, class) refl

digit_range : (b : ℕ) → digit b ≡ true → (48 ≤ b) × (b ≤ 57)
unfolding digit between
digit_range b e =
    let h = both_true (leb 48 b) (leb b 57) e in
    (leb-true 48 b h.0, leb-true b 57 h.1)

digit_no_letter : (b : ℕ) → digit b ≡ true → letter b ≡ false
unfolding letter between
digit_no_letter b e = let r = digit_range b e in rw (lt-leb 65 b (omega arith), lt-leb 97 b (omega arith)) refl

pub class_digit : (b : ℕ) → digit b ≡ true → class b ≡ digits
unfolding class
class_digit b e = rw (digit_no_letter b e, e, class) refl

pub class_blank : (b : ℕ) → blank b ≡ true → class b ≡ blanks
unfolding class blank letter digit between
class_blank b e = go (eqb b 32) refl (eqb b 9) refl (eqb b 10) refl (eqb b 13) refl
  where
    at : (c : ℕ) → class c ≡ blanks → eqb b c ≡ true → class b ≡ blanks
    at c k t = rw (eqb-true b c t) k

    go : (p : Bool) → eqb b 32 ≡ p → (q : Bool) → eqb b 9 ≡ q → (r : Bool) → eqb b 10 ≡ r → (s : Bool) → eqb b 13 ≡ s → class b ≡ blanks
    go true t q u r v s w = at 32 refl t
    go false t true u r v s w = at 9 refl u
    go false t false u true v s w = at 10 refl v
    go false t false u false v true w = at 13 refl w
    go false t false u false v false w = absurd (false≢true (sym (rw (t, u, v, w) refl) ∙ e))

-- what a class says of its bytes
pub data ClassOf (b : ℕ) : Class → Type 0 where
  is_letter : letter b ≡ true → ClassOf b letters
  is_digit : digit b ≡ true → ClassOf b digits
  is_blank : blank b ≡ true → ClassOf b blanks
  is_other : ClassOf b others

pub classed : (b : ℕ) → ClassOf b (class b)
unfolding class
classed b = go (letter b) refl (digit b) refl (blank b) refl
  where
    go : (p : Bool) → letter b ≡ p → (q : Bool) → digit b ≡ q → (r : Bool) → blank b ≡ r → ClassOf b (class b)
    go true e q f r g = rw (e, class) (is_letter e)
    go false e true f r g = rw (e, f, class) (is_digit f)
    go false e false f true g = rw (e, f, g, class) (is_blank g)
    go false e false f false g = rw (e, f, g, class) is_other
