-- Fronts of lists of bytes, and the levels at which they stand (01, 4 and 5 of 'Numbers from the input'): joined, whole, and cut.
use Rattle.std.specs.Prelude.{ℕ, suc, ◌+◌, ◌≤◌, ◌≡◌, refl, List, [], ◌∷◌, ◌++◌, length}
use Rattle.std.proofs.Common.{arith, ◌∙◌}
use Rattle.program.specs.Encoding.{flat}
use Rattle.program.specs.Levels.{all_at}
use Rattle.program.specs.Fronts.{Front, Front.front_none, Front.front_byte}
use Rattle.program.specs.Follows.{Covers, Covers.covers_none, Covers.covers_byte, Deep, Deep.deep_here, Deep.deep_later}

-- a front stays one where more bytes stand behind, and behind bytes that are there whole
pub front_more : {d : ℕ} {xs es ls : List ℕ} (fs ms : List ℕ) → Front d xs es ls → Front d xs (es ++ fs) (ls ++ ms)
front_more fs ms front_none = front_none
front_more fs ms (front_byte h f) = front_byte h (front_more fs ms f)

pub front_after : {d : ℕ} {xs es ls fs ms : List ℕ} → Covers d es ls → Front d xs fs ms → Front d (es ++ xs) (es ++ fs) (ls ++ ms)
front_after covers_none f = f
front_after (covers_byte h c) f = front_byte h (front_after c f)

-- bytes that are there whole are a front of themselves
pub front_whole : {d : ℕ} {es ls : List ℕ} → Covers d es ls → Front d es es ls
front_whole covers_none = front_none
front_whole (covers_byte h c) = front_byte h (front_whole c)

-- a front's own front
pub front_front : {d : ℕ} {es ls : List ℕ} (xs ys : List ℕ) → Front d (xs ++ ys) es ls → Front d xs es ls
front_front [] ys f = front_none
front_front (x ∷ xs) ys (front_byte h f) = front_byte h (front_front xs ys f)

-- a front goes on to the whole
pub front_rest : {d : ℕ} {xs es ls : List ℕ} → Front d xs es ls → (t : List ℕ) × (xs ++ t ≡ es)
front_rest {es = es} front_none = (es, refl)
front_rest (front_byte h f) = let r = front_rest f in (r.0, rw r.1)

-- what is too deep lies behind every front
pub front_deep : {d j : ℕ} {xs es ls : List ℕ} → Front d xs es ls → Deep d j ls → length xs ≤ j
front_deep front_none p = omega arith
front_deep (front_byte h f) (deep_here l) = absurd (omega arith)
front_deep (front_byte h f) (deep_later p) = omega (arith, front_deep f p)

pub covers_both : {d : ℕ} {es ls fs ms : List ℕ} → Covers d es ls → Covers d fs ms → Covers d (es ++ fs) (ls ++ ms)
covers_both covers_none c = c
covers_both (covers_byte h b) c = covers_byte h (covers_both b c)

pub deep_left : {d j : ℕ} {ls : List ℕ} (ms : List ℕ) → Deep d j ls → Deep d j (ls ++ ms)
deep_left ms (deep_here l) = deep_here l
deep_left ms (deep_later p) = deep_later (deep_left ms p)

pub deep_right : {d j : ℕ} {es ls ms : List ℕ} → Covers d es ls → Deep d j ms → (i : ℕ) × (i ≡ length es + j) × (Deep d i (ls ++ ms))
deep_right {j = j} covers_none p = (j, omega arith, p)
deep_right (covers_byte h c) p = let q = deep_right c p in (suc q.0, omega (arith, q.1), deep_later q.2)

-- bytes at one level
pub at_both : (l : ℕ) (es fs : List ℕ) → all_at l (es ++ fs) ≡ all_at l es ++ all_at l fs
at_both l [] fs = refl
at_both l (e ∷ es) fs = rw (at_both l es fs)

pub at_flat : {A : Type 0} (l : ℕ) (E : A → List ℕ) (xs : List A) → all_at l (flat E xs) ≡ flat (λ a. all_at l (E a)) xs
unfolding flat
at_flat l E [] = refl
at_flat l E (a ∷ xs) = at_both l (E a) (flat E xs) ∙ rw (at_flat l E xs)
