-- Marking is scanning: the kinds among the marks are those of the tokens that scanning finds. And the loop that marks, from token to token.
use Rattle.std.specs.Prelude.{ℕ, zero, suc, ◌+◌, ◌≤◌, ◌<◌, ◌≡◌, refl, Bool, true, false, List, [], ◌∷◌, ◌++◌, map, length, get_or, set, drop, replicate, eqb, Some, None}
use Rattle.std.proofs.Common.{arith, add-one, sym, ap, ◌∙◌, length-set, length-drop, length-append, get_or-set_other, drop-drop, ne_eqb, eqb-true}
use Rattle.std.proofs.lemmas.Bool.{eqb-false}
use Rattle.std.proofs.Math.Option.{Option, none, some}
use Rattle.std.proofs.Math.ListN.{drop_of_length-le}
use Rattle.std.proofs.lemmas.List.Edits.{sets}
use Rattle.std.proofs.lemmas.List.{set-get_or}
use Rattle.tokens.specs.Tokens.{Token, spelling}
use Rattle.tokens.specs.Scanning.{Front, Front.token, Front.gap, Front.nothing, front, added, taken, lex}
use Rattle.tokens.proofs.Laws.FrontLaws.{Sound, Sound.token_sound, Sound.gap_sound, front_sound}
use Rattle.tokens.specs.Kinds.{kind}
use Rattle.tokens.proofs.Laws.KindLaws.{kind_within}
use Rattle.tokens.specs.Marking.{spot_of, at_spot, marks_of, marks_from, marks, found, parts, kinds_in}
use Rattle.tokens.specs.Spot.{Spot}

-- The kinds are those of the tokens ----------------------------------------------------------

-- what marks say of the tokens that were found: one for each byte, and the kinds among them are theirs
unfoldable pub Tells : List ℕ → ℕ → Option (List Token) → Type 0
Tells ms n none = Unit {0}
Tells ms n (some ts) = (kinds_in ms ≡ map kind ts) × (length ms ≡ n)

kinds_token : (t : Token) (ks : List ℕ) → kinds_in (kind t ∷ ks) ≡ kind t ∷ kinds_in ks
unfolding kinds_in
kinds_token t ks = rw (ne_eqb (kind t) 0 (λ e. omega (arith, (kind_within t).0)), kinds_in) refl

tells_token : (t : Token) (ms : List ℕ) (n : ℕ) (o : Option (List Token)) → Tells ms n o → Tells (kind t ∷ ms) (suc n) (added t o)
unfolding Tells added
tells_token t ms n none h = tt
tells_token t ms n (some ts) h = (kinds_token t ms ∙ ap (λ l. kind t ∷ l) h.0, ap suc h.1)

tells_gap : (ms : List ℕ) (n : ℕ) (o : Option (List Token)) → Tells ms n o → Tells (0 ∷ ms) (suc n) o
unfolding Tells kinds_in
tells_gap ms n none h = tt
tells_gap ms n (some ts) h = (h.0, ap suc h.1)

tells : (k : ℕ) (s : List ℕ) → Tells (marks_from k s) (length s) (lex k s)
unfolding lex marks_from at_spot marks_of Tells kinds_in spot_of taken
tells k [] = base k
  where
    base : (k : ℕ) → Tells (marks_from k []) 0 (lex k [])
    base zero = (refl, refl)
    base (suc k) = (refl, refl)
tells (suc k) (b ∷ s) = tells_gap (marks_from k s) (length s) (lex k s) (tells k s)
tells zero (b ∷ s) = go (front (b ∷ s)) (λ n. tells n s)
  where
    go : (f : Front) → ((n : ℕ) → Tells (marks_from n s) (length s) (lex n s))
        → Tells (marks_of (spot_of f) (λ n. marks_from n s)) (suc (length s)) (taken f (λ n. lex n s))
    go (token t n) rec = tells_token t (marks_from n s) (length s) (lex n s) (rec n)
    go (gap n) rec = tells_gap (marks_from n s) (length s) (lex n s) (rec n)
    go nothing rec = tt

pub marks_tell : (x : List ℕ) (ts : List Token) → lex 0 x ≡ some ts → (kinds_in (marks x) ≡ map kind ts) × (length (marks x) ≡ length x)
unfolding Tells
marks_tell x ts e = let h : Tells (marks x) (length x) (some ts) = rw e at (tells 0 x) in h

-- From token to token ----------------------------------------------------------------------------

-- the count of a place's bytes
count_of : {k n l m : ℕ} → ◌≡◌ {A = Spot} (Some (k, n)) (Some (l, m)) → n ≡ m
count_of {k} {n} {l} {m} e = let both : ◌≡◌ {A = ℕ × ℕ} (k, n) (l, m) = cc e in ap (λ p. p.1) both

-- what stands at the front ends inside
pub spot_inside : (x : List ℕ) {k n : ℕ} → Some (k, n) ≡ spot_of (front x) → n < length x
unfolding spot_of
spot_inside x {k} {n} e = go (front x) (front_sound x) e
  where
    go : (f : Front) → Sound x f → Some (k, n) ≡ spot_of f → n < length x
    go (token t m) (token_sound a c) e =
        let same : n ≡ m = count_of e in let size = a.sized in let w = ap length a.whole in
        omega (arith, length-append (spelling t) (drop (suc m) x))
    go (gap m) (gap_sound g h) e = let same : n ≡ m = count_of e in omega arith
    go nothing s e = absurd (let z : ◌≡◌ {A = ℕ} 0 1 = cc in omega arith)

-- over what was taken before
lex_over : (n : ℕ) (s : List ℕ) → lex n s ≡ lex 0 (drop n s)
unfolding lex
lex_over zero s = refl
lex_over (suc n) [] = refl
lex_over (suc n) (b ∷ s) = lex_over n s

marks_over : (n : ℕ) (s : List ℕ) → n ≤ length s → marks_from n s ≡ replicate n 0 ++ marks (drop n s)
unfolding marks_from at_spot marks_of
marks_over zero s h = refl
marks_over (suc n) [] h = absurd (omega arith)
marks_over (suc n) (b ∷ s) h = ap (λ l. 0 ∷ l) (marks_over n s (omega arith))

-- what the spot at the front says of scanning from there
goes : Spot → (ℕ → Bool) → Bool
goes (Some (q, n)) rest = rest n
goes None rest = false

found_spot : (b : ℕ) (s : List ℕ) → parts (b ∷ s) ≡ goes (spot_of (front (b ∷ s))) (λ n. found (lex n s))
unfolding lex goes added found spot_of taken
found_spot b s = go (front (b ∷ s))
  where
    found_added : (t : Token) (o : Option (List Token)) → found (added t o) ≡ found o
    found_added t none = refl
    found_added t (some ts) = refl

    go : (f : Front) → found (taken f (λ n. lex n s)) ≡ goes (spot_of f) (λ n. found (lex n s))
    go (token t n) = found_added t (lex n s)
    go (gap n) = refl
    go nothing = refl

pub marks_taken : (x : List ℕ) {k n : ℕ} → Some (k, n) ≡ spot_of (front x) → marks x ≡ k ∷ (replicate n 0 ++ marks (drop (n + 1) x))
unfolding marks_from at_spot marks_of
marks_taken [] e = absurd (let h = spot_inside [] e in omega arith)
marks_taken (b ∷ s) {k} {n} e =
    let size : n ≤ length s = (let h = spot_inside (b ∷ s) e in omega arith) in
    rw (← e, add-one) (ap (λ l. k ∷ l) (marks_over n s size))

pub marks_stray : (x : List ℕ) → None ≡ spot_of (front x) → marks x ≡ []
unfolding marks_from at_spot marks_of
marks_stray [] e = refl
marks_stray (b ∷ s) e = rw (← e) refl

parts_taken : (x : List ℕ) {k n : ℕ} → Some (k, n) ≡ spot_of (front x) → parts x ≡ parts (drop (n + 1) x)
unfolding goes
parts_taken [] e = absurd (let h = spot_inside [] e in omega arith)
parts_taken (b ∷ s) {k} {n} e = found_spot b s ∙ rw (← e, add-one) (ap found (lex_over n s))

parts_stray : (x : List ℕ) → 0 < length x → None ≡ spot_of (front x) → parts x ≡ false
unfolding goes
parts_stray [] l e = absurd (omega arith)
parts_stray (b ∷ s) l e = found_spot b s ∙ rw (← e) refl

-- The loop ---------------------------------------------------------------------------------------

-- 0 where it stands already
zeros_over : (n : ℕ) (ks ms : List ℕ) (i : ℕ) → ((p : ℕ) → i ≤ p → p < i + n → get_or ks p 0 ≡ 0) → sets ks i (replicate n 0 ++ ms) ≡ sets ks (i + n) ms
zeros_over zero ks ms i z = ap (λ j. sets ks j ms) (omega arith)
zeros_over (suc n) ks ms i z =
    let same : set ks i 0 ≡ ks = ap (set ks i) (sym (z i (omega arith) (omega arith))) ∙ set-get_or ks i 0 in
    ap (λ l. sets l (suc i) (replicate n 0 ++ ms)) same ∙ zeros_over n ks ms (suc i) (λ p a b. z p (omega (arith, a)) (omega (arith, b)))
    ∙ ap (λ j. sets ks j ms) (omega arith)

-- marked up to i: what is behind leads to the answer and to the marks of the whole, and no kind stands there
pub record Reached (text kinds₀ kinds : List ℕ) (i : ℕ) : Type 0 where
  pub inner : i ≤ length text
  pub kept : length kinds ≡ length kinds₀
  pub answer : parts (drop i text) ≡ parts text
  pub written : sets kinds i (marks (drop i text)) ≡ sets kinds₀ 0 (marks text)
  pub clear : (p : ℕ) → i ≤ p → p < length kinds → get_or kinds p 0 ≡ 0

module _ {text kinds₀ kinds : List ℕ} {i : ℕ} (r : Reached text kinds₀ kinds i) where
  pub reached_end : length text ≤ i → (true ≡ parts text) × (kinds ≡ sets kinds₀ 0 (marks text))
  unfolding lex found marks_from
  reached_end h = let e = drop_of_length-le text {i = i} h in (rw e at r.answer, rw e at r.written)

  pub reached_stray : i < length text → None ≡ spot_of (front (drop i text)) → (false ≡ parts text) × (kinds ≡ sets kinds₀ 0 (marks text))
  reached_stray l e =
      let there : 0 < length (drop i text) = omega (arith, length-drop i text) in
      (rw (parts_stray (drop i text) there e) at r.answer, rw (marks_stray (drop i text) e) at r.written)

  -- no token begins there: at the text's end, or before it
  pub reached_out : None ≡ spot_of (front (drop i text)) → (eqb i (length text) ≡ parts text) × (kinds ≡ sets kinds₀ 0 (marks text))
  reached_out e = go (eqb i (length text)) refl
    where
      go : (b : Bool) → eqb i (length text) ≡ b → (b ≡ parts text) × (kinds ≡ sets kinds₀ 0 (marks text))
      go true f = let h = eqb-true i (length text) f in reached_end (omega (arith, h))
      go false f = let h = eqb-false i (length text) f in reached_stray (omega (arith, h, r.inner)) e

  module _ {k n : ℕ} (e : Some (k, n) ≡ spot_of (front (drop i text))) where
    pub ends_inside : i + (n + 1) ≤ length text
    ends_inside = let h = spot_inside (drop i text) e in omega (arith, length-drop i text)

    others : (p : ℕ) → i < p → p < length kinds → get_or (set kinds i k) p 0 ≡ 0
    others p a b = get_or-set_other kinds i p k 0 (λ f. omega arith) ∙ r.clear p (omega arith) b

    behind : drop (n + 1) (drop i text) ≡ drop (i + (n + 1)) text
    behind = drop-drop (n + 1) i text

    written_behind : length text ≤ length kinds₀ → sets (set kinds i k) (i + (n + 1)) (marks (drop (i + (n + 1)) text)) ≡ sets kinds₀ 0 (marks text)
    written_behind fits =
        let ms = marks (drop (i + (n + 1)) text) in
        let over = zeros_over n (set kinds i k) ms (suc i) (λ p a b. others p (omega (arith, a)) (omega (arith, b, ends_inside, r.kept, fits))) in
        let same : i + (n + 1) ≡ suc i + n = omega arith in
        ap (λ j. sets (set kinds i k) j ms) same ∙ sym over ∙ (rw (marks_taken (drop i text) e, behind) at r.written)

    pub reached_next : length text ≤ length kinds₀ → Reached text kinds₀ (set kinds i k) (i + (n + 1))
    reached_next fits =
        record {
          inner = ends_inside;
          kept = length-set kinds i k ∙ r.kept;
          answer = ap parts (sym behind) ∙ sym (parts_taken (drop i text) e) ∙ r.answer;
          written = written_behind fits;
          clear = λ p a b. others p (omega (arith, a)) (rw length-set at b);
        }
