-- Names are compared letter by letter and looked up one after the other; a name is found where it is sought.
use Prim.Native.Nat.{ℕ, zero, suc, ◌+◌, ◌≤◌, ◌<◌}
use Rattle.std.proofs.Common.{arith, ◌∙◌, drop_of_length-le}
use Rattle.std.proofs.Math.Path.{◌≡◌, refl, sym, ap}
use Rattle.std.specs.Prelude.{Bool, eqb, Option, Some, None, MatchOption, is_some, not, cond}
use Rattle.std.proofs.Math.Bool.{true, false}
use mathlib.Core.List.{List, [], ◌∷◌, map}
use Rattle.std.proofs.Math.Option.{Option as Meaning, none, some}
use Rattle.std.specs.Option.{unwrap_or}
use Rattle.std.specs.List.{position_or_len}
use Rattle.std.proofs.lemmas.List.{length-map}
use Rattle.std.proofs.lemmas.List.Recursion.{is_position_or_len}
use Rattle.std.proofs.Math.ListN.{length, get_or, drop}
use Rattle.std.proofs.Math.Dec.{ltb}
use borrow.Author.Tests.{eq-eqb, ne_eqb, ltb-true, ltb-false, lt-ltb, le-ltb}
use Rattle.types.proofs.Laws.ListLaws.{drop_next}
use Rattle.tokens.specs.Tokens.{name_byte, letter, digit, between, same}
use Rattle.tokens.specs.Scanning.{span}
use Rattle.lexer.specs.RunLaws.{inside}
use Rattle.syntax.specs.Syntax.{Id}
use Rattle.meaning.specs.Finding.{Place, find, one_later}
use Rattle.resolve.specs.Named.{name_of, name_at, names_at, name_letter, sought, found}

-- One letter ---------------------------------------------------------------------------------

module _ {b d : ℕ} (e : b ≡ d) where
  pub letter_kept : name_byte b ≡ true → b ≡ name_letter d
  unfolding name_letter
  letter_kept f = sym (rw (name_letter, f) refl) ∙ ap name_letter e

  pub letter_none : name_byte b ≡ false → 0 ≡ name_letter d
  unfolding name_letter
  letter_none f = sym (rw (name_letter, f) refl) ∙ ap name_letter e

letter_of : (b c : ℕ) → c ≡ name_letter b → (c ≡ 0 → ⊥) → (name_byte b ≡ true) × (c ≡ b)
unfolding name_letter
letter_of b c e n = go (name_byte b) refl
  where
    go : (t : Bool) → name_byte b ≡ t → (name_byte b ≡ true) × (c ≡ b)
    go true f = (f, e ∙ rw (name_letter, f) refl)
    go false f = absurd (n (e ∙ rw (name_letter, f) refl))

no_letter : (b : ℕ) → name_letter b ≡ 0 → name_byte b ≡ false
unfolding name_letter name_byte letter digit between
no_letter zero e = refl
no_letter (suc b) e = go (name_byte (suc b)) refl
  where
    go : (t : Bool) → name_byte (suc b) ≡ t → name_byte (suc b) ≡ false
    go true f = absurd (let g : suc b ≡ 0 = sym (rw (f, name_letter) refl) ∙ e in omega arith)
    go false f = f

module _ (s : List ℕ) (i : ℕ) where
  name_goes_on : {c : ℕ} → c ≡ name_letter (get_or s i 0) → (c ≡ 0 → ⊥) → name_at s i ≡ c ∷ name_at s (i + 1)
  unfolding name_of span
  name_goes_on {c} e n =
      let f = letter_of (get_or s i 0) c e n in
      let l : i < length s = inside s i (let g = f.1 in omega (arith, n)) in
      let g : drop i s ≡ get_or s i 0 ∷ drop (i + 1) s = drop_next s i l in
      rw (g, name_of, span, f.0, f.1) refl

  name_ends : name_letter (get_or s i 0) ≡ 0 → name_at s i ≡ []
  unfolding name_of span
  name_ends e = go (ltb i (length s)) refl
    where
      go : (t : Bool) → ltb i (length s) ≡ t → name_at s i ≡ []
      go true f =
          let g : drop i s ≡ get_or s i 0 ∷ drop (i + 1) s = drop_next s i (ltb-true i (length s) f) in
          rw (g, name_of, span, no_letter (get_or s i 0) e) refl
      go false f = rw (drop_of_length-le s {i = i} (ltb-false i (length s) f)) refl

-- Two names ----------------------------------------------------------------------------------

-- the names at a and b are the same if those from p and q on are; c is the letter at p
pub record Alike (s : List ℕ) (a b p q c : ℕ) : Type 0 where
  pub at_hand : c ≡ name_letter (get_or s p 0)
  pub rest : same (name_at s p) (name_at s q) ≡ same (name_at s a) (name_at s b)

module _ {s : List ℕ} {a b p q c : ℕ} (r : Alike s a b p q c) where
  pub alike_inside : (c ≡ 0 → ⊥) → p < length s
  alike_inside n = inside s p (let g = letter_of (get_or s p 0) c r.at_hand n in omega (arith, g.1, n))

  module _ {d : ℕ} (e : d ≡ name_letter (get_or s q 0)) where
    alike_on : (c ≡ 0 → ⊥) → d ≡ c → same (name_at s (p + 1)) (name_at s (q + 1)) ≡ same (name_at s a) (name_at s b)
    unfolding same
    alike_on n f =
        let g : same (name_at s p) (name_at s q) ≡ same (name_at s (p + 1)) (name_at s (q + 1)) =
        rw (name_goes_on s p r.at_hand n, name_goes_on s q {c = c} (sym f ∙ e) n, same, eq-eqb c c refl) refl in
        sym g ∙ r.rest

    alike_other_inside : (c ≡ 0 → ⊥) → d ≡ c → q < length s
    alike_other_inside n f = inside s q (let g = letter_of (get_or s q 0) c (sym f ∙ e) n in omega (arith, g.1, n))

    alike_not : (c ≡ 0 → ⊥) → (d ≡ c → ⊥) → false ≡ same (name_at s a) (name_at s b)
    unfolding same
    alike_not n m = sym (go d refl) ∙ r.rest
      where
        go : (k : ℕ) → d ≡ k → same (name_at s p) (name_at s q) ≡ false
        go zero f = rw (name_goes_on s p r.at_hand n, name_ends s q (sym e ∙ f)) refl
        go (suc k) f =
            rw (name_goes_on s p r.at_hand n, name_goes_on s q e (λ h. omega (arith, f, h)), same, ne_eqb c d (λ h. m (sym h))) refl

    pub alike_end : c ≡ 0 → eqb d 0 ≡ same (name_at s a) (name_at s b)
    unfolding same
    alike_end n = go d refl ∙ r.rest
      where
        none_left : name_at s p ≡ []
        none_left = name_ends s p (sym r.at_hand ∙ n)

        go : (k : ℕ) → d ≡ k → eqb d 0 ≡ same (name_at s p) (name_at s q)
        go zero f = rw (none_left, name_ends s q (sym e ∙ f), eq-eqb d 0 f) refl
        go (suc k) f =
            let h : d ≡ 0 → ⊥ = λ g. omega (arith, f, g) in
            rw (none_left, name_goes_on s q e h, ne_eqb d 0 h) refl

  -- a byte at q that is the letter at p is a letter
  module _ {d : ℕ} (e : d ≡ get_or s q 0) (n : c ≡ 0 → ⊥) where
    byte_letter : d ≡ c → c ≡ name_letter (get_or s q 0)
    byte_letter f = let g = letter_of (get_or s p 0) c r.at_hand n in letter_kept (sym f ∙ e) (ap name_byte g.1 ∙ g.0)

    pub byte_on : d ≡ c → same (name_at s (p + 1)) (name_at s (q + 1)) ≡ same (name_at s a) (name_at s b)
    byte_on f = alike_on {d = c} (byte_letter f) n refl

    pub byte_inside : d ≡ c → q < length s
    byte_inside f = alike_other_inside {d = c} (byte_letter f) n refl

    pub byte_not : (d ≡ c → ⊥) → false ≡ same (name_at s a) (name_at s b)
    byte_not m = alike_not {d = name_letter (get_or s q 0)} refl n (λ h. m (e ∙ sym (letter_of (get_or s q 0) c (sym h) n).1))

-- Lookups ------------------------------------------------------------------------------------

-- the search for x goes on from i
pub record Seeks (s table : List ℕ) (x : Id) (i : ℕ) : Type 0 where
  pub inner : i ≤ length table
  pub same_place : i + sought x (names_at s (drop i table)) ≡ sought x (names_at s table)

module _ {s table : List ℕ} {x : Id} {i : ℕ} (r : Seeks s table x i) where
  module _ (l : i < length table) where
    pub seeks_here : same (name_at s (get_or table i 0)) x ≡ true → i ≡ sought x (names_at s table)
    unfolding sought
    seeks_here e =
        let f : sought x (names_at s (drop i table)) ≡ 0 = rw (drop_next table i l, sought, e) refl in
        omega (arith, f, r.same_place)

    pub seeks_on : same (name_at s (get_or table i 0)) x ≡ false → Seeks s table x (i + 1)
    unfolding sought
    seeks_on e =
        let f : sought x (names_at s (drop i table)) ≡ suc (sought x (names_at s (drop (i + 1) table))) = rw (drop_next table i l, sought, e) refl in
        record { inner = omega arith; same_place = omega (arith, f, r.same_place) }

  pub seeks_out : length table ≤ i → i ≡ sought x (names_at s table)
  unfolding sought
  seeks_out l =
      let f : sought x (names_at s (drop i table)) ≡ 0 = rw (drop_of_length-le table {i = i} l) refl in
      omega (arith, f, r.same_place)

module _ (s : List ℕ) (x : Id) where
  sought_first : (l : List ℕ) → sought x (names_at s l) ≡ position_or_len (λ p. same (name_at s p) x) l
  unfolding sought
  sought_first = is_position_or_len (λ l. sought x (names_at s l)) (λ p. same (name_at s p) x) refl (λ p l. go p (same (name_at s p) x) refl l)
    where
      go : (p : ℕ) (t : Bool) → same (name_at s p) x ≡ t → (l : List ℕ) → sought x (names_at s (p ∷ l)) ≡ cond (same (name_at s p) x) 0 (1 + sought x (names_at s l))
      go p true e l = rw (sought, e) refl
      go p false e l = rw (sought, e) (omega arith)

  -- what is sought stands among the places, or after them
  sought_inside : (l : List ℕ) → sought x (names_at s l) ≤ length l
  unfolding sought
  sought_inside [] = omega arith
  sought_inside (p ∷ l) = go (same (name_at s p) x) refl (sought_inside l)
    where
      go : (t : Bool) → same (name_at s p) x ≡ t → sought x (names_at s l) ≤ length l → sought x (name_at s p ∷ names_at s l) ≤ suc (length l)
      go true e h = rw (sought, e) (omega arith)
      go false e h = rw (sought, e) (omega arith)

  -- the first of some places at which the name is that one
  pub found_sought : (l : List ℕ) (o : Option ℕ) → o ≡ found s l x
      → MatchOption o (sought x (names_at s l) ≡ length l) (λ n. (n ≡ sought x (names_at s l)) × (n < length l))
  found_sought l o e = rw e (go (position_or_len (λ p. same (name_at s p) x) l) (sought_first l) (sought_inside l) (ltb (position_or_len (λ p. same (name_at s p) x) l) (length l)) refl)
    where
      go : (k : ℕ) → sought x (names_at s l) ≡ k → sought x (names_at s l) ≤ length l → (t : Bool) → ltb k (length l) ≡ t
          → MatchOption (cond t (Some k) None) (sought x (names_at s l) ≡ length l) (λ n. (n ≡ sought x (names_at s l)) × (n < length l))
      go k f h true g = (sym f, ltb-true k (length l) g)
      go k f h false g = let i = ltb-false k (length l) g in omega (arith, f, h, i)

  pub found_none : (l : List ℕ) → None ≡ found s l x → length (names_at s l) ≤ sought x (names_at s l)
  found_none l e = omega (arith, found_sought l None e, length-map l (name_at s))

  pub found_some : (l : List ℕ) {n : ℕ} → Some n ≡ found s l x → (n ≡ sought x (names_at s l)) × (n < length (names_at s l))
  found_some l {n} e = let h = found_sought l (Some n) e in (h.0, omega (arith, h.1, length-map l (name_at s)))

-- whether one was found
module _ (m k : ℕ) where
  pub some_found : (o : Option ℕ) → MatchOption o (m ≡ k) (λ n. (n ≡ m) × (n < k)) → is_some o ≡ true → m < k
  some_found (Some n) h e = omega (arith, h)
  some_found None h e = absurd (let z : ◌≡◌ {A = ℕ} 0 1 = cc in omega arith)

  pub none_found : (o : Option ℕ) → MatchOption o (m ≡ k) (λ n. (n ≡ m) × (n < k)) → is_some o ≡ false → m ≡ k
  none_found None h e = h
  none_found (Some n) h e = absurd (let z : ◌≡◌ {A = ℕ} 0 1 = cc in omega arith)

  pub found_or_length : (o : Option ℕ) → MatchOption o (m ≡ k) (λ n. (n ≡ m) × (n < k)) → unwrap_or o k ≡ m
  found_or_length (Some n) h = h.0
  found_or_length None h = sym h

  pub new_found : (o : Option ℕ) (t : Bool) → MatchOption o (m ≡ k) (λ n. (n ≡ m) × (n < k)) → is_some o ≡ not t → t ≡ not (ltb m k)
  new_found (Some n) true h e = absurd (let z : ◌≡◌ {A = ℕ} 0 1 = cc in omega arith)
  new_found (Some n) false h e = rw (lt-ltb m k (omega (arith, h))) refl
  new_found None true h e = rw (le-ltb m k (omega (arith, h))) refl
  new_found None false h e = absurd (let z : ◌≡◌ {A = ℕ} 0 1 = cc in omega arith)

-- a name is found where it is sought, and not found where it is sought in vain
module _ {A : Type 0} (key : A → Id) (x : Id) where
  pub found_where_sought : (l : List A) (p : Place A) → find key x l ≡ some p → (sought x (map key l) ≡ p.at) × (p.at < length l)
  unfolding find one_later sought
  found_where_sought [] p e = absurd (let z : ◌≡◌ {A = ℕ} 0 1 = cc in omega arith)
  found_where_sought (a ∷ l) p e = go (same (key a) x) refl (find key x l) refl (λ q. found_where_sought l q)
    where
      go : (t : Bool) → same (key a) x ≡ t → (o : Meaning (Place A)) → find key x l ≡ o
          → ((q : Place A) → find key x l ≡ some q → (sought x (map key l) ≡ q.at) × (q.at < length l))
          → (sought x (map key (a ∷ l)) ≡ p.at) × (p.at < length (a ∷ l))
      go true t o f rec =
          let g : some (record { at = 0; element = a }) ≡ some p = rw (t, find) at e in
          let h : record { at = 0; element = a } ≡ p = cc in
          rw (← h, sought, t) (refl, omega arith)
      go false t none f rec = absurd (let g : ◌≡◌ {A = Meaning (Place A)} none (some p) = rw (t, find, f) at e in let z : ◌≡◌ {A = ℕ} 0 1 = cc in omega arith)
      go false t (some q) f rec =
          let g : some (record { at = suc q.at; element = q.element }) ≡ some p = rw (t, find, f) at e in
          let h : record { at = suc q.at; element = q.element } ≡ p = cc in
          let k = rec q f in
          rw (← h, sought, t) (ap suc k.0, omega (arith, k.1))

  pub none_where_sought : (l : List A) → find key x l ≡ none → sought x (map key l) ≡ length l
  unfolding find one_later sought
  none_where_sought [] e = refl
  none_where_sought (a ∷ l) e = go (same (key a) x) refl (find key x l) refl (λ q. none_where_sought l q)
    where
      go : (t : Bool) → same (key a) x ≡ t → (o : Meaning (Place A)) → find key x l ≡ o → (find key x l ≡ none → sought x (map key l) ≡ length l)
          → sought x (map key (a ∷ l)) ≡ length (a ∷ l)
      go true t o f rec = absurd (let g : some (record { at = 0; element = a }) ≡ none = rw (t, find) at e in let z : ◌≡◌ {A = ℕ} 0 1 = cc in omega arith)
      go false t none f rec = rw (sought, t) (ap suc (rec f))
      go false t (some q) f rec =
          absurd (let g : some (record { at = suc q.at; element = q.element }) ≡ none = rw (t, find, f) at e in let z : ◌≡◌ {A = ℕ} 0 1 = cc in omega arith)

-- names by themselves
pub same_names : (l : List Id) → map (λ z. z) l ≡ l
same_names [] = refl
same_names (x ∷ l) = ap (λ m. x ∷ m) (same_names l)
