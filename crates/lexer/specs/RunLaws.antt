-- Laws of the loops over bytes, one byte after the other: a run, two lists of bytes, the first close.
use Prim.Native.Nat.{ℕ, zero, suc, ◌+◌, ◌-◌, ◌≤◌, ◌<◌}
use Rattle.std.proofs.Common.{arith, add-one, ◌∙◌, length-drop, get_or-drop, eqb-true}
use Rattle.std.specs.Prelude.{◌≡◌, Bool, ◌&&◌, List, [], ◌∷◌, get_or, drop, cond}
use Rattle.std.specs.List.{prefix_len}
use Rattle.std.proofs.Math.Path.{refl, sym, ap}
use Rattle.std.proofs.Math.Bool.{true, false}
use Rattle.std.proofs.Math.ListN.{length, drop_of_length-le}
use Rattle.std.proofs.Math.Dec.{eqb}
use borrow.Author.Tests.{eq-eqb, ne_eqb}
use lib.Pointwise.{pointwise}
use Rattle.types.proofs.Laws.ListLaws.{drop_next, eqb_sym}
use Rattle.tokens.specs.Lexing.{close}
use Rattle.tokens.specs.Tokens.{same}
use Rattle.tokens.specs.Scanning.{span, begins, one_more, closing}
use Rattle.tokens.specs.Bytes.{star, slash}

-- a byte that is not 0 stands inside
pub inside : (s : List ℕ) (i : ℕ) → 0 < get_or s i 0 → i < length s
inside [] zero h = absurd (omega arith)
inside (x ∷ s) zero h = omega arith
inside [] (suc i) h = absurd (omega arith)
inside (x ∷ s) (suc i) h = let r = inside s i h in omega arith

-- Runs -------------------------------------------------------------------------------------

-- std's count of a run
pub span_prefix : (p : ℕ → Bool) (s : List ℕ) → prefix_len p s ≡ span p s
unfolding span
span_prefix p [] = refl
span_prefix p (b ∷ s) = go (p b) (span_prefix p s)
  where
    go : (t : Bool) → prefix_len p s ≡ span p s → cond t (1 + prefix_len p s) 0 ≡ elim t [ true ↦ suc (span p s) | false ↦ 0 ]
    go true e = omega (arith, e)
    go false e = refl

-- the run of p from at on goes on from i
pub record Runs (p : ℕ → Bool) (s : List ℕ) (at i : ℕ) : Type 0 where
  pub inner : i ≤ length s
  pub same_end : i + span p (drop i s) ≡ at + span p (drop at s)

module _ {p : ℕ → Bool} {s : List ℕ} {at i : ℕ} (r : Runs p s at i) where
  pub runs_on : i < length s → p (get_or s i 0) ≡ true → Runs p s at (i + 1)
  unfolding span
  runs_on l e =
      let f : span p (drop i s) ≡ suc (span p (drop (i + 1) s)) = rw (drop_next s i l, span, e) refl in
      record { inner = omega arith; same_end = omega (arith, f, r.same_end) }

  pub runs_stop : i < length s → p (get_or s i 0) ≡ false → i ≡ at + span p (drop at s)
  unfolding span
  runs_stop l e = let f : span p (drop i s) ≡ 0 = rw (drop_next s i l, span, e) refl in omega (arith, f, r.same_end)

  pub runs_out : length s ≤ i → i ≡ at + span p (drop at s)
  unfolding span
  runs_out l = let f : span p (drop i s) ≡ 0 = rw (drop_of_length-le s {i = i} l) refl in omega (arith, f, r.same_end)

-- Two lists of bytes ---------------------------------------------------------------------------

and_false : (x : Bool) → (x && false) ≡ false
and_false true = refl
and_false false = refl

and_true : (x : Bool) → (x && true) ≡ x
and_true true = refl
and_true false = refl

pub same_lengths : (s t : List ℕ) → (length s ≡ length t → ⊥) → false ≡ same s t
unfolding same
same_lengths [] [] n = absurd (n refl)
same_lengths [] (b ∷ t) n = refl
same_lengths (a ∷ s) [] n = refl
same_lengths (a ∷ s) (b ∷ t) n = rw (← same_lengths s t (λ e. n (ap suc e))) (sym (and_false (eqb a b)))

-- as `==` compares them
pub same_bytes : (s t : List ℕ) → pointwise eqb s t ≡ same s t
unfolding same
same_bytes [] [] = refl
same_bytes [] (b ∷ t) = refl
same_bytes (a ∷ s) [] = refl
same_bytes (a ∷ s) (b ∷ t) = ap (λ x. eqb a b && x) (same_bytes s t)

-- the same up to i
pub record Agree (s t : List ℕ) (i : ℕ) : Type 0 where
  pub inner : i ≤ length s
  pub long : length s ≡ length t
  pub rest : same (drop i s) (drop i t) ≡ same s t

module _ {s t : List ℕ} {i : ℕ} (r : Agree s t i) where
  pub agree_on : i < length s → get_or s i 0 ≡ get_or t i 0 → Agree s t (i + 1)
  unfolding same
  agree_on l e =
      let h : i < length t = omega (arith, r.long) in
      let f : same (drop i s) (drop i t) ≡ same (drop (i + 1) s) (drop (i + 1) t) =
      rw (drop_next s i l, drop_next t i h, same, eq-eqb (get_or s i 0) (get_or t i 0) e) refl in
      record { inner = omega arith; long = r.long; rest = sym f ∙ r.rest }

  pub agree_not : i < length s → (get_or s i 0 ≡ get_or t i 0 → ⊥) → false ≡ same s t
  unfolding same
  agree_not l e =
      let h : i < length t = omega (arith, r.long) in
      let f : same (drop i s) (drop i t) ≡ false = rw (drop_next s i l, drop_next t i h, same, ne_eqb (get_or s i 0) (get_or t i 0) e) refl in
      sym f ∙ r.rest

  pub agree_out : length s ≤ i → true ≡ same s t
  unfolding same
  agree_out l =
      let h : length t ≤ i = omega (arith, r.long) in
      let f : same (drop i s) (drop i t) ≡ true = rw (drop_of_length-le s {i = i} l, drop_of_length-le t {i = i} h) refl in
      sym f ∙ r.rest

-- The first close ------------------------------------------------------------------------------

-- one byte tells whether a list begins with it
begins_one : (d : ℕ) (u : List ℕ) → 0 < d → begins (d ∷ []) u ≡ eqb (get_or u 0 0) d
unfolding begins
begins_one d [] h = sym (ne_eqb 0 d (λ e. omega arith))
begins_one d (c ∷ u) h = and_true (eqb d c) ∙ eqb_sym d c

module _ (s : List ℕ) (i : ℕ) (l : i < length s) where
  second_byte : get_or (drop (i + 1) s) 0 0 ≡ get_or s (i + 1) 0
  second_byte = get_or-drop (i + 1) s 0 0 ∙ ap (λ n. get_or s n 0) (omega arith)

  close_at : begins close (drop i s) ≡ (eqb star (get_or s i 0) && eqb (get_or s (i + 1) 0) slash)
  unfolding begins
  close_at =
      rw (drop_next s i l, begins)
      (ap (λ t. eqb star (get_or s i 0) && t) (begins_one slash (drop (i + 1) s) (omega arith) ∙ ap (λ n. eqb n slash) second_byte))

  pub closes_here : get_or s (i + 1) 0 ≡ slash → eqb (get_or s i 0) star ≡ begins close (drop i s)
  closes_here e =
      let both = ap (λ t. eqb star (get_or s i 0) && t) (eq-eqb (get_or s (i + 1) 0) slash e) in
      sym (close_at ∙ both ∙ and_true (eqb star (get_or s i 0)) ∙ eqb_sym star (get_or s i 0))

  pub closes_not : (get_or s (i + 1) 0 ≡ slash → ⊥) → false ≡ begins close (drop i s)
  closes_not n =
      let not_both = ap (λ t. eqb star (get_or s i 0) && t) (ne_eqb (get_or s (i + 1) 0) slash n) in
      sym (close_at ∙ not_both ∙ and_false (eqb star (get_or s i 0)))

-- a close at a place, by its two bytes
abbrev pub Closes : List ℕ → ℕ → Type 0
Closes s i = (get_or s i 0 ≡ star) × (get_or s (i + 1) 0 ≡ slash)

close_here : (s : List ℕ) (i : ℕ) → i < length s → Closes s i → begins close (drop i s) ≡ true
close_here s i l (a, b) = close_at s i l ∙ rw (a, b) refl

close_not : (s : List ℕ) (i : ℕ) → i < length s → (Closes s i → ⊥) → begins close (drop i s) ≡ false
close_not s i l n = close_at s i l ∙ go (eqb star (get_or s i 0)) refl (eqb (get_or s (i + 1) 0) slash) refl
  where
    go : (a : Bool) → eqb star (get_or s i 0) ≡ a → (b : Bool) → eqb (get_or s (i + 1) 0) slash ≡ b → (a && b) ≡ false
    go false e b f = refl
    go true e false f = refl
    go true e true f = absurd (n (sym (eqb-true star (get_or s i 0) e), eqb-true (get_or s (i + 1) 0) slash f))

-- one byte closes nothing
short_open : (u : List ℕ) → length u ≤ 1 → closing u ≡ 0
unfolding closing begins one_more
short_open [] h = refl
short_open (b ∷ []) h = rw (closing, and_false (eqb star b)) refl
short_open (b ∷ c ∷ u) h = absurd (omega arith)

-- no close from at up to i
pub record Opened (s : List ℕ) (at i : ℕ) : Type 0 where
  pub behind : at ≤ i
  pub inner : i ≤ length s
  pub none : closing (drop i s) ≡ 0 → closing (drop at s) ≡ 0
  pub some : (n : ℕ) → closing (drop i s) ≡ suc n → closing (drop at s) ≡ (i - at) + suc n

pub opened_start : (s : List ℕ) (at : ℕ) → at ≤ length s → Opened s at at
opened_start s at l = record { behind = omega arith; inner = l; none = λ e. e; some = λ n e. e ∙ omega arith }

module _ {s : List ℕ} {at i : ℕ} (r : Opened s at i) where
  pub opened_out : length s ≤ i + 1 → 0 ≡ closing (drop at s)
  opened_out l = sym (r.none (short_open (drop i s) (omega (arith, length-drop i s))))

  module _ (l : i < length s) where
    pub opened_close : begins close (drop i s) ≡ true → (i - at) + 2 ≡ closing (drop at s)
    unfolding closing
    opened_close e = sym (r.some 1 (rw (drop_next s i l, closing) (rw (rw (drop_next s i l) at e) refl)))

    module _ (e : begins close (drop i s) ≡ false) where
      goes_on : closing (drop i s) ≡ one_more (closing (drop (i + 1) s))
      unfolding closing
      goes_on = rw (drop_next s i l, closing) (rw (rw (drop_next s i l) at e) refl)

      pub opened_on : Opened s at (i + 1)
      unfolding one_more
      opened_on =
          record {
            behind = let h = r.behind in omega arith;
            inner = omega arith;
            none = λ f. r.none (goes_on ∙ rw f refl);
            some = λ n f. r.some (suc n) (goes_on ∙ rw f refl) ∙ (let h = r.behind in omega arith);
          }

opened_to : (s : List ℕ) (i : ℕ) → i < length s → ((k : ℕ) → k < i → Closes s k → ⊥) → Opened s 0 i
opened_to s zero l n = opened_start s 0 (omega arith)
opened_to s (suc i) l n =
    rw add-one at (opened_on (opened_to s i (omega arith) (λ k h. n k (omega (arith, h)))) (omega arith) (close_not s i (omega arith) (n i (omega arith))))

pub closing_first : (s : List ℕ) (i : ℕ) → i + 1 < length s → Closes s i → ((k : ℕ) → k < i → Closes s k → ⊥) → i + 2 ≡ closing s
closing_first s i l c n =
    let h : (i - 0) + 2 ≡ closing s = opened_close (opened_to s i (omega arith) n) (omega arith) (close_here s i (omega arith) c) in omega (arith, h)

pub closing_none : (s : List ℕ) → ((k : ℕ) → k + 1 < length s → Closes s k → ⊥) → 0 ≡ closing s
closing_none [] n = sym (short_open [] (omega arith))
closing_none (b ∷ s) n = opened_out (opened_to (b ∷ s) (length s) (omega arith) (λ k h. n k (omega (arith, h)))) (omega arith)

pub closing_within : (s : List ℕ) → closing s ≤ length s
unfolding closing one_more begins
closing_within [] = omega arith
closing_within (b ∷ s) = go (begins close (b ∷ s)) refl (closing s) refl (closing_within s)
  where
    two : (s : List ℕ) → begins close (b ∷ s) ≡ true → 2 ≤ suc (length s)
    two [] e = absurd (let z : ◌≡◌ {A = Bool} false true = sym (and_false (eqb star b)) ∙ e in let y : ◌≡◌ {A = ℕ} 0 1 = cc in omega arith)
    two (c ∷ s) e = omega arith

    go : (t : Bool) → begins close (b ∷ s) ≡ t → (n : ℕ) → closing s ≡ n → n ≤ length s → closing (b ∷ s) ≤ suc (length s)
    go true e n f h = rw (e, closing) (two s e)
    go false e zero f h = rw (e, closing, f, one_more) (omega arith)
    go false e (suc n) f h = rw (e, closing, f, one_more) (omega arith)
