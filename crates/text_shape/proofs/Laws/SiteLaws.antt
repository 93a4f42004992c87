-- Laws of the places of an expression by their codes (02 §2): what a token does behind an expression there, with a comparison in the conjunct and without.
use Rattle.std.specs.Prelude.{ℕ, suc, ◌<◌, ◌≤◌, ◌≡◌, Bool, true, false, List, [], ◌∷◌, leb, eqb}
use Rattle.std.proofs.Common.{arith, ◌∙◌, leb-true, leb-false, eqb-true, eq-eqb, ne_eqb}
use Rattle.std.proofs.Math.Path.{refl, sym, ap}
use Rattle.std.proofs.lemmas.Bool.{false≢true, lt-leb, eqb-false}
use Rattle.program.specs.Tree.{Op}
use Rattle.tokens.specs.Tokens.{Token, Token.word, Token.sign, Token.op, Token.name, Token.int, Token.nat}
use Rattle.syntax.specs.Bracketing.{level, comparisons, left}
use Rattle.syntax.specs.Expecting.{on_op}
use Rattle.syntax.specs.Reading.{least}
use Rattle.syntax.specs.Places.{Place, Place.in_brackets, Place.in_negation, Place.in_right, Place.in_constructor}
use Rattle.syntax.specs.Places.{Place.in_construct, Place.in_if, Place.in_assignment, Place.in_update}
use Rattle.text_shape.specs.Shape.{open_body, turn, compared, spot, open_at, Shape.shape, clash, right_of, acts, act}
use Rattle.text_shape.specs.Shape.{acted, acted_below}
use Rattle.text_shape.specs.CodeNames.{dead_code, want_code, in_brackets_code, in_constructor_code, in_construct_code, in_if_code}
use Rattle.text_shape.specs.CodeNames.{in_value_code}

-- brackets, an expression's arguments, a statement's, an if, a value
pub data Site : ℕ → Type 0 where
  brackets_site : Site in_brackets_code
  args_site : Site in_constructor_code
  statement_site : Site in_construct_code
  if_site : Site in_if_code
  value_site : Site in_value_code

-- Operators ------------------------------------------------------------------------------------

-- left of an operator stands none that is looser; two comparisons do not stand there
left_level : (o : Op) → left o ≤ comparisons → level o < comparisons
unfolding left
left_level o h = go (eqb (level o) comparisons) refl
  where
    go : (x : Bool) → eqb (level o) comparisons ≡ x → level o < comparisons
    go true e = let q = eqb-true (level o) comparisons e in let u : left o ≡ suc (level o) = rw (e, left) refl in absurd (omega arith)
    go false e = let u : left o ≡ level o = rw (e, left) refl in omega (arith, eqb-false (level o) comparisons e)

-- a comparison before an operator of and, or, or looser than it, is of another conjunct
turn_out : (b : Bool) (o : Op) → level o < comparisons → turn b o ≡ false
unfolding turn
turn_out b o h = rw (ne_eqb (level o) comparisons (omega arith), lt-leb comparisons (level o) h, turn) refl

clash_out : (b : Bool) (o : Op) → (level o ≡ comparisons → ⊥) → clash b o ≡ false
unfolding clash
clash_out false o h = refl
clash_out true o h = ne_eqb (level o) comparisons h

-- an operator that waited leaves a looser one what it met
pub turn_same : (b : Bool) (o r : Op) → left r ≤ level o → (clash (turn b o) r ≡ clash b r) × (turn (turn b o) r ≡ turn b r)
unfolding turn
turn_same b o r h = go (eqb (level o) comparisons) refl (leb comparisons (level o)) refl
  where
    out : level r < comparisons → (clash (turn b o) r ≡ clash b r) × (turn (turn b o) r ≡ turn b r)
    out l = (
      clash_out (turn b o) r (λ e. absurd (omega arith)) ∙ sym (clash_out b r (λ e. absurd (omega arith))),
      turn_out (turn b o) r l ∙ sym (turn_out b r l),
    )

    go : (x : Bool) → eqb (level o) comparisons ≡ x → (y : Bool) → leb comparisons (level o) ≡ y
        → (clash (turn b o) r ≡ clash b r) × (turn (turn b o) r ≡ turn b r)
    go true e y f = out (left_level r (omega (arith, eqb-true (level o) comparisons e)))
    go false e true f = let u : turn b o ≡ b = rw (e, f, turn) refl in (ap (λ x. clash x r) u, ap (λ x. turn x r) u)
    go false e false f = out (left_level r (omega (arith, leb-false comparisons (level o) f)))

pub turn_tight : (b : Bool) (o : Op) → turn b o ≡ true → comparisons ≤ level o
unfolding turn
turn_tight b o h = go (eqb (level o) comparisons) refl (leb comparisons (level o)) refl
  where
    go : (x : Bool) → eqb (level o) comparisons ≡ x → (y : Bool) → leb comparisons (level o) ≡ y → comparisons ≤ level o
    go true e y f = omega (arith, eqb-true (level o) comparisons e)
    go false e true f = leb-true comparisons (level o) f
    go false e false f = let u : turn b o ≡ false = rw (e, f, turn) refl in absurd (false≢true (sym u ∙ h))

-- what is tighter than an operator that waits meets no comparison in its way; at the same level there are two
pub clash_none : (b : Bool) (o r : Op) → level o < level r → clash (turn b o) r ≡ false
unfolding clash
clash_none b o r h = go (turn b o) refl
  where
    go : (x : Bool) → turn b o ≡ x → clash x r ≡ false
    go false e = refl
    go true e = clash_out true r (λ q. absurd (omega (arith, turn_tight b o e)))

pub clash_two : (b : Bool) (o r : Op) → level o ≡ level r → level o < left r → clash (turn b o) r ≡ true
unfolding left turn clash
clash_two b o r q h = go (eqb (level r) comparisons) refl
  where
    go : (x : Bool) → eqb (level r) comparisons ≡ x → clash (turn b o) r ≡ true
    go true e =
        let u : turn b o ≡ true = rw (eq-eqb (level o) comparisons (q ∙ eqb-true (level r) comparisons e), turn) refl in
        rw (u, clash) e
    go false e = let u : left r ≡ level r = rw (e, left) refl in absurd (omega arith)

pub clash_tight : (b : Bool) (o : Op) → (b ≡ true → comparisons < level o) → clash b o ≡ false
unfolding clash
clash_tight false o h = refl
clash_tight true o h = clash_out true o (λ q. absurd (omega (arith, h refl)))

-- Codes ------------------------------------------------------------------------------------------

site_op : {c : ℕ} → Site c → (b : Bool) (o : Op) → act (spot b c) (op o) ≡ right_of b c o
unfolding act acts spot on_op
site_op brackets_site false o = refl
site_op brackets_site true o = refl
site_op args_site false o = refl
site_op args_site true o = refl
site_op statement_site false o = refl
site_op statement_site true o = refl
site_op if_site false o = refl
site_op if_site true o = refl
site_op value_site false o = refl
site_op value_site true o = refl

abbrev no_op : Token → Bool
no_op t = on_op (λ o. false) true t

not_op : {A : Type 0} (f : Op → A) (z : A) (t : Token) → no_op t ≡ true → on_op f z t ≡ z
unfolding on_op
not_op f z (word v) h = refl
not_op f z (sign g) h = refl
not_op f z (op o) h = absurd (false≢true h)
not_op f z (name x) h = refl
not_op f z (int r ds) h = refl
not_op f z (nat ds) h = refl

site_other : {c : ℕ} → Site c → (b : Bool) (t : Token) → no_op t ≡ true → act (spot b c) t ≡ act c t
unfolding act acts spot
site_other brackets_site false t h = refl
site_other brackets_site true t h = not_op _ _ t h ∙ sym (not_op _ _ t h)
site_other args_site false t h = refl
site_other args_site true t h = not_op _ _ t h ∙ sym (not_op _ _ t h)
site_other statement_site false t h = refl
site_other statement_site true t h = not_op _ _ t h ∙ sym (not_op _ _ t h)
site_other if_site false t h = refl
site_other if_site true t h = not_op _ _ t h ∙ sym (not_op _ _ t h)
site_other value_site false t h = refl
site_other value_site true t h = not_op _ _ t h ∙ sym (not_op _ _ t h)

-- What was opened last takes a token ---------------------------------------------------------------

module _ {c : ℕ} (s : Site c) (st : List ℕ) where
  -- an operator
  pub below_goes : (b : Bool) (o : Op) → clash b o ≡ false → acted_below (spot b c ∷ st) (op o) ≡ shape want_code (spot (turn b o) c ∷ st)
  unfolding acted_below acted right_of
  below_goes b o h = rw (site_op s b o, h, right_of) refl

  pub below_stops : (b : Bool) (o : Op) → clash b o ≡ true → acted_below (spot b c ∷ st) (op o) ≡ shape dead_code []
  unfolding acted_below acted right_of
  below_stops b o h = rw (site_op s b o, h, right_of) refl

  -- any token, once an operator that waited took its operand
  below_other : (b : Bool) (o : Op) (t : Token) → no_op t ≡ true → acted_below (spot (turn b o) c ∷ st) t ≡ acted_below (spot b c ∷ st) t
  unfolding acted_below
  below_other b o t h = ap (λ a. acted a st) (site_other s (turn b o) t h ∙ sym (site_other s b t h))

  pub below_same : (b : Bool) (o : Op) (t : Token) → least t ≤ level o → acted_below (spot (turn b o) c ∷ st) t ≡ acted_below (spot b c ∷ st) t
  unfolding least on_op
  below_same b o (op r) h = go (clash b r) refl
    where
      same : (clash (turn b o) r ≡ clash b r) × (turn (turn b o) r ≡ turn b r)
      same = turn_same b o r h

      go : (x : Bool) → clash b r ≡ x → acted_below (spot (turn b o) c ∷ st) (op r) ≡ acted_below (spot b c ∷ st) (op r)
      go true e = below_stops (turn b o) r (same.0 ∙ e) ∙ sym (below_stops b r e)
      go false e =
          below_goes (turn b o) r (same.0 ∙ e) ∙ ap (λ x. shape want_code (spot x c ∷ st)) same.1 ∙ sym (below_goes b r e)
  below_same b o (word v) h = below_other b o (word v) refl
  below_same b o (sign g) h = below_other b o (sign g) refl
  below_same b o (name x) h = below_other b o (name x) refl
  below_same b o (int p ds) h = below_other b o (int p ds) refl
  below_same b o (nat ds) h = below_other b o (nat ds) refl

-- Each place has a code ------------------------------------------------------------------------------

pub record Sited (p : Place) : Type 0 where
  pub code : ℕ
  pub rest : List ℕ
  pub site : Site code
  pub opened : (b : Bool) → open_at b p ≡ spot b code ∷ rest

pub sited : (p : Place) → Sited p
unfolding open_at
sited (in_brackets p) = record { code = in_brackets_code; rest = open_at (compared p) p; site = brackets_site; opened = λ b. refl }
sited (in_negation p) =
    let s = sited p in record { code = s.code; rest = s.rest; site = s.site; opened = s.opened }
sited (in_right o a p) =
    let s = sited p in record { code = s.code; rest = s.rest; site = s.site; opened = s.opened }
sited (in_constructor x es p) = record { code = in_constructor_code; rest = open_at (compared p) p; site = args_site; opened = λ b. refl }
sited (in_construct x es l c) = record { code = in_construct_code; rest = open_body c; site = statement_site; opened = λ b. refl }
sited (in_if l c) = record { code = in_if_code; rest = open_body c; site = if_site; opened = λ b. refl }
sited (in_assignment a x l c) = record { code = in_value_code; rest = open_body c; site = value_site; opened = λ b. refl }
sited (in_update v l c) = record { code = in_value_code; rest = open_body c; site = value_site; opened = λ b. refl }
