-- What the pass over some roles comes to, in front of any others: nothing, or it goes on from a state that what was passed determines, but for the type of the
-- variable passed last. The laws put together such outcomes as the grammar puts together its trees.
use Rattle.std.specs.Prelude.{ℕ, ◌≡◌, refl, Bool, true, false, List, [], ◌∷◌, ◌++◌}
use Rattle.std.proofs.Common.{arith, subst, ◌∙◌}
use Rattle.std.proofs.Math.Path.{ap}
use Rattle.std.proofs.Math.Option.{Option, none, some}
use Rattle.syntax.specs.Syntax.{Id, TypeName, Struct}
use Rattle.meaning.specs.Meant.{then, provided}
use Rattle.text_shape.specs.Roles.{Role}
use Rattle.resolve.specs.Passing.{Pass, pass, passes}

-- numbers onto those that were left before, each before the one behind it
unfoldable pub onto : List ℕ → List ℕ → List ℕ
onto [] o = o
onto (n ∷ ns) o = onto ns (n ∷ o)

pub onto_both : (a b o : List ℕ) → onto b (onto a o) ≡ onto (a ++ b) o
unfolding onto
onto_both [] b o = refl
onto_both (n ∷ a) b o = onto_both a b (n ∷ o)

-- what is made of an answer has what everything made so has
pub built : {A B : Type 0} (P : B → Type 0) (o : Option A) (w : A → B) → ((a : A) → P (w a)) → (b : B) → then o (λ a. some (w a)) ≡ some b → P b
unfolding then
built P none w h b e = absurd (let z : ◌≡◌ {A = ℕ} 0 1 = cc in omega arith)
built P (some a) w h b e = let f : w a ≡ b = cc in subst P f (h a)

module _ (ds : List Struct) (names : List Id) where
  -- of a thing that may mean nothing, and may be too much: `final` of what it means is where the pass goes on
  pub data Outcome {A : Type 0} (ok : A → Bool) (final : A → TypeName → Pass) : Option A → (List Role → Option Pass) → Type 0 where
    fails : {f : List Role → Option Pass} → ((k : List Role) → f k ≡ none) → Outcome ok final none f
    refuses : {a : A} {f : List Role → Option Pass} → ok a ≡ false → ((k : List Role) → f k ≡ none) → Outcome ok final (some a) f
    goes : {a : A} {f : List Role → Option Pass} → ok a ≡ true → (t : TypeName) → ((k : List Role) → f k ≡ passes ds names k (final a t))
        → Outcome ok final (some a) f

  -- the same roles, said otherwise
  pub as_well : {A : Type 0} {ok : A → Bool} {final : A → TypeName → Pass} {o : Option A} {f g : List Role → Option Pass} → Outcome ok final o f
      → ((k : List Role) → g k ≡ f k) → Outcome ok final o g
  as_well (fails z) e = fails (λ k. e k ∙ z k)
  as_well (refuses n z) e = refuses n (λ k. e k ∙ z k)
  as_well (goes y t z) e = goes y t (λ k. e k ∙ z k)

  -- by another test of what it means
  pub by_test : {A : Type 0} {ok ok' : A → Bool} {final : A → TypeName → Pass} {o : Option A} {f : List Role → Option Pass} → ((a : A) → ok' a ≡ ok a)
      → Outcome ok final o f → Outcome ok' final o f
  by_test s (fails z) = fails z
  by_test s (refuses {a = a} n z) = refuses (s a ∙ n) z
  by_test s (goes {a = a} y t z) = goes (s a ∙ y) t z

  -- nothing goes on, whatever it means: then what it means is too much
  pub never : {A : Type 0} {ok : A → Bool} {final : A → TypeName → Pass} {f : List Role → Option Pass} (o : Option A)
      → ((a : A) → o ≡ some a → ok a ≡ false) → ((k : List Role) → f k ≡ none) → Outcome ok final o f
  never none n z = fails z
  never (some a) n z = refuses (n a refl) z

  -- one thing and another behind it
  pub followed : {A B : Type 0} {ok : A → Bool} {ok' : B → Bool} {final : A → TypeName → Pass} {last : B → TypeName → Pass} {o : Option A} {g : A → Option B}
      (p : Pass) (first second : List Role → List Role) → ((a : A) → ok a ≡ false → (b : B) → g a ≡ some b → ok' b ≡ false)
      → Outcome ok final o (λ k. passes ds names (first k) p)
      → ((a : A) (t : TypeName) → ok a ≡ true → Outcome ok' last (g a) (λ k. passes ds names (second k) (final a t)))
      → Outcome ok' last (then o g) (λ k. passes ds names (first (second k)) p)
  unfolding then
  followed p first second n (fails z) h = fails (λ k. z (second k))
  followed {g = g} p first second n (refuses {a = a} y z) h = never (g a) (n a y) (λ k. z (second k))
  followed p first second n (goes {a = a} y t z) h = as_well (h a t y) (λ k. z (second k))

  -- a tree over what a part means
  pub made_of : {A B : Type 0} {ok : A → Bool} {ok' : B → Bool} {final : A → TypeName → Pass} {last : B → TypeName → Pass} {o : Option A}
      {f : List Role → Option Pass} (w : A → B) → ((a : A) → ok' (w a) ≡ ok a) → Outcome ok final o f
      → ((a : A) (t : TypeName) → final a t ≡ last (w a) t) → Outcome ok' last (then o (λ a. some (w a))) f
  unfolding then
  made_of w s (fails z) e = fails z
  made_of w s (refuses {a = a} n z) e = refuses (s a ∙ n) z
  made_of w s (goes {a = a} y t z) e = goes (s a ∙ y) t (λ k. z k ∙ ap (passes ds names k) (e a t))

  -- what was too much means nothing
  pub made_if : {A B : Type 0} {ok : A → Bool} {ok' : B → Bool} {final : A → TypeName → Pass} {last : B → TypeName → Pass} {o : Option A}
      {f : List Role → Option Pass} (w : A → B) → ((a : A) → ok' (w a) ≡ true) → Outcome ok final o f → ((a : A) (t : TypeName) → final a t ≡ last (w a) t)
      → Outcome ok' last (then o (λ a. provided (ok a) (some (w a)))) f
  unfolding then provided
  made_if w s (fails z) e = fails z
  made_if w s (refuses n z) e = rw n (fails z)
  made_if w s (goes {a = a} y t z) e = rw y (goes (s a) t (λ k. z k ∙ ap (passes ds names k) (e a t)))

  -- a role that leads from every state to another
  pub past : {A : Type 0} {ok : A → Bool} {final last : A → TypeName → Pass} {o : Option A} {f : List Role → Option Pass} (r : Role)
      → ((a : A) (t : TypeName) → pass ds names r (final a t) ≡ some (last a t)) → Outcome ok final o f → Outcome ok last o (λ k. f (r ∷ k))
  unfolding passes then
  past r e (fails z) = fails (λ k. z (r ∷ k))
  past r e (refuses n z) = refuses n (λ k. z (r ∷ k))
  past r e (goes {a = a} y t z) = goes y t (λ k. z (r ∷ k) ∙ ap (λ o. then o (passes ds names k)) (e a t))
