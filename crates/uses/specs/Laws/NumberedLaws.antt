-- The numbers of a text's names (02 §1): its tables tested, and the pass over its places by them.
use Rattle.std.specs.Prelude.{ℕ, ◌≡◌, refl, Bool, true, false, List, Ok, Err, Result}
use Rattle.std.proofs.Math.Path.{sym, ap}
use Rattle.std.proofs.Common.{◌∙◌}
use Rattle.meaning.specs.Meant.{provided}
use Rattle.resolve.specs.WellDeclared.{tables_ok}
use Rattle.resolve.specs.Using.{use_start}
use Rattle.resolve.specs.UsingAt.{uses_at}
use Rattle.resolve.specs.Resolved.{book_at, resolved}
use Rattle.uses.specs.Lent.{book_in, numbered_in, Counted, used_out}
use Rattle.uses.specs.Stopping.{stops_at, of_tables, stops}
use Rattle.uses.specs.declared.NoProgram.{NoProgram}

module _ (x roles : List ℕ) {q : Bool} (e : q ≡ tables_ok x roles) where
  -- declarations that no stream has numbers for
  pub numbers_none : (m : List ℕ) (p : NoProgram) → q ≡ false → numbered_in m (Err p) ≡ resolved x roles
  unfolding numbered_in resolved provided
  numbers_none m p f = sym (rw (sym e ∙ f) refl)

  pub stops_first : q ≡ false → 0 ≡ stops x roles
  unfolding stops of_tables
  stops_first f = sym (rw (sym e ∙ f) refl)

  -- and others
  pub numbers_passed : (m t : List ℕ) (r : Result ℕ NoProgram) → q ≡ true → book_in x t ≡ book_at x roles
      → numbered_in m r ≡ used_out (uses_at (book_in x t) x roles use_start) → numbered_in m r ≡ resolved x roles
  unfolding resolved provided used_out
  numbers_passed m t r f g h = h ∙ ap (λ b. used_out (uses_at b x roles use_start)) g ∙ sym (rw (sym e ∙ f) refl)

  pub stops_passed : (t : List ℕ) (n : ℕ) → q ≡ true → book_in x t ≡ book_at x roles → n ≡ stops_at (book_in x t) x roles use_start → n ≡ stops x roles
  unfolding stops of_tables
  stops_passed t n f g h = h ∙ ap (λ b. stops_at b x roles use_start) g ∙ sym (rw (sym e ∙ f) refl)

pub counted_with : (m : List ℕ) (r : Result ℕ NoProgram) (A : Type 0) → Counted m r (Unit {0}) → A → Counted m r A
unfolding Counted
counted_with m (Ok n) A c a = (c.0, a)
counted_with m (Err p) A c a = tt
