-- The pass over uses goes from token to token (02 §1): where no token begins nothing changes but the place.
use Rattle.std.specs.Prelude.{ℕ, ◌+◌, ◌≤◌, ◌<◌, ◌≡◌, List, length, get_or, set, drop, eqb, None, Err}
use Rattle.std.proofs.Math.Path.{refl}
use Rattle.std.proofs.Common.{◌∙◌}
use Rattle.std.proofs.Math.Option.{some}
use Rattle.lexer.specs.Gaps.{Gap, Token}
use Rattle.lexer.specs.GapLaws.{gap_over}
use Rattle.resolve.specs.Using.{chosen, use_start}
use Rattle.resolve.specs.UsingAt.{use_at, uses_at}
use Rattle.uses.specs.Lent.{book_in, use_in, passed_in, Next, numbered_in, used_out}
use Rattle.uses.specs.Stopping.{stops_at}
use Rattle.uses.specs.Laws.StackLaws.{next_same}
use Rattle.uses.specs.Laws.LoopLaws.{Reached, place_none, place_some, reached_on, reached_left, reached_stop, stopped_here}
use Rattle.uses.specs.declared.Scope.{Scope}
use Rattle.uses.specs.Passed.{Passed, onward, leaves}
use Rattle.uses.specs.declared.NoProgram.{NoProgram}

-- Gaps -------------------------------------------------------------------------------------------

module _ {x roles t l₀ k₀ m₀ l k m : List ℕ} {c : Scope} {n : ℕ} (same : length roles ≡ length x) where
  one_gap : (i : ℕ) → i < length roles → get_or roles i 0 ≡ 0 → Reached x roles t l₀ k₀ m₀ l k m c n i → Reached x roles t l₀ k₀ m₀ l k m c n (i + 1)
  unfolding passed_in
  one_gap i h e r =
      reached_on x roles t l₀ k₀ m₀ same r h l k (onward c)
      (λ o. place_none (book_in x t) (get_or roles i 0) (drop i x) (use_in x l k c o) e)
      (next_same t l c r.room) (refl, refl) refl

  pub reached_gap : {i j : ℕ} → Gap roles i j → Reached x roles t l₀ k₀ m₀ l k m c n i → Reached x roles t l₀ k₀ m₀ l k m c n j
  reached_gap = gap_over (λ p. Reached x roles t l₀ k₀ m₀ l k m c n p) one_gap

-- Tokens: what is passed at one, as the code says it -------------------------------------------------

module _ {x roles t l₀ k₀ m₀ l k m : List ℕ} {c : Scope} {n i : ℕ} (same : length roles ≡ length x) (r : Reached x roles t l₀ k₀ m₀ l k m c n i)
    (token : Token roles i) (inside : i < length roles) (l' k' : List ℕ) (p : Passed)
    (e : (o : List ℕ) → passed_in x l' k' p o ≡ use_at (book_in x t) (get_or roles i 0) (drop i x) (use_in x l k c o))
    (g : Next t l' c p) (h : (length k' ≡ length k) × (length l' ≡ length l)) where
  told : (o : List ℕ) → passed_in x l' k' p o
      ≡ chosen (eqb (get_or roles i 0) 0) (some (use_in x l k c o)) (use_at (book_in x t) (get_or roles i 0) (drop i x) (use_in x l k c o))
  told o = e o ∙ place_some (book_in x t) (get_or roles i 0) (drop i x) (use_in x l k c o) (token inside)

  pub token_here : p ≡ None → i ≡ stops_at (book_in x t) x roles use_start
  token_here = stopped_here x roles t l₀ k₀ m₀ same r inside l' k' p told g h

  pub token_stop : (m' : List ℕ) (o : NoProgram) → p ≡ None → numbered_in m' (Err o) ≡ used_out (uses_at (book_in x t) x roles use_start)
  token_stop = reached_stop x roles t l₀ k₀ m₀ same r inside l' k' p told g h

  pub token_on : {d : Scope} {j : ℕ} → p ≡ onward d → Gap roles (i + 1) j → Reached x roles t l₀ k₀ m₀ l' k' m d n j
  token_on f gap = reached_gap same gap (reached_on x roles t l₀ k₀ m₀ same r inside l' k' p told g h f)

  pub token_left : {d : Scope} {v j : ℕ} → p ≡ leaves d v → Gap roles (i + 1) j → length roles ≤ length m₀
      → Reached x roles t l₀ k₀ m₀ l' k' (set m n v) d (n + 1) j
  token_left f gap fits = reached_gap same gap (reached_left x roles t l₀ k₀ m₀ same r inside l' k' p told g h fits f)
