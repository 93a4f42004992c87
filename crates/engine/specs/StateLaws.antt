-- The answer of a command makes the machine's next state, with the number of its holders and the label that turns are counted from (01, 'Table
-- and turns'; 02, 'Holders kept as a number', 'Turns that go round').
use Rattle.std.specs.Prelude.{ℕ, suc, ◌-◌, ◌%◌, ◌≡◌, refl, true, false, List}
use Rattle.std.proofs.Common.{ap, ◌∙◌}
use borrow.Author.Tests.{eq-eqb, ne_eqb}
use Rattle.layout.specs.Layout.{operand, holds}
use Rattle.layout.specs.declared.Numbers.{Numbers}
use Rattle.layout.specs.State.{state_of, set_holding, set_from}
use Rattle.memory.specs.Choose.{fewer}
use Rattle.memory.specs.Act.{next_word, perform, turned, counted, act}
use Rattle.execute_stack.specs.Answers.{Answer, answering, DoesWith}

module _ (list counts h c : List ℕ) (l : ℕ) (m : Numbers) where
  -- the word that instance l takes
  abbrev pub word : ℕ
  word = next_word list (state_of m h c) l

  -- numbers that the answer r makes of the machine's are those after the command
  pub acted : (r : Answer) {h' c' : List ℕ} {m' : Numbers}
      → DoesWith m.count (λ z. perform counts l z (word % 256) word (operand word)) r h c h' c'
      → ((x y : List ℕ) → state_of m' x y ≡ answering r (state_of m x y))
      → {n : ℕ} → n ≡ fewer (holds h' l) m.holding
      → {m'' : Numbers} → ((x y : List ℕ) → state_of m'' x y ≡ turned l (state_of (set_holding m' n) x y))
      → state_of m'' h' c' ≡ act list counts l (state_of m h c)
  unfolding act
  acted r {h'} {c'} d e q t = t h' c' ∙ rw q (ap (counted l (state_of m h c)) (e h' c' ∙ d (state_of m h c) refl))

-- The count behind a command of instance l ------------------------------------------

module _ (heads : List ℕ) (l n : ℕ) where
  pub actor_holds : holds heads l ≡ true → n ≡ fewer (holds heads l) n
  unfolding fewer
  actor_holds h = rw h

  pub actor_ended : holds heads l ≡ false → n - 1 ≡ fewer (holds heads l) n
  unfolding fewer
  actor_ended h = rw h

-- The label that turns are counted from ---------------------------------------------

module _ (m : Numbers) (l : ℕ) where
  pub stays_turned : (m.number ≡ 0 → ⊥) → (h c : List ℕ) → state_of m h c ≡ turned l (state_of m h c)
  unfolding turned
  stays_turned e h c = rw (turned, ne_eqb m.number 0 e)

  pub goes_turned : m.number ≡ 0 → {n : ℕ} → n ≡ suc l → (h c : List ℕ) → state_of (set_from m n) h c ≡ turned l (state_of m h c)
  unfolding turned
  goes_turned e q h c = rw (turned, eq-eqb m.number 0 e, q)
