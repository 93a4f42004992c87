-- A command by its kind: what its function needs, and that its answer is the command's (01, 'Table and turns').
use Rattle.std.specs.Prelude.{ℕ, suc, ◌%◌, ◌<◌, ◌≤◌, ◌≡◌, refl, List, get_or}
use Rattle.std.proofs.Common.{arith, subst, ◌∙◌}
use Rattle.layout.specs.Layout.{head, head_end, height_of, next_of, end_of, operand}
use Rattle.layout.specs.State.{State}
use Rattle.memory.specs.Act.{perform}
use Rattle.memory.specs.Fit.{Needed}
use Rattle.execute_stack.specs.declared.Actor.{Actor}
use Rattle.execute_stack.specs.Answers.{Answer, seen, Acting, on, DoesWith}
use Rattle.execute.specs.Ready.{Room, memory, Ready}

-- the actor as memory has it may act: behind its command there is a place, where the end of its commands is a number of two bytes
pub acting : {h c : List ℕ} {l : ℕ} → Room h c l → get_or h (head l end_of) 0 < head_end → Acting h c (seen h l)
acting {h} {c} {l} r f =
    let q : get_or h (head l next_of) 0 < get_or h (head l end_of) 0 = r.next in
    record { chosen = r.chosen; heads_long = r.heads_long; cells_long = r.cells_long; height = refl; next = refl; more = omega arith }

-- what holds of the actor as memory has it holds of one with its numbers as they were read
pub handed : (h : List ℕ) (l : ℕ) {x y : ℕ} → x ≡ get_or h (head l height_of) 0 → y ≡ get_or h (head l next_of) 0 → (P : Actor → Type 0) → P (seen h l)
    → P (record { label = l; height = x; next = y })
handed h l {x} {y} d e P =
    let same : seen h l ≡ record { label = l; height = x; next = y } = rw (d, e) in
    subst P same

module _ (counts h c : List ℕ) (l n w k : ℕ) (e : w % 256 ≡ k) {v : ℕ} (o : v ≡ operand w) where
  -- what a command of kind k needs
  pub needed_by : Ready counts h c l n w → Needed counts l (memory h c) k v
  needed_by r = rw (o) (subst (λ (x : ℕ). Needed counts l (memory h c) x (operand w)) e r.needed)

  -- where f is the command of kind k, what does f does the command
  pub performs : (f : State → State) → ((z : State) → f z ≡ perform counts l z k w v) → (r : Answer) (h' c' : List ℕ)
      → DoesWith n f r h c h' c'
      → DoesWith n (λ z. perform counts l z (w % 256) w (operand w)) r h c h' c'
  performs f g r h' c' d z q = rw (e, ← o) (d z q ∙ g (on z h c))

-- The last kind ---------------------------------------------------------------------

above : (a k : ℕ) → a ≤ k → (k ≡ a → ⊥) → suc a ≤ k
above a k h n = omega arith

only : (a k : ℕ) → a ≤ k → k ≤ a → k ≡ a
only a k p q = omega arith

-- a kind that is none of the first seven is the eighth
pub last_kind : (k : ℕ) → 1 ≤ k → k ≤ 8 → (k ≡ 1 → ⊥) → (k ≡ 2 → ⊥) → (k ≡ 3 → ⊥) → (k ≡ 4 → ⊥) → (k ≡ 5 → ⊥) → (k ≡ 6 → ⊥)
    → (k ≡ 7 → ⊥)
    → k ≡ 8
last_kind k p q a b c d e f g =
    only 8 k (above 7 k (above 6 k (above 5 k (above 4 k (above 3 k (above 2 k (above 1 k p a) b) c) d) e) f) g) q
