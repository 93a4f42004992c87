-- Each way through the commands on the actor's stack, over plain values (01, 'Table and turns').
use Rattle.std.specs.Prelude.{ℕ, suc, ◌+◌, ◌-◌, ◌≡◌, List, [], get_or, set, Ok}
use Rattle.std.proofs.Math.Numerals.{add-one}
use Rattle.std.proofs.Math.Path.{refl}
use Rattle.std.proofs.Common.{subst}
use borrow.Author.Tests.{eq-eqb, ne_eqb}
use Rattle.layout.specs.Layout.{head, struct_of, next_of, stacked, cell, operand, label_cell, going}
use Rattle.memory.specs.Act.{bool_byte, pushed, do_push, do_this, do_not, do_if}
use Rattle.execute_stack.specs.declared.Actor.{Actor}
use Rattle.execute_stack.specs.declared.Effect.TheVariants.{Kept}
use Rattle.execute_stack.specs.Answers.{seen, Acting, topmost, answering, Does}

-- what holds of the actor as memory has it holds of the one that was handed in
pub as_seen : {h c : List ℕ} {a : Actor} → Acting h c a → (P : Actor → Type 0) → P (seen h a.label) → P a
as_seen {h} {a = a} g P x = let e : seen h a.label ≡ a = rw (← g.height, ← g.next) in subst P e x

-- the place of the actor's command
abbrev at : List ℕ → Actor → ℕ
at h a = get_or h (head a.label next_of) 0

-- what `put` leaves: the cell w on top of k values, and the next command
abbrev pub Puts : List ℕ → List ℕ → Actor → List ℕ → List ℕ → ℕ → ℕ → Type 0
Puts h c a h' c' k w = (h' ≡ going h a.label (k + 1) (a.next + 1)) × (c' ≡ set c (stacked a.label k) w)

module _ {h c : List ℕ} {a : Actor} (g : Acting h c a) {h' c' : List ℕ} where
  pub put_way : (k : ℕ) {w v : ℕ} → w ≡ v → Puts h c a h' c' k w → Does (λ z. pushed z a.label k v (suc (at h a))) (Ok Kept) h c h' c'
  unfolding answering
  put_way k e p z = rw (p.0, p.1, e, g.next, add-one k, add-one (at h a))

  pub push_way : (w : ℕ) → Puts h c a h' c' a.height w → Does (λ z. do_push [] a.label z w) (Ok Kept) h c h' c'
  unfolding do_push
  push_way w p z = rw (← g.height) (put_way a.height refl p z)

  pub this_way : {w : ℕ} → w ≡ label_cell (get_or h (head a.label struct_of) 0) a.label → Puts h c a h' c' a.height w
      → Does (λ z. do_this [] a.label z) (Ok Kept) h c h' c'
  unfolding do_this
  this_way e p z = rw (← g.height) (put_way a.height e p z)

  pub not_way : {w : ℕ} → w ≡ cell bool_byte (1 - operand (topmost c a)) → Puts h c a h' c' (a.height - 1) w
      → Does (λ z. do_not [] a.label z) (Ok Kept) h c h' c'
  unfolding do_not
  not_way e p z = rw (← g.height) (put_way (a.height - 1) e p z)

-- the two ways through an if
module _ {h c : List ℕ} {a : Actor} (g : Acting h c a) (n : ℕ) {h' : List ℕ} where
  pub false_way : operand (topmost c a) ≡ 0 → h' ≡ going h a.label (a.height - 1) (a.next + 1 + n) → Does (λ z. do_if [] a.label z n) (Ok Kept) h c h' c
  unfolding do_if answering
  false_way e p z = rw (← g.height, p, eq-eqb (operand (topmost c a)) 0 e, g.next, add-one (at h a))

  pub true_way : (operand (topmost c a) ≡ 0 → ⊥) → h' ≡ going h a.label (a.height - 1) (a.next + 1) → Does (λ z. do_if [] a.label z n) (Ok Kept) h c h' c
  unfolding do_if answering
  true_way e p z = rw (← g.height, p, ne_eqb (operand (topmost c a)) 0 e, g.next, add-one (at h a))
