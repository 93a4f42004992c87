-- Laws of an instance that memory holds (01, 'Table and turns'): it rests on its row alone, and goes on by its numbers and stack.
use Rattle.std.specs.Prelude.{ℕ, suc, ◌+◌, ◌-◌, ◌*◌, ◌<◌, ◌≤◌, ◌≡◌, List, [], ◌∷◌, ◌++◌, length, get_or, take, drop}
use Rattle.std.proofs.Common.{arith, ◌∙◌, subst}
use Rattle.std.proofs.Math.Path.{ap}
use Rattle.types.specs.Limits.{max_instances, max_depth, variables}
use Rattle.types.specs.Values.{Val.label, word}
use Rattle.commands.specs.Noted.{Note, erase}
use Rattle.commands.specs.Coding.{command_word}
use Rattle.machine.specs.Machine.{Tagged, Instance}
use Rattle.layout.specs.Layout.{head, head_size, struct_of, height_of, next_of, end_of, variable, stacked, operand}
use Rattle.layout.specs.declared.Numbers.{Numbers}
use Rattle.layout.specs.State.{State, of_head, of_cell, with_machine}
use Rattle.memory.specs.Act.{top, beneath, after, next_word}
use Rattle.memory.specs.Stands.{Shows, Stack, note_words, Held}
use Rattle.memory.specs.Frame.{Same, Slim, moved}
use Rattle.memory.proofs.Laws.CellLaws.{shown_operand}
use Rattle.memory.proofs.Laws.RowLaws.{code_below, code_within, code_word, code_after, code_over, going_other, going_height, going_next}

-- a stack of at most k values, where its cells are the same
pub stack_kept : (cs cs' : List ℕ) (l : ℕ) (χ : List Tagged) (k : ℕ) → length χ ≤ k
    → ((h : ℕ) → h < k → get_or cs' (stacked l h) 0 ≡ get_or cs (stacked l h) 0)
    → Stack cs l χ
    → Stack cs' l χ
stack_kept cs cs' l [] k b f s = tt
stack_kept cs cs' l (x ∷ χ) k b f s = (rw (f (length χ) (omega arith)) s.0, stack_kept cs cs' l χ k (omega arith) f s.1)

-- the values beneath those on top
pub stack_under : (cs : List ℕ) (l : ℕ) (ξ χ : List Tagged) → Stack cs l (ξ ++ χ) → Stack cs l χ
stack_under cs l [] χ s = s
stack_under cs l (x ∷ ξ) χ s = stack_under cs l ξ χ s.1

-- an instance is held whatever the machine's numbers are
pub held_numbers : {list : List ℕ} {z : State} {l : ℕ} {i : Instance} → Held list z l i → {n : Numbers} → Held list (with_machine z n) l i
held_numbers h = record { struct = h.struct; height = h.height; within = h.within; code = h.code; stack = h.stack; vars = h.vars }

-- an instance is held by its row
pub held_same : (list : List ℕ) (z z' : State) (l : ℕ) (i : Instance) → Same z z' l → Slim i → Held list z l i → Held list z' l i
held_same list z z' l i s w h =
    let e : of_head z' l end_of ≡ of_head z l end_of = s.heads (head l end_of) (omega arith) (omega arith) in
    let n : of_head z' l next_of ≡ of_head z l next_of = s.heads (head l next_of) (omega arith) (omega arith) in
    record {
      struct = s.heads (head l struct_of) (omega arith) (omega arith) ∙ h.struct;
      height = s.heads (head l height_of) (omega arith) (omega arith) ∙ h.height;
      within = rw e h.within;
      code = rw (e, n) h.code;
      stack =
          stack_kept z.cells z'.cells l i.stack max_depth w.low
          (λ k b. s.cells (stacked l k) (omega arith) (omega arith))
          h.stack;
      vars = λ v x q.
          let b : v < variables = w.near v x q in
          rw (s.cells (variable l v) (omega arith) (omega arith)) (h.vars v x q);
    }

module _ (list : List ℕ) (z : State) (l : ℕ) (i : Instance) (held : Held list z l i) where
  -- an instance that has gone on to the commands c from n on, with the values χ on its stack
  pub held_on : length z.heads ≡ head_size * max_instances → l < max_instances → Slim i
      → (cs : List ℕ) (h n : ℕ) (c : List Note) (χ : List Tagged) (w : List ℕ)
      → h ≡ length χ
      → take (of_head z l end_of - n) (drop n list) ≡ note_words c
      → Stack cs l χ
      → ((v : ℕ) → v < variables → get_or cs (variable l v) 0 ≡ of_cell z (variable l v))
      → Held list (moved z cs l h n) l (record { struct = i.struct; code = c; stack = χ; env = i.env; written = w })
  held_on long b slim cs h n c χ w e d s f =
      let q : of_head (moved z cs l h n) l end_of ≡ of_head z l end_of = going_other z.heads l h n (head l end_of) (λ x. omega arith) (λ x. omega arith) in
      let r : of_head (moved z cs l h n) l next_of ≡ n = going_next z.heads l h n long b in
      record {
        struct = going_other z.heads l h n (head l struct_of) (λ x. omega arith) (λ x. omega arith) ∙ held.struct;
        height = going_height z.heads l h n long b ∙ e;
        within = rw q held.within;
        code = rw (q, r) d;
        stack = s;
        vars = λ v x a. rw (f v (slim.near v x a)) (held.vars v x a);
      }

  -- its next command, and those behind it
  module _ (n : Note) (c : List Note) (e : i.code ≡ n ∷ c) where
    code_is : take (of_head z l end_of - of_head z l next_of) (drop (of_head z l next_of) list) ≡ note_words (n ∷ c)
    code_is = held.code ∙ ap note_words e

    pub holds_next : of_head z l next_of < of_head z l end_of
    holds_next = code_below list (of_head z l next_of) (of_head z l end_of) held.within n c code_is

    pub holds_within : (k : ℕ) → k ≤ length c → suc (of_head z l next_of) + k ≤ of_head z l end_of
    holds_within k h = code_within list (of_head z l next_of) (of_head z l end_of) held.within n c code_is k h

    pub holds_word : next_word list z l ≡ command_word (erase n)
    holds_word = code_word list (of_head z l next_of) (of_head z l end_of) held.within n c code_is

    pub holds_after : (counts : List ℕ) → take (of_head z l end_of - after counts l z) (drop (after counts l z) list) ≡ note_words c
    holds_after counts = code_after list (of_head z l next_of) (of_head z l end_of) held.within n c code_is

    pub holds_over : (counts : List ℕ) (k : ℕ)
        → take (of_head z l end_of - (after counts l z + k)) (drop (after counts l z + k) list) ≡ note_words (drop k c)
    holds_over counts k = code_over list (of_head z l next_of) (of_head z l end_of) held.within n c code_is k

  -- the values on its stack
  pub holds_top : (counts : List ℕ) (y : Tagged) (χ : List Tagged) → i.stack ≡ y ∷ χ → Shows (top counts l z) y.is
  holds_top counts y χ s =
      let n : length i.stack ≡ suc (length χ) = ap length s in
      let t : of_head z l height_of ≡ length i.stack = held.height in
      let k : length χ ≡ of_head z l height_of - 1 = omega arith in
      let v : Stack z.cells l (y ∷ χ) = rw s at held.stack in
      subst (λ (h : ℕ). Shows (of_cell z (stacked l h)) y.is) k v.0

  -- a label on top
  pub holds_label : (counts : List ℕ) (y : Tagged) (χ : List Tagged) → i.stack ≡ y ∷ χ → (r : ℕ) → y.is ≡ label r → operand (top counts l z) ≡ r
  unfolding word
  holds_label counts y χ s r q = shown_operand (top counts l z) y.is (holds_top counts y χ s) ∙ ap word q

  pub holds_beneath : (counts : List ℕ) (y x : Tagged) (χ : List Tagged) → i.stack ≡ y ∷ x ∷ χ → Shows (beneath counts l z) x.is
  holds_beneath counts y x χ s =
      let n : length i.stack ≡ suc (suc (length χ)) = ap length s in
      let t : of_head z l height_of ≡ length i.stack = held.height in
      let k : length χ ≡ of_head z l height_of - 2 = omega arith in
      let v : Stack z.cells l (y ∷ x ∷ χ) = rw s at held.stack in
      subst (λ (h : ℕ). Shows (of_cell z (stacked l h)) x.is) k v.1.0
