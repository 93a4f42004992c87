-- No way through a step's commands goes higher than their depth (01, 'Names, types, commands'); this needs no types.
use Prim.Native.Nat.{ℕ, zero, suc, ◌-◌, max, ◌≤◌}
use native.Mathlib.Omega.{arith}
use Rattle.std.specs.Prelude.{◌≡◌, length, get_or, drop}
use Rattle.std.proofs.Math.Path.{refl, ap}
use Rattle.std.proofs.Math.Option.{some}
use mathlib.Core.List.{List, [], ◌∷◌, map, Memᴰ}
use Rattle.std.proofs.Math.ListN.{length-drop, get_or-map}
use Rattle.program.specs.Tree.{Stmts, Step, Program}
use Rattle.commands.specs.Commands.{Flat, Flat.plain, Flat.if_n, commands}
use Rattle.commands.specs.Context.{Ctx, context, step_of}
use Rattle.commands.specs.Noted.{Note, Note.n_push, Note.n_this, Note.n_not, Note.n_rd, Note.n_wr, Note.n_get, Note.n_set, Note.n_cons}
use Rattle.commands.specs.Noted.{Note.n_op, Note.n_if, erase, noted}
use Rattle.commands.specs.Depth.{after, depth}
use Rattle.commands.specs.Bounds.{greatest, arities, step_depth, program_depth}
use Rattle.commands.specs.Tags.{Tags, at_start, next, jump, Way, Way.start, Way.on, Way.over}
use Rattle.commands.proofs.Laws.NotedLaws.{erased}
use Rattle.commands.proofs.Steps.{found}

-- the height after a command of the list, and how many commands the other way leaves out
abbrev left : List ℕ → Flat → ℕ → ℕ
left ar (plain m) h = after ar m h
left ar (if_n n) h = h - 1

abbrev skipped : Flat → ℕ
skipped (plain m) = 0
skipped (if_n n) = n

skips : (n : Note) → jump n ≡ skipped (erase n)
unfolding erase
skips (n_push t v) = refl
skips n_this = refl
skips n_not = refl
skips (n_rd k x) = refl
skips (n_wr k x) = refl
skips (n_get t x) = refl
skips (n_set d t x) = refl
skips (n_cons k) = refl
skips (n_op o) = refl
skips (n_if n) = refl

module _ (ar : List ℕ) where
  -- both ways, of any command
  ways : (m : Flat) (c : List Flat) (h : ℕ)
      → depth ar (m ∷ c) 0 h ≡ max h (max (depth ar c 0 (left ar m h)) (depth ar c (skipped m) (left ar m h)))
  unfolding depth
  ways (plain m) c h = omega arith
  ways (if_n n) c h = refl

  high : (c : List Flat) (h : ℕ) → h ≤ depth ar c 0 h
  unfolding depth
  high [] h = omega arith
  high (m ∷ c) h = omega (arith, ways m c h)

  dropped : (c : List Note) (j h : ℕ) → depth ar (map erase (drop j c)) 0 h ≡ depth ar (map erase c) j h
  unfolding depth
  dropped [] zero h = refl
  dropped [] (suc j) h = refl
  dropped (n ∷ c) zero h = refl
  dropped (n ∷ c) (suc j) h = dropped c j h

  module _ (G : Ctx) (counts : (k : ℕ) → get_or ar k 0 ≡ length (G.params k)) where
    next_height : (n : Note) (x : Tags) → length (next G n x).stack ≡ left ar (erase n) (length x.stack)
    unfolding erase
    next_height (n_push t v) x = refl
    next_height n_this x = refl
    next_height n_not x = ap suc (length-drop 1 x.stack)
    next_height (n_rd k i) x = ap suc (length-drop 1 x.stack)
    next_height (n_wr k i) x = length-drop 2 x.stack
    next_height (n_get t i) x = ap suc (length-drop 1 x.stack)
    next_height (n_set d t i) x = length-drop 2 x.stack
    next_height (n_cons k) x = rw (counts k) (ap suc (length-drop (length (G.params k)) x.stack))
    next_height (n_op o) x = ap suc (length-drop 2 x.stack)
    next_height (n_if n) x = length-drop 1 x.stack

    way_depth : {c₀ : List Note} {x₀ : Tags} {c : List Note} {x : Tags} → Way G c₀ x₀ c x
        → depth ar (map erase c) 0 (length x.stack) ≤ depth ar (map erase c₀) 0 (length x₀.stack)
    way_depth start = omega arith
    way_depth (on {n = n} {c = c} {x = x} w) =
        rw (next_height n x) (omega (arith, way_depth w, ways (erase n) (map erase c) (length x.stack)))
    way_depth (over {n = n} {c = c} {x = x} w) =
        rw (next_height n x, dropped c (jump n), skips n)
        (omega (arith, way_depth w, ways (erase n) (map erase c) (length x.stack)))

    -- wherever commands lead from an empty stack, the stack is no higher than their depth
    pub way_height : {c₀ c : List Note} {x : Tags} → Way G c₀ at_start c x → length x.stack ≤ depth ar (map erase c₀) 0 0
    way_height {c = c} {x = x} w = omega (arith, way_depth w, high (map erase c) (length x.stack))

    -- wherever a step's commands lead, the stack is no higher than the depth of the published commands
    pub step_height : (b : Stmts) {c : List Note} {x : Tags} → Way G (noted G b) at_start c x
        → length x.stack ≤ depth ar (commands b) 0 0
    step_height b w = rw (erased G b) at (way_height w)

-- Of programs --------------------------------------------------------------------

-- none is greater than the greatest
greatest_of : {A : Type 0} (f : A → ℕ) {a : A} {l : List A} → Memᴰ a l → f a ≤ greatest f l
unfolding greatest
greatest_of f (Memᴰ.head e) = rw e (omega arith)
greatest_of f (Memᴰ.tail m) = omega (arith, greatest_of f m)

greatest_at : {A : Type 0} (f : A → ℕ) (ls : List (List A)) (k : ℕ) → greatest f (get_or ls k []) ≤ greatest (greatest f) ls
unfolding greatest
greatest_at f [] k = omega arith
greatest_at f (l ∷ ls) zero = omega arith
greatest_at f (l ∷ ls) (suc k) = omega (arith, greatest_at f ls k)

-- a step is no deeper than its program
pub step_within : (p : Program) (k : ℕ) (t : Step) → Memᴰ t (get_or p.steps k []) → step_depth p t ≤ program_depth p
unfolding program_depth
step_within p k t m = omega (arith, greatest_of (step_depth p) m, greatest_at (step_depth p) p.steps k)

-- wherever the step n of struct k leads, the stack is no higher than the depth that the checker reports
pub program_height : (p : Program) (k n : ℕ) {b : Stmts} → step_of p k n ≡ some b → {c : List Note} {x : Tags}
    → Way (context p k b) (noted (context p k b) b) at_start c x → length x.stack ≤ program_depth p
program_height p k n {b = b} e {c = c} {x = x} w =
    let (t, m, q) = found (get_or p.steps k []) n e in
    let h = step_height (arities p) (context p k b) (λ j. get_or-map length p.params j []) b w in
    let i = rw q at (step_within p k t m) in
    omega arith
