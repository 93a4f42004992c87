-- A move on memory follows the machine's (000's rules for the schedule; 01, 'Table and turns'): memory that holds a machine holds
-- the one after the move.
use Prim.Native.Nat.{ℕ, zero, suc, ◌+◌, ◌*◌, ◌/◌, ◌%◌, ◌<◌, ◌≤◌}
use Rattle.std.specs.Prelude.{◌≡◌, Bool, length, eqb}
use Rattle.std.proofs.Math.Path.{refl, ap, subst}
use Rattle.std.proofs.Common.{sym, ◌∙◌}
use Rattle.std.proofs.Math.Bool.{true, false}
use Rattle.std.proofs.Math.Option.{Option, none, some}
use mathlib.Core.List.{List, [], ◌∷◌, map}
use native.Mathlib.Omega.{arith}
use Rattle.std.proofs.Math.ListN.{get_elem?}
use Rattle.std.proofs.lemmas.List.{length-map}
use Rattle.std.proofs.Math.Dec.{ltb, eqb-suc-zero, eqb-suc-suc}
use borrow.Author.Tests.{ltb-true, ltb-false, le-leb, lt-leb, eq-eqb, ne_eqb, eqb-true, eqb-false}
use Rattle.types.specs.Limits.{max_instances, step_names}
use Rattle.program.specs.Tree.{Stmts, Program}
use Rattle.commands.specs.Coding.{words}
use Rattle.commands.specs.Context.{context, step_of}
use Rattle.commands.proofs.Laws.NotedLaws.{erased}
use Rattle.machine.specs.Published.{StepCall, StepCall.global, StepCall.local, called, Sched, Sched.done, Sched.start, Sched.fixpoint, Sched.active, before}
use Rattle.machine.specs.Published.{structs}
use Rattle.machine.specs.Machine.{Instance, Machine, Moved, Moved.next, Moved.stuck, machine, given, started, repeat, move_by, move}
use Rattle.sound.specs.Invariant.{Open}
use Rattle.sound.proofs.Laws.MoveKept.{active_open}
use Rattle.sound.proofs.Laws.ElemLaws.{none_some, map_at}
use Rattle.layout.specs.Layout.{head, head_size, struct_of, height_of, next_of, end_of}
use Rattle.layout.specs.State.{State, with_heads, moved}
use Rattle.memory.specs.Stands.{bits, Held, Stands}
use Rattle.memory.specs.Plan.{start_code, RangedCall, from, to, Spans, Located, At}
use Rattle.memory.proofs.Laws.PlanLaws.{code_below, past_start, past_fix, past_round}
use Rattle.memory.specs.Move.{means, begin_one, begin_all, do_start, move as move_on}
use Rattle.memory.proofs.Laws.BeginLaws.{Same, begun_struct, begun_height, begun_next, begun_end, one_begins, one_stays, one_length, one_others}
use Rattle.memory.proofs.Laws.BeginLaws.{all_length}
use Rattle.memory.proofs.Laws.MoveLaws.{move_start, fix_begins, round_ends, round_again}
use Rattle.memory.proofs.Laws.HeldLaws.{held_numbers}
use Rattle.memory.proofs.Laws.StandsLaws.{numbered_stands}

-- Instances ----------------------------------------------------------------------

below : {A : Type 0} (xs : List A) (k : ℕ) {x : A} → get_elem? xs k ≡ some x → k < length xs
below [] k g = none_some g
below (y ∷ xs) zero g = omega arith
below (y ∷ xs) (suc k) g = omega (arith, below xs k g)

module _ {list : List ℕ} {z : State} {l : ℕ} {i : Instance} (H : Held list z l i) where
  -- an instance stands by its own numbers
  held_same : (h : List ℕ) → Same l z.heads h → Held list (with_heads z h) l i
  held_same h q =
      let n = q next_of (omega arith) in
      let e = q end_of (omega arith) in
      record {
        struct = sym (q struct_of (omega arith)) ∙ H.struct;
        height = sym (q height_of (omega arith)) ∙ H.height;
        within = rw (← e) H.within;
        code = rw (← e, ← n) H.code;
        stack = H.stack;
        vars = H.vars;
      }

-- what the step of the code c makes of an instance
module _ (p : Program) (c : ℕ) where
  abbrev begin_by : Bool → Instance → Instance
  begin_by true i = given p (step_of p i.struct (c % step_names)) i
  begin_by false i = i

  abbrev begin_inst : Instance → Instance
  begin_inst i = begin_by (means c i.struct) i

module _ (p : Program) (list spans : List ℕ) (located : Located p list spans) (c : ℕ) where
  module _ (z : State) (l : ℕ) (i : Instance) (known : i.struct < structs p) (fits : head l end_of < length z.heads) (H : Held list z l i) where
    -- where the commands of its step begin and end
    abbrev begin_at : ℕ
    begin_at = from spans i.struct (c % step_names)

    abbrev end_at : ℕ
    end_at = to spans i.struct (c % step_names)

    stays_held : begin_one spans c z.heads l ≡ z.heads → Held list (with_heads z (begin_one spans c z.heads l)) l i
    stays_held q = rw q H

    given_held : means c i.struct ≡ true → (o : Option Stmts) → Spans list begin_at end_at o
        → Held list (with_heads z (begin_one spans c z.heads l)) l (given p o i)
    unfolding given
    given_held m none s = stays_held (one_stays spans c z.heads l H.struct (rw (m, lt-leb begin_at end_at s)))
    given_held m (some b) s =
        let q = one_begins spans c z.heads l H.struct (rw (m, le-leb begin_at end_at s.0)) in
        let n = begun_next z.heads l begin_at end_at fits in
        let u = begun_end z.heads l begin_at end_at fits in
        rw q
        record {
          struct = begun_struct z.heads l begin_at end_at ∙ H.struct;
          height = begun_height z.heads l begin_at end_at fits;
          within = rw u s.1;
          code = rw (u, n) (s.2 ∙ ap words (sym (erased (context p i.struct b) b)));
          stack = tt;
          vars = H.vars;
        }

    -- one instance begins
    one_held : Held list (with_heads z (begin_one spans c z.heads l)) l (begin_inst p c i)
    one_held = go (means c i.struct) refl
      where
        go : (t : Bool) → means c i.struct ≡ t → Held list (with_heads z (begin_one spans c z.heads l)) l (begin_by p c t i)
        go true m = given_held m (step_of p i.struct (c % step_names)) (located i.struct (c % step_names) known (omega arith))
        go false m = stays_held (one_stays spans c z.heads l H.struct (rw m))

  -- all of them: those below l have begun, n are left
  all_held : (is : List Instance) → ((l : ℕ) (i : Instance) → get_elem? is l ≡ some i → i.struct < structs p)
      → (z : State) (l n : ℕ) → length z.heads ≡ head_size * max_instances → length is ≡ l + n → l + n ≤ max_instances
      → ((k : ℕ) (i : Instance) → get_elem? is k ≡ some i → k < l → Held list z k (begin_inst p c i))
      → ((k : ℕ) (i : Instance) → get_elem? is k ≡ some i → l ≤ k → Held list z k i)
      → (k : ℕ) (i : Instance) → get_elem? is k ≡ some i → Held list (with_heads z (begin_all spans c z.heads l n)) k (begin_inst p c i)
  unfolding begin_all
  all_held is known z l zero long size few low high = λ k i g. low k i g (omega (arith, below is k g))
  all_held is known z l (suc n) long size few low high =
      all_held is known (with_heads z (begin_one spans c z.heads l)) (suc l) n (one_length spans c z.heads l ∙ long) (omega arith) (omega arith)
      (λ k i g q. begun_now k i g q (ltb k l) refl)
      (λ k i g q. held_same (high k i g (omega arith)) (begin_one spans c z.heads l) (one_others spans c z.heads l k (omega arith)))
    where
      begun_now : (k : ℕ) (i : Instance) → get_elem? is k ≡ some i → k < suc l → (t : Bool) → ltb k l ≡ t
          → Held list (with_heads z (begin_one spans c z.heads l)) k (begin_inst p c i)
      begun_now k i g q true t =
          let r = ltb-true k l t in
          held_same (low k i g r) (begin_one spans c z.heads l) (one_others spans c z.heads l k (omega arith))
      begun_now k i g q false t =
          let r = ltb-false k l t in
          let w : k ≡ l = omega arith in
          subst (λ x. Held list (with_heads z (begin_one spans c z.heads l)) x (begin_inst p c i)) (sym w)
          (one_held z l i (known k i g) (omega arith) (subst (λ x. Held list z x i) w (high k i g r)))

-- the code of a step call says what the call starts
start_inst : (p : Program) (c : StepCall) → RangedCall c → (i : Instance) → started p c i ≡ begin_inst p (start_code c) i
unfolding started called given
start_inst p (global n) h i =
    let d : n / step_names ≡ 0 = omega arith in
    let r : n % step_names ≡ n = omega arith in
    rw (d, r)
start_inst p (local x n) h i = go (eqb i.struct x) refl
  where
    small : n < step_names
    small = h.1

    d : start_code (local x n) / step_names ≡ suc x
    d = omega (arith, small)

    r : start_code (local x n) % step_names ≡ n
    r = omega (arith, small)

    go : (t : Bool) → eqb i.struct x ≡ t → started p (local x n) i ≡ begin_inst p (start_code (local x n)) i
    go true t =
        let s = sym (eqb-true i.struct x t) in
        rw (t, started, called, d, eqb-suc-zero x, eqb-suc-suc x i.struct, eq-eqb x i.struct s, r)
    go false t =
        let s = ne_eqb x i.struct (λ q. eqb-false i.struct x t (sym q)) in
        rw (t, started, called, d, eqb-suc-zero x, eqb-suc-suc x i.struct, s)

-- Machines -----------------------------------------------------------------------

module _ {list items : List ℕ} {q : Sched} {is : List Instance} {b : List Bool} {from : ℕ} {z : State}
    (S : Stands list (At items) (machine q is b from) z) where
  -- the schedule elsewhere, with its entries
  moved_stands : {s : Sched} {a : ℕ} (d : List Bool) {f e : ℕ} → At items a s → f ≡ length d → e ≡ bits d
      → Stands list (At items) (machine s is d from) (moved z a f e)
  moved_stands d {f = f} {e = e} r u v = record {
    heads_long = S.heads_long;
    cells_long = S.cells_long;
    counted = S.counted;
    few = S.few;
    each = λ l i g. held_numbers (S.each l i g);
    opened = u;
    entries = v;
    scheduled = r;
    clear = S.clear;
  }

  module _ (p : Program) (spans : List ℕ) (located : Located p list spans)
      (known : (l : ℕ) (i : Instance) → get_elem? is l ≡ some i → i.struct < structs p) where
    -- a step begins
    abbrev begins : ℕ → State
    begins c =
        with_heads (moved z (suc z.machine.place) z.machine.fixes z.machine.stable) (begin_all spans c z.heads 0 z.machine.count)

    begins_stands : {s : Sched} (c : ℕ) (f : Instance → Instance) → ((i : Instance) → f i ≡ begin_inst p c i)
        → At items (suc z.machine.place) s → Stands list (At items) (machine s (map f is) b from) (begins c)
    begins_stands {s} c f law r = record {
      heads_long = all_length spans c z.heads 0 z.machine.count ∙ S.heads_long;
      cells_long = S.cells_long;
      counted = S.counted ∙ sym (length-map is f);
      few = S.few;
      each = λ l j g.
          let (i, u, v) = map_at f is l j g in
          rw (← v, law i) (held l i u);
      opened = S.opened;
      entries = S.entries;
      scheduled = r;
      clear = S.clear;
    }
      where
        held : (l : ℕ) (i : Instance) → get_elem? is l ≡ some i → Held list (begins c) l (begin_inst p c i)
        held =
            let n = S.counted in
            let w = S.few in
            all_held p list spans located c is known (moved z (suc z.machine.place) z.machine.fixes z.machine.stable) 0 z.machine.count
            S.heads_long (omega arith) (omega arith)
            (λ k i g h. absurd (omega arith)) (λ k i g h. held_numbers (S.each k i g))

    -- and the instances that hold commands are counted
    start_stands : {s : Sched} (c : ℕ) (f : Instance → Instance) → ((i : Instance) → f i ≡ begin_inst p c i)
        → At items (suc z.machine.place) s → Stands list (At items) (machine s (map f is) b from) (do_start spans c z)
    unfolding do_start
    start_stands {s} c f law r = numbered_stands list (At items) (machine s (map f is) b from) (begins c) (begins_stands c f law r) _ z.machine.from

-- what an outcome of the machine's move says of memory
abbrev pub Follows : List ℕ → List ℕ → State → Moved → Type 0
Follows list items y (next m) = Stands list (At items) m y
Follows list items y stuck = ⊥

module _ (p : Program) (list items spans : List ℕ) (located : Located p list spans) (z : State) where
  by : (o : Moved) {y : State} → move_on items spans z ≡ y → Follows list items y o → Follows list items (move_on items spans z) o
  by o e = subst (λ y. Follows list items y o) (sym e)

  moves_by : (s : Sched) (is : List Instance) (b : List Bool) (from : ℕ) → ((l : ℕ) (i : Instance) → get_elem? is l ≡ some i → i.struct < structs p)
      → Stands list (At items) (machine s is b from) z → Open s (length b) → (s ≡ done → ⊥)
      → Follows list items (move_on items spans z) (move_by p s is b from)
  unfolding move_by repeat bits
  moves_by done is b from known S o n = absurd (n refl)
  moves_by (start c s) is b from known S o _ =
      let (h, e, r) = past_start items S.scheduled in
      by (next (machine s (map (started p c) is) b from)) (move_start items spans z e (code_below c h))
      (start_stands S p spans located known (start_code c) (started p c) (start_inst p c h) r)
  moves_by (fixpoint f s) is b from known S o _ =
      let (e, r) = past_fix items S.scheduled in
      by (next (machine (before f (active f s)) is (true ∷ b) from)) (fix_begins items spans z e)
      (moved_stands S (true ∷ b) r (ap suc S.opened) (ap (λ x. suc (2 * x)) S.entries))
  moves_by (active f s) is [] from known S o _ = active_open o refl
  moves_by (active f s) is (true ∷ b) from known S o _ =
      let (t, e, r, w) = past_round items S.scheduled in
      let u : z.machine.stable ≡ suc (2 * bits b) = S.entries in
      let v : z.machine.fixes ≡ suc (length b) = S.opened in
      by (next (machine s is b from)) (round_ends items spans z t e (omega arith)) (moved_stands S b r (omega arith) (omega arith))
  moves_by (active f s) is (false ∷ b) from known S o _ =
      let (t, e, r, w) = past_round items S.scheduled in
      let u : z.machine.stable ≡ 2 * bits b = S.entries in
      by (next (machine (before f (active f s)) is (true ∷ b) from)) (round_again items spans z t e (omega arith))
      (moved_stands S (true ∷ b) w S.opened (omega arith))

  -- memory follows every move of a machine with a schedule that is not at its end
  pub moves : (m : Machine) → ((l : ℕ) (i : Instance) → get_elem? m.instances l ≡ some i → i.struct < structs p)
      → Stands list (At items) m z → Open m.sched (length m.stability) → (m.sched ≡ done → ⊥)
      → Follows list items (move_on items spans z) (move p m)
  moves m known S o n = moves_by m.sched m.instances m.stability m.from known S o n
