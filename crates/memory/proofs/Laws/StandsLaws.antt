-- Laws of memory that holds a machine (01, 'Table and turns'): the actor goes on, with or without a new value on its stack; a
-- variable of an instance is written; the stability entries are multiplied.
use Rattle.std.specs.Prelude.{ℕ, suc, ◌+◌, ◌-◌, ◌*◌, ◌<◌, ◌≤◌, ◌≡◌, refl, Bool, List, ◌∷◌, length, get_or, set, take, drop}
use Rattle.std.proofs.Common.{arith, ap, sym, ◌∙◌, subst, length-set, get_or-set_same, get_or-set_other}
use Rattle.std.proofs.Math.Decide.{ℕ_discrete}
use Rattle.std.proofs.Math.Option.{some}
use Rattle.std.proofs.Math.ListN.{get_elem?}
use Rattle.types.specs.Limits.{max_instances, max_depth, variables}
use Rattle.types.specs.Values.{Val}
use Rattle.commands.specs.Noted.{Note}
use Rattle.machine.specs.Published.{Sched, lookup, assign}
use Rattle.machine.specs.Rules.{meet}
use Rattle.machine.specs.Machine.{Tagged, Instance, Machine, with_env, update_env, with_instances, with_stability, put}
use Rattle.sound.proofs.Laws.ElemLaws.{some_is, at_set_same, at_set_other, at_below}
use Rattle.sound.proofs.Laws.Keeps.{env_length, at_env_same, at_env_other}
use Rattle.sound.proofs.Laws.GoodLaws.{meet_length}
use Rattle.layout.specs.Layout.{end_of, row_size, variable, stacked}
use Rattle.layout.specs.State.{State, of_head, of_cell, with_cells, with_from, with_holding, bit, times}
use Rattle.memory.specs.Act.{gone, pushed}
use Rattle.memory.specs.Stands.{Shows, Stack, note_words, Held, Stands}
use Rattle.memory.specs.Frame.{AllSlim, moved}
use Rattle.memory.proofs.Laws.RowLaws.{going_other, going_length}
use Rattle.memory.proofs.Laws.VarLaws.{assigned_same, assigned_other}
use Rattle.memory.proofs.Laws.HeldLaws.{stack_kept, held_same, held_on, held_numbers}
use Rattle.memory.proofs.Laws.EntriesLaws.{meet_times}

module _ (list : List ℕ) (P : ℕ → Sched → Type 0) (m : Machine) (z : State) (st : Stands list P m z) where
  -- an instance has a row
  pub has_row : (l : ℕ) (i : Instance) → get_elem? m.instances l ≡ some i → l < z.machine.count
  has_row l i at = rw st.counted (at_below m.instances l i at)

  -- the stability entries once a write has multiplied them
  pub settles : (t : Bool) → Stands list P (with_stability m (meet t m.stability)) (times t z)
  settles t = record {
    heads_long = st.heads_long;
    cells_long = st.cells_long;
    counted = st.counted;
    few = st.few;
    each = λ l i at. held_numbers (st.each l i at);
    opened = st.opened ∙ sym (meet_length t m.stability);
    entries = ap (λ (s : ℕ). s * bit t) st.entries ∙ sym (meet_times t m.stability);
    scheduled = st.scheduled;
    clear = st.clear;
  }

  -- whatever number of holders it has, and whichever label turns are counted from
  pub numbered_stands : (n s : ℕ) → Stands list P m (with_from (with_holding z n) s)
  numbered_stands n s = record {
    heads_long = st.heads_long;
    cells_long = st.cells_long;
    counted = st.counted;
    few = st.few;
    each = λ l i at. held_numbers (st.each l i at);
    opened = st.opened;
    entries = st.entries;
    scheduled = st.scheduled;
    clear = st.clear;
  }

  module _ (slim : AllSlim m.instances) where
    -- an instance put back goes on in its row
    moved_stands : (l : ℕ) (i j : Instance) → get_elem? m.instances l ≡ some i → (cs : List ℕ) (h n : ℕ)
        → length cs ≡ row_size * max_instances
        → ((a : ℕ) → (row_size * l ≤ a → a < row_size * l + row_size → ⊥) → get_or cs a 0 ≡ of_cell z a)
        → Held list (moved z cs l h n) l j
        → Stands list P (put m l j) (moved z cs l h n)
    moved_stands l i j at cs h n long apart held = record {
      heads_long = going_length z.heads l h n ∙ st.heads_long;
      cells_long = long;
      counted = st.counted ∙ sym (length-set m.instances l j);
      few = st.few;
      each = λ q x e. go q x e (ℕ_discrete q l);
      opened = st.opened;
      entries = st.entries;
      scheduled = st.scheduled;
      clear = st.clear;
    }
      where
        go : (q : ℕ) (x : Instance) → get_elem? (set m.instances l j) q ≡ some x → Dec (q ≡ l) → Held list (moved z cs l h n) q x
        go q x e (yes r) =
            let w : j ≡ x = some_is (sym (at_set_same m.instances l j i at) ∙ rw r at e) in
            rw (r, ← w) held
        go q x e (no r) =
            let e' : get_elem? m.instances q ≡ some x = sym (at_set_other m.instances l q j r) ∙ e in
            held_same list z (moved z cs l h n) q x
            (record {
              heads = λ a b d. going_other z.heads l h n a (λ y. r (omega arith)) (λ y. r (omega arith));
              cells = λ a b d. apart a (λ y w. r (omega arith));
            })
            (slim q x e')
            (st.each q x e')

    module _ (l : ℕ) (i : Instance) (at : get_elem? m.instances l ≡ some i) (c : List Note) (χ : List Tagged) (w : List ℕ) (h n : ℕ)
        (high : h ≡ length χ) (s : Stack z.cells l χ) (code : take (of_head z l end_of - n) (drop n list) ≡ note_words c) where
      abbrev actor : List Tagged → Instance
      actor ψ = record { struct = i.struct; code = c; stack = ψ; env = i.env; written = w }

      row : l < max_instances
      row = let b = has_row l i at in let f = st.few in omega arith

      -- with the values χ
      pub gone_stands : Stands list P (put m l (actor χ)) (gone z l h n)
      gone_stands =
          moved_stands l i (actor χ) at z.cells h n st.cells_long (λ a f. refl)
          (held_on list z l i (st.each l i at) st.heads_long row (slim l i at) z.cells h n c χ w high code s (λ v b. refl))

      -- with the value x on top of them
      pub pushed_stands : (x : Tagged) (d : ℕ) → h < max_depth → Shows d x.is → Stands list P (put m l (actor (x ∷ χ))) (pushed z l h d n)
      pushed_stands x d b v =
          let cs = set z.cells (stacked l h) d in
          let long : length z.cells ≡ row_size * max_instances = st.cells_long in
          let below : l < max_instances = row in
          let far : (a : ℕ) → (a ≡ stacked l h → ⊥) → get_or cs a 0 ≡ of_cell z a = λ a p. get_or-set_other z.cells (stacked l h) a d 0 p in
          let here : get_or cs (stacked l h) 0 ≡ d = get_or-set_same z.cells (stacked l h) d 0 (omega arith) in
          let here' : get_or cs (stacked l (length χ)) 0 ≡ d = subst (λ (k : ℕ). get_or cs (stacked l k) 0 ≡ d) high here in
          moved_stands l i (actor (x ∷ χ)) at cs (suc h) n (length-set z.cells (stacked l h) d ∙ long)
          (λ a f. far a (λ e. f (omega arith) (omega arith)))
          (held_on list z l i (st.each l i at) st.heads_long below (slim l i at) cs (suc h) n c (x ∷ χ) w (ap suc high) code
          (subst (λ (k : ℕ). Shows k x.is) (sym here') v, stack_kept z.cells cs l χ h (omega arith) (λ k y. far (stacked l k) (λ e. omega arith)) s)
          (λ k y. far (variable l k) (λ e. omega arith)))

    -- variable v of the instance r is written
    pub stored_stands : (r : ℕ) (j : Instance) → get_elem? m.instances r ≡ some j → (v : ℕ) → v < variables → (d : ℕ) (x : Val) → Shows d x
        → Stands list P (with_instances m (update_env m.instances r (assign j.env v x))) (with_cells z (set z.cells (variable r v) d))
    stored_stands r j at v small d x s = record {
      heads_long = st.heads_long;
      cells_long = length-set z.cells (variable r v) d ∙ st.cells_long;
      counted = st.counted ∙ sym (env_length m.instances r (assign j.env v x));
      few = st.few;
      each = λ q y e. go q y e (ℕ_discrete q r);
      opened = st.opened;
      entries = st.entries;
      scheduled = st.scheduled;
      clear = st.clear;
    }
      where
        far : (a : ℕ) → (a ≡ variable r v → ⊥) → get_or (set z.cells (variable r v) d) a 0 ≡ of_cell z a
        far a p = get_or-set_other z.cells (variable r v) a d 0 p

        var : (u : ℕ) (y : Val) → Dec (u ≡ v) → lookup (assign j.env v x) u ≡ some y
            → Shows (get_or (set z.cells (variable r v) d) (variable r u) 0) y
        var u y (yes q) e =
            let b : r < z.machine.count = has_row r j at in
            let f : z.machine.count ≤ max_instances = st.few in
            let long : length z.cells ≡ row_size * max_instances = st.cells_long in
            let here : get_or (set z.cells (variable r v) d) (variable r v) 0 ≡ d = get_or-set_same z.cells (variable r v) d 0 (omega arith) in
            let w : x ≡ y = assigned_same j.env v x y (rw q at e) in
            rw (q, here, ← w) s
        var u y (no q) e =
            rw (far (variable r u) (λ h. q (omega arith)))
            ((st.each r j at).vars u y (sym (assigned_other j.env v u x q) ∙ e))

        go : (q : ℕ) (y : Instance) → get_elem? (update_env m.instances r (assign j.env v x)) q ≡ some y → Dec (q ≡ r)
            → Held list (with_cells z (set z.cells (variable r v) d)) q y
        go q y e (yes p) =
            let h = st.each r j at in
            let w : with_env j (assign j.env v x) ≡ y = some_is (sym (at_env_same m.instances r (assign j.env v x) j at) ∙ rw p at e) in
            rw (p, ← w)
            (record {
              struct = h.struct;
              height = h.height;
              within = h.within;
              code = h.code;
              stack =
                  stack_kept z.cells (set z.cells (variable r v) d) r j.stack (length j.stack) (omega arith)
                  (λ k b. far (stacked r k) (λ f. omega arith))
                  h.stack;
              vars = λ u y a. var u y (ℕ_discrete u v) a;
            })
        go q y e (no p) =
            let e' : get_elem? m.instances q ≡ some y = sym (at_env_other m.instances r q (assign j.env v x) p) ∙ e in
            held_same list z (with_cells z (set z.cells (variable r v) d)) q y
            (record { heads = λ a b c. refl; cells = λ a b c. far a (λ f. p (omega arith)) })
            (slim q y e')
            (st.each q y e')
