-- Memory that holds a machine holds it with one instance more (01, 'Table and turns'; 000, rule ComCons): its row is the first that
-- was free, and the values on the actor's stack are its parameters.
use Rattle.std.specs.Prelude.{ℕ, zero, suc, ◌+◌, ◌*◌, ◌<◌, ◌≤◌, ◌≡◌, ◌⊎◌, get_or, take, drop}
use Rattle.std.proofs.Common.{arith, sym, ◌∙◌, subst, inl, inr, length-append, get_or-take, get_or-drop}
use Rattle.std.proofs.Math.Option.{some}
use mathlib.Core.List.{List, [], ◌∷◌, ◌++◌, map, reverse, reverse_aux}
use Rattle.std.proofs.Math.ListN.{length, get_elem?}
use Rattle.std.proofs.lemmas.List.{length-map, length-reverse}
use Rattle.std.proofs.lemmas.List.Edits.{sets}
use Rattle.std.proofs.Math.Seq.{length-sets}
use Rattle.types.specs.Limits.{max_instances, first_local, variables}
use Rattle.types.specs.Values.{Val}
use Rattle.commands.specs.Coding.{words}
use Rattle.machine.specs.Published.{Sched}
use Rattle.machine.specs.Machine.{Tagged, Instance, Machine, with_instances}
use Rattle.run.specs.Begin.{resting}
use Rattle.sound.proofs.Laws.ElemLaws.{none_some, some_is, at_snoc, at_below}
use Rattle.layout.specs.Layout.{head_size, struct_of, height_of, next_of, end_of, row_size, stacked, new_head}
use Rattle.layout.specs.State.{State, of_head, with_heads, with_cells, with_count}
use Rattle.memory.specs.Stands.{Shows, Stack, Held, Stands}
use Rattle.memory.specs.Frame.{Slim, AllSlim}
use Rattle.memory.proofs.Laws.RowLaws.{sets_other, sets_at}
use Rattle.memory.proofs.Laws.VarLaws.{fresh_var}
use Rattle.memory.proofs.Laws.HeldLaws.{held_same}
use Rattle.memory.proofs.Laws.StandsLaws.{has_row}

-- memory with one instance more, of struct k, with these cells for its first variables
abbrev pub with_new : State → ℕ → List ℕ → State
with_new z k ws =
    with_count (with_cells (with_heads z (sets z.heads (head_size * z.machine.count) (new_head k)))
    (sets z.cells (row_size * z.machine.count) ws)) (suc z.machine.count)

module _ (list : List ℕ) (P : ℕ → Sched → Type 0) (m : Machine) (z : State) (st : Stands list P m z) (slim : AllSlim m.instances)
    (room : z.machine.count < max_instances) (k : ℕ) (ws : List ℕ) (vs : List Val) (same : length vs ≡ length ws) (few : length ws ≤ variables)
    (shown : (v : ℕ) (x : Val) → get_elem? vs v ≡ some x → Shows (get_or ws v 0) x) where
  -- number f of the new instance
  new_number : (f : ℕ) → f < head_size → of_head (with_new z k ws) z.machine.count f ≡ get_or (new_head k) f 0
  new_number f b =
      let long : length z.heads ≡ head_size * max_instances = st.heads_long in
      sets_at z.heads (head_size * z.machine.count) (new_head k) f b (omega arith)

  new_held : Held list (with_new z k ws) z.machine.count (resting k vs)
  unfolding words
  new_held = record {
    struct = new_number struct_of (omega arith);
    height = new_number height_of (omega arith);
    within = rw (new_number end_of (omega arith)) (omega arith);
    code = rw (new_number end_of (omega arith), new_number next_of (omega arith));
    stack = tt;
    vars = λ v x e.
        let (q, b) = fresh_var vs v x e in
        let long : length z.cells ≡ row_size * max_instances = st.cells_long in
        rw (sets_at z.cells (row_size * z.machine.count) ws v (omega arith) (omega arith)) (shown v x q);
  }

  old_held : (l : ℕ) (i : Instance) → get_elem? m.instances l ≡ some i → Held list (with_new z k ws) l i
  old_held l i at =
      let b : l < z.machine.count = has_row list P m z st l i at in
      held_same list z (with_new z k ws) l i
      (record {
        heads = λ a c d. sets_other z.heads (head_size * z.machine.count) (new_head k) a (λ e f. omega arith);
        cells = λ a c d. sets_other z.cells (row_size * z.machine.count) ws a (λ e f. omega arith);
      })
      (slim l i at)
      (st.each l i at)

  -- an instance of struct k with the values vs, which the cells ws show
  pub new_stands : Stands list P (with_instances m (m.instances ++ resting k vs ∷ [])) (with_new z k ws)
  new_stands = record {
    heads_long = length-sets z.heads (head_size * z.machine.count) (new_head k) ∙ st.heads_long;
    cells_long = length-sets z.cells (row_size * z.machine.count) ws ∙ st.cells_long;
    counted =
        let n : length (m.instances ++ resting k vs ∷ []) ≡ length m.instances + 1 = length-append m.instances (resting k vs ∷ []) in
        let c : z.machine.count ≡ length m.instances = st.counted in
        omega arith;
    few = omega arith;
    each = λ l i e. go l i (at_snoc m.instances (resting k vs) l i e);
    opened = st.opened;
    entries = st.entries;
    scheduled = st.scheduled;
    clear = st.clear;
  }
    where
      go : (l : ℕ) (i : Instance) → (get_elem? m.instances l ≡ some i) ⊎ ((l ≡ length m.instances) × (resting k vs ≡ i))
          → Held list (with_new z k ws) l i
      go l i (inl at) = old_held l i at
      go l i (inr h) =
          let q : l ≡ z.machine.count = h.0 ∙ sym st.counted in
          let w : resting k vs ≡ i = h.1 in
          rw (q, ← w) new_held

-- all of them have room in a row
pub new_slim : (is : List Instance) → AllSlim is → (k : ℕ) (vs : List Val) → length vs ≤ first_local → AllSlim (is ++ resting k vs ∷ [])
new_slim is slim k vs few l i e = go (at_snoc is (resting k vs) l i e)
  where
    go : (get_elem? is l ≡ some i) ⊎ ((l ≡ length is) × (resting k vs ≡ i)) → Slim i
    go (inl at) = slim l i at
    go (inr h) =
        rw (← h.1)
        (record { low = omega arith; near = λ v x q. let (p, b) = fresh_var vs v x q in omega arith })

-- Values on a stack, from below ---------------------------------------------------

-- the values of ξ, which stand above b others
module _ (cs : List ℕ) (l b : ℕ) where
  abbrev Row : ℕ → List Val → Type 0
  Row h vs = (v : ℕ) (x : Val) → get_elem? vs v ≡ some x → Shows (get_or cs (stacked l h + v) 0) x

  row_cons : (h : ℕ) (x : Val) (vs : List Val) → Shows (get_or cs (stacked l h) 0) x → Row (suc h) vs → Row h (x ∷ vs)
  row_cons h x vs s r zero y e =
      let q : stacked l h ≡ stacked l h + 0 = omega arith in
      subst (λ (w : Val). Shows (get_or cs (stacked l h + 0) 0) w) (some_is e) (subst (λ (a : ℕ). Shows (get_or cs a 0) x) q s)
  row_cons h x vs s r (suc v) y e =
      let q : stacked l (suc h) + v ≡ stacked l h + suc v = omega arith in
      subst (λ (a : ℕ). Shows (get_or cs a 0) y) q (r v y e)

  row_onto : (ξ χ : List Tagged) → length χ ≡ b → Stack cs l (ξ ++ χ) → (vs : List Val) → Row (b + length ξ) vs
      → Row b (reverse_aux (map (λ x. x.is) ξ) vs)
  row_onto [] χ n s vs r =
      let q : b + 0 ≡ b = omega arith in
      λ v x e. subst (λ (a : ℕ). Shows (get_or cs (stacked l a + v) 0) x) q (r v x e)
  row_onto (x ∷ ξ) χ n s vs r =
      let c : length (ξ ++ χ) ≡ length ξ + length χ = length-append ξ χ in
      let q : length (ξ ++ χ) ≡ b + length ξ = omega arith in
      let p : b + suc (length ξ) ≡ suc (b + length ξ) = omega arith in
      row_onto ξ χ n s.1 (x.is ∷ vs)
      (row_cons (b + length ξ) x.is vs (subst (λ (a : ℕ). Shows (get_or cs (stacked l a) 0) x.is) q s.0)
      (subst (λ (a : ℕ). Row a vs) p r))

-- the values ξ above χ, the lowest first, are shown one behind the other
pub row_shows : (cs : List ℕ) (l n : ℕ) (ξ χ : List Tagged) → n ≡ length χ → Stack cs l (ξ ++ χ) → (v : ℕ) (x : Val)
    → get_elem? (reverse (map (λ x. x.is) ξ)) v ≡ some x
    → Shows (get_or (take (length ξ) (drop (stacked l n) cs)) v 0) x
row_shows cs l n ξ χ q s v x e =
    let vs = reverse (map (λ x. x.is) ξ) in
    let a : v < length vs = at_below vs v x e in
    let b : length vs ≡ length ξ = length-reverse (map (λ x. x.is) ξ) ∙ length-map ξ (λ x. x.is) in
    let h : v < length ξ = omega arith in
    rw (get_or-take (length ξ) (drop (stacked l n) cs) v 0 h, get_or-drop (stacked l n) cs v 0)
    (row_onto cs l n ξ χ (sym q) s [] (λ k y f. none_some f) v x e)
