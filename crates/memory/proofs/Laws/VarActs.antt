-- rd and wr come to the same in memory (000's rules ComRd, ComWr, ComWrNSkip).
use Prim.Native.Nat.{ℕ, suc, ◌+◌, ◌-◌, ◌<◌, ◌≤◌}
use Rattle.std.proofs.Common.{arith, sym, ◌∙◌}
use Rattle.std.proofs.Math.Decide.{ℕ_discrete}
use Rattle.std.specs.Prelude.{◌≡◌, Bool, get_or, set}
use Rattle.std.proofs.Math.Path.{refl, ap, subst}
use Rattle.std.proofs.Math.Bool.{true, false}
use Rattle.std.proofs.Math.Option.{Option, none, some}
use mathlib.Core.List.{List, ◌∷◌}
use Rattle.std.proofs.Math.ListN.{length, get_elem?}
use Rattle.std.proofs.Math.Dec.{eqb, ltb}
use borrow.Author.Tests.{lt-ltb, le-ltb}
use Rattle.types.specs.Limits.{max_depth, first_local, max_locals, variables}
use Rattle.types.specs.Types.{Ty, Ty.int}
use Rattle.types.specs.Values.{Val, Val.label, word}
use Rattle.program.specs.Tree.{Program}
use Rattle.commands.specs.Context.{params_of}
use Rattle.commands.specs.Noted.{Note, Note.n_rd, Note.n_wr, Note.n_get, Note.n_set, now_written}
use Rattle.operators.specs.Apply.{same_val}
use Rattle.machine.specs.Published.{Sched, Env, lookup, assign, structs, arity}
use Rattle.machine.specs.Rules.{meet}
use Rattle.machine.specs.Machine.{Tagged, tagged, Source, Source.variable as from_variable, Source.local, given_by, Instance, Machine, with_code}
use Rattle.machine.specs.Machine.{with_written, with_instances, with_stability, put, update_env, leaves_stable, read, write_to, write, perform}
use Rattle.sound.specs.Needs.{ValueAmong, Needs}
use Rattle.sound.specs.Invariant.{Good}
use Rattle.sound.specs.Firm.{Firm}
use Rattle.sound.proofs.Laws.ElemLaws.{some_is, at_set_same, at_set_other}
use Rattle.sound.proofs.Laws.EnvLaws.{param_holds}
use Rattle.sound.proofs.Laws.ValueLaws.{label_value, ranges}
use Rattle.sound.proofs.Laws.Outcomes.{has_read, leaves_null, writes_param, writes_local}
use Rattle.sound.proofs.Laws.WriteKept.{same_env}
use Rattle.layout.specs.Layout.{struct_of, variable, operand}
use Rattle.layout.specs.State.{State, of_head, of_cell}
use Rattle.memory.specs.Act.{gone, height, after, top, beneath, do_rd, do_wr, stored, written, written_to}
use Rattle.memory.specs.Stands.{Shows, Stack, Stands}
use Rattle.memory.specs.Frame.{Slim, AllSlim, Bounded, After, Goes}
use Rattle.memory.proofs.Laws.CellLaws.{shown_operand, same_words}
use Rattle.memory.proofs.Laws.HeldLaws.{holds_after, holds_label, holds_beneath}
use Rattle.memory.proofs.Laws.EntriesLaws.{times_one}
use Rattle.memory.proofs.Laws.StandsLaws.{settles, gone_stands, pushed_stands, stored_stands}
use Rattle.memory.proofs.Laws.ActorLaws.{counts_length, count_of, good_slim, actor_needs, actor_sized}

-- what a write comes to, by its tests
module _ (counts : List ℕ) (l : ℕ) (z : State) (r x d a : ℕ) (count : get_or counts (of_head z r struct_of) 0 ≡ a) where
  written_null : ltb x a ≡ true → ltb r (length counts) ≡ true → written_to counts l z r x d ≡ gone z l (height counts l z - 2) (after counts l z)
  unfolding written_to
  written_null h k = rw (written_to, count, h, k)

  written_param : ltb x a ≡ true → ltb r (length counts) ≡ false → written_to counts l z r x d ≡ written counts l z r x d
  unfolding written_to
  written_param h k = rw (written_to, count, h, k)

  written_local : ltb x a ≡ false → written_to counts l z r x d ≡ stored counts l z r x d
  unfolding written_to
  written_local h = rw (written_to, count, h)

-- whether a write leaves the stability entries
settled_param : (p : Program) (k v : ℕ) (x y : Val) (o : Option Val) → o ≡ some y → ltb v (arity p k) ≡ true → leaves_stable p k v x o ≡ same_val y x
unfolding leaves_stable
settled_param p k v x y o e h = rw (e, leaves_stable, h)

settled_local : (p : Program) (k v : ℕ) (x : Val) (o : Option Val) → ltb v (arity p k) ≡ false → leaves_stable p k v x o ≡ true
unfolding leaves_stable
settled_local p k v x none h = refl
settled_local p k v x (some y) h = rw (leaves_stable, h)

-- an instance put back in its row
slim_put : (is : List Instance) (l : ℕ) (i a : Instance) → get_elem? is l ≡ some i → AllSlim is → Slim a → AllSlim (set is l a)
slim_put is l i a at slim s q x e = go (ℕ_discrete q l)
  where
    go : Dec (q ≡ l) → Slim x
    go (yes r) =
        let w : a ≡ x = some_is (sym (at_set_same is l a i at) ∙ rw r at e) in
        rw (← w) s
    go (no r) = slim q x (sym (at_set_other is l q a r) ∙ e)

module _ {p : Program} {counts : List ℕ} (firm : Firm p) (bound : Bounded p counts) {m : Machine} (good : Good p m)
    (list : List ℕ) (P : ℕ → Sched → Type 0) (z : State) (st : Stands list P m z)
    (l : ℕ) (i : Instance) (at : get_elem? m.instances l ≡ some i) (c : List Note) where
  slim : AllSlim m.instances
  slim = good_slim firm bound good

  abbrev acting : Note → Instance
  acting n = with_written i (now_written n i.written)

  -- rd of a variable that has a value
  reads : (n : Note) → i.code ≡ n ∷ c → (v : ℕ) (t : ℕ → Source) (x : Tagged) (χ : List Tagged) → i.stack ≡ x ∷ χ → (r : ℕ) → x.is ≡ label r
      → (j : Instance) → get_elem? m.instances r ≡ some j → (y : Val) → lookup j.env v ≡ some y
      → After list P z (do_rd counts l z v) (read p m l (acting n) c i.stack v t)
  unfolding do_rd
  reads n e v t x χ s r q j at' y b =
      let held = st.each l i at in
      let d : Stack z.cells l (x ∷ χ) = rw s at held.stack in
      let h : height counts l z ≡ length i.stack = held.height in
      let k : length i.stack ≡ suc (length χ) = ap length s in
      let f : length i.stack ≤ max_depth = (slim l i at).low in
      subst (After list P z (do_rd counts l z v)) (sym (has_read p m l (acting n) c v t (s ∙ ap (λ u. tagged x.by u ∷ χ) q) at' b))
      (pushed_stands list P m z st slim l i at c χ (now_written n i.written) (height counts l z - 1) (after counts l z) (omega arith) d.1
      (holds_after list z l i held n c e counts)
      (tagged (given_by p (t j.struct)) y)
      (of_cell z (variable (operand (top counts l z)) v))
      (omega arith)
      (subst (λ (a : ℕ). Shows (of_cell z (variable a v)) y) (sym (holds_label list z l i held counts x χ s r q)) ((st.each r j at').vars v y b)))

  pub reads_param : (k v : ℕ) → Goes p counts m list P z l i c (n_rd k v)
  unfolding perform
  reads_param k v e =
      let (x, (χ, s), b, (f, o)) = actor_needs firm bound good l i at (n_rd k v) c e in
      let (r, q, j, at', w) = label_value m.instances k x.is o in
      let b' : v < length (params_of p j.struct) = rw w b in
      let (y, g, o') = param_holds m.instances (params_of p j.struct) (firm.few j.struct) v b' j.env (good.all.each r j at').fitted in
      reads (n_rd k v) e v (λ d. from_variable d v) x χ s r q j at' y g

  pub reads_local : (t : Ty) (v : ℕ) → Goes p counts m list P z l i c (n_get t v)
  unfolding perform
  reads_local t v e =
      let (x, (χ, s), (f, q), (d, y, g, o)) = actor_needs firm bound good l i at (n_get t v) c e in
      reads (n_get t v) e (first_local + v) (λ d. local t) x χ s l q i at y g

  module _ (n : Note) (e : i.code ≡ n ∷ c) (v : ℕ) (small : v < variables) (y x : Tagged) (χ : List Tagged) (s : i.stack ≡ y ∷ x ∷ χ)
      (r : ℕ) (q : y.is ≡ label r) (j : Instance) (at' : get_elem? m.instances r ≡ some j) where
    abbrev actor : Instance
    actor = with_code (acting n) c χ

    s' : i.stack ≡ tagged y.by (label r) ∷ x ∷ χ
    s' = s ∙ ap (λ u. tagged y.by u ∷ x ∷ χ) q

    low : length χ ≤ max_depth
    low =
        let k : length i.stack ≡ suc (suc (length χ)) = ap length s in
        let f : length i.stack ≤ max_depth = (slim l i at).low in
        omega arith

    -- the actor alone
    leaves : Stands list P (put m l actor) (gone z l (height counts l z - 2) (after counts l z))
    leaves =
        let held = st.each l i at in
        let d : Stack z.cells l (y ∷ x ∷ χ) = rw s at held.stack in
        let h : height counts l z ≡ length i.stack = held.height in
        let k : length i.stack ≡ suc (suc (length χ)) = ap length s in
        gone_stands list P m z st slim l i at c χ (now_written n i.written) (height counts l z - 2) (after counts l z) (omega arith) d.1.1
        (holds_after list z l i held n c e counts)

    -- and the variable
    stores : Stands list P (with_instances m (update_env (set m.instances l actor) r (assign j.env v x.is)))
        (stored counts l z r v (beneath counts l z))
    stores =
        let (j', b, k, g) = same_env m.instances l r i j actor at at' refl refl in
        let slim' : AllSlim (set m.instances l actor) =
        slim_put m.instances l i actor at slim (record { low = low; near = (slim l i at).near }) in
        subst (λ (ξ : Env). Stands list P (with_instances m (update_env (set m.instances l actor) r (assign ξ v x.is)))
        (stored counts l z r v (beneath counts l z))) g
        (stored_stands list P (put m l actor) (gone z l (height counts l z - 2) (after counts l z)) leaves slim' r j' b v small (beneath counts l z) x.is
        (holds_beneath list z l i (st.each l i at) counts y x χ s))

    count : get_or counts (of_head z r struct_of) 0 ≡ arity p j.struct
    count = ap (λ (k : ℕ). get_or counts k 0) (st.each r j at').struct ∙ count_of bound j.struct

    -- wr of memory goes to the instance on top
    goes_to : do_wr counts l z v ≡ written_to counts l z r v (beneath counts l z)
    unfolding do_wr
    goes_to = ap (λ (a : ℕ). written_to counts l z a v (beneath counts l z)) (holds_label list z l i (st.each l i at) counts y (x ∷ χ) s r q)

    writes_null : ltb v (arity p j.struct) ≡ true → ltb r (structs p) ≡ true
        → After list P z (do_wr counts l z v) (write p m l (acting n) c i.stack v)
    writes_null h k =
        let k' : ltb r (length counts) ≡ true = rw (counts_length bound) k in
        subst (After list P z (do_wr counts l z v)) (sym (leaves_null p m l (acting n) c v s' at' h k))
        (subst (λ (u : State). Stands list P (put m l actor) u)
        (sym (goes_to ∙ written_null counts l z r v (beneath counts l z) (arity p j.struct) count h k')) leaves)

    writes_other : ltb v (arity p j.struct) ≡ true → ltb r (structs p) ≡ false → (w : Val) → lookup j.env v ≡ some w
        → (t : Ty) → ValueAmong m.instances t w → ValueAmong m.instances t x.is
        → After list P z (do_wr counts l z v) (write p m l (acting n) c i.stack v)
    unfolding write_to written
    writes_other h k w b t ow ox =
        let k' : ltb r (length counts) ≡ false = rw (counts_length bound) k in
        let f : operand (of_cell z (variable r v)) ≡ word w = shown_operand (of_cell z (variable r v)) w ((st.each r j at').vars v w b) in
        let g : operand (beneath counts l z) ≡ word x.is =
        shown_operand (beneath counts l z) x.is (holds_beneath list z l i (st.each l i at) counts y x χ s) in
        let same : leaves_stable p j.struct v x.is (lookup j.env v) ≡ eqb (operand (of_cell z (variable r v))) (operand (beneath counts l z)) =
        settled_param p j.struct v x.is w (lookup j.env v) b h
        ∙ same_words w x.is (ranges m.instances t w ow) (ranges m.instances t x.is ox)
        ∙ rw (f, g) in
        let m' = with_instances m (update_env (set m.instances l actor) r (assign j.env v x.is)) in
        subst (After list P z (do_wr counts l z v)) (sym (writes_param p m l (acting n) c v s' at' h k b))
        (subst (λ (u : State). Stands list P (with_stability m' (meet (leaves_stable p j.struct v x.is (lookup j.env v)) m.stability)) u)
        (sym (goes_to ∙ written_param counts l z r v (beneath counts l z) (arity p j.struct) count h k'))
        (subst (λ (t : Bool). Stands list P (with_stability m' (meet t m.stability)) (written counts l z r v (beneath counts l z))) (sym same)
        (settles list P m' (stored counts l z r v (beneath counts l z)) stores (eqb (operand (of_cell z (variable r v))) (operand (beneath counts l z))))))

    writes_var : ltb v (arity p j.struct) ≡ false → After list P z (do_wr counts l z v) (write p m l (acting n) c i.stack v)
    unfolding write_to
    writes_var h =
        let m' = with_instances m (update_env (set m.instances l actor) r (assign j.env v x.is)) in
        subst (After list P z (do_wr counts l z v)) (sym (writes_local p m l (acting n) c v s' at' h))
        (subst (λ (u : State). Stands list P (with_stability m' (meet (leaves_stable p j.struct v x.is (lookup j.env v)) m.stability)) u)
        (sym (goes_to ∙ written_local counts l z r v (beneath counts l z) (arity p j.struct) count h))
        (subst (λ (t : Bool). Stands list P (with_stability m' (meet t m.stability)) (stored counts l z r v (beneath counts l z)))
        (sym (settled_local p j.struct v x.is (lookup j.env v) h))
        (subst (Stands list P (with_stability m' (meet true m.stability))) (times_one (stored counts l z r v (beneath counts l z)))
        (settles list P m' (stored counts l z r v (beneath counts l z)) stores true))))

  pub writes : (k v : ℕ) → Goes p counts m list P z l i c (n_wr k v)
  unfolding perform
  writes k v e =
      let (x, y, (χ, s), b, (f, o), (g, a)) = actor_needs firm bound good l i at (n_wr k v) c e in
      let (r, q, j, at', w) = label_value m.instances k y.is o in
      let b' : v < arity p j.struct = rw w b in
      let few : length (params_of p j.struct) ≤ first_local = firm.few j.struct in
      let (u, d, o') = param_holds m.instances (params_of p j.struct) few v b' j.env (good.all.each r j at').fitted in
      let h : ltb v (arity p j.struct) ≡ true = lt-ltb v (arity p j.struct) b' in
      let a' : ValueAmong m.instances (get_or (params_of p j.struct) v int) x.is =
      subst (λ (d : ℕ). ValueAmong m.instances (get_or (params_of p d) v int) x.is) (sym w) a in
      go x y χ s r q j at' (omega arith) h u d (get_or (params_of p j.struct) v int) o' a' (ltb r (structs p)) refl
    where
      go : (x y : Tagged) (χ : List Tagged) → i.stack ≡ y ∷ x ∷ χ → (r : ℕ) → y.is ≡ label r → (j : Instance) → get_elem? m.instances r ≡ some j
          → v < variables → ltb v (arity p j.struct) ≡ true
          → (u : Val) → lookup j.env v ≡ some u → (t : Ty) → ValueAmong m.instances t u → ValueAmong m.instances t x.is
          → (b : Bool) → ltb r (structs p) ≡ b
          → After list P z (do_wr counts l z v) (write p m l (acting (n_wr k v)) c i.stack v)
      go x y χ s r q j at' small h u d t o o' true k' = writes_null (n_wr k v) e v small y x χ s r q j at' h k'
      go x y χ s r q j at' small h u d t o o' false k' = writes_other (n_wr k v) e v small y x χ s r q j at' h k' u d t o o'

  -- a local of the actor, its declaration's or another
  pub own_local : (d : Bool) (t : Ty) (v : ℕ) → Needs p m l i (n_set d t v)
      → (x : Tagged) × (y : Tagged) × (χ : List Tagged) × (i.stack ≡ y ∷ x ∷ χ) × (y.is ≡ label l)
  own_local true t v a = let (x, y, (χ, s), (f, q), o) = a in (x, y, χ, s, q)
  own_local false t v a = let (x, y, (χ, s), (f, q), o, w) = a in (x, y, χ, s, q)

  pub writes_own : (d : Bool) (t : Ty) (v : ℕ) → Goes p counts m list P z l i c (n_set d t v)
  unfolding perform
  writes_own d t v e =
      let (x, y, χ, s, q) = own_local d t v (actor_needs firm bound good l i at (n_set d t v) c e) in
      let b : v < max_locals = actor_sized firm bound good l i at (n_set d t v) c e in
      let few : length (params_of p i.struct) ≤ first_local = firm.few i.struct in
      writes_var (n_set d t v) e (first_local + v) (omega arith) y x χ s l q i at (le-ltb (first_local + v) (arity p i.struct) (omega arith))
