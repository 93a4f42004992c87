-- Through a run the null instances keep their defaults, and there are at most 256 instances of the program's structs
-- (01, 'Table and turns').
use Rattle.std.specs.Prelude.{ℕ, ◌-◌, ◌<◌, ◌≤◌, ◌≡◌, refl, Bool, true, false, ◌⊎◌, set, ltb}
use Rattle.std.proofs.Common.{arith, zero-add, ap, ◌∙◌, subst, inl, inr, length-set}
use Rattle.std.proofs.Math.Decide.{ℕ_discrete}
use Rattle.std.proofs.Math.Path.{sym}
use Rattle.std.proofs.Math.Option.{Option, none, some}
use mathlib.Core.List.{List, [], ◌∷◌, ◌++◌, map}
use Rattle.std.proofs.Math.ListN.{length, get_elem?, length-map, length-append}
use Rattle.std.proofs.Math.Seq.{set_out}
use Rattle.types.specs.Limits.{first_local, max_instances}
use Rattle.types.specs.Values.{Val, default}
use Rattle.program.specs.Tree.{Stmts, Program}
use Rattle.commands.specs.Context.{params_of}
use Rattle.commands.specs.Noted.{Note, Note.n_cons, now_written}
use Rattle.table.specs.Table.{Record, HeldRecord, HeldTable, TableRight}
use Rattle.machine.specs.Published.{StepCall, called, Sched, Sched.done, Sched.start, Sched.fixpoint, Sched.active, Env, Env.env, assign, structs}
use Rattle.machine.specs.Machine.{Instance, Machine, Out, Out.next, Out.refused, Out.stuck, Moved, Moved.next, Moved.stuck, with_code, with_env, with_written}
use Rattle.machine.specs.Machine.{update_env, given, started, repeat, move_by, command}
use Rattle.machine.specs.Performed.{Performed, Performed.pushed, Performed.pushed_this, Performed.negated, Performed.read_one, Performed.skipped}
use Rattle.machine.specs.Performed.{Performed.wrote, Performed.calculated, Performed.exceeding, Performed.constructed, Performed.filled, Performed.branched}
use Rattle.machine.specs.Performed.{Performed.no_way}
use Rattle.machine.proofs.Laws.PerformedLaws.{by_ways}
use Rattle.run.specs.Turns.{chosen}
use Rattle.run.specs.Holders.{holders}
use Rattle.run.proofs.Laws.StepsLaws.{steps_keep}
use Rattle.run.specs.Visits.{Acts, Acts.moves, Acts.takes, Visits}
use Rattle.run.specs.Begin.{params_in, resting, nulls, first_instances, begin}
use Rattle.sound.specs.Invariant.{Place, Good}
use Rattle.sound.specs.Firm.{Firm}
use Rattle.sound.specs.Tabled.{TabledInst, Tabled}
use Rattle.sound.proofs.Laws.ElemLaws.{some_is, at_set_same, at_set_other, at_snoc, at_joined, at_below, map_at, all_elem}
use Rattle.sound.proofs.Laws.Keeps.{env_length, at_env_same, at_env_other}
use Rattle.sound.proofs.Laws.PassageLaws.{holder_passage, first_held, next_sized}
use Rattle.sound.proofs.Laws.CommandKept.{turning_good}
use Rattle.sound.proofs.Laws.WriteKept.{same_env}
use Rattle.sound.proofs.Laws.BeginGood.{nulls_length, null_at}
use Rattle.sound.proofs.Laws.NeverStuckLaws.{acts_good}

-- Changes of the instances ---------------------------------------------------------

-- a write past the parameters leaves them
past_params : (ξ : Env) (v : ℕ) (x : Val) → length (params_in ξ) ≤ v → params_in (assign ξ v x) ≡ params_in ξ
unfolding assign
past_params (env ps ls) v x h = go (ltb v first_local)
  where
    go : (t : Bool) → params_in (elim t [ true ↦ env (set ps v x) ls | false ↦ env ps (set ls (v - first_local) (some x)) ]) ≡ ps
    go true = set_out ps v x h
    go false = refl

module _ (p : Program) {is : List Instance} (t : Tabled p is) where
  -- an instance put back
  tabled_set : (l : ℕ) (i j : Instance) → get_elem? is l ≡ some i → TabledInst p l j → Tabled p (set is l j)
  tabled_set l i j at h =
      record { null_ones = rw (length-set is l j) t.null_ones; few = rw (length-set is l j) t.few; each = λ n x e. go n x e (ℕ_discrete n l) }
    where
      go : (n : ℕ) (x : Instance) → get_elem? (set is l j) n ≡ some x → Dec (n ≡ l) → TabledInst p n x
      go n x e (yes q) = let w : j ≡ x = some_is (sym (at_set_same is l j i at) ∙ rw q at e) in rw (q, ← w) h
      go n x e (no q) = t.each n x (sym (at_set_other is l n j q) ∙ e)

  -- an environment changed
  tabled_env : (l : ℕ) (i : Instance) (ξ : Env) → get_elem? is l ≡ some i → TabledInst p l (with_env i ξ) → Tabled p (update_env is l ξ)
  tabled_env l i ξ at h =
      record { null_ones = rw (env_length is l ξ) t.null_ones; few = rw (env_length is l ξ) t.few; each = λ n x e. go n x e (ℕ_discrete n l) }
    where
      go : (n : ℕ) (x : Instance) → get_elem? (update_env is l ξ) n ≡ some x → Dec (n ≡ l) → TabledInst p n x
      go n x e (yes q) = let w : with_env i ξ ≡ x = some_is (sym (at_env_same is l ξ i at) ∙ rw q at e) in rw (q, ← w) h
      go n x e (no q) = t.each n x (sym (at_env_other is l n ξ q) ∙ e)

  -- one more after them
  tabled_more : (j : Instance) → length is < max_instances → j.struct < structs p → Tabled p (is ++ j ∷ [])
  tabled_more j room below =
      let few = t.null_ones in
      let size = length-append is (j ∷ []) in
      record { null_ones = omega arith; few = omega arith; each = λ n x e. go n x (at_snoc is j n x e) }
    where
      go : (n : ℕ) (x : Instance) → (get_elem? is n ≡ some x) ⊎ ((n ≡ length is) × (j ≡ x)) → TabledInst p n x
      go n x (inl e) = t.each n x e
      go n x (inr (q, w)) = let s = t.null_ones in rw (← w) (below, λ b. absurd (omega arith))

  -- each changed, its struct and its environment kept
  tabled_map : (f : Instance → Instance) → ((i : Instance) → ((f i).struct ≡ i.struct) × ((f i).env ≡ i.env)) → Tabled p (map f is)
  tabled_map f same = record {
    null_ones = rw (length-map is f) t.null_ones;
    few = rw (length-map is f) t.few;
    each = λ l x e.
        let (i, q, z) = map_at f is l x e in
        let (s, d) = same i in
        let (a, b) = t.each l i q in
        rw (← z, s, d) (a, b);
  }

-- Schedule moves -------------------------------------------------------------------

module _ (p : Program) where
  -- what a move comes to
  abbrev MovesTo : Moved → Type 0
  MovesTo (next m) = Tabled p m.instances
  MovesTo stuck = Unit {0}

  given_same : (o : Option Stmts) (i : Instance) → ((given p o i).struct ≡ i.struct) × ((given p o i).env ≡ i.env)
  unfolding given
  given_same none i = (refl, refl)
  given_same (some b) i = (refl, refl)

  started_same : (a : StepCall) (i : Instance) → ((started p a i).struct ≡ i.struct) × ((started p a i).env ≡ i.env)
  unfolding started
  started_same a i = given_same (called p a i.struct) i

  move_tabled : (s : Sched) {is : List Instance} (b : List Bool) (n : ℕ) → Tabled p is → MovesTo (move_by p s is b n)
  unfolding move_by repeat
  move_tabled done b n t = tt
  move_tabled (start a s) b n t = tabled_map p t (started p a) (started_same a)
  move_tabled (fixpoint f s) b n t = t
  move_tabled (active f s) [] n t = tt
  move_tabled (active f s) (true ∷ b) n t = t
  move_tabled (active f s) (false ∷ b) n t = t

-- Commands -------------------------------------------------------------------------

-- what a command comes to
abbrev ComesTo : Program → Out → Type 0
ComesTo p (next m) = Tabled p m.instances
ComesTo p (refused n) = Unit {0}
ComesTo p stuck = Unit {0}

module _ {p : Program} (firm : Firm p) {m : Machine} (good : Good p m) (t : Tabled p m.instances) (l : ℕ) where
  -- a holder's cons names a struct of the program
  cons_below : (i : Instance) {k : ℕ} {r : List Note} → i.code ≡ n_cons k ∷ r → Place p good.runs m.instances l i → k < structs p
  cons_below i {k} {r} e h = let (a, q, g) = holder_passage h e in let (d, f, _) = first_held g e in next_sized g firm (n_cons k) d f

  performed_tabled : (i : Instance) (n : Note) (r : List Note) (o : Out) → get_elem? m.instances l ≡ some i → i.code ≡ n ∷ r
      → Performed p m l (with_written i (now_written n i.written)) r n o
      → ComesTo p o
  performed_tabled i n r o at e w = go w e
    where
      -- the actor put back
      own : (j : Instance) → j.struct ≡ i.struct → j.env ≡ i.env → Tabled p (set m.instances l j)
      own j s d = tabled_set p t l i j at (let (a, b) = t.each l i at in rw (s, d) (a, b))

      go : {n : Note} {o : Out} → Performed p m l (with_written i (now_written n i.written)) r n o → i.code ≡ n ∷ r → ComesTo p o
      go pushed e = own _ refl refl
      go pushed_this e = own _ refl refl
      go (negated s) e = own _ refl refl
      go (read_one h s a b) e = own _ refl refl
      go (skipped h s a b c) e = own _ refl refl
      go {n} (wrote {v = v} {q = q} {y = y} {χ = χ} {j = j} h s a b c) e =
          let k = with_code (with_written i (now_written n i.written)) r χ in
          let (j', a', s', d') = same_env m.instances l q i j k at a refl refl in
          let (below, null) = t.each q j a in
          tabled_env p (own k refl refl) q j' (assign j.env v y.is) a' (rw s' (
            below,
            λ h.
                let size : length (params_in j.env) ≡ length (params_of p j.struct) = ap length (null h) ∙ length-map (params_of p j.struct) default in
                let past = b h in
                past_params j.env v y.is (omega arith) ∙ null h,
          ))
      go (calculated s a) e = own _ refl refl
      go (exceeding s a) e = tt
      go (constructed {k = k} s room) e =
          tabled_more p (own _ refl refl) _ (rw length-set room) (cons_below i e (good.all.each l i at).place)
      go (filled h) e = tt
      go (branched s) e = own _ refl refl
      go no_way e = tt

command_tabled : {p : Program} → Firm p → {m : Machine} → Good p m → Tabled p m.instances → (l : ℕ) → ComesTo p (command p l m)
command_tabled {p} firm {m} good t l = by_ways (ComesTo p) p m l tt (performed_tabled firm (turning_good l good) t l)

-- Runs -----------------------------------------------------------------------------

-- a step of a run keeps it,
pub acts_tabled : {p : Program} → Firm p → {m z : Machine} {a : Option ℕ} → Acts p m a z → Good p m → Tabled p m.instances → Tabled p z.instances
acts_tabled {p} firm {m} (moves h e) g t = subst (MovesTo p) e (move_tabled p m.sched m.stability m.from t)
acts_tabled {p} firm {m} (takes {e = e} q c) g t = subst (ComesTo p) c (command_tabled firm g t (chosen (holders m) e))

-- so it is in every machine that a run passes through
pub visits_tabled : {p : Program} → Firm p → {m z : Machine} {es fs : List ℕ} → Good p m → Tabled p m.instances → Visits p m es z fs
    → Tabled p z.instances
visits_tabled {p} firm g t (n, v) =
    (steps_keep (λ x. Good p x × Tabled p x.instances) (λ m z a s (h, k). (acts_good firm s h, acts_tabled firm s h k)) v (g, t)).1

module _ (p : Program) (rs : List Record) (right : TableRight p.params rs) where
  abbrev front : List Instance
  front = nulls 0 p.params

  abbrev behind : List Instance
  behind = map (λ r. resting r.struct r.values) rs

  first_tabled : (l : ℕ) (i : Instance) → (get_elem? front l ≡ some i) ⊎ ((length front ≤ l) × (get_elem? behind (l - length front) ≡ some i))
      → TabledInst p l i
  unfolding TableRight HeldTable
  first_tabled l i (inl e) =
      let h : l < structs p = omega (arith, at_below front l i e, nulls_length 0 p.params) in
      let q : resting l (map default (params_of p l)) ≡ i =
      some_is (sym (ap (λ n. some (resting n (map default (params_of p l)))) (zero-add l)) ∙ sym (null_at 0 p.params l h) ∙ e) in
      rw (← q) (h, λ b. refl)
  first_tabled l i (inr (h, e)) =
      let (r, q, z) = map_at (λ r. resting r.struct r.values) rs (l - length front) i e in
      let one = nulls_length 0 p.params in
      rw (← z) ((all_elem (HeldRecord p.params) rs (l - length front) r right.0.1 q).0, λ b. absurd (omega arith))

  -- and in the first
  pub begin_tabled : Tabled p (begin p rs).instances
  unfolding begin first_instances TableRight HeldTable
  begin_tabled =
      let size = length-append front behind in
      let one = nulls_length 0 p.params in
      let two = length-map rs (λ r. resting r.struct r.values) in
      let room = right.0.0 in
      record {
        null_ones = omega arith;
        few = omega arith;
        each = λ l i e. first_tabled l i (at_joined front behind l i e);
      }
