-- What an instance with a next command brings to it (01, 'The words of demand 3'), from the invariant and the limits of the program:
-- operands, a struct of the program, room on its stack; every instance has room in a row.
use Rattle.std.specs.Prelude.{ℕ, ◌-◌, ◌<◌, ◌≤◌, ◌≡◌, refl, Bool, true, false, List, [], ◌∷◌, ◌++◌, length, get_or, drop, ltb}
use Rattle.std.proofs.Common.{arith, ap, ◌∙◌, length-drop, length-append, ltb-true, ltb-false}
use Rattle.std.proofs.Math.Option.{some}
use Rattle.std.proofs.Math.ListN.{get_elem?, get_or-map, get_or-eq_default}
use Rattle.std.proofs.lemmas.List.{length-map}
use Rattle.types.specs.Limits.{max_depth, variables}
use Rattle.types.specs.Types.{Ty}
use Rattle.types.specs.Values.{Val}
use Rattle.program.specs.Tree.{Stmts, Step, Program}
use Rattle.commands.specs.Context.{params_of, find_step}
use Rattle.commands.specs.Bounds.{program_depth}
use Rattle.commands.specs.Noted.{Note, Note.n_push, Note.n_this, Note.n_cons}
use Rattle.commands.specs.Tags.{stack_after, jump, Way.on}
use Rattle.commands.proofs.Laws.SecureWays.{behind, way_secure}
use Rattle.machine.specs.Published.{Env, Env.env, lookup, structs, arity}
use Rattle.machine.specs.Machine.{Instance, Machine}
use Rattle.sound.specs.Needs.{Needs}
use Rattle.sound.specs.Invariant.{Job, Fits, Fitted, Passage, Good}
use Rattle.sound.specs.Firm.{Firm}
use Rattle.sound.proofs.Laws.ReadyLaws.{good_right}
use Rattle.sound.proofs.Laws.PassageLaws.{holder_passage, first_held, has_step as step_had, ctx, way_at, next_sized}
use Rattle.sound.proofs.Laws.EachLaws.{each_length}
use Rattle.sound.proofs.Laws.ElemLaws.{none_some}
use Rattle.sound.specs.Sized.{Sized}
use Rattle.memory.specs.Frame.{AllSlim, Bounded}
use Rattle.memory.proofs.Laws.VarLaws.{near_env}

-- a struct that has a step is one of the program's
has_step : (ss : List (List Step)) (k n : ℕ) {b : Stmts} → find_step (get_or ss k []) n ≡ some b → k < length ss
unfolding find_step
has_step ss k n {b} e = go (ltb k (length ss)) refl
  where
    go : (t : Bool) → ltb k (length ss) ≡ t → k < length ss
    go true q = ltb-true k (length ss) q
    go false q =
        let h : length ss ≤ k = ltb-false k (length ss) q in
        none_some (rw (get_or-eq_default ss [] h) at e)

-- the parameter counts
module _ {p : Program} {counts : List ℕ} (bound : Bounded p counts) where
  pub counts_length : length counts ≡ structs p
  counts_length = ap length bound.counted ∙ length-map p.params length

  pub count_of : (k : ℕ) → get_or counts k 0 ≡ arity p k
  count_of k = ap (λ (cs : List ℕ). get_or cs k 0) bound.counted ∙ get_or-map length p.params k []

  -- a struct with a parameter is one of the program's
  pub has_param : (k v : ℕ) → v < arity p k → k < structs p
  has_param k v h = go (ltb k (structs p)) refl
    where
      go : (t : Bool) → ltb k (structs p) ≡ t → k < structs p
      go true q = ltb-true k (structs p) q
      go false q =
          let b : structs p ≤ k = ltb-false k (structs p) q in
          let d : arity p k ≡ 0 = ap length (get_or-eq_default p.params [] b) in
          absurd (omega arith)

-- every instance has room in a row
near_fitted : (is : List Instance) (ts : List Ty) (ξ : Env) → Fitted is ts ξ → (v : ℕ) (x : Val) → lookup ξ v ≡ some x → v < variables
near_fitted is ts (env ps ls) f v x e = near_env ps ls f.1 v x e

pub good_slim : {p : Program} {counts : List ℕ} → Firm p → Bounded p counts → {m : Machine} → Good p m → AllSlim m.instances
good_slim {p} firm bound {m} good l i at =
    let a : length i.stack ≤ program_depth p = (good_right firm good).low l i at in
    let b : program_depth p ≤ max_depth = bound.deep in
    record {
      low = omega arith;
      near = near_fitted m.instances (params_of p i.struct) i.env (good.all.each l i at).fitted;
    }

module _ {p : Program} {counts : List ℕ} (firm : Firm p) (bound : Bounded p counts) {m : Machine} (good : Good p m) (l : ℕ) (i : Instance)
    (at : get_elem? m.instances l ≡ some i) (n : Note) (c : List Note) (e : i.code ≡ n ∷ c) where
  runs : Job
  runs = (holder_passage (good.all.each l i at).place e).0

  passage : Passage p runs m.instances l i
  unfolding runs
  passage = (holder_passage (good.all.each l i at).place e).2

  -- the next command is the first of the step's that are left
  next_one : (d : List Note) × (passage.held ≡ n ∷ d) × (c ≡ d ++ passage.rest)
  next_one = first_held passage e

  -- the command finds what it needs, and carries what is in its range
  pub actor_needs : Needs p m l i n
  actor_needs = rw e at ((good_right firm good).ready l i at)

  pub actor_sized : Sized (structs p) n
  actor_sized = next_sized passage firm n next_one.0 next_one.1

  -- an if's body stands before the end of the actor's commands
  pub actor_jump : jump n ≤ length c
  actor_jump =
      let secure = (firm.secure i.struct (step_had passage).0 (step_had passage).1).1 in
      let h = (behind (way_secure secure (way_at passage firm n next_one.0 next_one.1))).within in
      omega (arith, ap length next_one.2, length-append next_one.0 passage.rest)

  -- the actor's struct is one of the program's
  pub actor_struct : i.struct < structs p
  actor_struct =
      let b : i.struct < length p.steps = has_step p.steps i.struct (step_had passage).0 (step_had passage).1 in
      let s : length p.steps ≡ structs p = bound.steps in
      omega arith

  -- what the command leaves has room on the stack
  actor_room : length (stack_after (ctx passage) n passage.place.stack) ≤ max_depth
  actor_room =
      let a : length (stack_after (ctx passage) n passage.place.stack) ≤ program_depth p =
      firm.low i.struct (step_had passage).0 (step_had passage).1 (on (way_at passage firm n next_one.0 next_one.1)) in
      let b : program_depth p ≤ max_depth = bound.deep in
      omega arith

  actor_height : length i.stack ≡ length passage.place.stack
  actor_height = each_length (Fits m.instances) passage.place.stack i.stack passage.stacked

module _ {p : Program} {counts : List ℕ} (firm : Firm p) (bound : Bounded p counts) {m : Machine} (good : Good p m) (l : ℕ) (i : Instance)
    (at : get_elem? m.instances l ≡ some i) (c : List Note) where
  -- room for what is pushed
  pub push_room : (t : Ty) (v : Val) → i.code ≡ n_push t v ∷ c → length i.stack < max_depth
  push_room t v e =
      let a = actor_room firm bound good l i at (n_push t v) c e in
      let b = actor_height firm bound good l i at (n_push t v) c e in
      omega arith

  pub this_room : i.code ≡ n_this ∷ c → length i.stack < max_depth
  this_room e =
      let a = actor_room firm bound good l i at n_this c e in
      let b = actor_height firm bound good l i at n_this c e in
      omega arith

  pub cons_room : (k : ℕ) → i.code ≡ n_cons k ∷ c → length i.stack - arity p k < max_depth
  cons_room k e =
      let g = passage firm bound good l i at (n_cons k) c e in
      let a = actor_room firm bound good l i at (n_cons k) c e in
      let b = actor_height firm bound good l i at (n_cons k) c e in
      let d : length (drop (arity p k) g.place.stack) ≡ length g.place.stack - arity p k = length-drop (arity p k) g.place.stack in
      omega arith
