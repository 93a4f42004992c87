-- What holds of every machine of a run of an accepted program: the invariant for demand 3 (01, 'The words of demand 3'), stated
-- from any machine, so that runs may begin elsewhere than with a fresh table.
use Rattle.std.specs.Prelude.{ℕ, suc, ◌+◌, ◌<◌, ◌≡◌, true, ◌⊎◌, length}
use Rattle.std.proofs.Math.Option.{Option, none, some}
use mathlib.Core.List.{List, [], ◌∷◌, ◌++◌, Memᴰ}
use Rattle.std.proofs.Math.ListN.{get_elem?}
use Rattle.types.specs.Limits.{first_local, max_locals}
use Rattle.types.specs.Types.{Ty, Ty.int}
use Rattle.types.specs.Values.{Val, Val.label}
use Rattle.program.specs.Tree.{Stmts, Program}
use Rattle.commands.specs.Context.{params_of, body_local, context}
use Rattle.commands.specs.Noted.{Note, noted}
use Rattle.table.specs.Table.{Each}
use Rattle.machine.specs.Published.{StepCall, called, Sched, Sched.done, Sched.start, Sched.fixpoint, Sched.active, of_items, Env, Env.env, lookup, structs}
use Rattle.machine.specs.Machine.{Tagged, Instance, Machine}
use Rattle.commands.specs.Tags.{Tags, Way, at_start}
use Rattle.commands.specs.Living.{alive, lives_at, Among}
use Rattle.sound.specs.Needs.{ValueAmong}
use Rattle.sound.specs.Started.{Left, Started}

-- of a type in both senses
abbrev pub Fits : List Instance → Ty → Tagged → Type 0
Fits is t x = (x.by ≡ t) × (ValueAmong is t x.is)

-- an environment with these parameter types and a slot for each local
abbrev pub Fitted : List Instance → List Ty → Env → Type 0
Fitted is ts (env ps ls) = (Each (ValueAmong is) ts ps) × (length ls ≡ max_locals)

-- what runs: a step call
pub data Job : Type 0 where
  call : StepCall → Job

-- in this job an instance of struct k takes the step b, with these commands in its list after those of b: none in a step call
pub data InJob (p : Program) (k : ℕ) : Job → Stmts → List Note → Type 0 where
  in_call : {a : StepCall} {b : Stmts} → called p a k ≡ some b → InJob p k (call a) b []

-- the locals that an instance has written since it began the step it stands in
abbrev pub written_in : Program → Job → Instance → List ℕ
written_in p (call a) i = i.written

-- instance l stands in a step that it takes in the job a, at a place that the step's commands lead to; after a push this its own label
-- is on top; each local written in this passage holds a value of its type
pub record Passage (p : Program) (a : Job) (is : List Instance) (l : ℕ) (i : Instance) : Type 0 where
  -- the step, and the commands in the list after those of the step
  pub body : Stmts
  pub rest : List Note
  pub has : InJob p i.struct a body rest
  -- the commands of the step that are left; where none is left, none follows
  pub held : List Note
  pub code : i.code ≡ held ++ rest
  pub full : held ≡ [] → rest ≡ []
  pub place : Tags
  pub way : Way (context p i.struct body) (noted (context p i.struct body) body) at_start held place
  -- the living locals are written
  pub kept : Among (alive (lives_at (context p i.struct body) body held)) (written_in p a i)
  pub stacked : Each (Fits is) place.stack i.stack
  pub own : place.fresh ≡ true → (x : Tagged) × (χ : List Tagged) × (i.stack ≡ x ∷ χ) × (x.is ≡ label l)
  pub locals : (x : ℕ) → Memᴰ x (written_in p a i)
      → (v : Val) × (lookup i.env (first_local + x) ≡ some v) × (ValueAmong is (body_local body x int) v)

-- an instance that has not begun a step, or stands in one: at its end, or in that of the job that runs
pub data Place (p : Program) (r : Option Job) (is : List Instance) (l : ℕ) (i : Instance) : Type 0 where
  resting : i.code ≡ [] → i.stack ≡ [] → Place p r is l i
  passing : {a : Job} → Passage p a is l i → (i.code ≡ []) ⊎ (r ≡ some a) → Place p r is l i

-- its parameters and locals fit, and it stands where it may
pub record GoodInst (p : Program) (r : Option Job) (is : List Instance) (l : ℕ) (i : Instance) : Type 0 where
  pub fitted : Fitted is (params_of p i.struct) i.env
  pub place : Place p r is l i

-- no Fix in a Fix's body has begun
unfoldable pub Unbegun : Sched → Type 0
Unbegun done = Unit {0}
Unbegun (start a s) = Unbegun s
Unbegun (fixpoint f s) = (Unbegun f) × (Unbegun s)
Unbegun (active f s) = ⊥

-- one stability entry for each Fix that has begun
pub data Open : Sched → ℕ → Type 0 where
  open_done : Open done 0
  open_start : {a : StepCall} {k : ℕ} {s : Sched} → Open s k → Open (start a s) k
  open_fix : {k : ℕ} {f s : Sched} → Unbegun f → Open s k → Open (fixpoint f s) k
  open_active : {k : ℕ} {f s : Sched} → Unbegun f → Open s k → Open (active f s) (suc k)

-- a job that runs was started, and the schedule is what comes after it
abbrev pub Running : Program → Option Job → Sched → Type 0
Running p none s = Unit {0}
Running p (some (call a)) s = Started p a s

-- the null instance of each struct is there
abbrev pub Nulls : Program → List Instance → Type 0
Nulls p is = (k : ℕ) → k < structs p → (i : Instance) × (get_elem? is k ≡ some i) × (i.struct ≡ k)

-- of all instances, where the job r runs
pub record GoodAll (p : Program) (r : Option Job) (is : List Instance) : Type 0 where
  pub nulls : Nulls p is
  pub each : (l : ℕ) (i : Instance) → get_elem? is l ≡ some i → GoodInst p r is l i

-- of a machine; where no job runs, no instance holds commands
pub record Good (p : Program) (m : Machine) : Type 0 where
  pub runs : Option Job
  pub all : GoodAll p runs m.instances
  pub running : Running p runs m.sched
  pub opened : Open m.sched (length m.stability)
  -- its schedule is left of the program's
  pub left : Left (of_items p.schedule) m.sched
