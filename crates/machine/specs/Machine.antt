-- The executable machine: one command of an instance, and one schedule move (01, 'Table and turns').
-- An instance holds a suffix of its step's list, so that `if n` goes on or leaves n commands out; commands carry their notes, and
-- stack values the type by what put them there, which no outcome depends on. That type comes from the machine, and not from a
-- note, but for a local's, which no machine keeps. Where no rule fits, the outcome is `stuck`.
use Rattle.std.specs.Prelude.{ℕ, zero, suc, ◌+◌, Bool, true, false, not, List, [], ◌∷◌, ◌++◌, map, reverse, length, get_or, set, take, drop, ltb, leb}
use Rattle.std.proofs.Math.Option.{Option, none, some}
use Rattle.std.proofs.Math.ListN.{get_elem?}
use Rattle.types.specs.Limits.{max_instances, first_local}
use Rattle.types.specs.Types.{Ty, Ty.int, Ty.bool, Ty.ref}
use Rattle.types.specs.Values.{Val, Val.int_val, Val.nat_val, Val.bool_val, Val.label}
use Rattle.program.specs.Tree.{Op, Stmts, Program}
use Rattle.commands.specs.Context.{params_of, context}
use Rattle.commands.specs.Typing.{sort}
use Rattle.commands.specs.Tags.{result_type}
use Rattle.commands.specs.Noted.{Note, Note.n_push, Note.n_this, Note.n_not, Note.n_rd, Note.n_wr, Note.n_get, Note.n_set, Note.n_cons, Note.n_op, Note.n_if}
use Rattle.commands.specs.Noted.{now_written, noted}
use Rattle.operators.specs.Apply.{Answer, Answer.value, Answer.outside, Answer.unfit, apply, same_val}
use Rattle.machine.specs.Published.{StepCall, called, Sched, Sched.done, Sched.start, Sched.fixpoint, Sched.active, before, Env, lookup, assign}
use Rattle.machine.specs.Published.{fresh_env, structs, arity}
use Rattle.machine.specs.Rules.{meet}
use Rattle.machine.specs.Stops.{full, exceeded}

-- a stack value: the type that what put it there gives it, and the value (01, 'The words of demand 3')
pub record Tagged : Type 0 where
  pub by : Ty
  pub is : Val

abbrev pub tagged : Ty → Val → Tagged
tagged t v = record { by = t; is = v }

-- what puts a value on a stack
pub data Source : Type 0 where
  -- push T V; push this, by an instance of a struct
  literal : Ty → Source
  this : ℕ → Source
  -- rd, of a variable of an instance of a struct; of a local, declared with a type
  variable : ℕ → ℕ → Source
  local : Ty → Source
  -- cons k; an operator, with operands of a type; not
  new : ℕ → Source
  result : Op → Ty → Source
  inverse : Source

-- the type that it gives the value, in 01's order
abbrev pub given_by : Program → Source → Ty
given_by p (literal t) = t
given_by p (this k) = ref k
given_by p (variable k x) = get_or (params_of p k) x int
given_by p (local t) = t
given_by p (new k) = ref k
given_by p (result o t) = result_type (sort o) t
given_by p inverse = bool

pub record Instance : Type 0 where
  pub struct : ℕ
  pub code : List Note
  pub stack : List Tagged
  pub env : Env
  -- the locals whose declaration was taken in this passage through the step
  pub written : List ℕ

pub record Machine : Type 0 where
  pub sched : Sched
  pub instances : List Instance
  pub stability : List Bool
  -- the label from which turns are counted on, the one after that which acted last (02, 'Turns that go round')
  pub from : ℕ

-- what a command comes to: the next machine, a number from the state, or no rule
pub data Out : Type 0 where
  next : Machine → Out
  refused : ℕ → Out
  stuck : Out

-- what a move of the schedule comes to: the next machine, or no rule
pub data Moved : Type 0 where
  next : Machine → Moved
  stuck : Moved

-- Few setters ------------------------------------------------------------------

abbrev pub with_code : Instance → List Note → List Tagged → Instance
with_code i c χ = record { struct = i.struct; code = c; stack = χ; env = i.env; written = i.written }

abbrev pub with_written : Instance → List ℕ → Instance
with_written i w = record { struct = i.struct; code = i.code; stack = i.stack; env = i.env; written = w }

abbrev pub with_env : Instance → Env → Instance
with_env i ξ = record { struct = i.struct; code = i.code; stack = i.stack; env = ξ; written = i.written }

unfoldable pub update_env : List Instance → ℕ → Env → List Instance
update_env [] l ξ = []
update_env (i ∷ is) zero ξ = with_env i ξ ∷ is
update_env (i ∷ is) (suc l) ξ = i ∷ update_env is l ξ

abbrev pub with_instances : Machine → List Instance → Machine
with_instances m is = record { sched = m.sched; instances = is; stability = m.stability; from = m.from }

-- the instance l put back
abbrev pub put : Machine → ℕ → Instance → Machine
put m l i = with_instances m (set m.instances l i)

abbrev pub with_stability : Machine → List Bool → Machine
with_stability m b = record { sched = m.sched; instances = m.instances; stability = b; from = m.from }

-- instance l acts, and counting goes on after it
abbrev pub acting : ℕ → Machine → Machine
acting l m = record { sched = m.sched; instances = m.instances; stability = m.stability; from = suc l }

-- Commands ---------------------------------------------------------------------

-- whether a write leaves stability as it is: variable v is no parameter of struct k, or has the value x already
unfoldable pub leaves_stable : Program → ℕ → ℕ → Val → Option Val → Bool
leaves_stable p k v x none = true
leaves_stable p k v x (some y) = elim (ltb v (arity p k)) [ true ↦ same_val y x | false ↦ true ]

module _ (p : Program) (m : Machine) (l : ℕ) (i : Instance) where
  -- the code after it, with the value x on the stack χ, which came from s
  abbrev pub laid : List Note → List Tagged → Source → Val → Out
  laid c χ s x = next (put m l (with_code i c (tagged (given_by p s) x ∷ χ)))

  -- the value of variable v of the instance on top; it comes from that instance, by its struct
  unfoldable pub read_from : List Note → List Tagged → Source → Option Val → Out
  read_from c χ s none = stuck
  read_from c χ s (some x) = laid c χ s x

  unfoldable pub read_at : List Note → List Tagged → ℕ → (ℕ → Source) → Option Instance → Out
  read_at c χ v s none = stuck
  read_at c χ v s (some j) = read_from c χ (s j.struct) (lookup j.env v)

  unfoldable pub read : List Note → List Tagged → ℕ → (ℕ → Source) → Out
  read c [] v s = stuck
  read c (x ∷ χ) v s = elim x.is [
    | int_val z ↦ stuck
    | nat_val n ↦ stuck
    | bool_val b ↦ stuck
    | label r ↦ read_at c χ v s (get_elem? m.instances r)
  ]

  -- x written to variable v of the instance r, which is j
  unfoldable pub write_to : List Note → List Tagged → ℕ → Val → ℕ → Instance → Out
  write_to c χ v x r j =
      next
      (with_stability
      (with_instances m (update_env (set m.instances l (with_code i c χ)) r (assign j.env v x)))
      (meet (leaves_stable p j.struct v x (lookup j.env v)) m.stability))

  -- a parameter that has no value has no rule
  unfoldable pub write_parameter : List Note → List Tagged → ℕ → Val → ℕ → Instance → Option Val → Out
  write_parameter c χ v x r j none = stuck
  write_parameter c χ v x r j (some y) = write_to c χ v x r j

  -- a parameter of a null instance stays as it is
  unfoldable pub write_at : List Note → List Tagged → ℕ → Val → ℕ → Option Instance → Out
  write_at c χ v x r none = stuck
  write_at c χ v x r (some j) =
      elim (ltb v (arity p j.struct)) [
        | true ↦
            elim (ltb r (structs p)) [
              | true ↦ next (put m l (with_code i c χ))
              | false ↦ write_parameter c χ v x r j (lookup j.env v)
            ]
        | false ↦ write_to c χ v x r j
      ]

  unfoldable pub write : List Note → List Tagged → ℕ → Out
  write c [] v = stuck
  write c (y ∷ []) v = stuck
  write c (y ∷ x ∷ χ) v = elim y.is [
    | int_val z ↦ stuck
    | nat_val n ↦ stuck
    | bool_val b ↦ stuck
    | label r ↦ write_at c χ v x.is r (get_elem? m.instances r)
  ]

  unfoldable pub negate : List Note → List Tagged → Out
  negate c [] = stuck
  negate c (x ∷ χ) = elim x.is [
    | int_val z ↦ stuck
    | nat_val n ↦ stuck
    | bool_val b ↦ laid c χ inverse (bool_val (not b))
    | label r ↦ stuck
  ]

  unfoldable pub branch : ℕ → List Note → List Tagged → Out
  branch n c [] = stuck
  branch n c (x ∷ χ) = elim x.is [
    | int_val z ↦ stuck
    | nat_val n ↦ stuck
    | bool_val b ↦ next (put m l (with_code i (elim b [ true ↦ c | false ↦ drop n c ]) χ))
    | label r ↦ stuck
  ]

  unfoldable pub operated : List Note → List Tagged → Source → Answer → Out
  operated c χ s (value v) = laid c χ s v
  operated c χ s outside = refused exceeded
  operated c χ s unfit = stuck

  unfoldable pub operate : Op → List Note → List Tagged → Out
  operate o c [] = stuck
  operate o c (y ∷ []) = stuck
  operate o c (y ∷ x ∷ χ) = operated c χ (result o x.by) (apply o x.is y.is)

  -- an instance of struct k with the n values on top, the last on top; it holds no commands
  abbrev pub made : ℕ → ℕ → List Tagged → Instance
  made k n χ = record {
    struct = k;
    code = [];
    stack = [];
    env = fresh_env (reverse (map (λ x. x.is) (take n χ)));
    written = [];
  }

  -- whether a label is free is asked first
  unfoldable pub construct : ℕ → List Note → List Tagged → Out
  construct k c χ =
      elim (ltb (length m.instances) max_instances) [
        | true ↦
            elim (leb (arity p k) (length χ)) [
              | true ↦
                  next
                  (with_stability
                  (with_instances m
                  (set m.instances l (with_code i c (tagged (given_by p (new k)) (label (length m.instances)) ∷ drop (arity p k) χ))
                  ++ made k (arity p k) χ ∷ []))
                  (meet false m.stability))
              | false ↦ stuck
            ]
        | false ↦ refused full
      ]

  -- one command, the rest of the code after it
  unfoldable pub perform : Note → List Note → Out
  perform (n_push t v) c = laid c i.stack (literal t) v
  perform n_this c = laid c i.stack (this i.struct) (label l)
  perform n_not c = negate c i.stack
  perform (n_rd k x) c = read c i.stack x (λ j. variable j x)
  perform (n_wr k x) c = write c i.stack x
  perform (n_get t x) c = read c i.stack (first_local + x) (λ j. local t)
  perform (n_set d t x) c = write c i.stack (first_local + x)
  perform (n_cons k) c = construct k c i.stack
  perform (n_op o) c = operate o c i.stack
  perform (n_if n) c = branch n c i.stack

-- instance l takes its next command
unfoldable pub command_of : Program → Machine → ℕ → Instance → List Note → Out
command_of p m l i [] = stuck
command_of p m l i (n ∷ c) = perform p m l (with_written i (now_written n i.written)) n c

unfoldable pub command_at : Program → Machine → ℕ → Option Instance → Out
command_at p m l none = stuck
command_at p m l (some i) = command_of p m l i i.code

unfoldable pub command : Program → ℕ → Machine → Out
command p l m = command_at p (acting l m) l (get_elem? m.instances l)

-- Schedule moves ----------------------------------------------------------------

-- the commands of the step that a call starts on the instance, if any, with their notes; its stack and passage begin anew
unfoldable pub given : Program → Option Stmts → Instance → Instance
given p none i = i
given p (some b) i = record {
  struct = i.struct;
  code = noted (context p i.struct b) b;
  stack = [];
  env = i.env;
  written = [];
}

unfoldable pub started : Program → StepCall → Instance → Instance
started p a i = given p (called p a i.struct) i

abbrev pub machine : Sched → List Instance → List Bool → ℕ → Machine
machine s is b n = record { sched = s; instances = is; stability = b; from = n }

unfoldable pub repeat : Sched → Sched → List Instance → List Bool → ℕ → Moved
repeat f s is [] n = stuck
repeat f s is (true ∷ b) n = next (machine s is b n)
repeat f s is (false ∷ b) n = next (machine (before f (active f s)) is (true ∷ b) n)

-- one move of the schedule, where no instance holds commands; counting goes on from the same label
unfoldable pub move_by : Program → Sched → List Instance → List Bool → ℕ → Moved
move_by p done is b n = stuck
move_by p (start a s) is b n = next (machine s (map (started p a) is) b n)
move_by p (fixpoint f s) is b n = next (machine (before f (active f s)) is (true ∷ b) n)
move_by p (active f s) is b n = repeat f s is b n

abbrev pub move : Program → Machine → Moved
move p m = move_by p m.sched m.instances m.stability m.from
