-- The text of a trace's lines (docs/FORMAT.md, 'Traces'). A turn: its count, byte, label, struct, step, position and command as the listing has them, the
-- stack behind it with the top last, each value behind its type byte, the parameter that it wrote, and the stability entries, the top one first. A move of
-- the schedule: the word `move` and the stability entries. Behind the lines, the word `end` with the run's number and turns.
use Rattle.std.specs.Prelude.{ℕ, suc, ◌+◌, ◌-◌, ◌<◌, Bool, true, false, List, [], ◌∷◌, ◌++◌, ltb, length}
use Rattle.std.proofs.Math.Option.{Option, none, some}
use Rattle.std.proofs.Math.ListN.{get_elem?}
use Rattle.types.specs.Limits.{first_local}
use Rattle.types.specs.Types.{code}
use Rattle.types.specs.Values.{Val, Val.int_val, Val.nat_val, Val.bool_val, Val.label}
use Rattle.program.specs.Tree.{Program, Stmts}
use Rattle.commands.specs.Commands.{Com.push, Com.push_this, Com.rd, Com.wr, Com.cons, Com.not, Com.oper, Flat, Flat.plain, Flat.if_n}
use Rattle.commands.specs.Context.{context, step_of}
use Rattle.commands.specs.Noted.{Note, erase, noted}
use Rattle.machine.specs.Published.{StepCall.global, StepCall.local, Sched, Sched.done, Sched.start, Sched.fixpoint, Sched.active, lookup, structs}
use Rattle.machine.specs.Machine.{Tagged, Instance, Machine}
use Rattle.text.specs.Listing.{decimal, column, row}
use Rattle.text.specs.CommandText.{shown, command_text}
use Rattle.trace.specs.Trace.{Line, Line.moved, Line.acted}

-- a blank before a text
abbrev pub field : List ℕ → List ℕ
field t = 32 ∷ t

-- a value behind its type byte and a colon
unfoldable pub tagged_text : Tagged → List ℕ
tagged_text x = decimal (code x.by) ++ 58 ∷ shown x.is

unfoldable pub stack_text : List Tagged → List ℕ
stack_text [] = []
stack_text (x ∷ χ) = stack_text χ ++ field (tagged_text x)

-- 0 or 1 for each entry
unfoldable pub bits : List Bool → List ℕ
bits [] = []
bits (true ∷ b) = 49 ∷ bits b
bits (false ∷ b) = 48 ∷ bits b

unfoldable pub stability_text : List Bool → List ℕ
stability_text b = field (115 ∷ bits b)

-- the step that a schedule starts first, where it does; else the one before
unfoldable pub step_name : ℕ → Sched → ℕ
step_name n done = n
step_name n (start (global k) s) = k
step_name n (start (local j k) s) = k
step_name n (fixpoint f s) = n
step_name n (active f s) = n

-- the commands of a step of struct k, and the position of the next one of those left
unfoldable pub step_size : Program → ℕ → Option Stmts → ℕ
step_size p k none = 0
step_size p k (some b) = length (noted (context p k b) b)

unfoldable pub position : Program → ℕ → ℕ → List Note → ℕ
position p k n c = step_size p k (step_of p k n) - length c

unfoldable pub next_text : List Note → List ℕ
next_text [] = []
next_text (n ∷ c) = command_text (erase n)

-- a parameter x of instance q: `q.x`, its value before and its value behind
unfoldable pub change_text : ℕ → ℕ → Option Val → Option Val → List ℕ
change_text q x none w = []
change_text q x (some v) none = []
change_text q x (some v) (some w) = field (decimal q ++ 46 ∷ decimal x) ++ field (shown v ++ field (shown w))

unfoldable pub param_text : ℕ → ℕ → Option Instance → Option Instance → List ℕ
param_text q x none j = []
param_text q x (some i) none = []
param_text q x (some i) (some j) = change_text q x (lookup i.env x) (lookup j.env x)

module _ (p : Program) (c d : Machine) where
  -- `wr x` with a value on top: it writes no local, and to no null instance
  unfoldable pub target_text : ℕ → Val → List ℕ
  target_text x (int_val z) = []
  target_text x (nat_val n) = []
  target_text x (bool_val b) = []
  target_text x (label q) =
      elim (ltb x first_local) [
        | true ↦ elim (ltb q (structs p)) [ true ↦ [] | false ↦ param_text q x (get_elem? c.instances q) (get_elem? d.instances q) ]
        | false ↦ []
      ]

  -- the parameter that a command writes, by the stack before it
  unfoldable pub flat_writes : Flat → List Tagged → List ℕ
  flat_writes (plain (push t v)) χ = []
  flat_writes (plain push_this) χ = []
  flat_writes (plain (rd x)) χ = []
  flat_writes (plain (wr x)) [] = []
  flat_writes (plain (wr x)) (y ∷ χ) = target_text x y.is
  flat_writes (plain (cons k)) χ = []
  flat_writes (plain not) χ = []
  flat_writes (plain (oper o)) χ = []
  flat_writes (if_n n) χ = []

  unfoldable pub written_text : List Note → List Tagged → List ℕ
  written_text [] χ = []
  written_text (n ∷ r) χ = flat_writes (erase n) χ

-- three columns
unfoldable pub columns : ℕ → ℕ → ℕ → List ℕ
columns a b c = column a ++ (column b ++ column c)

-- turn, byte, label, struct, step, position and the command's text
unfoldable pub front_text : ℕ → ℕ → ℕ → ℕ → ℕ → ℕ → List ℕ → List ℕ
front_text t e l k n a c = columns t e l ++ (columns k n a ++ (c ++ 32 ∷ 91 ∷ []))

-- an instance before and behind its command, at turn t by the byte e, in the step n
unfoldable pub acted_text : Program → ℕ → ℕ → ℕ → ℕ → Machine → Machine → Option Instance → Option Instance → List ℕ
acted_text p n t e l c d none j = []
acted_text p n t e l c d (some i) none = []
acted_text p n t e l c d (some i) (some j) =
    front_text t e l i.struct n (position p i.struct n i.code) (next_text i.code)
    ++ (stack_text j.stack ++ (32 ∷ 93 ∷ (written_text p c d i.code i.stack ++ (stability_text d.stability ++ 10 ∷ []))))

-- Lines ------------------------------------------------------------------------

-- one at turn t, in the step n
unfoldable pub line_text : Program → ℕ → ℕ → Line → List ℕ
line_text p n t (moved c d) = 109 ∷ 111 ∷ 118 ∷ 101 ∷ (stability_text d.stability ++ 10 ∷ [])
line_text p n t (acted e l c d) = acted_text p n t e l c d (get_elem? c.instances l) (get_elem? d.instances l)

-- the step and the turn behind it
unfoldable pub step_behind : ℕ → Line → ℕ
step_behind n (moved c d) = step_name n c.sched
step_behind n (acted e l c d) = n

unfoldable pub turn_behind : ℕ → Line → ℕ
turn_behind t (moved c d) = t
turn_behind t (acted e l c d) = t + 1

-- all lines from turn t on, in the step n
unfoldable pub lines_text : Program → ℕ → ℕ → List Line → List ℕ
lines_text p n t [] = []
lines_text p n t (x ∷ ls) = line_text p n t x ++ lines_text p (step_behind n x) (turn_behind t x) ls

-- of a whole trace
abbrev pub trace_lines : Program → List Line → List ℕ
trace_lines p ls = lines_text p 0 0 ls

-- number and turns of the run
unfoldable pub end_text : ℕ → ℕ → List ℕ
end_text n t = row (101 ∷ 110 ∷ 100 ∷ []) (n ∷ t ∷ [])
