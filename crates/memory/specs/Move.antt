-- One move of the schedule, on memory (000's rules for the schedule; 01, 'Table and turns').
use Rattle.std.specs.Prelude.{ℕ, zero, suc, ◌-◌, ◌*◌, ◌/◌, ◌%◌, Bool, true, false, ◌||◌, ◌&&◌, List, get_or, eqb, ltb, leb}
use Rattle.types.specs.Limits.{step_names}
use Rattle.layout.specs.Layout.{head, struct_of, begun}
use Rattle.layout.specs.State.{State, with_heads, with_holding, moved}
use Rattle.layout.specs.Codes.{fix_code, round_code}
use Rattle.memory.specs.Plan.{from, to}
use Rattle.memory.specs.Choose.{holding}

-- whether the code c of a started step means struct k: any, or the one it names
abbrev pub means : ℕ → ℕ → Bool
means c k = eqb (c / step_names) 0 || eqb (c / step_names) (suc k)

-- instance l begins the step, where its struct has it: its stack is empty and its commands are the step's
unfoldable pub begin_one : List ℕ → ℕ → List ℕ → ℕ → List ℕ
begin_one spans c heads l =
    let k = get_or heads (head l struct_of) 0 in
    let a = from spans k (c % step_names) in
    let e = to spans k (c % step_names) in
    elim (means c k && leb a e) [ true ↦ begun heads l a e | false ↦ heads ]

-- the instances from l on, n of them
unfoldable pub begin_all : List ℕ → ℕ → List ℕ → ℕ → ℕ → List ℕ
begin_all spans c heads l zero = heads
begin_all spans c heads l (suc n) = begin_all spans c (begin_one spans c heads l) (suc l) n

-- a Fix begins
unfoldable pub do_fix : State → State
do_fix z = moved z (suc z.machine.place) (suc z.machine.fixes) (suc (2 * z.machine.stable))

-- it ends where its entry is true, or goes round
unfoldable pub do_round : ℕ → State → State
do_round t z =
    elim (eqb (z.machine.stable % 2) 1) [
      | true ↦ moved z (suc z.machine.place) (z.machine.fixes - 1) (z.machine.stable / 2)
      | false ↦ moved z t z.machine.fixes (suc z.machine.stable)
    ]

-- a step begins, and the instances that hold commands are counted anew
unfoldable pub do_start : List ℕ → ℕ → State → State
do_start spans c z =
    let h = begin_all spans c z.heads 0 z.machine.count in
    with_holding (with_heads (moved z (suc z.machine.place) z.machine.fixes z.machine.stable) h) (holding h 0 z.machine.count)

unfoldable pub move_by : List ℕ → ℕ → State → State
move_by spans c z =
    elim (ltb c fix_code) [
      | true ↦ do_start spans c z
      | false ↦ elim (eqb c fix_code) [ true ↦ do_fix z | false ↦ do_round (c - round_code 0) z ]
    ]

-- the item at the machine's place, where no instance holds commands
unfoldable pub move : List ℕ → List ℕ → State → State
move items spans z = move_by spans (get_or items z.machine.place 0) z
