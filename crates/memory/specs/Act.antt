-- One command of an instance, on memory (01, 'Table and turns'; 000's rules for commands). What a command needs is `Fit`: demand 3
-- says that it is met, so nothing is tested here.
use Rattle.std.specs.Prelude.{ℕ, suc, ◌+◌, ◌-◌, ◌*◌, ◌%◌, true, false, List, length, get_or, set, take, drop, eqb, ltb, leb, Result, Ok, Err}
use Rattle.std.proofs.lemmas.List.Edits.{sets}
use Rattle.types.specs.Limits.{max_instances}
use Rattle.operators.specs.Words.{apply_word}
pub use Rattle.machine.specs.Stops.{full, exceeded}
use Rattle.layout.specs.Layout.{head_size, struct_of, height_of, next_of, row_size, variable, stacked, cell}
use Rattle.layout.specs.Layout.{type_byte, operand, label_cell, new_head, going, holds}
use Rattle.layout.specs.State.{State, with_heads, with_cells, times, unstable, refused, with_count, with_holding, with_from, of_head, of_cell}
use Rattle.memory.specs.Choose.{fewer}
use Rattle.operators.specs.declared.OperatorError.{OperatorError}
use Rattle.operators.specs.declared.OperatorError.TheVariants.{Outside, Unfit}

-- the types of truths
abbrev pub bool_byte : ℕ
bool_byte = 2

-- instance l goes on at the command n, with h values on its stack
abbrev pub gone : State → ℕ → ℕ → ℕ → State
gone z l h n = with_heads z (going z.heads l h n)

-- and with the cell c on top of h values
abbrev pub pushed : State → ℕ → ℕ → ℕ → ℕ → State
pushed z l h c n = gone (with_cells z (set z.cells (stacked l h) c)) l (suc h) n

-- the type byte of an operator's result: ×, /, %, + and − keep that of their operands
abbrev pub result_byte : ℕ → ℕ → ℕ
result_byte o t = elim (leb 38 o) [ true ↦ elim (leb o 42) [ true ↦ t | false ↦ bool_byte ] | false ↦ bool_byte ]

module _ (counts : List ℕ) (l : ℕ) (z : State) where
  abbrev pub height : ℕ
  height = of_head z l height_of

  -- the command behind the one that is taken
  abbrev pub after : ℕ
  after = suc (of_head z l next_of)

  -- the cell on top, and the one beneath it
  abbrev pub top : ℕ
  top = of_cell z (stacked l (height - 1))

  abbrev pub beneath : ℕ
  beneath = of_cell z (stacked l (height - 2))

  unfoldable pub do_push : ℕ → State
  do_push w = pushed z l height w after

  unfoldable pub do_this : State
  do_this = pushed z l height (label_cell (of_head z l struct_of) l) after

  unfoldable pub do_not : State
  do_not = pushed z l (height - 1) (cell bool_byte (1 - operand top)) after

  -- a false condition leaves the n commands of the body out
  unfoldable pub do_if : ℕ → State
  do_if n = gone z l (height - 1) (elim (eqb (operand top) 0) [ true ↦ after + n | false ↦ after ])

  unfoldable pub answered : ℕ → Result ℕ OperatorError → State
  answered t (Ok v) = pushed z l (height - 2) (cell t v) after
  answered t (Err Outside) = refused exceeded z
  answered t (Err Unfit) = z

  unfoldable pub do_op : ℕ → State
  do_op o = answered (result_byte o (type_byte beneath)) (apply_word o (type_byte beneath) (operand beneath) (operand top))

  unfoldable pub do_rd : ℕ → State
  do_rd x = pushed z l (height - 1) (of_cell z (variable (operand top) x)) after

  -- the cell c stored in variable x of instance r
  abbrev pub stored : ℕ → ℕ → ℕ → State
  stored r x c = gone (with_cells z (set z.cells (variable r x) c)) l (height - 2) after

  -- a parameter's write multiplies each stability entry: by 1 where the value is the one that stood there, else by 0
  unfoldable pub written : ℕ → ℕ → ℕ → State
  written r x c = times (eqb (operand (of_cell z (variable r x))) (operand c)) (stored r x c)

  -- a parameter of a null instance stays as it is
  unfoldable pub written_to : ℕ → ℕ → ℕ → State
  written_to r x c =
      elim (ltb x (get_or counts (of_head z r struct_of) 0)) [
        | true ↦ elim (ltb r (length counts)) [ true ↦ gone z l (height - 2) after | false ↦ written r x c ]
        | false ↦ stored r x c
      ]

  unfoldable pub do_wr : ℕ → State
  do_wr x = written_to (operand top) x beneath

  -- the n values on top become the parameters of a new instance of struct k, whose label takes their place
  unfoldable pub made : ℕ → ℕ → State
  made k n =
      let c = sets z.cells (row_size * z.machine.count) (take n (drop (stacked l (height - n)) z.cells)) in
      let h = sets z.heads (head_size * z.machine.count) (new_head k) in
      unstable (with_count (pushed (with_cells (with_heads z h) c) l (height - n) (label_cell k z.machine.count) after) (suc z.machine.count))

  unfoldable pub do_cons : ℕ → State
  do_cons k = elim (ltb z.machine.count max_instances) [ true ↦ made k (get_or counts k 0) | false ↦ refused full z ]

  -- a command by its kind, its word and its operand
  unfoldable pub perform : ℕ → ℕ → ℕ → State
  perform kind w v =
      elim (eqb kind 1) [
        | true ↦ do_push w
        | false ↦ elim (eqb kind 2) [
          | true ↦ do_this
          | false ↦ elim (eqb kind 3) [
            | true ↦ do_rd v
            | false ↦ elim (eqb kind 4) [
              | true ↦ do_wr v
              | false ↦ elim (eqb kind 5) [
                | true ↦ do_cons v
                | false ↦ elim (eqb kind 6) [
                  | true ↦ do_if v
                  | false ↦ elim (eqb kind 7) [ true ↦ do_not | false ↦ do_op v ]
                ]
              ]
            ]
          ]
        ]
      ]

-- the word of the next command of instance l
abbrev pub next_word : List ℕ → State → ℕ → ℕ
next_word list z l = get_or list (of_head z l next_of) 0

-- turns are counted on from the label after l, where its command was not refused (02, 'Turns that go round')
unfoldable pub turned : ℕ → State → State
turned l y = elim (eqb y.machine.number 0) [ true ↦ with_from y (suc l) | false ↦ y ]

-- behind a command of instance l as many hold commands as in z before it, or one fewer where it has none left (02, 'Holders kept as a number')
abbrev pub counted : ℕ → State → State → State
counted l z y = turned l (with_holding y (fewer (holds y.heads l) z.machine.holding))

-- instance l takes its next command
unfoldable pub act : List ℕ → List ℕ → ℕ → State → State
act list counts l z = counted l z (perform counts l z (next_word list z l % 256) (next_word list z l) (operand (next_word list z l)))
