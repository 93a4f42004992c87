-- What is asked of the memory of a count (02 §14): whether a step is there, and what is wrong with a label and a parameter.
use Rattle.std.specs.Prelude.{ℕ, zero, suc, ◌+◌, ◌*◌, ◌<◌, ◌≤◌, Bool, true, false, ◌||◌, List, length, get_or, eqb, leb, ltb}
use Rattle.types.specs.Limits.{max_params, schedule_items}
use Rattle.types.specs.Numbers.{absent, wrong_types}
use Rattle.layout.specs.Layout.{head, head_size, struct_of}
use Rattle.memory.specs.Plan.{from, to}
use Rattle.commands.specs.ProgramWords.{structs_words}
use Rattle.emit.specs.Written.{Ready as Writable, structs_at}
use Rattle.emit_steps.specs.Emitted.{EmittedProgram}
use Rattle.compile.specs.Prepared.{Preparable, PreparedProgram}
use Rattle.table_read.specs.Params.{Tables}
use Rattle.count_images.specs.declared.Asking.{Asking}

-- a program that may be compiled into a list, whatever room its schedule is given: its steps and its schedule may be noted, and its commands written
pub record Compilable (s counts rows : List ℕ) (a : Asking) (list spans : List ℕ) : Type 0 where
  pub noted : (codes : List ℕ) → suc (2 * schedule_items) ≤ length codes → Preparable s a.plan (length counts) rows a.steps spans codes
  pub written : Writable structs_words (structs_at counts s (length counts) a.seat.at) list 0

-- and was
pub record Compiled (s counts : List ℕ) (at : ℕ) (list list' spans' : List ℕ) : Type 0 where
  pub room : List ℕ
  pub codes : List ℕ
  pub noted : PreparedProgram s spans' room codes
  pub emitted : EmittedProgram counts s at list list'

-- one of the n structs from k on has the step
unfoldable pub has_step : List ℕ → ℕ → ℕ → ℕ → Bool
has_step spans name k zero = false
has_step spans name k (suc n) = leb (from spans k name) (to spans k name) || has_step spans name (suc k) n

-- memory of so many instances beside the parameters of a program
pub record Askable (heads counts types : List ℕ) (count : ℕ) : Type 0 where
  pub tables : Tables counts types
  pub long : head_size * count ≤ length heads
  pub known : (l : ℕ) → l < count → get_or heads (head l struct_of) 0 < length counts

-- 21, 8 or 0 of parameter v of label l
abbrev pub bool_byte : ℕ
bool_byte = 2

unfoldable pub type_number : ℕ → ℕ
type_number c = elim (eqb c bool_byte) [ true ↦ 0 | false ↦ wrong_types ]

unfoldable pub param_number : List ℕ → List ℕ → ℕ → ℕ → ℕ
param_number counts types k v = elim (leb (get_or counts k 0) v) [ true ↦ absent | false ↦ type_number (get_or types (max_params * k + v) 0) ]

unfoldable pub place_number : List ℕ → List ℕ → List ℕ → ℕ → ℕ → ℕ → ℕ
place_number heads counts types count l v =
    elim (leb count l) [ true ↦ absent | false ↦ param_number counts types (get_or heads (head l struct_of) 0) v ]
