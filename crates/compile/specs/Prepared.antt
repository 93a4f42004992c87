-- What a run is prepared with before a machine is seated (01, 'Table and turns'): where the commands of each step of an accepted program stand once the
-- list has them, and the schedule laid flat.
use Rattle.std.specs.Prelude.{ℕ, suc, ◌*◌, ◌≤◌, ◌≡◌, List, ◌++◌, length}
use Rattle.types.specs.Limits.{schedule_items}
use Rattle.program.specs.Tree.{Program}
use Rattle.program.specs.Reader.{Result.ok, read}
use Rattle.commands.specs.Bounds.{Within}
use Rattle.commands.specs.ProgramWords.{program_words}
use Rattle.directory.specs.Directory.{directory}
use Rattle.directory.specs.Rows.{row_places, rows_from}
use Rattle.memory.specs.Plan.{Located}
use Rattle.compile.specs.Spans.{span_places}
use Rattle.compile.specs.Laid.{Behind, Laid}

-- the stream is a program within the limits, its schedule begins at `at`, the n rows are its step directory, and what is lent has room
pub record Preparable (s : List ℕ) (at structs : ℕ) (rows : List ℕ) (n : ℕ) (spans codes : List ℕ) : Type 0 where
  pub program : Program
  pub end : ℕ
  pub reads : read s ≡ ok program end
  pub behind : Behind s program at
  pub counted : structs ≡ length program.params
  pub listed : rows_from rows 0 n ≡ directory program
  pub within : Within program
  pub rows_long : row_places * n ≤ length rows
  pub spans_long : length spans ≡ span_places
  pub codes_long : suc (2 * schedule_items) ≤ length codes

-- what stands in it then: of a list that has the program's words in front, whatever comes after them, where each step's stand
pub record Prepared (p : Program) (spans' codes codes' : List ℕ) : Type 0 where
  pub located : (back : List ℕ) → Located p (program_words p ++ back) spans'
  pub laid : Laid p codes codes'

abbrev pub PreparedProgram : List ℕ → List ℕ → List ℕ → List ℕ → Type 0
PreparedProgram s spans' codes codes' = (p : Program) (m : ℕ) → read s ≡ ok p m → Prepared p spans' codes codes'
