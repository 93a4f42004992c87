-- What a count on images comes to (02 §14), stage by stage, of every program that is opened and every table that is seated.
use Rattle.std.specs.Prelude.{ℕ, ◌*◌, ◌≤◌, ◌≡◌, List, length, Result, Ok, Err}
use Rattle.types.specs.Refusals.{number}
use Rattle.types.specs.declared.refusal.Refusal.{Refusal}
use Rattle.types.specs.Stages.{on}
use Rattle.program.specs.Tree.{Program}
use Rattle.program.specs.Reader.{Result.ok}
use Rattle.commands.specs.Bounds.{arities}
use Rattle.table.specs.Table.{Record, TableRight}
use Rattle.run.specs.Begin.{begin}
use Rattle.run.specs.Entry.{Begun, with_table, run_list_by}
use Rattle.emit.specs.Written.{structs_at}
use Rattle.directory.specs.Directory.{directory}
use Rattle.directory.specs.Rows.{row_places, rows_from}
use Rattle.seating.specs.declared.Opened.{Opened}
use Rattle.seating.specs.Seated.{Opens, Admits, Seated}
use Rattle.counts.specs.CountEntry.{of_question, with_question, Counted, counted, count_by}
use Rattle.count_images.specs.declared.Counts.{Counts}
use Rattle.count_images.specs.declared.Question.{Question}
use Rattle.count_images.specs.declared.Asking.{Asking}

-- as the code has it
abbrev pub answer : Counted → Counts
answer r = record { number = r.number; truths = r.true_orders; falsehoods = r.false_orders; stops = r.stopped_orders }

-- that was made, or refused
abbrev pub settled : Result Counts Refusal → Counts
settled (Ok c) = c
settled (Err n) = answer (counted (number n) 0 0 0)

-- the number of a refusal; 0 where there is none
abbrev pub why : Result (Unit {0}) Refusal → ℕ
why (Ok u) = 0
why (Err n) = number n

-- a program and a table that are seated, with the rows of the program's step directory
pub record Subject (s counts types rows : List ℕ) (a : Asking) (heads cells : List ℕ) (p : Program) (rs : List Record) : Type 0 where
  pub admits : Admits s counts types a.seat.at p
  pub planned : structs_at (arities p) s (length (arities p)) a.seat.at ≡ ok p.steps a.plan
  pub listed : rows_from rows 0 a.steps ≡ directory p
  pub long : row_places * a.steps ≤ length rows
  pub right : TableRight p.params rs
  pub seated : Seated s counts a.seat heads cells p (begin p rs)

abbrev pub Questionable : List ℕ → List ℕ → List ℕ → List ℕ → Asking → List ℕ → List ℕ → Type 0
Questionable s counts types rows a heads cells = (p : Program) × (rs : List Record) × (Subject s counts types rows a heads cells p rs)

-- what is answered of them, the list apart
abbrev pub Questioned : List ℕ → List ℕ → List ℕ → List ℕ → Asking → List ℕ → List ℕ → Counts → Type 0
Questioned s counts types rows a heads cells r =
    let q = a.question in
    (p : Program) (rs : List Record) → Subject s counts types rows a heads cells p rs
    → r ≡ answer (count_by q.name q.label q.parameter (of_question q.name q.label q.parameter (p, rs)))

-- what is answered, and what the list holds then, where program and table come to b
pub record Answers (b : Begun) (q : Question) (list : List ℕ) (r : Counts) (list' : List ℕ) : Type 0 where
  pub counted : r ≡ answer (count_by q.name q.label q.parameter (on b (with_question q.name q.label q.parameter list)))
  pub listed : list' ≡ run_list_by (on b (with_question q.name q.label q.parameter list)) list

-- whatever program is opened
abbrev pub Begins : Opened → List ℕ → List ℕ → List ℕ → Question → List ℕ → Counts → List ℕ → Type 0
Begins o s rows y q list r list' = (p : Program) → Opens o s rows p → Answers (with_table y p) q list r list'
