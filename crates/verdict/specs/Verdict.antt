-- Checking (01, 'Numbers from the input' and 'Names, types, commands'): a program image to its program or the number of its refusal; with a lent list to
-- what is reported, and to the list's places.
use Rattle.std.specs.Prelude.{ℕ, zero, suc, List, ◌++◌, length, drop, ltb, Option, Some, None}
use Rattle.types.specs.Limits.{program_blocks, max_commands}
use Rattle.types.specs.Numbers.{no_room}
use Rattle.types.specs.Stages.{Stage, Stage.went as accepted, Stage.stopped as refused, on, asked}
use Rattle.blocks.specs.Images.{fault, stream, program_number as block_number}
use Rattle.program.specs.Tree.{Program}
use Rattle.program.specs.Reader.{Result, Result.ok, Result.bad, read}
use Rattle.commands.specs.Bounds.{total, program_size, program_depth}
use Rattle.commands.specs.ProgramWords.{program_words}
use Rattle.commands.specs.Numbers.{breach_number}
use Rattle.block.specs.declared.Fault.{Fault}

-- A program image --------------------------------------------------------------------

-- a program that is accepted, or the number of its refusal
abbrev pub Checked : Type 0
Checked = Stage Program

unfoldable pub judge : Program → ℕ → Checked
judge p zero = accepted p
judge p (suc n) = refused (suc n)

unfoldable pub of_read : Result Program → Checked
of_read (ok p at) = judge p (breach_number p)
of_read (bad at n) = refused n

unfoldable pub of_image : Option Fault → List ℕ → Checked
of_image (Some f) x = refused (block_number f)
of_image None x = of_read (read (stream x))

-- 1 to 8, or the program
unfoldable pub checked : List ℕ → Checked
checked x = of_image (fault program_blocks x) x

-- The list -----------------------------------------------------------------------------

-- it holds the program's words from its first place, and further places are untouched
unfoldable pub listed : Program → List ℕ → List ℕ
listed p list = program_words p ++ drop (length (program_words p)) list

-- What checking answers -----------------------------------------------------------------

pub record Verdict : Type 0 where
  pub number : ℕ
  pub structs : ℕ
  pub steps : ℕ
  pub commands : ℕ
  pub depth : ℕ

-- a refusal reports no counts and no depth
abbrev pub refusal : ℕ → Verdict
refusal n = record { number = n; structs = 0; steps = 0; commands = 0; depth = 0 }

abbrev pub approval : Program → Verdict
approval p = record {
  number = 0;
  structs = length p.params;
  steps = total length p.steps;
  commands = program_size p;
  depth = program_depth p;
}

-- 1 to 8 of an image, then 13 of a lent list
unfoldable pub checks : List ℕ → List ℕ → Checked
checks x list = on (checked x) λ p. asked (ltb (length list) max_commands) no_room (accepted p)

unfoldable pub verdict_of : Checked → Verdict
verdict_of (refused n) = refusal n
verdict_of (accepted p) = approval p

unfoldable pub list_of : Checked → List ℕ → List ℕ
list_of (refused n) list = list
list_of (accepted p) list = listed p list

-- an image and a lent list to the verdict, and to the list's places after it
unfoldable pub check_verdict : List ℕ → List ℕ → Verdict
check_verdict x list = verdict_of (checks x list)

unfoldable pub check_list : List ℕ → List ℕ → List ℕ
check_list x list = list_of (checks x list) list
