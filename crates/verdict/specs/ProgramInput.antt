-- The conditions of 1 to 8 and of 13, and their order (01, 'Numbers from the input'). Those of 4 and 5 speak of the fronts of programs'
-- encodings: nothing here speaks of reading.
use Rattle.std.specs.Prelude.{ℕ, ◌<◌, ◌≤◌, ◌≡◌, List, [], ◌∷◌, ◌++◌, length}
use Rattle.types.specs.Limits.{program_blocks, max_commands}
use Rattle.types.specs.Orders.{Order}
use Rattle.block.specs.declared.Fault.{Fault}
use Rattle.block.specs.declared.Fault.TheVariants.{Sum, Layout}
use Rattle.blocks.specs.Images.{LengthRight, count, stream}
use Rattle.blocks.specs.Faults.{AllRight, FirstFault}
use Rattle.program.specs.Tree.{Program}
use Rattle.program.specs.Encoding.{enc_program}
use Rattle.program.specs.Counts.{Counts}
use Rattle.program.specs.Fronts.{EndsAt, OffendsAt}
use Rattle.commands.specs.Bounds.{Within}
use Rattle.commands.specs.Names.{NamesRight}
use Rattle.commands.specs.Typing.{TypesRight}
use Rattle.commands.specs.Accepted.{Accepted}
use Rattle.verdict.specs.Verdict.{Verdict, approval}

-- an image of at most max blocks, its length and every block right
pub record ImageRight (max : ℕ) (x : List ℕ) : Type 0 where
  pub length_right : LengthRight max (length x)
  pub blocks_right : AllRight (count x) x (count x)

-- the image's stream is the program's bytes, and the program keeps to the counts, ranges and levels
pub record Reads (x : List ℕ) (p : Program) : Type 0 where
  pub counts : Counts p
  pub bytes : stream x ≡ enc_program p

-- The conditions ---------------------------------------------------------------------

-- an image's length is not a multiple of 512 from 512 to that of max blocks
abbrev pub WrongLength : ℕ → List ℕ → Type 0
WrongLength max x = LengthRight max (length x) → ⊥

-- the first faulty block of an image has wrong sums; wrong index, used count or unused bytes; is faulty
abbrev pub WrongSums : List ℕ → Type 0
WrongSums x = FirstFault (count x) x (count x) Sum

abbrev pub WrongLayout : List ℕ → Type 0
WrongLayout x = FirstFault (count x) x (count x) Layout

abbrev pub WrongBlock : List ℕ → Type 0
WrongBlock x = (f : Fault) × FirstFault (count x) x (count x) f

-- the stream of a program ends early or goes on after its end; has a byte that is not allowed at its place
abbrev pub WrongEnd : List ℕ → Type 0
WrongEnd x = (at : ℕ) × EndsAt (stream x) at

abbrev pub WrongByte : List ℕ → Type 0
WrongByte x = (at : ℕ) × OffendsAt (stream x) at

-- the program that is read is over a limit; breaks a rule of names; of types
abbrev pub OverLimits : List ℕ → Type 0
OverLimits x = (p : Program) × (Reads x p) × (Within p → ⊥)

abbrev pub WrongNames : List ℕ → Type 0
WrongNames x = (p : Program) × (Reads x p) × (NamesRight p → ⊥)

abbrev pub WrongTypes : List ℕ → Type 0
WrongTypes x = (p : Program) × (Reads x p) × (TypesRight p → ⊥)

-- the list has places for fewer than 1,024 commands
abbrev pub ShortList : List ℕ → Type 0
ShortList list = length list < max_commands

-- Their order ------------------------------------------------------------------------

-- Lowest number first. Within 2 and 3 and within 4 and 5 the first place decides: there at most one of the two holds, so that which
-- of them stands before the other says nothing.

-- of a program image
abbrev pub program_order : List ℕ → Order
program_order x =
    (1, WrongLength program_blocks x)
    ∷ (2, WrongSums x)
    ∷ (3, WrongLayout x)
    ∷ (4, WrongEnd x)
    ∷ (5, WrongByte x)
    ∷ (6, OverLimits x)
    ∷ (7, WrongNames x)
    ∷ (8, WrongTypes x)
    ∷ []

-- of what checking is given: program image and list
abbrev pub check_order : List ℕ → List ℕ → Order
check_order x list = program_order x ++ (13, ShortList list) ∷ []

-- What is accepted -----------------------------------------------------------------------

-- a program image that is accepted
pub record AcceptedImage (x : List ℕ) (p : Program) : Type 0 where
  pub image : ImageRight program_blocks x
  pub bytes : stream x ≡ enc_program p
  pub program : Accepted p

-- its stream reads as the program
abbrev pub reads_of : {x : List ℕ} {p : Program} → AcceptedImage x p → Reads x p
reads_of a = record { counts = a.program.0; bytes = a.bytes }

-- the verdict on an accepted program, where the list has room
abbrev pub Approved : List ℕ → List ℕ → Verdict → Type 0
Approved x list v = (p : Program) × (v ≡ approval p) × (AcceptedImage x p) × (max_commands ≤ length list)
