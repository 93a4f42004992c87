-- The programs and tables of the rows, as streams (01, 'Bench rows' and 'Slips seen before').
use Rattle.std.specs.Prelude.{ℕ, List, [], ◌∷◌, ◌++◌, replicate}
use Rattle.program.specs.Encoding.{enc_word}
use Rattle.program.specs.Rows.{program, addings}

-- 01's programs --------------------------------------------------------------------

-- P's struct, its update n times, and a schedule; the step 0 once, twice, in a Fix
unfoldable pub P-with : ℕ → List ℕ → List ℕ
P-with n schedule = program (2 ∷ 0 ∷ 16 ∷ []) (n ∷ addings n) schedule

abbrev pub once : List ℕ
once = 1 ∷ 1 ∷ 0 ∷ []

abbrev pub twice : List ℕ
twice = 2 ∷ 1 ∷ 0 ∷ 1 ∷ 0 ∷ []

abbrev pub in_fix : List ℕ
in_fix = 1 ∷ 3 ∷ 1 ∷ 1 ∷ 0 ∷ []

-- P's update eight times and a construct statement of an added parameterless struct
unfoldable pub P-65 : List ℕ
P-65 = 2 ∷ 2 ∷ 0 ∷ 16 ∷ 0 ∷ 1 ∷ 0 ∷ 9 ∷ addings 8 ++ 4 ∷ 1 ∷ 0 ∷ once

-- one struct with a Bool: n nots over true are written to it
unfoldable pub nots : ℕ → List ℕ
nots n = program (1 ∷ 2 ∷ []) (1 ∷ 3 ∷ 1 ∷ 0 ∷ replicate n 16 ++ 21 ∷ 1 ∷ []) once

-- Other programs -----------------------------------------------------------------------

-- one struct with an Int: load := 1 in a Fix
unfoldable pub one_in_fix : List ℕ
one_in_fix = program (1 ∷ 0 ∷ []) (1 ∷ 3 ∷ 1 ∷ 0 ∷ 19 ∷ 1 ∷ 0 ∷ 0 ∷ 0 ∷ []) in_fix

-- the same struct: a local is 7, and a new instance has it
unfoldable pub local_7 : List ℕ
local_7 = program (1 ∷ 0 ∷ []) (2 ∷ 2 ∷ 0 ∷ 8 ∷ 19 ∷ 7 ∷ 0 ∷ 0 ∷ 0 ∷ 4 ∷ 0 ∷ 18 ∷ 1 ∷ 8 ∷ []) once

-- one struct with a Bool: it becomes `b o (1 / 0 = 0)`, of the operator o and the truth b
unfoldable pub both_sides : ℕ → ℕ → List ℕ
both_sides o b =
    program (1 ∷ 2 ∷ [])
    (1 ∷ 3 ∷ 1 ∷ 0 ∷ o ∷ 21 ∷ b ∷ 32 ∷ 39 ∷ 19 ∷ 1 ∷ 0 ∷ 0 ∷ 0 ∷ 19 ∷ 0 ∷ 0 ∷ 0 ∷ 0 ∷ 19 ∷ 0 ∷ 0 ∷ 0 ∷ 0 ∷ []) once

-- four structs without parameters: the step 0 of struct 0 constructs a struct 2, that of struct 1 a struct 3; run twice
unfoldable pub makers : List ℕ
makers = 4 ∷ 0 ∷ 0 ∷ 0 ∷ 0 ∷ 1 ∷ 0 ∷ 1 ∷ 4 ∷ 2 ∷ 1 ∷ 0 ∷ 1 ∷ 4 ∷ 3 ∷ 0 ∷ 0 ∷ twice

-- two structs with an Int: the step 0 of struct 1 constructs a struct 1 with 10 more, its step 1 a struct 0 with the same; one after the other
unfoldable pub chained : List ℕ
chained =
    2 ∷ 1 ∷ 0 ∷ 1 ∷ 0 ∷ 0 ∷ 2 ∷ 0 ∷ 1 ∷ 4 ∷ 1 ∷ 41 ∷ 18 ∷ 1 ∷ 0 ∷ 19 ∷ 10 ∷ 0 ∷ 0 ∷ 0
    ∷ 1 ∷ 1 ∷ 4 ∷ 0 ∷ 18 ∷ 1 ∷ 0 ∷ 2 ∷ 1 ∷ 0 ∷ 1 ∷ 1 ∷ []

-- two structs without parameters: struct 0 constructs struct 1, in a Fix
unfoldable pub constructing : List ℕ
constructing = 2 ∷ 0 ∷ 0 ∷ 1 ∷ 0 ∷ 1 ∷ 4 ∷ 1 ∷ 0 ∷ 1 ∷ 3 ∷ 1 ∷ 2 ∷ 0 ∷ 0 ∷ []

-- one struct with an Int: step 0 declares a local; step 1 makes the load 1 where it is less; Fix (0, Fix (1))
unfoldable pub inner_fix : List ℕ
inner_fix =
    1 ∷ 1 ∷ 0 ∷ 2 ∷ 0 ∷ 1 ∷ 2 ∷ 0 ∷ 8 ∷ 22 ∷ 0
    ∷ 1 ∷ 1 ∷ 1 ∷ 36 ∷ 18 ∷ 1 ∷ 0 ∷ 19 ∷ 1 ∷ 0 ∷ 0 ∷ 0 ∷ 1 ∷ 3 ∷ 1 ∷ 0 ∷ 19 ∷ 1 ∷ 0 ∷ 0 ∷ 0
    ∷ 1 ∷ 3 ∷ 2 ∷ 1 ∷ 0 ∷ 3 ∷ 1 ∷ 1 ∷ 1 ∷ []

-- one struct without parameters constructs itself
unfoldable pub itself : List ℕ → List ℕ
itself schedule = program (0 ∷ []) (1 ∷ 4 ∷ 0 ∷ []) schedule

-- an empty step under Fixes
unfoldable pub nothing : List ℕ
nothing = program (0 ∷ []) (0 ∷ []) (3 ∷ 1 ∷ 0 ∷ 3 ∷ 2 ∷ 1 ∷ 0 ∷ 3 ∷ 1 ∷ 2 ∷ 0 ∷ 0 ∷ 1 ∷ 0 ∷ [])

-- three structs without parameters: the step 0 of struct 0 constructs a struct 2, that of struct 1 does where false is true
unfoldable pub chosen_by : List ℕ → List ℕ
chosen_by schedule = 3 ∷ 0 ∷ 0 ∷ 0 ∷ 1 ∷ 0 ∷ 1 ∷ 4 ∷ 2 ∷ 1 ∷ 0 ∷ 1 ∷ 1 ∷ 21 ∷ 0 ∷ 1 ∷ 4 ∷ 2 ∷ 0 ∷ schedule

-- P's struct: prev.prev.load := load
unfoldable pub along_path : List ℕ
along_path = program (2 ∷ 0 ∷ 16 ∷ []) (1 ∷ 3 ∷ 3 ∷ 1 ∷ 1 ∷ 0 ∷ 18 ∷ 1 ∷ 0 ∷ []) once

-- struct 0: step 0 declares a local as 7 and constructs a struct 1, and has nothing in step 2; struct 1 has nothing in step 1
unfoldable pub leaving : List ℕ → List ℕ
leaving schedule = 2 ∷ 0 ∷ 0 ∷ 2 ∷ 0 ∷ 2 ∷ 2 ∷ 0 ∷ 8 ∷ 19 ∷ 7 ∷ 0 ∷ 0 ∷ 0 ∷ 4 ∷ 1 ∷ 2 ∷ 0 ∷ 1 ∷ 1 ∷ 0 ∷ schedule

-- Tables --------------------------------------------------------------------------------

-- a record of P's struct; of a struct with an Int or a reference
unfoldable pub cell : ℕ → ℕ → List ℕ
cell load prev = 0 ∷ enc_word 4 load ++ enc_word 4 prev

unfoldable pub single : ℕ → List ℕ
single v = 0 ∷ enc_word 4 v

-- no record; these; n of a struct without parameters
abbrev pub empty : List ℕ
empty = 0 ∷ 0 ∷ []

unfoldable pub cells : ℕ → List ℕ → List ℕ
cells n bytes = n ∷ 0 ∷ bytes

unfoldable pub plain : ℕ → ℕ → List ℕ
plain n k = n ∷ 0 ∷ replicate n k
