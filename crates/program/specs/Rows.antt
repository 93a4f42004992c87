-- Rows that pin what no law does: streams and what reading them answers, by computation (the bounds of 01's 'Program stream').
use Rattle.std.specs.Prelude.{ℕ, zero, suc, ◌≡◌, refl, List, [], ◌∷◌, ◌++◌, Bool, true, false, ◌&&◌, replicate, eqb, T}
use Rattle.types.specs.Types.{Ty.int, Ty.ref}
use Rattle.program.specs.Tree.{Var.par, Op.op_add, Expr.path, Expr.op, Stmt.update, Stmts.end, Stmts.next, Item.call, Items.stop, Items.item, Program}
use Rattle.program.specs.Reader.{Result, Result.ok, Result.bad}
use Rattle.program.specs.Reader.{read}
use Rattle.program.specs.Unfold.{programs}

-- a program, or a refusal's place and number
pub data Answer : Type 0 where
  accepted : Answer
  refused : ℕ → ℕ → Answer

pub record Row : Type 0 where
  pub stream : List ℕ
  pub answer : Answer

abbrev row : List ℕ → Answer → Row
row s a = record { stream = s; answer = a }

-- a stream, read with every reader open
unfoldable pub reading : List ℕ → Result Program
unfolding programs
reading s = read s

unfoldable pub agrees : Result Program → Answer → Bool
agrees (ok p n) accepted = true
agrees (ok p n) (refused q k) = false
agrees (bad p k) accepted = false
agrees (bad p k) (refused q j) = eqb p q && eqb k j

unfoldable pub holds : Row → Bool
holds r = agrees (reading r.stream) r.answer

unfoldable pub all : List Row → Bool
all [] = true
all (r ∷ rs) = elim (holds r) [ true ↦ all rs | false ↦ false ]

-- a program of one struct with the given parameters, whose step 0 has the given statements behind their count, and a schedule
unfoldable pub program : List ℕ → List ℕ → List ℕ → List ℕ
program params body schedule = 1 ∷ params ++ 1 ∷ 0 ∷ body ++ schedule

-- the same with P's parameters and schedule
unfoldable pub step : List ℕ → List ℕ
step body = program (2 ∷ 0 ∷ 16 ∷ []) body (1 ∷ 1 ∷ 0 ∷ [])

-- load := load + prev.load
unfoldable pub adding : List ℕ
adding = 3 ∷ 1 ∷ 0 ∷ 41 ∷ 18 ∷ 1 ∷ 0 ∷ 18 ∷ 2 ∷ 1 ∷ 0 ∷ []

unfoldable pub stream_P : List ℕ
stream_P = step (1 ∷ adding)

-- an if over n nots and the given bytes; n ifs in one another; n Fixes in one another
unfoldable pub nots : ℕ → List ℕ → List ℕ
nots n rest = 1 ∷ 1 ∷ replicate n 16 ++ rest

unfoldable pub ifs : ℕ → List ℕ
ifs zero = 0 ∷ []
ifs (suc n) = 1 ∷ 1 ∷ 21 ∷ 1 ∷ ifs n

unfoldable pub fixes : ℕ → List ℕ
fixes zero = 1 ∷ 1 ∷ 0 ∷ []
fixes (suc n) = 1 ∷ 3 ∷ fixes n

-- P's update n times
unfoldable pub addings : ℕ → List ℕ
addings zero = []
addings (suc n) = adding ++ addings n

-- load := an expression
unfoldable pub load : List ℕ → List ℕ
load e = step (1 ∷ 3 ∷ 1 ∷ 0 ∷ e)

unfoldable pub rows : List Row
rows =
    -- levels
    row (1 ∷ 0 ∷ 1 ∷ 0 ∷ nots 16 []) (refused 22 4)
    ∷ row (step (ifs 8)) accepted
    ∷ row (step (ifs 9)) (refused 39 5)
    ∷ row (program (0 ∷ []) (0 ∷ []) (fixes 8)) accepted
    ∷ row (program (0 ∷ []) (0 ∷ []) (fixes 9)) (refused 22 5)
    -- counts
    ∷ row [] (refused 0 4)
    ∷ row (0 ∷ []) (refused 0 5)
    ∷ row (17 ∷ []) (refused 0 5)
    ∷ row (16 ∷ []) (refused 1 4)
    ∷ row (program (9 ∷ []) (0 ∷ []) (1 ∷ 1 ∷ 0 ∷ [])) (refused 1 5)
    ∷ row (1 ∷ 0 ∷ 9 ∷ []) (refused 2 5)
    ∷ row (1 ∷ 0 ∷ 1 ∷ 32 ∷ []) (refused 3 5)
    ∷ row (step (32 ∷ addings 32)) accepted
    ∷ row (step (33 ∷ addings 33)) (refused 6 5)
    ∷ row (program (0 ∷ []) (0 ∷ []) (0 ∷ [])) (refused 5 5)
    ∷ row (program (0 ∷ []) (0 ∷ []) (33 ∷ [])) (refused 5 5)
    ∷ row (program (0 ∷ []) (0 ∷ []) (1 ∷ 3 ∷ 0 ∷ [])) (refused 7 5)
    -- types: struct 1 of one; struct 1 of two, before its own parameters
    ∷ row (program (1 ∷ 3 ∷ []) (0 ∷ []) (1 ∷ 1 ∷ 0 ∷ [])) (refused 2 5)
    ∷ row (program (1 ∷ 17 ∷ []) (0 ∷ []) (1 ∷ 1 ∷ 0 ∷ [])) (refused 2 5)
    ∷ row (2 ∷ 1 ∷ 17 ∷ 0 ∷ 0 ∷ 0 ∷ 1 ∷ 1 ∷ 0 ∷ []) accepted
    -- paths and locals
    ∷ row (load (18 ∷ 0 ∷ [])) (refused 11 5)
    ∷ row (load (18 ∷ 5 ∷ [])) (refused 11 5)
    ∷ row (load (18 ∷ 4 ∷ 8 ∷ 1 ∷ 1 ∷ 0 ∷ [])) accepted
    ∷ row (load (18 ∷ 2 ∷ 1 ∷ 8 ∷ [])) (refused 13 5)
    ∷ row (load (18 ∷ 1 ∷ 16 ∷ [])) (refused 12 5)
    ∷ row (step (1 ∷ 2 ∷ 0 ∷ 8 ∷ 23 ∷ [])) accepted
    ∷ row (step (1 ∷ 2 ∷ 0 ∷ 7 ∷ 23 ∷ [])) (refused 9 5)
    ∷ row (step (1 ∷ 2 ∷ 0 ∷ 16 ∷ 23 ∷ [])) (refused 9 5)
    -- forms
    ∷ row (load (15 ∷ [])) (refused 10 5)
    ∷ row (load (24 ∷ [])) (refused 10 5)
    ∷ row (load (31 ∷ 23 ∷ 23 ∷ [])) (refused 10 5)
    ∷ row (load (32 ∷ 23 ∷ 23 ∷ [])) accepted
    ∷ row (load (44 ∷ 23 ∷ 23 ∷ [])) accepted
    ∷ row (load (45 ∷ 23 ∷ 23 ∷ [])) (refused 10 5)
    ∷ row (load (21 ∷ 2 ∷ [])) (refused 11 5)
    ∷ row (load (22 ∷ 17 ∷ [])) (refused 11 5)
    ∷ row (load (17 ∷ 1 ∷ [])) (refused 11 5)
    ∷ row (load (17 ∷ 0 ∷ 19 ∷ 255 ∷ 255 ∷ 255 ∷ 255 ∷ 22 ∷ 16 ∷ [])) accepted
    ∷ row (step (1 ∷ 4 ∷ 1 ∷ [])) (refused 8 5)
    ∷ row (step (1 ∷ 0 ∷ [])) (refused 7 5)
    ∷ row (step (1 ∷ 5 ∷ [])) (refused 7 5)
    ∷ row (program (0 ∷ []) (0 ∷ []) (1 ∷ 2 ∷ 1 ∷ 0 ∷ [])) (refused 7 5)
    ∷ row (program (0 ∷ []) (0 ∷ []) (1 ∷ 4 ∷ [])) (refused 6 5)
    -- ends: behind P, and in a literal of four bytes
    ∷ row (stream_P ++ 0 ∷ []) (refused 21 4)
    ∷ row (1 ∷ 0 ∷ 1 ∷ 0 ∷ 1 ∷ 3 ∷ 1 ∷ 0 ∷ 20 ∷ 1 ∷ 2 ∷ []) (refused 11 4)
    ∷ []

-- every row of the table holds
pub rows_hold : T (all rows)
unfolding all rows holds agrees program step adding stream_P nots ifs fixes addings load reading
rows_hold = tt

-- P's stream is read to its tree
pub tree_P : read stream_P
    ≡ ok
    (record {
      params = (int ∷ ref 0 ∷ []) ∷ [];
      steps = (record { name = 0; body = next (update (par 0) [] (op op_add (path (par 0) []) (path (par 1) (0 ∷ [])))) end } ∷ []) ∷ [];
      schedule = item (call 0) stop;
    })
    21
unfolding program step adding stream_P reading
tree_P = refl
