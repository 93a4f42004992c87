-- 01's own rows, those marked * (01, 'Bench rows'), as 02 counts turns ('Turns that go round'): each a program image, a table image and turn bytes,
-- with the verdict, the report and the bytes that the entries come to. One table, one proposition (`RowRight`), one proof.
use Rattle.std.specs.Prelude.{ℕ, ◌≡◌, refl, List, [], ◌∷◌, ◌++◌, map, replicate}
use Rattle.program.specs.Counts.{All}
use Rattle.program.specs.Rows.{program, adding, addings}
use Rattle.verdict.specs.Verdict.{Verdict, refusal}
use Rattle.run.specs.EntryStreams.{Summary, summary}
use Rattle.run.proofs.Rows.RowsOpen.{running}
use Rattle.verdict.proofs.Rows.{P}
use Rattle.run.proofs.Rows.RowPrograms.{P-with, once, in_fix, P-65, nots, cell, empty, cells}
use Rattle.run.proofs.Rows.RowLaws.{Row, RowRight, computed, said, rows_follow}

abbrev pub row : List ℕ → List ℕ → List ℕ → Verdict → Summary → Row
row s t es v z = record { program = s; table = t; turns = es; verdict = v; comes_to = z }

-- structs, steps, commands and depth of an accepted program
abbrev pub ok : ℕ → ℕ → ℕ → ℕ → Verdict
ok s t c d = record { number = 0; structs = s; steps = t; commands = c; depth = d }

abbrev pub zeros : ℕ → List ℕ
zeros n = replicate n 0

-- a row of P: records, turns; number, turns taken, holders, records. A row of a program that is refused
abbrev pub of_P : List ℕ → List ℕ → ℕ → ℕ → ℕ → List ℕ → Row
of_P t es n k h left = row P t es (ok 1 1 8 2) (summary n k 2 h left)

abbrev pub no_program : List ℕ → ℕ → Row
no_program s n = row s empty [] (refusal n) (summary n 0 0 0 [])

-- two records (load, prev)
abbrev pub two : ℕ → ℕ → ℕ → ℕ → List ℕ
two l p m q = cells 2 (cell l p ++ cell m q)

unfoldable pub bench : List Row
bench =
    -- (5,0),(7,1): 24 zeros; 23 zeros
    of_P (two 5 0 7 1) (zeros 24) 0 24 0 (two 5 0 12 1)
    ∷ of_P (two 5 0 7 1) (zeros 23) 33 23 1 (two 5 0 7 1)
    -- (5,2),(7,1): 24 zeros
    ∷ of_P (two 5 2 7 1) (zeros 24) 0 24 0 (two 12 2 12 1)
    -- (1,0),(2147483647,1), zeros
    ∷ of_P (two 1 0 2147483647 1) (zeros 24) 35 17 3 (two 1 0 2147483647 1)
    -- P in a Fix: (5,0); N = 0
    ∷ row (P-with 1 in_fix) (cells 1 (cell 5 0)) (zeros 40) (ok 1 1 8 2) (summary 0 16 2 0 (cells 1 (cell 5 0)))
    ∷ row (P-with 1 in_fix) empty (zeros 40) (ok 1 1 8 2) (summary 0 8 2 0 empty)
    -- 15 nots over a Bool; 16
    ∷ row (nots 15) empty (zeros 20) (ok 1 1 18 2) (summary 0 18 2 0 empty)
    ∷ no_program (nots 16) 5
    -- P's update eight times, 64 commands; and a construct statement of an added parameterless struct, 65
    ∷ row (P-with 8 once) empty (zeros 64) (ok 1 1 64 2) (summary 0 64 2 0 empty)
    ∷ no_program P-65 6
    ∷ []

computes : map computed bench ≡ map said bench
unfolding bench running program adding addings P P-with P-65 nots cell cells
computes = refl

-- every row of 01 is right
pub bench_right : All RowRight bench
bench_right = rows_follow bench computes
