-- The directory of a program (01, 'Names, types, commands'): a row for each step, at most 128; each begins where the one before it ends, and
-- together they have the program's commands.
use Rattle.std.specs.Prelude.{ℕ, suc, ◌+◌, ◌*◌, ◌<◌, ◌≤◌, ◌≡◌, refl, List, [], ◌∷◌, ◌++◌, length}
use Rattle.std.proofs.Common.{arith, ap, length-append}
use Rattle.types.specs.Limits.{max_structs, max_steps, step_names}
use Rattle.program.specs.Tree.{Step, Program}
use Rattle.program.specs.Counts.{All, Few, CountsStep, Counts}
use Rattle.commands.specs.Bounds.{total, arities, step_size, program_size}
use Rattle.commands.proofs.Laws.RangeLaws.{all_append}
use Rattle.directory.specs.declared.Row.{Row}
use Rattle.directory.specs.Directory.{steps_rows, structs_rows, directory}

-- How many -----------------------------------------------------------------------------

steps_count : (k a : ℕ) (ts : List Step) → length (steps_rows k a ts) ≡ length ts
unfolding steps_rows
steps_count k a [] = refl
steps_count k a (t ∷ ts) = ap suc (steps_count k (a + step_size t) ts)

structs_count : (k a : ℕ) (tss : List (List Step)) → length (structs_rows k a tss) ≡ total length tss
unfolding structs_rows total
structs_count k a [] = refl
structs_count k a (ts ∷ tss) = rw (length-append, steps_count k a ts, structs_count (suc k) (a + total step_size ts) tss)

-- a row for each step
pub directory_count : (p : Program) → length (directory p) ≡ total length p.steps
unfolding directory
directory_count p = structs_count 0 0 p.steps

pub total_few : {A : Type 0} (n : ℕ) (C : A → Type 0) (l : List (List A)) → All (Few 0 n C) l → total length l ≤ n * length l
unfolding total
total_few n C [] h = omega arith
total_few n C (a ∷ l) h = omega (arith, h.0.1, total_few n C l h.1)

-- at most 128
pub directory_few : (p : Program) → Counts p → length (directory p) ≤ max_structs * max_steps
unfolding Counts
directory_few p c = omega (arith, directory_count p, total_few max_steps (CountsStep (arities p)) p.steps c.2, c.1, c.0.1)

-- Of which struct and name ------------------------------------------------------------

-- a struct and a name that a program may have
abbrev pub RowInRange : Row → Type 0
RowInRange r = (r.structure < max_structs) × (r.name < step_names)

pub all_both : {A : Type 0} (C D : A → Type 0) (l : List A) → All C l → All D l → All (λ a. (C a) × (D a)) l
all_both C D [] h g = tt
all_both C D (a ∷ l) h g = ((h.0, g.0), all_both C D l h.1 g.1)

steps_ranged : (ar : List ℕ) (k a : ℕ) (ts : List Step) → k < max_structs → All (CountsStep ar) ts → All RowInRange (steps_rows k a ts)
unfolding steps_rows CountsStep
steps_ranged ar k a [] l h = tt
steps_ranged ar k a (t ∷ ts) l h = ((l, h.0.0), steps_ranged ar k (a + step_size t) ts l h.1)

structs_ranged : (ar : List ℕ) (k a : ℕ) (tss : List (List Step)) → k + length tss ≤ max_structs → All (Few 0 max_steps (CountsStep ar)) tss
    → All RowInRange (structs_rows k a tss)
unfolding structs_rows
structs_ranged ar k a [] l h = tt
structs_ranged ar k a (ts ∷ tss) l h =
    all_append RowInRange (steps_rows k a ts) _ (steps_ranged ar k a ts (omega arith) h.0.2)
    (structs_ranged ar (suc k) (a + total step_size ts) tss (omega arith) h.1)

-- those of the program
pub directory_ranged : (p : Program) → Counts p → All RowInRange (directory p)
unfolding Counts directory
directory_ranged p c = structs_ranged (arities p) 0 0 p.steps (omega (arith, c.1, c.0.1)) c.2

-- Where they begin ---------------------------------------------------------------------

abbrev pub sizes : List Row → ℕ
sizes rs = total (λ (r : Row). r.size) rs

-- each row begins where the one before it ends, the first at a
abbrev Consecutive : ℕ → List Row → Type 0
Consecutive a [] = Unit {0}
Consecutive a (r ∷ rs) = (r.start ≡ a) × (Consecutive (a + r.size) rs)

sizes_append : (xs ys : List Row) → sizes (xs ++ ys) ≡ sizes xs + sizes ys
unfolding total
sizes_append [] ys = omega arith
sizes_append (x ∷ xs) ys = omega (arith, sizes_append xs ys)

consecutive_append : (xs ys : List Row) (a e : ℕ) → e ≡ a + sizes xs → Consecutive a xs → Consecutive e ys → Consecutive a (xs ++ ys)
unfolding total
consecutive_append [] ys a e i h g = let z : e ≡ a = omega arith in rw z at g
consecutive_append (x ∷ xs) ys a e i h g = (h.0, consecutive_append xs ys (a + x.size) e (omega arith) h.1 g)

steps_sizes : (k a : ℕ) (ts : List Step) → sizes (steps_rows k a ts) ≡ total step_size ts
unfolding steps_rows total
steps_sizes k a [] = refl
steps_sizes k a (t ∷ ts) = ap (λ (n : ℕ). step_size t + n) (steps_sizes k (a + step_size t) ts)

structs_sizes : (k a : ℕ) (tss : List (List Step)) → sizes (structs_rows k a tss) ≡ total (total step_size) tss
unfolding structs_rows total
structs_sizes k a [] = refl
structs_sizes k a (ts ∷ tss) = rw (sizes_append, steps_sizes k a ts, structs_sizes (suc k) (a + total step_size ts) tss)

steps_consecutive : (k a : ℕ) (ts : List Step) → Consecutive a (steps_rows k a ts)
unfolding steps_rows
steps_consecutive k a [] = tt
steps_consecutive k a (t ∷ ts) = (refl, steps_consecutive k (a + step_size t) ts)

structs_consecutive : (k a : ℕ) (tss : List (List Step)) → Consecutive a (structs_rows k a tss)
unfolding structs_rows
structs_consecutive k a [] = tt
structs_consecutive k a (ts ∷ tss) =
    consecutive_append (steps_rows k a ts) _ a (a + total step_size ts) (rw (steps_sizes k a ts)) (steps_consecutive k a ts)
    (structs_consecutive (suc k) (a + total step_size ts) tss)

-- each ends within the commands of all
inside : (b a : ℕ) (rs : List Row) → Consecutive a rs → a + sizes rs ≤ b → All (λ (r : Row). r.start + r.size ≤ b) rs
unfolding total
inside b a [] h l = tt
inside b a (r ∷ rs) h l = (omega (arith, h.0), inside b (a + r.size) rs h.1 (omega arith))

pub directory_inside : (p : Program) (b : ℕ) → program_size p ≤ b → All (λ (r : Row). r.start + r.size ≤ b) (directory p)
unfolding directory program_size
directory_inside p b l =
    inside b 0 (directory p) (structs_consecutive 0 0 p.steps) (omega (arith, structs_sizes 0 0 p.steps))

-- the sizes together are the commands of the program
pub directory_size : (p : Program) → sizes (directory p) ≡ program_size p
unfolding directory program_size
directory_size p = structs_sizes 0 0 p.steps
