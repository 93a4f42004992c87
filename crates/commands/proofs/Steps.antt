-- What holds of each step of a program, found by its struct and name (01, numbers 7 and 8; 'Names, types, commands').
use Rattle.std.specs.Prelude.{ℕ, zero, suc, ◌+◌, ◌≡◌, refl, Bool, true, false, length, get_or, eqb}
use Rattle.std.proofs.Common.{arith, suc-add, add-suc, add-zero}
use Rattle.std.proofs.Math.Nat.{zero-add}
use Rattle.std.proofs.Math.Option.{some}
use mathlib.Core.List.Memᴰ
use mathlib.Core.List.{List, [], ◌∷◌, Memᴰ}
use Rattle.program.specs.Tree.{Stmts, Step, Program}
use Rattle.program.specs.Counts.{All}
use Rattle.commands.specs.Context.{params_of, context, find_step, step_of}
use Rattle.commands.specs.Names.{Named, NamedSteps, NamesRight}
use Rattle.commands.specs.Typing.{Typed, TypedSteps, TypesRight}
use Rattle.commands.specs.Noted.{noted}
use Rattle.commands.specs.Tags.{at_start, Safe}
use Rattle.commands.proofs.Laws.Static.{secure_step}
use Rattle.commands.specs.Living.{lives, alive, Among}
use Rattle.commands.specs.Secure.{Secure}
use Rattle.commands.proofs.Laws.SecureLaws.{secure_safe}

-- what holds of all holds of each
pub of_each : {A : Type 0} (C : A → Type 0) {a : A} {l : List A} → All C l → Memᴰ a l → C a
of_each C c (Memᴰ.head e) = rw e c.0
of_each C c (Memᴰ.tail m) = of_each C c.1 m

-- where P holds of the steps of each struct, counted from j on, it holds of those of struct j + k
each_step : (P : ℕ → Step → Type 0) (Q : ℕ → List (List Step) → Type 0)
    → ((j : ℕ) (ts : List Step) (tss : List (List Step)) → Q j (ts ∷ tss) → All (P j) ts × Q (suc j) tss)
    → (j : ℕ) (tss : List (List Step)) (k : ℕ) {t : Step} → Q j tss → Memᴰ t (get_or tss k []) → P (j + k) t
each_step P Q take j [] k q m = absurd (Memᴰ.not-nil m)
each_step P Q take j (ts ∷ tss) zero q m = rw add-zero (of_each (P j) (take j ts tss q).0 m)
each_step P Q take j (ts ∷ tss) (suc k) {t = t} q m =
    rw (add-suc, ← suc-add) (each_step P Q take (suc j) tss k (take j ts tss q).1 m)

-- a step that is found is one of the steps
pub found : (ts : List Step) (n : ℕ) {b : Stmts} → find_step ts n ≡ some b → (t : Step) × Memᴰ t ts × (t.body ≡ b)
unfolding find_step
found [] n e = let z : ◌≡◌ {A = ℕ} 0 1 = cc in absurd (omega arith)
found (t ∷ ts) n {b = b} e = go (eqb t.name n) e (λ e. found ts n e)
  where
    go : (q : Bool) → elim q [ true ↦ some t.body | false ↦ find_step ts n ] ≡ some b
        → (find_step ts n ≡ some b → (u : Step) × Memᴰ u ts × (u.body ≡ b))
        → (u : Step) × Memᴰ u (t ∷ ts) × (u.body ≡ b)
    go true e k = (t, Memᴰ.head refl, cc)
    go false e k = let (u, m, q) = k e in (u, Memᴰ.tail m, q)

module _ (p : Program) (types : TypesRight p) (k : ℕ) where
  -- every step of a program with right types is typed,
  program_typed : (t : Step) → Memᴰ t (get_or p.steps k []) → Typed (context p k t.body) t.body
  unfolding TypesRight
  program_typed t m =
      rw zero-add at (each_step (λ j t. Typed (context p j t.body) t.body) (TypedSteps p) (λ j ts tss q. q) 0 p.steps k types m)

  -- so is the step n of struct k
  pub step_typed : (n : ℕ) {b : Stmts} → step_of p k n ≡ some b → Typed (context p k b) b
  step_typed n e = let (t, m, q) = found (get_or p.steps k []) n e in rw q at (program_typed t m)

module _ (p : Program) (names : NamesRight p) (types : TypesRight p) (k : ℕ) where
  -- every step of a program with right names too is secure, with nothing alive at its start,
  pub program_secure : (t : Step) → Memᴰ t (get_or p.steps k [])
      → (Among (alive (lives t.body)) []) × (Secure (context p k t.body) (noted (context p k t.body) t.body) (lives t.body) [] false)
  unfolding NamesRight
  program_secure t m =
      let n =
      each_step (λ j t. Named t.body (length (params_of p j)) [] []) (NamedSteps p) (λ j ts tss q. (q.1, q.2)) 0 p.steps k names.0 m in
      secure_step p k t.body (program_typed p types k t m) (rw zero-add at n)

  -- as are the commands that the step n of struct k gives its instances
  pub step_secure : (n : ℕ) {b : Stmts} → step_of p k n ≡ some b
      → (Among (alive (lives b)) []) × (Secure (context p k b) (noted (context p k b) b) (lives b) [] false)
  step_secure n e = let (t, m, q) = found (get_or p.steps k []) n e in rw q at (program_secure t m)

  pub step_safe : (n : ℕ) {b : Stmts} → step_of p k n ≡ some b → Safe (context p k b) (noted (context p k b) b) at_start
  step_safe n e = let (alive, secure) = step_secure n e in secure_safe secure alive
