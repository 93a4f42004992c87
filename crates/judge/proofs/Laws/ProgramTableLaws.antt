-- The table of a program's types and the rows of its steps hold what they are to (for 01, numbers 7 and 8).
use Prim.Native.Nat.{ℕ, zero, suc, ◌+◌, ◌*◌, ◌<◌, ◌≤◌}
use native.Mathlib.Omega.{arith}
use Rattle.std.proofs.Common.{zero-add, ◌∙◌, get_or-append-add, eqb-true, eq-eqb, ne_eqb}
use Rattle.std.specs.Prelude.{Bool, true, false, ◌||◌, ◌≡◌, refl, length, get_or, eqb}
use mathlib.Core.List.{List, [], ◌∷◌, ◌++◌, append-nil, append_assoc}
use Rattle.std.proofs.Math.Path.{ap, sym}
use Rattle.std.proofs.Math.ListN.{get_or-map, get_or-append}
use Rattle.std.proofs.lemmas.Bool.{eqb-false}
use Rattle.types.specs.Limits.{max_params}
use Rattle.types.specs.Types.{Ty, Ty.int, code}
use Rattle.program.specs.Tree.{Stmts, Step, Program}
use Rattle.program.specs.Counts.{All}
use Rattle.commands.specs.Context.{context}
use Rattle.commands.specs.Bounds.{arities, total, step_size}
use Rattle.commands.proofs.Laws.SizeLaws.{body_length}
use Rattle.commands.specs.Names.{names_of_steps as names}
use Rattle.commands.specs.Decide.{member}
use Rattle.commands.specs.Decide.NamesDecide.{stepped}
use Rattle.directory.specs.declared.Row.{Row}
use Rattle.directory.specs.Directory.{row as step_row, is_row, there, steps_rows, structs_rows, directory}
use Rattle.directory.proofs.FindLaws.{there_none, there_last}
use Rattle.judge.specs.Verdicts.{Tables}
use Rattle.judge.proofs.Laws.SizeFactsLaws.{body_facts_size}
use Rattle.judge.proofs.Laws.TotalLaws.{steps_grown}
use Rattle.judge.specs.ProgramFacts.{row, types_table, Totals, no_totals, added, struct_totals, step_totals, had, program_totals}
use Rattle.judge.specs.Facts.{no_locals, body_facts}
use Rattle.judge.proofs.Laws.ScopeLaws.{swapped}

-- Types ----------------------------------------------------------------------------

row_length : (n : ℕ) (ts : List Ty) → length (row n ts) ≡ n
unfolding row
row_length zero ts = refl
row_length (suc n) [] = ap suc (row_length n [])
row_length (suc n) (t ∷ ts) = ap suc (row_length n ts)

row_at : (n : ℕ) (ts : List Ty) (x : ℕ) → x < length ts → length ts ≤ n → get_or (row n ts) x 0 ≡ code (get_or ts x int)
unfolding row
row_at n [] x h l = absurd (omega arith)
row_at zero (t ∷ ts) x h l = absurd (omega arith)
row_at (suc n) (t ∷ ts) zero h l = refl
row_at (suc n) (t ∷ ts) (suc x) h l = row_at n ts x (omega arith) (omega arith)

-- each parameter's type stands at its place
pub types_at : (tss : List (List Ty)) → All (λ ts. length ts ≤ max_params) tss → (k x : ℕ) → x < length (get_or tss k [])
    → get_or (types_table tss) (max_params * k + x) 0 ≡ code (get_or (get_or tss k []) x int)
unfolding types_table
types_at [] a k x h = absurd (omega arith)
types_at (ts ∷ tss) a zero x h =
    let e : max_params * 0 + x ≡ x = omega arith in
    rw e (get_or-append (row max_params ts) (types_table tss) 0 x (rw row_length (omega (arith, a.0))) ∙ row_at max_params ts x h a.0)
types_at (ts ∷ tss) a (suc k) x h =
    let e : max_params * suc k + x ≡ length (row max_params ts) + (max_params * k + x) = rw row_length (omega arith) in
    ap (λ i. get_or (row max_params ts ++ types_table tss) i 0) e
    ∙ get_or-append-add (row max_params ts) (types_table tss) (max_params * k + x) 0
    ∙ types_at tss a.1 k x h

-- the counts of a program's parameters and the table of their types are those of its steps' contexts
pub tables_of : (p : Program) → All (λ ts. length ts ≤ max_params) p.params → (k : ℕ) (b : Stmts)
    → Tables (arities p) (arities p) (types_table p.params) (context p k b)
tables_of p a k b = record {
  counts = λ j. get_or-map length p.params j [];
  arities = λ j. get_or-map length p.params j [];
  codes = λ j x h. types_at p.params a j x h;
}

-- Steps ----------------------------------------------------------------------------

-- the rows have for struct k exactly these names
pub record Holds (rs : List Row) (k : ℕ) (ns : List ℕ) : Type 0 where
  pub holds_at : (n : ℕ) → there rs k n ≡ member n ns

-- with one name more for struct k; as before for every other
pub holds_more : {rs : List Row} {k : ℕ} {ns : List ℕ} (m a z : ℕ) → Holds rs k ns → Holds (rs ++ step_row k m a z ∷ []) k (m ∷ ns)
unfolding member is_row
holds_more {rs} {k} {ns} m a z H =
    record { holds_at = λ n. there_last rs (step_row k m a z) k n ∙ rw (H.holds_at n) (go n (eqb n m) refl) }
  where
    go : (n : ℕ) (q : Bool) → eqb n m ≡ q → (is_row k n (step_row k m a z) || member n ns) ≡ (q || member n ns)
    go n true e = rw (is_row, eq-eqb k k refl, eq-eqb m n (sym (eqb-true n m e)))
    go n false e = rw (is_row, eq-eqb k k refl, ne_eqb m n (λ q. eqb-false n m e (sym q)))

pub holds_other : {rs : List Row} {j : ℕ} {ns : List ℕ} (k m a z : ℕ) → (j ≡ k → ⊥) → Holds rs j ns → Holds (rs ++ step_row k m a z ∷ []) j ns
unfolding is_row
holds_other {rs} {j} {ns} k m a z d H =
    record { holds_at = λ n. there_last rs (step_row k m a z) j n ∙ rw (is_row, ne_eqb k j (λ e. d (sym e))) (H.holds_at n) }

pub holds_none : (k : ℕ) → Holds [] k []
unfolding member
holds_none k = record { holds_at = λ n. there_none k n }

-- only membership counts
holds_as : {rs : List Row} {k : ℕ} {ns ms : List ℕ} → ((n : ℕ) → member n ns ≡ member n ms) → Holds rs k ns → Holds rs k ms
holds_as e H = record { holds_at = λ n. H.holds_at n ∙ e n }

module _ (ar types : List ℕ) where
  -- behind a struct's steps the rows have their names too
  pub struct_holds : (ts : List Step) {k : ℕ} {ns : List ℕ} (T : Totals) → Holds T.rows k ns
      → Holds (struct_totals ar types k ts T).rows k (names ts ++ ns)
  unfolding struct_totals added names
  struct_holds [] T H = H
  struct_holds (t ∷ ts) {k} {ns} T H =
      holds_as (λ n. swapped n (t.name ∷ []) (names ts) ns)
      (struct_holds ts (added k t.name (body_facts ar types k t.body no_locals) T) (holds_more t.name _ _ H))

  -- and for another struct what they had
  pub struct_other : (ts : List Step) {j : ℕ} {ns : List ℕ} (k : ℕ) (T : Totals) → (j ≡ k → ⊥) → Holds T.rows j ns
      → Holds (struct_totals ar types k ts T).rows j ns
  unfolding struct_totals added
  struct_other [] k T d H = H
  struct_other (t ∷ ts) k T d H =
      struct_other ts k (added k t.name (body_facts ar types k t.body no_locals) T) d (holds_other k t.name _ _ d H)

  steps_other : (tss : List (List Step)) {j : ℕ} {ns : List ℕ} (k : ℕ) (T : Totals) → j < k → Holds T.rows j ns
      → Holds (step_totals ar types k tss T).rows j ns
  unfolding step_totals
  steps_other [] k T l H = H
  steps_other (ts ∷ tss) k T l H =
      steps_other tss (suc k) (struct_totals ar types k ts T) (omega arith) (struct_other ts k T (λ e. omega arith) H)

  -- behind all steps they have each struct's names
  pub steps_hold : (tss : List (List Step)) (k : ℕ) (T : Totals) → ((j : ℕ) → k ≤ j → Holds T.rows j [])
      → (j : ℕ) → j < length tss → Holds (step_totals ar types k tss T).rows (k + j) (names (get_or tss j []))
  unfolding step_totals
  steps_hold [] k T H j h = absurd (omega arith)
  steps_hold (ts ∷ tss) k T H zero h =
      let e : k + 0 ≡ k = omega arith in
      let here : Holds (struct_totals ar types k ts T).rows k (names ts) =
      holds_as (λ m. ap (member m) (append-nil (names ts))) (struct_holds ts T (H k (omega arith)))
      in
      rw e (steps_other tss (suc k) (struct_totals ar types k ts T) (omega arith) here)
  steps_hold (ts ∷ tss) k T H (suc j) h =
      let e : k + suc j ≡ suc k + j = omega arith in
      rw e (steps_hold tss (suc k) (struct_totals ar types k ts T) (λ m b. struct_other ts k T (λ q. omega arith) (H m (omega arith))) j (omega arith))

  -- and are those of the directory
  struct_rows : (ts : List Step) (k : ℕ) (T : Totals) → (struct_totals ar types k ts T).rows ≡ T.rows ++ steps_rows k T.commands ts
  unfolding struct_totals added steps_rows
  struct_rows [] k T = sym (append-nil T.rows)
  struct_rows (t ∷ ts) k T =
      let e : (body_facts ar types k t.body no_locals).size ≡ step_size t = body_facts_size ar types k t.body no_locals ∙ sym (body_length t.body) in
      struct_rows ts k (added k t.name (body_facts ar types k t.body no_locals) T) ∙ rw e (append_assoc T.rows _ _)

  struct_commands : (ts : List Step) (k : ℕ) (T : Totals) → (struct_totals ar types k ts T).commands ≡ T.commands + total step_size ts
  unfolding struct_totals added total
  struct_commands [] k T = omega arith
  struct_commands (t ∷ ts) k T =
      let e : (body_facts ar types k t.body no_locals).size ≡ step_size t = body_facts_size ar types k t.body no_locals ∙ sym (body_length t.body) in
      omega (arith, struct_commands ts k (added k t.name (body_facts ar types k t.body no_locals) T), e)

  steps_listed : (tss : List (List Step)) (k : ℕ) (T : Totals) → (step_totals ar types k tss T).rows ≡ T.rows ++ structs_rows k T.commands tss
  unfolding step_totals structs_rows
  steps_listed [] k T = sym (append-nil T.rows)
  steps_listed (ts ∷ tss) k T =
      steps_listed tss (suc k) (struct_totals ar types k ts T)
      ∙ rw (struct_rows ts k T, struct_commands ts k T) (append_assoc T.rows (steps_rows k T.commands ts) _)

-- what is totalled up over a program has its directory
pub totals_listed : (p : Program) → (program_totals p).rows ≡ directory p
unfolding program_totals no_totals directory
totals_listed p = steps_listed (arities p) (types_table p.params) p.steps 0 no_totals

-- a row for each step
pub totals_count : (p : Program) → (program_totals p).steps ≡ total length p.steps
unfolding program_totals no_totals
totals_count p = (steps_grown (arities p) (types_table p.params) p.steps 0 no_totals).steps ∙ zero-add _

-- Looking a step up ------------------------------------------------------------------

-- over rows with the names of these structs' steps, some struct has a step as on the tree
pub had_is : (rs : List Row) (n : ℕ) (tss : List (List Step)) (k : ℕ) → ((j : ℕ) → j < length tss → Holds rs (k + j) (names (get_or tss j [])))
    → had rs n k (length tss) ≡ stepped n tss
unfolding had stepped
had_is rs n [] k h = refl
had_is rs n (ts ∷ tss) k h =
    let e : k + 0 ≡ k = omega arith in
    let here : there rs k n ≡ member n (names ts) = (rw e at (h 0 (omega arith))).holds_at n in
    rw (here, had_is rs n tss (suc k) (λ j l. let q : k + suc j ≡ suc k + j = omega arith in rw q at (h (suc j) (omega arith)))) refl
