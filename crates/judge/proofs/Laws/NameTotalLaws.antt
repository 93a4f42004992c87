-- What is totalled up over steps: 7 where a name is wrong or stands twice in a struct, else 8 where a type is (01, numbers 7 and 8).
use Rattle.std.specs.Prelude.{ℕ, suc, ◌≤◌, Bool, true, false, not, ◌&&◌, ◌||◌, ◌≡◌, refl, length, get_or, eqb}
use Rattle.std.proofs.Common.{arith, ◌∙◌, sym}
use Rattle.std.proofs.Math.Bool.{and-true, and-false, and_assoc}
use mathlib.Core.List.{List, [], ◌∷◌}
use Rattle.std.proofs.Math.Path.{ap}
use Rattle.types.proofs.Laws.ListLaws.{eqb_sym}
use Rattle.types.specs.Limits.{max_structs}
use Rattle.program.specs.Tree.{Step, Program}
use Rattle.program.specs.Counts.{All, CountsStep}
use Rattle.commands.specs.Context.{context}
use Rattle.commands.specs.Names.{names_of_steps as names}
use Rattle.commands.specs.Decide.{every, member, distinct}
use Rattle.commands.specs.Decide.NamesDecide.{body_named, steps_named}
use Rattle.commands.specs.Decide.TypingDecide.{body_typed, steps_typed}
use Rattle.judge.specs.Facts.{no_locals, body_facts}
use Rattle.judge.specs.Verdicts.{Says, Tables}
use Rattle.judge.proofs.Laws.FaultLaws.{says_as, says_both, says_named}
use Rattle.judge.proofs.Laws.BodyFactsLaws.{step_says}
use Rattle.judge.specs.ProgramFacts.{Totals, added, struct_totals, step_totals}
use Rattle.judge.proofs.Laws.ProgramTableLaws.{Holds, holds_more, struct_other}

-- Names that stand once --------------------------------------------------------------

-- none of the names stands before, nor among those done
unfoldable fresh : List ℕ → List ℕ → Bool
fresh ns [] = true
fresh ns (x ∷ l) = not (member x ns) && fresh (x ∷ ns) l

unfoldable outside : List ℕ → List ℕ → Bool
outside ns l = every (λ x. not (member x ns)) l

outside_more : (x : ℕ) (ns l : List ℕ) → outside (x ∷ ns) l ≡ (not (member x l) && outside ns l)
unfolding outside every member
outside_more x ns [] = refl
outside_more x ns (y ∷ l) =
    ap (λ q. not (eqb y x || member y ns) && q) (outside_more x ns l)
    ∙ ap (λ q. not (q || member y ns) && (not (member x l) && outside ns l)) (eqb_sym y x)
    ∙ go (eqb x y) (member y ns) (member x l)
  where
    go : (q m r : Bool) → (not (q || m) && (not r && outside ns l)) ≡ (not (q || r) && (not m && outside ns l))
    go true m r = refl
    go false true true = refl
    go false true false = refl
    go false false r = refl

fresh_is : (ns l : List ℕ) → fresh ns l ≡ (distinct l && outside ns l)
unfolding fresh distinct outside every
fresh_is ns [] = refl
fresh_is ns (x ∷ l) =
    ap (λ q. not (member x ns) && q) (fresh_is (x ∷ ns) l ∙ ap (λ q. distinct l && q) (outside_more x ns l))
    ∙ go (not (member x ns)) (not (member x l)) (distinct l)
  where
    go : (m r d : Bool) → (m && (d && (r && outside ns l))) ≡ ((r && d) && (m && outside ns l))
    go true true d = refl
    go true false true = refl
    go true false false = refl
    go false r d = sym (and-false (r && d))

outside_none : (l : List ℕ) → outside [] l ≡ true
unfolding outside every member
outside_none [] = refl
outside_none (x ∷ l) = outside_none l

-- so checked in order they are distinct
fresh_distinct : (l : List ℕ) → fresh [] l ≡ distinct l
fresh_distinct l = fresh_is [] l ∙ ap (λ q. distinct l && q) (outside_none l) ∙ and-true (distinct l)

-- Steps ----------------------------------------------------------------------------

-- truth values in another order
names_order : (a x m f e : Bool) → ((a && (x && m)) && (f && e)) ≡ (a && ((m && f) && (x && e)))
names_order false x m f e = refl
names_order true true m f e = sym (and_assoc m f e)
names_order true false m f e = sym (and-false (m && f))

types_order : (b y z : Bool) → ((b && (y && true)) && z) ≡ (b && (y && z))
types_order false y z = refl
types_order true true z = refl
types_order true false z = refl

module _ (p : Program) {cs ar types : List ℕ} (tables : (k : ℕ) (t : Step) → Tables cs ar types (context p k t.body)) (few : length cs ≤ max_structs) where
  -- a body of struct k is named right, typed right
  abbrev well_named : ℕ → Step → Bool
  well_named k t = body_named t.body (length (get_or p.params k [])) [] []

  abbrev well_typed : ℕ → Step → Bool
  well_typed k t = body_typed (context p k t.body) t.body

  added_says : {a b : Bool} (k : ℕ) (t : Step) (ns : List ℕ) (T : Totals) → CountsStep cs t → Holds T.rows k ns → Says T.fault a b
      → Says (added k t.name (body_facts ar types k t.body no_locals) T).fault (a && (well_named k t && not (member t.name ns)))
      (b && (well_typed k t && true))
  unfolding added CountsStep
  added_says k t ns T c H s = says_both s
      (says_both (step_says p k t.body (tables k t) few c.2) (rw (H.holds_at t.name) (says_named (not (member t.name ns)))))

  struct_says : (ts : List Step) → All (CountsStep cs) ts → {a b : Bool} (k : ℕ) (ns : List ℕ) (T : Totals) → Holds T.rows k ns → Says T.fault a b
      → Says (struct_totals ar types k ts T).fault (a && (fresh ns (names ts) && every (well_named k) ts)) (b && every (well_typed k) ts)
  unfolding struct_totals added fresh names every CountsStep
  struct_says [] c {a} {b} k ns T H s = says_as (sym (and-true a)) (sym (and-true b)) s
  struct_says (t ∷ ts) c {a} {b} k ns T H s =
      says_as
      (names_order a (well_named k t) (not (member t.name ns)) (fresh (t.name ∷ ns) (names ts)) (every (well_named k) ts))
      (types_order b (well_typed k t) (every (well_typed k) ts))
      (struct_says ts c.1 k (t.name ∷ ns) (added k t.name (body_facts ar types k t.body no_locals) T) (holds_more t.name _ _ H)
      (added_says k t ns T c.0 H s))

  -- over the steps of each struct the fault is 7 where a name is wrong, else 8 where a type is, else 0
  pub steps_say : (tss : List (List Step)) → All (All (CountsStep cs)) tss → {a b : Bool} (k : ℕ) (T : Totals) → ((j : ℕ) → k ≤ j → Holds T.rows j [])
      → Says T.fault a b → Says (step_totals ar types k tss T).fault (a && steps_named p k tss) (b && steps_typed p k tss)
  unfolding step_totals steps_named steps_typed
  steps_say [] c {a} {b} k T H s = says_as (sym (and-true a)) (sym (and-true b)) s
  steps_say (ts ∷ tss) c {a} {b} k T H s =
      says_as
      (ap (λ q. (a && (q && every (well_named k) ts)) && steps_named p (suc k) tss) (fresh_distinct (names ts))
      ∙ and_assoc a (distinct (names ts) && every (well_named k) ts) (steps_named p (suc k) tss)
      ∙ ap (λ q. a && q) (and_assoc (distinct (names ts)) (every (well_named k) ts) (steps_named p (suc k) tss)))
      (and_assoc b (every (well_typed k) ts) (steps_typed p (suc k) tss))
      (steps_say tss c.1 (suc k) (struct_totals ar types k ts T) (λ j m. struct_other ar types ts k T (λ e. omega arith) (H j (omega arith)))
      (struct_says ts c.0 k [] T (H k (omega arith)) s))
