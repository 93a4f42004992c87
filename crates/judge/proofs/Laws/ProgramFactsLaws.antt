-- What a checker totals up over a program gives its number, its commands and its depth (01, numbers 6 to 8).
use Rattle.std.specs.Prelude.{ℕ, suc, ◌+◌, ◌≤◌, ◌<◌, Bool, not, ◌&&◌, ◌||◌, List, [], ◌∷◌, ◌≡◌, get_or, eqb}
use Rattle.std.proofs.Common.{arith, ◌∙◌}
use Rattle.std.proofs.Math.Nat.{zero-add}
use Rattle.std.proofs.Math.Bool.{true, false, and-true}
use Rattle.std.proofs.Math.Path.{refl, ap, sym}
use Rattle.std.proofs.Math.ListN.{length, length-map}
use Rattle.std.proofs.Math.Dec.{leb}
use Rattle.types.specs.Limits.{max_structs, step_commands, max_commands, max_depth, schedule_items}
use Rattle.program.specs.Tree.{Item, Item.call, Item.call_in, Item.fix, Items, Items.stop, Items.item, Step, Program}
use Rattle.program.specs.Counts.{All, Few, CountsItem, CountsItems, CountsStep, CountsSchedule, Counts}
use Rattle.commands.specs.Context.{context}
use Rattle.commands.specs.Sizes.{body_size}
use Rattle.commands.proofs.Laws.SizeLaws.{body_length, program_size_is}
use Rattle.commands.specs.Depth.{height}
use Rattle.commands.proofs.Laws.DepthLaws.{step_depth_is, program_depth_is}
use Rattle.commands.specs.Bounds.{item_count, items_count, total, greatest, step_size, arities, step_depth, program_size, program_depth}
use Rattle.commands.specs.Names.{names_of_steps as names}
use Rattle.commands.specs.Decide.{every, member}
use Rattle.commands.specs.Decide.BoundsDecide.{within}
use Rattle.commands.specs.Decide.NamesDecide.{stepped, item_stepped, items_stepped, names_right}
use Rattle.commands.specs.Decide.TypingDecide.{types_right}
use Rattle.commands.specs.Numbers.{first, breach_tests, breach_number}
use Rattle.directory.specs.declared.Row.{Row}
use Rattle.judge.specs.Facts.{worst}
use Rattle.judge.specs.Verdicts.{Says, Says.right, Tables, flag}
use Rattle.judge.proofs.Laws.FaultLaws.{says_as, says_both, says_named, says_number}
use Rattle.judge.specs.ProgramFacts.{Totals, Planned, no_totals, step_totals, joined, item_plan, items_plan, exceeded, totals_number}
use Rattle.judge.specs.ProgramFacts.{types_table, program_totals, program_plan, checked_number}
use Rattle.judge.proofs.Laws.ProgramTableLaws.{tables_of, Holds, holds_none, steps_hold, had_is}
use Rattle.judge.proofs.Laws.TotalLaws.{Grown, above, step_fits, steps_grown}
use Rattle.judge.proofs.Laws.NameTotalLaws.{steps_say}

-- The schedule ---------------------------------------------------------------------

module _ (rs : List Row) (S : ℕ) where
  mutual
    unfolding item_plan items_plan joined item_count items_count

    -- the items are counted as on the tree
    pub item_plan_count : (i : Item) → (item_plan rs S i).count ≡ item_count i
    item_plan_count (call n) = refl
    item_plan_count (call_in k n) = refl
    item_plan_count (fix is) = ap suc (items_plan_count is)

    pub items_plan_count : (is : Items) → (items_plan rs S is).count ≡ items_count is
    items_plan_count stop = refl
    items_plan_count (item i is) = rw (item_plan_count i, items_plan_count is)

module _ (rs : List Row) (tss : List (List Step)) (cs : List ℕ) (same : length cs ≡ length tss)
    (held : (k : ℕ) → k < length tss → Holds rs k (names (get_or tss k []))) where
  mutual
    unfolding item_plan items_plan joined item_stepped items_stepped CountsItem CountsItems

    -- the fault is 7 where a scheduled step is not there
    pub item_says : (i : Item) → CountsItem cs i → Says (item_plan rs (length tss) i).fault (item_stepped i tss) true
    item_says (call n) c = rw (had_is rs n tss 0 (λ j l. rw zero-add (held j l))) (says_named (stepped n tss))
    item_says (call_in k n) c = rw ((held k (omega arith)).holds_at n) (says_named (member n (names (get_or tss k []))))
    item_says (fix is) c = items_say is c.2

    pub items_say : (is : Items) → CountsItems cs is → Says (items_plan rs (length tss) is).fault (items_stepped is tss) true
    items_say stop c = right refl
    items_say (item i is) c = says_both (item_says i c.0) (items_say is c.1)

-- The limits -----------------------------------------------------------------------

every_and : {A : Type 0} (f g : A → Bool) (l : List A) → every (λ a. f a && g a) l ≡ (every f l && every g l)
unfolding every
every_and f g [] = refl
every_and f g (a ∷ l) = ap (λ q. (f a && g a) && q) (every_and f g l) ∙ go (f a) (g a) (every f l)
  where
    go : (x y z : Bool) → ((x && y) && (z && every g l)) ≡ ((x && z) && (y && every g l))
    go true true true = refl
    go true true false = refl
    go true false true = refl
    go true false false = refl
    go false y z = refl

every_same : {A : Type 0} {C : A → Type 0} {f g : A → Bool} → ((a : A) → C a → f a ≡ g a) → (l : List A) → All C l → every f l ≡ every g l
unfolding every
every_same e [] c = refl
every_same {C = C} {f = f} {g = g} e (a ∷ l) c = rw (e a c.0, every_same {C = C} {f = f} {g = g} e l c.1)

-- one limit or another is passed
limits : (s c d i : Bool) → (not (eqb (flag (not (s && d))) 0) || (not c || not i)) ≡ not (s && (c && (d && i)))
limits true true true i = refl
limits true true false i = refl
limits true false true i = refl
limits true false false i = refl
limits false c d i = refl

-- Programs -------------------------------------------------------------------------

all_map : {A : Type 0} {C D : A → Type 0} → ((a : A) → C a → D a) → (l : List A) → All C l → All D l
all_map f [] c = tt
all_map f (a ∷ l) c = (f a c.0, all_map f l c.1)

module _ (p : Program) (c : Counts p) where
  -- each step is within its limits exactly where the commands of each are few and each is not deep
  fits_is : every (every step_fits) p.steps
      ≡ (every (every (λ t. leb (step_size t) step_commands)) p.steps && every (every (λ t. leb (step_depth p t) max_depth)) p.steps)
  unfolding Counts
  fits_is =
      every_same {C = Few 0 8 (CountsStep (arities p))}
      (λ ts h. every_same {C = CountsStep (arities p)} one ts h.2
      ∙ every_and (λ t. leb (step_size t) step_commands) (λ t. leb (step_depth p t) max_depth) ts)
      p.steps c.2
      ∙ every_and (every (λ t. leb (step_size t) step_commands)) (every (λ t. leb (step_depth p t) max_depth)) p.steps
    where
      one : (t : Step) → CountsStep (arities p) t → step_fits t ≡ (leb (step_size t) step_commands && leb (step_depth p t) max_depth)
      one t h = rw (body_length t.body, step_depth_is p t h)

  module _ {ar types : List ℕ} (tables : (k : ℕ) (t : Step) → Tables (arities p) ar types (context p k t.body)) where
    abbrev pub totals : Totals
    totals = step_totals ar types 0 p.steps no_totals

    abbrev pub planned : Planned
    planned = items_plan totals.rows (length p.steps) p.schedule

    grown : Grown no_totals totals (total length p.steps) (total (total (λ t. body_size t.body)) p.steps)
        (greatest (greatest (λ t. height t.body)) p.steps) (every (every step_fits) p.steps)
    grown = steps_grown ar types p.steps 0 no_totals

    -- the commands are the program's
    pub totals_commands : totals.commands ≡ program_size p
    unfolding no_totals
    totals_commands = grown.commands ∙ zero-add _ ∙ sym (program_size_is p)

    -- the depth is the program's
    pub totals_depth : totals.depth ≡ program_depth p
    unfolding no_totals
    totals_depth = omega (arith, grown.depth, program_depth_is p c)

    few : 0 + length p.steps ≤ max_structs
    unfolding Counts
    few = omega (arith, c.1, c.0.1)

    same : length (arities p) ≡ length p.steps
    unfolding Counts
    same = length-map p.params length ∙ sym c.1

    steps_counts : All (All (CountsStep (arities p))) p.steps
    unfolding Counts
    steps_counts = all_map (λ ts h. h.2) p.steps c.2

    items_counts : CountsItems (arities p) p.schedule
    unfolding Counts CountsSchedule
    items_counts = c.3.2

    -- a limit is passed exactly where one is passed on the tree
    exceeded_is : exceeded totals planned ≡ not (within p)
    unfolding exceeded within no_totals
    exceeded_is =
        rw (
          grown.over true refl,
          totals_commands,
          items_plan_count totals.rows (length p.steps) p.schedule,
          above (program_size p) max_commands,
          above (items_count p.schedule) schedule_items,
          fits_is,
        )
        (limits (every (every (λ t. leb (step_size t) step_commands)) p.steps) (leb (program_size p) max_commands)
        (every (every (λ t. leb (step_depth p t) max_depth)) p.steps) (leb (items_count p.schedule) schedule_items))

    -- the number is the program's
    pub totals_law : totals_number totals planned ≡ breach_number p
    unfolding totals_number breach_number first breach_tests names_right types_right no_totals
    totals_law =
        ap {B = ℕ} (λ q. elim q [ true ↦ 6 | false ↦ worst totals.fault planned.fault ]) exceeded_is
        ∙ ap {B = ℕ} (λ n. elim (not (within p)) [ true ↦ 6 | false ↦ n ]) (says_number said)
      where
        held : (k : ℕ) → k < length p.steps → Holds totals.rows k (names (get_or p.steps k []))
        held k l = rw zero-add at (steps_hold ar types p.steps 0 no_totals (λ j a. holds_none j) k l)

        said : Says (worst totals.fault planned.fault) (names_right p) (types_right p)
        said =
            says_as refl (and-true (types_right p))
            (says_both (steps_say p tables (omega (arith, few, same)) p.steps steps_counts 0 no_totals (λ j a. holds_none j) (right refl))
            (items_say totals.rows p.steps (arities p) same held p.schedule items_counts))

  -- over the tables that a program's parameters give
  own_tables : (k : ℕ) (t : Step) → Tables (arities p) (arities p) (types_table p.params) (context p k t.body)
  unfolding Counts
  own_tables k t = tables_of p (all_map (λ ts h. h.1) p.params c.0.2) k t.body

  -- the number that is computed of a program within the counts is its number
  pub checked_law : checked_number p ≡ breach_number p
  unfolding checked_number program_totals program_plan
  checked_law = totals_law own_tables

  -- and so are its commands and its depth
  pub checked_commands : (program_totals p).commands ≡ program_size p
  unfolding program_totals
  checked_commands = totals_commands own_tables

  pub checked_depth : (program_totals p).depth ≡ program_depth p
  unfolding program_totals
  checked_depth = totals_depth own_tables
