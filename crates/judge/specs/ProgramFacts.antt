-- What a checker totals up over a program in one walk over its stream (01, numbers 6 to 8): steps, commands, depth, faults, the step
-- directory, and the items of the schedule; and the number that comes of it. Laws are in ProgramFactsLaws.
use Rattle.std.specs.Prelude.{ℕ, zero, suc, ◌+◌, max, Bool, true, false, not, ◌||◌, List, [], ◌∷◌, ◌++◌, length, ltb, eqb}
use Rattle.types.specs.Limits.{max_params, step_commands, max_commands, max_depth, schedule_items}
use Rattle.types.specs.Types.{Ty, code}
use Rattle.program.specs.Tree.{Item, Item.call, Item.call_in, Item.fix, Items, Items.stop, Items.item, Step, Program}
use Rattle.commands.specs.Bounds.{arities}
use Rattle.commands.specs.Numbers.{over_limits}
use Rattle.directory.specs.declared.Row.{Row}
use Rattle.directory.specs.Directory.{row as step_row, there}
use Rattle.judge.specs.Facts.{worst, named, no_locals, body_facts}
use Rattle.judge.specs.declared.Done.{Done}

-- Tables ---------------------------------------------------------------------------

-- n places: the bytes of these types, then zeros
unfoldable pub row : ℕ → List Ty → List ℕ
row zero ts = []
row (suc n) [] = 0 ∷ row n []
row (suc n) (t ∷ ts) = code t ∷ row n ts

-- 8 places for each struct
unfoldable pub types_table : List (List Ty) → List ℕ
types_table [] = []
types_table (ts ∷ tss) = row max_params ts ++ types_table tss

-- Steps ----------------------------------------------------------------------------

pub record Totals : Type 0 where
  pub steps : ℕ
  pub commands : ℕ
  pub depth : ℕ
  -- 1 once a step has too many commands or goes too deep
  pub over : ℕ
  pub fault : ℕ
  -- the step directory so far
  pub rows : List Row

unfoldable pub no_totals : Totals
no_totals = record { steps = 0; commands = 0; depth = 0; over = 0; fault = 0; rows = [] }

-- one step more: its struct, its name, what was computed of its body
unfoldable pub added : ℕ → ℕ → Done → Totals → Totals
added k n d T = record {
  steps = suc T.steps;
  commands = T.commands + d.size;
  depth = max T.depth d.height;
  over = elim (ltb step_commands d.size || ltb max_depth d.height) [ true ↦ 1 | false ↦ T.over ];
  fault = worst T.fault (worst d.fault (named (not (there T.rows k n))));
  rows = T.rows ++ step_row k n T.commands d.size ∷ [];
}

module _ (ar types : List ℕ) where
  -- the steps of struct k
  unfoldable pub struct_totals : ℕ → List Step → Totals → Totals
  struct_totals k [] T = T
  struct_totals k (t ∷ ts) T = struct_totals k ts (added k t.name (body_facts ar types k t.body no_locals) T)

  -- the steps of each struct, from struct k on
  unfoldable pub step_totals : ℕ → List (List Step) → Totals → Totals
  step_totals k [] T = T
  step_totals k (ts ∷ tss) T = step_totals (suc k) tss (struct_totals k ts T)

-- The schedule ---------------------------------------------------------------------

-- whether some of the c structs from struct k on has the step n
unfoldable pub had : List Row → ℕ → ℕ → ℕ → Bool
had rs n k zero = false
had rs n k (suc c) = there rs k n || had rs n (suc k) c

pub record Planned : Type 0 where
  pub count : ℕ
  pub fault : ℕ

abbrev pub plan : ℕ → ℕ → Planned
plan n f = record { count = n; fault = f }

unfoldable pub joined : Planned → Planned → Planned
joined a b = plan (a.count + b.count) (worst a.fault b.fault)

-- of a program with S structs
module _ (rs : List Row) (S : ℕ) where
  unfoldable mutual
    pub item_plan : Item → Planned
    item_plan (call n) = plan 1 (named (had rs n 0 S))
    item_plan (call_in k n) = plan 1 (named (there rs k n))
    item_plan (fix is) = plan (suc (items_plan is).count) (items_plan is).fault

    pub items_plan : Items → Planned
    items_plan stop = plan 0 0
    items_plan (item i is) = joined (item_plan i) (items_plan is)

-- Programs -------------------------------------------------------------------------

-- 6 where a limit is passed; else the worse fault
unfoldable pub exceeded : Totals → Planned → Bool
exceeded T P = not (eqb T.over 0) || (ltb max_commands T.commands || ltb schedule_items P.count)

unfoldable pub totals_number : Totals → Planned → ℕ
totals_number T P = elim (exceeded T P) [ true ↦ over_limits | false ↦ worst T.fault P.fault ]

-- what is totalled up over a program's steps, and over its schedule; its number
unfoldable pub program_totals : Program → Totals
program_totals p = step_totals (arities p) (types_table p.params) 0 p.steps no_totals

unfoldable pub program_plan : Program → Planned
program_plan p = items_plan (program_totals p).rows (length p.steps) p.schedule

unfoldable pub checked_number : Program → ℕ
checked_number p = totals_number (program_totals p) (program_plan p)
