-- What the reader of a table answers and leaves in memory, for a program whose parameters stand in the tables that it is handed
-- (01, 'Table and turns'): the answer is the program's, and memory stands for the machine that a run begins with.
use Rattle.std.specs.Prelude.{ℕ, ◌+◌, ◌*◌, List, map, length, Option, Some, None}
use Rattle.std.proofs.Common.{arith, ap, ◌∙◌}
use Rattle.std.proofs.Math.Path.{◌≡◌}
use Rattle.std.proofs.lemmas.List.{length-map}
use Rattle.types.specs.Limits.{max_instances, table_blocks}
use Rattle.types.specs.Stages.{Stage.went as table}
use Rattle.blocks.specs.Images.{fault, stream}
use Rattle.program.specs.Tree.{Program}
use Rattle.program.specs.Counts.{Counts}
use Rattle.table.specs.Table.{Record, HeldTable, TableRight}
use Rattle.table.proofs.Laws.TableLaws.{table_answer_exact}
use Rattle.judge.specs.ProgramFacts.{types_table}
use Rattle.machine.specs.Published.{Sched, of_items, structs}
use Rattle.run.specs.Begin.{begin}
use Rattle.run.specs.Entry.{of_table_image, tabled}
use Rattle.layout.specs.Layout.{head_size, row_size}
use Rattle.memory.specs.Stands.{Stands}
use Rattle.table_read.specs.Params.{lists_of, Tables}
use Rattle.table_read.specs.ProgramTables.{params_back, params_tables}
use Rattle.table_read.specs.TableTold.{table_told, TableLaid}
use Rattle.table_read.specs.Laws.BeginStands.{few_all, beginning, laid_stands}
use Rattle.block.specs.declared.Fault.{Fault}

module _ (p : Program) (counts : Counts p) where
  abbrev cs : List ℕ
  cs = map length p.params

  abbrev ts : List ℕ
  ts = types_table p.params

  -- the tables are within their limits
  pub program_tables : Tables cs ts
  unfolding Counts
  program_tables = params_tables p.params (few_all p counts) counts.0.1

  -- the answer is that of the program's parameters
  pub image_answer_is : (y : List ℕ)
      → table_told (length cs) (tabled (lists_of cs ts) y) ≡ table_told (structs p) (tabled p.params y)
  image_answer_is y = rw (params_back p.params (few_all p counts), length-map p.params length)

  -- an accepted table is right
  pub image_right : (y : List ℕ) (rs : List Record) → tabled p.params y ≡ table rs → TableRight p.params rs
  unfolding of_table_image
  image_right y rs e = go (fault table_blocks y) e
    where
      go : (f : Option Fault) → of_table_image p.params f y ≡ table rs → TableRight p.params rs
      go (Some f) e = let z : ◌≡◌ {A = ℕ} 0 1 = cc in absurd (omega arith)
      go None e = ((table_answer_exact p.params (stream y) rs).0 e).0

  -- and so held
  image_held : (y : List ℕ) (rs : List Record) → tabled p.params y ≡ table rs → HeldTable p.params rs
  unfolding TableRight
  image_held y rs e = (image_right y rs e).0

  -- where a table is accepted, memory stands for the machine that a run begins with
  module _ (rs : List Record) (h c h' c' : List ℕ) (long : length h ≡ head_size * max_instances) (wide : length c ≡ row_size * max_instances)
      (list : List ℕ) (P : ℕ → Sched → Type 0) (a : ℕ) (at : P a (of_items p.schedule)) where
    back : lists_of cs ts ≡ p.params
    back = params_back p.params (few_all p counts)

    laid_begins : HeldTable p.params rs → TableLaid cs ts h c (table rs) h' c' → Stands list P (begin p rs) (beginning (structs p + length rs) a h' c')
    laid_begins o w = rw (w.0, w.1, back) (laid_stands p counts h c long wide list P a at rs o)

    pub image_stands : (y : List ℕ) → tabled p.params y ≡ table rs → TableLaid cs ts h c (tabled (lists_of cs ts) y) h' c'
        → Stands list P (begin p rs) (beginning (structs p + length rs) a h' c')
    image_stands y e w = laid_begins (image_held y rs e) (rw (ap (λ pss. tabled pss y) back ∙ e) at w)
