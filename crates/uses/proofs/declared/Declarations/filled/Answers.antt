-- `Declarations::filled` meets its contract: one law for each way.
use Rattle.std.proofs.Common.{◌∙◌}
use Rattle.std.proofs.lemmas.Bool.{false≢true}
use Rattle.uses.specs.Laws.TabledLaws.{fill_not, fill_known, few_tested, typed_long, fill_tabled}
use Rattle.uses.proofs.declared.Declarations.filled.Goals as goal

pub returns-then-not-well : goal.returns-then-not-well
returns-then-not-well c =
    record { value = fill_not _ _ c.well.ensures c.if-not-well.true; tabled = λ e. absurd (false≢true e); table_len_unchanged = c.lay.auto.table }

pub par_types-requires : goal.par_types-requires
par_types-requires c =
    let few = few_tested _ _ c.requires.1 c.well.ensures c.if-not-well.false in
    (few.structs, few.types)

pub returns : goal.returns
returns c =
    let m = c.par_types.new.table in
    let is = c.if-not-well.false in
    record {
      value = fill_known _ _ c.well.ensures is c.par_types.ensures.value;
      tabled = fill_tabled m c.lay.ensures c.par_types.auto.table c.requires.1 c.well.ensures is c.par_types.ensures.table_after;
      table_len_unchanged = typed_long m c.lay.ensures c.par_types.auto.table ∙ c.lay.auto.table;
    }
