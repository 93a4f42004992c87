-- `reading::value` meets its contract: a value that the end cuts short, one that is not allowed, one that is stored.
use Rattle.std.proofs.Common.{ap, sym, ◌∙◌, arith, set}
use Rattle.types.specs.Types.{type_of}
use Rattle.little_endian.specs.NumberLaws.{word_is}
use Rattle.layout.specs.Layout.{cell}
use Rattle.table_read.specs.Laid.{value_laid}
use Rattle.table_read.specs.Laws.ValueWays.{value_cut, value_wrong, value_right, value_cell}
use Rattle.table_read.proofs.reading.value.Goals as goal

pub returns-then-s-at-lt4 : goal.returns-then-s-at-lt4
returns-then-s-at-lt4 c =
    let args = c.args in record { value_laid = value_cut args.s.now (λ i. (c.type_inv.s i).fits) (value_laid args.cells.now args.i args.t) args.cells.now (type_of args.t) args.at c.requires.0 c.if-s-at-lt4.true; within = tt }

pub returns-then-not-allowed : goal.returns-then-not-allowed
returns-then-not-allowed c =
    let args = c.args in record { value_laid = value_wrong args.s.now (λ i. (c.type_inv.s i).fits) (value_laid args.cells.now args.i args.t) args.cells.now (type_of args.t) args.at (omega arith) _ (c.word_at-w.ensures.0 ∙ sym (word_is _ _)) (sym c.allowed.ensures ∙ c.if-not-allowed.true); within = tt }

pub returns : goal.returns
returns c =
    let args = c.args in let w = c.word_at-w.result in
    let right = sym c.allowed.ensures ∙ c.if-not-allowed.false in
    let stored = ap (set args.cells.now args.i) (c.cell.ensures ∙ ap (cell args.t) (sym (value_cell (type_of args.t) w right))) in record { value_laid = value_right args.s.now (λ i. (c.type_inv.s i).fits) (value_laid args.cells.now args.i args.t) _ (type_of args.t) args.at (omega arith) w (c.word_at-w.ensures.0 ∙ sym (word_is _ _)) right stored; within = omega arith }
