-- Rows of what must be read (02 §1): an update of a local, a local that lives inside an if, null with a type that is no struct, names shared by a local, a struct and a
-- step, digits with zeros before them. A reading of 17 that refuses too much is refused here.
use Rattle.std.specs.Prelude.{refl, true, List, [], ◌∷◌}
use Rattle.std.proofs.Math.Option.{some}
use Rattle.tokens.specs.Tokens.{Polarity.plus}
use Rattle.syntax.specs.Syntax.{TypeName.int_type, TypeName.nat_type, Literal.int_literal, Literal.nat_literal, Literal.bool_literal, Var.id as one_id}
use Rattle.syntax.specs.Syntax.{Exp.variable, Exp.literal, Exp.null, Stat.if_then, Stat.assignment, Stat.update, Stats.no_stats, Stats.stats, Par.par}
use Rattle.syntax.specs.Syntax.{Step.step, Struct.struct, Defs.last_struct, Item.execution, Sched.last_item, Program.program}
use Rattle.syntax.specs.Letters.{A, a, s, x}
use Rattle.meaning.specs.Rows.{stream, Row, Rows, Rows.no_more, Rows.and_then}
use Rattle.program.specs.Unfold.{encodings}
use Rattle.meaning.specs.Unfold.{meanings}

unfoldable pub read_rows : List Row
read_rows =
    -- struct A(a: Int) { s { Int x := +1; if true then { x := +2; a := x; } a := null Int; } } s
    record {
      text = program (last_struct (struct A (par a int_type ∷ []) (step s (stats (assignment int_type x (literal (int_literal plus (49 ∷ []))))
          (stats (if_then (literal (bool_literal true)) (stats (update (one_id x) (literal (int_literal plus (50 ∷ [])))) (stats (update (one_id a)
          (variable (one_id x))) no_stats))) (stats (update (one_id a) (null int_type)) no_stats))) ∷ []))) (last_item (execution s));
      bytes = some (1 ∷ 1 ∷ 0 ∷ 1 ∷ 0 ∷ 3 ∷ 2 ∷ 0 ∷ 8 ∷ 19 ∷ 1 ∷ 0 ∷ 0 ∷ 0 ∷ 1 ∷ 21 ∷ 1 ∷ 2 ∷ 3 ∷ 1 ∷ 8 ∷ 19 ∷ 2 ∷ 0 ∷ 0 ∷ 0 ∷ 3 ∷ 1 ∷ 0 ∷ 18 ∷ 1 ∷ 8 ∷
          3 ∷ 1 ∷ 0 ∷ 22 ∷ 0 ∷ 1 ∷ 1 ∷ 0 ∷ []);
    }
    -- struct A() { s { Int A := +1; Nat s := 007n; } } s
    ∷ record {
      text = program (last_struct (struct A [] (step s (stats (assignment int_type A (literal (int_literal plus (49 ∷ [])))) (stats
          (assignment nat_type s (literal (nat_literal (48 ∷ 48 ∷ 55 ∷ [])))) no_stats)) ∷ []))) (last_item (execution s));
      bytes = some (1 ∷ 0 ∷ 1 ∷ 0 ∷ 2 ∷ 2 ∷ 0 ∷ 8 ∷ 19 ∷ 1 ∷ 0 ∷ 0 ∷ 0 ∷ 2 ∷ 1 ∷ 9 ∷ 20 ∷ 7 ∷ 0 ∷ 0 ∷ 0 ∷ 1 ∷ 1 ∷ 0 ∷ []);
    }
    ∷ []

pub read_rows_hold : Rows read_rows
unfolding read_rows meanings stream encodings
read_rows_hold = and_then refl (and_then refl no_more)
