-- Rows that pin what derivations mean, by computation: the stream of the program, or none (the readings of docs/DECISIONS.md, 'Program text'; the first is P).
use Rattle.std.specs.Prelude.{ℕ, ◌≡◌, refl, true, List, [], ◌∷◌}
use Rattle.std.proofs.Math.Option.{Option, none, some}
use Rattle.program.specs.Tree.{Op.op_add, Program as Tree}
use Rattle.program.specs.Encoding.{enc_program}
use Rattle.tokens.specs.Tokens.{Polarity.plus, Polarity.minus}
use Rattle.syntax.specs.Syntax.{TypeName.int_type, TypeName.nat_type, TypeName.bool_type, TypeName.id_type, Literal.int_literal, Literal.nat_literal}
use Rattle.syntax.specs.Syntax.{Literal.bool_literal, Var.id as one_id, Var.dot, Exp.binary, Exp.brackets, Exp.constructor, Exp.variable, Exp.literal}
use Rattle.syntax.specs.Syntax.{Exp.null, Exp.this, Exps.no_exps, Exps.exps, Stat.if_then, Stat.assignment, Stat.update, Stat.construct}
use Rattle.syntax.specs.Syntax.{Stats.no_stats, Stats.stats, Par.par, Step.step, Struct.struct, Defs.last_struct, Defs.defs, Item.execution}
use Rattle.syntax.specs.Syntax.{Item.typed_execution, Item.fixpoint, Sched.last_item, Sched.barrier, Program, Program.program}
use Rattle.syntax.specs.Letters.{A, B, C, a, b, c, s, t, u, x, y}
use Rattle.meaning.specs.Meant.{meant}
use Rattle.program.specs.Unfold.{encodings}
use Rattle.meaning.specs.Unfold.{meanings}

unfoldable pub stream : Option Tree → Option (List ℕ)
stream none = none
stream (some p) = some (enc_program p)

pub record Row : Type 0 where
  pub text : Program
  pub bytes : Option (List ℕ)

abbrev row : Program → Option (List ℕ) → Row
row c s = record { text = c; bytes = s }

pub data Rows : List Row → Type 0 where
  no_more : Rows []
  and_then : {r : Row} {rs : List Row} → stream (meant r.text) ≡ r.bytes → Rows rs → Rows (r ∷ rs)

unfoldable pub rows : List Row
rows =
    -- struct A(a: Int, b: A) { s { a := (a + b.a); } } s
    row (program (last_struct (struct A (par a int_type ∷ par b (id_type A) ∷ []) (step s (stats (update (one_id a) (brackets (binary op_add
    (variable (one_id a)) (variable (dot b (one_id a)))))) no_stats) ∷ []))) (last_item (execution s))) (some
    (1 ∷ 2 ∷ 0 ∷ 16 ∷ 1 ∷ 0 ∷ 1 ∷ 3 ∷ 1 ∷ 0 ∷ 41 ∷ 18 ∷ 1 ∷ 0 ∷ 18 ∷ 2 ∷ 1 ∷ 0 ∷ 1 ∷ 1 ∷ 0 ∷ []))
    -- struct A(a: B) { s { } t { } } struct B(A: Nat) { t { } u { } } u < B.t < Fix(s)
    ∷ row (program (defs (struct A (par a (id_type B) ∷ []) (step s no_stats ∷ step t no_stats ∷ [])) (last_struct (struct B (par A nat_type ∷ [])
    (step t no_stats ∷ step u no_stats ∷ [])))) (barrier (execution u) (barrier (typed_execution B t) (last_item (fixpoint (last_item
    (execution s))))))) (some (2 ∷ 1 ∷ 17 ∷ 1 ∷ 1 ∷ 2 ∷ 0 ∷ 0 ∷ 1 ∷ 0 ∷ 2 ∷ 1 ∷ 0 ∷ 2 ∷ 0 ∷ 3 ∷ 1 ∷ 2 ∷ 2 ∷ 1 ∷ 1 ∷ 3 ∷ 1 ∷ 1 ∷ 0 ∷ []))
    -- struct A() { s { Int x := -1; Int y := x; } } s
    ∷ row (program (last_struct (struct A ([]) (step s (stats (assignment int_type x (literal (int_literal minus (49 ∷ [])))) (stats
    (assignment int_type y (variable (one_id x))) no_stats)) ∷ []))) (last_item (execution s))) (some
    (1 ∷ 0 ∷ 1 ∷ 0 ∷ 2 ∷ 2 ∷ 0 ∷ 8 ∷ 19 ∷ 255 ∷ 255 ∷ 255 ∷ 255 ∷ 2 ∷ 0 ∷ 9 ∷ 18 ∷ 1 ∷ 8 ∷ 1 ∷ 1 ∷ 0 ∷ []))
    -- struct A(a: Int, b: A) { s { if true then { Int x := a; } Int y := a; } } s
    ∷ row (program (last_struct (struct A (par a int_type ∷ par b (id_type A) ∷ []) (step s (stats (if_then (literal (bool_literal true)) (stats
    (assignment int_type x (variable (one_id a))) no_stats)) (stats (assignment int_type y (variable (one_id a))) no_stats)) ∷ []))) (last_item
    (execution s))) (some (1 ∷ 2 ∷ 0 ∷ 16 ∷ 1 ∷ 0 ∷ 2 ∷ 1 ∷ 21 ∷ 1 ∷ 1 ∷ 2 ∷ 0 ∷ 8 ∷ 18 ∷ 1 ∷ 0 ∷ 2 ∷ 0 ∷ 9 ∷ 18 ∷ 1 ∷ 0 ∷ 1 ∷ 1 ∷ 0 ∷ []))
    -- struct A(A: A) { A { A := A; } } A.A
    ∷ row (program (last_struct (struct A (par A (id_type A) ∷ []) (step A (stats (update (one_id A) (variable (one_id A))) no_stats) ∷ [])))
    (last_item (typed_execution A A))) (some (1 ∷ 1 ∷ 16 ∷ 1 ∷ 0 ∷ 1 ∷ 3 ∷ 1 ∷ 0 ∷ 18 ∷ 1 ∷ 0 ∷ 1 ∷ 2 ∷ 0 ∷ 0 ∷ []))
    -- struct A(a: Int, b: A) { s { b := A(-0, null A); A(a, this); } } s
    ∷ row (program (last_struct (struct A (par a int_type ∷ par b (id_type A) ∷ []) (step s (stats (update (one_id b) (constructor A (exps (literal
    (int_literal minus (48 ∷ []))) (exps (null (id_type A)) no_exps)))) (stats (construct A (exps (variable (one_id a))
    (exps this no_exps))) no_stats)) ∷ []))) (last_item (execution s))) (some
    (1 ∷ 2 ∷ 0 ∷ 16 ∷ 1 ∷ 0 ∷ 2 ∷ 3 ∷ 1 ∷ 1 ∷ 17 ∷ 0 ∷ 19 ∷ 0 ∷ 0 ∷ 0 ∷ 0 ∷ 22 ∷ 16 ∷ 4 ∷ 0 ∷ 18 ∷ 1 ∷ 0 ∷ 23 ∷ 1 ∷ 1 ∷ 0 ∷ []))
    -- struct A(a: Int, b: A) { s { a := -2147483648; } } s
    ∷ row (program (last_struct (struct A (par a int_type ∷ par b (id_type A) ∷ []) (step s (stats (update (one_id a) (literal (int_literal minus
    (50 ∷ 49 ∷ 52 ∷ 55 ∷ 52 ∷ 56 ∷ 51 ∷ 54 ∷ 52 ∷ 56 ∷ [])))) no_stats) ∷ []))) (last_item (execution s))) (some
    (1 ∷ 2 ∷ 0 ∷ 16 ∷ 1 ∷ 0 ∷ 1 ∷ 3 ∷ 1 ∷ 0 ∷ 19 ∷ 0 ∷ 0 ∷ 0 ∷ 128 ∷ 1 ∷ 1 ∷ 0 ∷ []))
    -- struct A(a: Int, b: A) { s { Nat x := 4294967295n; } } s
    ∷ row (program (last_struct (struct A (par a int_type ∷ par b (id_type A) ∷ []) (step s (stats (assignment nat_type x (literal (nat_literal
    (52 ∷ 50 ∷ 57 ∷ 52 ∷ 57 ∷ 54 ∷ 55 ∷ 50 ∷ 57 ∷ 53 ∷ [])))) no_stats) ∷ []))) (last_item (execution s))) (some
    (1 ∷ 2 ∷ 0 ∷ 16 ∷ 1 ∷ 0 ∷ 1 ∷ 2 ∷ 1 ∷ 8 ∷ 20 ∷ 255 ∷ 255 ∷ 255 ∷ 255 ∷ 1 ∷ 1 ∷ 0 ∷ []))
    -- struct A() { s { } s { } } s
    ∷ row (program (last_struct (struct A ([]) (step s no_stats ∷ step s no_stats ∷ []))) (last_item (execution s))) (some
    (1 ∷ 0 ∷ 2 ∷ 0 ∷ 0 ∷ 0 ∷ 0 ∷ 1 ∷ 1 ∷ 0 ∷ []))
    -- struct A() { s { } } struct B() { t { } } A.t
    ∷ row (program (defs (struct A ([]) (step s no_stats ∷ [])) (last_struct (struct B ([]) (step t no_stats ∷ [])))) (last_item
    (typed_execution A t))) (some (2 ∷ 0 ∷ 0 ∷ 1 ∷ 0 ∷ 0 ∷ 1 ∷ 1 ∷ 0 ∷ 1 ∷ 2 ∷ 0 ∷ 1 ∷ []))
    -- struct A(a: Int, b: A) { s { a := true; b := 1n; if a then { } } } s:
    -- types are the checker's: a Bool for an Int, a Nat for a reference, an if over an Int
    ∷ row (program (last_struct (struct A (par a int_type ∷ par b (id_type A) ∷ []) (step s (stats (update (one_id a) (literal (bool_literal true))) (stats
    (update (one_id b) (literal (nat_literal (49 ∷ [])))) (stats (if_then (variable (one_id a)) no_stats) no_stats))) ∷ []))) (last_item (execution s)))
    (some (1 ∷ 2 ∷ 0 ∷ 16 ∷ 1 ∷ 0 ∷ 3 ∷ 3 ∷ 1 ∷ 0 ∷ 21 ∷ 1 ∷ 3 ∷ 1 ∷ 1 ∷ 20 ∷ 1 ∷ 0 ∷ 0 ∷ 0 ∷ 1 ∷ 18 ∷ 1 ∷ 0 ∷ 0 ∷ 1 ∷ 1 ∷ 0 ∷ []))
    -- struct A(a: Int) { s { Int x := +1; } t { Nat x := 2n; } } struct B(c: Bool) { s { Int a := +3; } } s:
    -- locals are numbered anew in each step, a name stands again in another step, and a local is named as another struct's parameter
    ∷ row (program (defs (struct A (par a int_type ∷ []) (step s (stats (assignment int_type x (literal (int_literal plus (49 ∷ [])))) no_stats) ∷ step t
    (stats (assignment nat_type x (literal (nat_literal (50 ∷ [])))) no_stats) ∷ [])) (last_struct (struct B (par c bool_type ∷ []) (step s (stats
    (assignment int_type a (literal (int_literal plus (51 ∷ [])))) no_stats) ∷ [])))) (last_item (execution s))) (some (2 ∷ 1 ∷ 0 ∷ 1 ∷ 2 ∷ 2 ∷ 0 ∷ 1 ∷ 2 ∷
    0 ∷ 8 ∷ 19 ∷ 1 ∷ 0 ∷ 0 ∷ 0 ∷ 1 ∷ 1 ∷ 2 ∷ 1 ∷ 8 ∷ 20 ∷ 2 ∷ 0 ∷ 0 ∷ 0 ∷ 1 ∷ 0 ∷ 1 ∷ 2 ∷ 0 ∷ 8 ∷ 19 ∷ 3 ∷ 0 ∷ 0 ∷ 0 ∷ 1 ∷ 1 ∷ 0 ∷ []))
    -- struct A(a: Int) { s { } } struct B(a: Int) { s { } } s: one parameter name in two structs
    ∷ row (program (defs (struct A (par a int_type ∷ []) (step s no_stats ∷ [])) (last_struct (struct B (par a int_type ∷ []) (step s no_stats ∷ []))))
    (last_item (execution s))) (some (2 ∷ 1 ∷ 0 ∷ 1 ∷ 0 ∷ 1 ∷ 0 ∷ 0 ∷ 1 ∷ 0 ∷ 0 ∷ 1 ∷ 1 ∷ 0 ∷ []))
    -- struct A(a: Int, b: A) { s { a := +2147483647; } } s: the largest Int
    ∷ row (program (last_struct (struct A (par a int_type ∷ par b (id_type A) ∷ []) (step s (stats (update (one_id a) (literal (int_literal plus (50 ∷ 49 ∷
    52 ∷ 55 ∷ 52 ∷ 56 ∷ 51 ∷ 54 ∷ 52 ∷ 55 ∷ [])))) no_stats) ∷ []))) (last_item (execution s))) (some (1 ∷ 2 ∷ 0 ∷ 16 ∷ 1 ∷ 0 ∷ 1 ∷ 3 ∷ 1 ∷ 0 ∷ 19 ∷ 255 ∷
    255 ∷ 255 ∷ 127 ∷ 1 ∷ 1 ∷ 0 ∷ []))
    -- struct A(a: Int, b: A) { s { Int x := x; } } s
    ∷ row (program (last_struct (struct A (par a int_type ∷ par b (id_type A) ∷ []) (step s (stats (assignment int_type x (variable
    (one_id x))) no_stats) ∷ []))) (last_item (execution s))) none
    -- struct A(a: Int, b: A) { s { if true then { Int x := a; } a := x; } } s
    ∷ row (program (last_struct (struct A (par a int_type ∷ par b (id_type A) ∷ []) (step s (stats (if_then (literal (bool_literal true)) (stats
    (assignment int_type x (variable (one_id a))) no_stats)) (stats (update (one_id a) (variable (one_id x))) no_stats)) ∷ []))) (last_item
    (execution s))) none
    -- struct A(a: Int, b: A) { s { if true then { Int x := a; } Int x := a; } } s
    ∷ row (program (last_struct (struct A (par a int_type ∷ par b (id_type A) ∷ []) (step s (stats (if_then (literal (bool_literal true)) (stats
    (assignment int_type x (variable (one_id a))) no_stats)) (stats (assignment int_type x (variable (one_id a))) no_stats)) ∷ []))) (last_item
    (execution s))) none
    -- struct A(a: Int, b: A) { s { Int a := +1; } } s
    ∷ row (program (last_struct (struct A (par a int_type ∷ par b (id_type A) ∷ []) (step s (stats (assignment int_type a (literal (int_literal plus
    (49 ∷ [])))) no_stats) ∷ []))) (last_item (execution s))) none
    -- struct A(a: Int, b: A) { s { a := a.a; } } s
    ∷ row (program (last_struct (struct A (par a int_type ∷ par b (id_type A) ∷ []) (step s (stats (update (one_id a) (variable (dot a
    (one_id a)))) no_stats) ∷ []))) (last_item (execution s))) none
    -- struct A(a: Int, b: A) { s { a := b.c; } } s
    ∷ row (program (last_struct (struct A (par a int_type ∷ par b (id_type A) ∷ []) (step s (stats (update (one_id a) (variable (dot b
    (one_id c)))) no_stats) ∷ []))) (last_item (execution s))) none
    -- struct A(a: Int, b: A) { s { A(a); } } s
    ∷ row (program (last_struct (struct A (par a int_type ∷ par b (id_type A) ∷ []) (step s (stats (construct A (exps (variable
    (one_id a)) no_exps)) no_stats) ∷ []))) (last_item (execution s))) none
    -- struct A(a: Int, b: A) { s { C x := this; } } s
    ∷ row (program (last_struct (struct A (par a int_type ∷ par b (id_type A) ∷ []) (step s (stats (assignment (id_type C) x this) no_stats) ∷ [])))
    (last_item (execution s))) none
    -- struct A(a: Int, b: A) { s { a := +2147483648; } } s
    ∷ row (program (last_struct (struct A (par a int_type ∷ par b (id_type A) ∷ []) (step s (stats (update (one_id a) (literal (int_literal plus
    (50 ∷ 49 ∷ 52 ∷ 55 ∷ 52 ∷ 56 ∷ 51 ∷ 54 ∷ 52 ∷ 56 ∷ [])))) no_stats) ∷ []))) (last_item (execution s))) none
    -- struct A(a: Int, b: A) { s { a := -2147483649; } } s: below the smallest Int
    ∷ row (program (last_struct (struct A (par a int_type ∷ par b (id_type A) ∷ []) (step s (stats (update (one_id a) (literal (int_literal minus (50 ∷ 49 ∷
    52 ∷ 55 ∷ 52 ∷ 56 ∷ 51 ∷ 54 ∷ 52 ∷ 57 ∷ [])))) no_stats) ∷ []))) (last_item (execution s))) none
    -- struct A(a: Int, b: A) { s { Nat x := 4294967296n; } } s
    ∷ row (program (last_struct (struct A (par a int_type ∷ par b (id_type A) ∷ []) (step s (stats (assignment nat_type x (literal (nat_literal
    (52 ∷ 50 ∷ 57 ∷ 52 ∷ 57 ∷ 54 ∷ 55 ∷ 50 ∷ 57 ∷ 54 ∷ [])))) no_stats) ∷ []))) (last_item (execution s))) none
    -- struct A(a: Int, a: Nat) { s { } } s
    ∷ row (program (last_struct (struct A (par a int_type ∷ par a nat_type ∷ []) (step s no_stats ∷ []))) (last_item (execution s))) none
    -- struct A() { s { } } struct A() { s { } } s
    ∷ row (program (defs (struct A ([]) (step s no_stats ∷ [])) (last_struct (struct A ([]) (step s no_stats ∷ [])))) (last_item (execution s))) none
    -- struct A() { s { } } t
    ∷ row (program (last_struct (struct A ([]) (step s no_stats ∷ []))) (last_item (execution t))) none
    -- struct A(a: B) { s { } } s
    ∷ row (program (last_struct (struct A (par a (id_type B) ∷ []) (step s no_stats ∷ []))) (last_item (execution s))) none
    ∷ []

pub rows_hold : Rows rows
unfolding rows meanings stream encodings
rows_hold =
    (and_then refl (and_then refl (and_then refl (and_then refl (and_then refl (and_then refl (and_then refl (and_then refl
    (and_then refl (and_then refl (and_then refl (and_then refl (and_then refl (and_then refl (and_then refl (and_then refl
    (and_then refl (and_then refl (and_then refl (and_then refl (and_then refl (and_then refl (and_then refl (and_then refl
    (and_then refl (and_then refl (and_then refl (and_then refl (and_then refl no_more)))))))))))))))))))))))))))))
