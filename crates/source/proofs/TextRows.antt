-- A text that has every kind of type, literal, statement, expression and item but those of P (`Rows`), from its bytes to its stream (02 §1).
use Rattle.std.specs.Prelude.{ℕ, ◌*◌, ◌≤◌, ◌≡◌, refl, true, false, List, [], ◌∷◌, length}
use Rattle.std.proofs.Math.Option.{some}
use Rattle.std.proofs.Common.{le-ltb}
use Rattle.types.specs.Stages.{on, asked, given}
use Rattle.types.specs.Limits.{program_blocks}
use Rattle.block.specs.Block.{block_size}
use Rattle.program.specs.Tree.{Op.op_ge, Op.op_lt, Op.op_gt, Op.op_rem, Op.op_and}
use Rattle.tokens.specs.Tokens.{Word.w_struct, Word.w_if, Word.w_then, Word.w_null, Word.w_this, Word.w_fix, Word.w_int, Word.w_nat, Word.w_bool}
use Rattle.tokens.specs.Tokens.{Word.w_true, Word.w_false, Sign.lpar, Sign.rpar, Sign.lbrace, Sign.rbrace, Sign.comma, Sign.colon, Sign.semicolon}
use Rattle.tokens.specs.Tokens.{Sign.assign, Sign.dot as dot_sign, Sign.bang, Polarity.plus, Polarity.minus, Token, Token.word, Token.sign, Token.op}
use Rattle.tokens.specs.Tokens.{Token.name, Token.int, Token.nat}
use Rattle.syntax.specs.Syntax.{TypeName.int_type, TypeName.nat_type, TypeName.bool_type, TypeName.id_type, Literal.int_literal, Literal.nat_literal}
use Rattle.syntax.specs.Syntax.{Literal.bool_literal, Var.id as one_id, Var.dot, Exp.binary, Exp.brackets, Exp.negation, Exp.constructor, Exp.variable}
use Rattle.syntax.specs.Syntax.{Exp.literal, Exp.null, Exp.this, Exps.no_exps, Exps.exps, Stat.if_then, Stat.assignment, Stat.update, Stat.construct}
use Rattle.syntax.specs.Syntax.{Stats.no_stats, Stats.stats, Par.par, Step.step, Struct.struct, Defs.last_struct, Defs.defs, Item.execution}
use Rattle.syntax.specs.Syntax.{Item.typed_execution, Item.fixpoint, Sched.last_item, Sched.barrier, Program as Derivation, Program.program}
use Rattle.syntax.specs.Letters.{A, B, c, s, t, x, y}
use Rattle.source.specs.TextReader.{of_program, of_derivation, outcome}
use Rattle.source.specs.Streamed.{streamed}
use Rattle.source.proofs.Laws.StreamedLaws.{Reads, streams}
use Rattle.program.specs.Unfold.{encodings}
use Rattle.tokens.specs.Unfold.{scanning}
use Rattle.syntax.specs.Unfold.{reading}
use Rattle.meaning.specs.Unfold.{meanings, holding}

-- struct A(n: Nat, q: Bool, r: B) {
--   s { Bool x := !false; if (x && (n >= 2n)) then { B y := null B; y.i := +7; } r.c.q := true; }
--   t { Nat x := (n % 9n); B(-1, this); } }
-- struct B(i: Int, c: A) { s { c := A(0n, (i > i), null B); } }
-- B.s < t < Fix(s < A.s)
unfoldable pub text_Q : List ℕ
text_Q =
    115 ∷ 116 ∷ 114 ∷ 117 ∷ 99 ∷ 116 ∷ 32 ∷ 65 ∷ 40 ∷ 110 ∷ 58 ∷ 32 ∷ 78 ∷ 97 ∷ 116 ∷ 44 ∷ 32 ∷ 113 ∷ 58 ∷ 32 ∷ 66 ∷ 111 ∷ 111 ∷ 108 ∷ 44 ∷ 32 ∷ 114 ∷ 58 ∷
    32 ∷ 66 ∷ 41 ∷ 32 ∷ 123 ∷ 32 ∷ 115 ∷ 32 ∷ 123 ∷ 32 ∷ 66 ∷ 111 ∷ 111 ∷ 108 ∷ 32 ∷ 120 ∷ 32 ∷ 58 ∷ 61 ∷ 32 ∷ 33 ∷ 102 ∷ 97 ∷ 108 ∷ 115 ∷ 101 ∷ 59 ∷ 32 ∷
    105 ∷ 102 ∷ 32 ∷ 40 ∷ 120 ∷ 32 ∷ 38 ∷ 38 ∷ 32 ∷ 40 ∷ 110 ∷ 32 ∷ 62 ∷ 61 ∷ 32 ∷ 50 ∷ 110 ∷ 41 ∷ 41 ∷ 32 ∷ 116 ∷ 104 ∷ 101 ∷ 110 ∷ 32 ∷ 123 ∷ 32 ∷ 66 ∷ 32
    ∷ 121 ∷ 32 ∷ 58 ∷ 61 ∷ 32 ∷ 110 ∷ 117 ∷ 108 ∷ 108 ∷ 32 ∷ 66 ∷ 59 ∷ 32 ∷ 121 ∷ 46 ∷ 105 ∷ 32 ∷ 58 ∷ 61 ∷ 32 ∷ 43 ∷ 55 ∷ 59 ∷ 32 ∷ 125 ∷ 32 ∷ 114 ∷ 46 ∷
    99 ∷ 46 ∷ 113 ∷ 32 ∷ 58 ∷ 61 ∷ 32 ∷ 116 ∷ 114 ∷ 117 ∷ 101 ∷ 59 ∷ 32 ∷ 125 ∷ 32 ∷ 116 ∷ 32 ∷ 123 ∷ 32 ∷ 78 ∷ 97 ∷ 116 ∷ 32 ∷ 120 ∷ 32 ∷ 58 ∷ 61 ∷ 32 ∷ 40
    ∷ 110 ∷ 32 ∷ 37 ∷ 32 ∷ 57 ∷ 110 ∷ 41 ∷ 59 ∷ 32 ∷ 66 ∷ 40 ∷ 45 ∷ 49 ∷ 44 ∷ 32 ∷ 116 ∷ 104 ∷ 105 ∷ 115 ∷ 41 ∷ 59 ∷ 32 ∷ 125 ∷ 32 ∷ 125 ∷ 32 ∷ 115 ∷ 116 ∷
    114 ∷ 117 ∷ 99 ∷ 116 ∷ 32 ∷ 66 ∷ 40 ∷ 105 ∷ 58 ∷ 32 ∷ 73 ∷ 110 ∷ 116 ∷ 44 ∷ 32 ∷ 99 ∷ 58 ∷ 32 ∷ 65 ∷ 41 ∷ 32 ∷ 123 ∷ 32 ∷ 115 ∷ 32 ∷ 123 ∷ 32 ∷ 99 ∷ 32
    ∷ 58 ∷ 61 ∷ 32 ∷ 65 ∷ 40 ∷ 48 ∷ 110 ∷ 44 ∷ 32 ∷ 40 ∷ 105 ∷ 32 ∷ 62 ∷ 32 ∷ 105 ∷ 41 ∷ 44 ∷ 32 ∷ 110 ∷ 117 ∷ 108 ∷ 108 ∷ 32 ∷ 66 ∷ 41 ∷ 59 ∷ 32 ∷ 125 ∷ 32
    ∷ 125 ∷ 32 ∷ 66 ∷ 46 ∷ 115 ∷ 32 ∷ 60 ∷ 32 ∷ 116 ∷ 32 ∷ 60 ∷ 32 ∷ 70 ∷ 105 ∷ 120 ∷ 40 ∷ 115 ∷ 32 ∷ 60 ∷ 32 ∷ 65 ∷ 46 ∷ 115 ∷ 41 ∷ []

unfoldable pub tokens_Q : List Token
tokens_Q =
    word w_struct ∷ name A ∷ sign lpar ∷ name (110 ∷ []) ∷ sign colon ∷ word w_nat ∷ sign comma ∷ name (113 ∷ []) ∷ sign colon ∷ word w_bool ∷ sign comma ∷
    name (114 ∷ []) ∷ sign colon ∷ name B ∷ sign rpar ∷ sign lbrace ∷ name s ∷ sign lbrace ∷ word w_bool ∷ name x ∷ sign assign ∷ sign bang ∷ word w_false ∷
    sign semicolon ∷ word w_if ∷ sign lpar ∷ name x ∷ op op_and ∷ sign lpar ∷ name (110 ∷ []) ∷ op op_ge ∷ nat (50 ∷ []) ∷ sign rpar ∷ sign rpar ∷ word
    w_then ∷ sign lbrace ∷ name B ∷ name y ∷ sign assign ∷ word w_null ∷ name B ∷ sign semicolon ∷ name y ∷ sign dot_sign ∷ name (105 ∷ []) ∷ sign assign ∷ int
    plus (55 ∷ []) ∷ sign semicolon ∷ sign rbrace ∷ name (114 ∷ []) ∷ sign dot_sign ∷ name c ∷ sign dot_sign ∷ name (113 ∷ []) ∷ sign assign ∷ word w_true ∷
    sign semicolon ∷ sign rbrace ∷ name t ∷ sign lbrace ∷ word w_nat ∷ name x ∷ sign assign ∷ sign lpar ∷ name (110 ∷ []) ∷ op op_rem ∷ nat (57 ∷ [])
    ∷ sign rpar
    ∷ sign semicolon ∷ name B ∷ sign lpar ∷ int minus (49 ∷ []) ∷ sign comma ∷ word w_this ∷ sign rpar ∷ sign semicolon ∷ sign rbrace ∷ sign rbrace ∷ word
    w_struct ∷ name B ∷ sign lpar ∷ name (105 ∷ []) ∷ sign colon ∷ word w_int ∷ sign comma ∷ name c ∷ sign colon ∷ name A ∷ sign rpar ∷ sign lbrace ∷ name s
    ∷ sign lbrace ∷ name c ∷ sign assign ∷ name A ∷ sign lpar ∷ nat (48 ∷ []) ∷ sign comma ∷ sign lpar ∷ name (105 ∷ []) ∷ op op_gt ∷ name (105 ∷ []) ∷ sign
    rpar ∷ sign comma ∷ word w_null ∷ name B ∷ sign rpar ∷ sign semicolon ∷ sign rbrace ∷ sign rbrace ∷ name B ∷ sign dot_sign ∷ name s ∷ op op_lt ∷ name t ∷ op
    op_lt ∷ word w_fix ∷ sign lpar ∷ name s ∷ op op_lt ∷ name A ∷ sign dot_sign ∷ name s ∷ sign rpar ∷ []

unfoldable pub derivation_Q : Derivation
derivation_Q =
    program (defs (struct A (par (110 ∷ []) nat_type ∷ par (113 ∷ []) bool_type ∷ par (114 ∷ []) (id_type B) ∷ []) (step s (stats (assignment bool_type x
    (negation (literal (bool_literal false)))) (stats (if_then (brackets (binary op_and (variable (one_id x)) (brackets (binary op_ge (variable (one_id (110
    ∷ []))) (literal (nat_literal (50 ∷ []))))))) (stats (assignment (id_type B) y (null (id_type B))) (stats (update (dot y (one_id (105 ∷ []))) (literal
    (int_literal plus (55 ∷ [])))) no_stats))) (stats (update (dot (114 ∷ []) (dot c (one_id (113 ∷ [])))) (literal (bool_literal true))) no_stats))) ∷ step
    t (stats (assignment nat_type x (brackets (binary op_rem (variable (one_id (110 ∷ []))) (literal (nat_literal (57 ∷ [])))))) (stats (construct B (exps
    (literal (int_literal minus (49 ∷ []))) (exps this no_exps))) no_stats)) ∷ [])) (last_struct (struct B (par (105 ∷ []) int_type ∷ par c (id_type A) ∷
    []) (step s (stats (update (one_id c) (constructor A (exps (literal (nat_literal (48 ∷ []))) (exps (brackets (binary op_gt (variable (one_id (105 ∷
    []))) (variable (one_id (105 ∷ []))))) (exps (null (id_type B)) no_exps))))) no_stats) ∷ [])))) (barrier (typed_execution B s) (barrier (execution t)
    (last_item (fixpoint (barrier (execution s) (last_item (typed_execution A s)))))))

pub Q-read : Reads text_Q tokens_Q derivation_Q
unfolding text_Q tokens_Q derivation_Q scanning reading
Q-read = (refl, refl)

pub Q-text : (out : List ℕ) → block_size * program_blocks ≤ length out → streamed (outcome text_Q out) ≡ some
    (2 ∷ 3 ∷ 1 ∷ 2 ∷ 17 ∷ 2 ∷ 0 ∷ 16 ∷ 2 ∷ 0 ∷ 3 ∷ 2 ∷ 2 ∷ 8 ∷ 16 ∷ 21 ∷ 0 ∷ 1 ∷ 43 ∷ 18 ∷ 1 ∷ 8 ∷ 35 ∷ 18 ∷ 1 ∷ 0 ∷ 20 ∷ 2 ∷ 0 ∷ 0 ∷ 0 ∷ 2 ∷ 2 ∷ 17 ∷ 9 ∷
    22 ∷ 17 ∷ 3 ∷ 2 ∷ 9 ∷ 0 ∷ 19 ∷ 7 ∷ 0 ∷ 0 ∷ 0 ∷ 3 ∷ 3 ∷ 2 ∷ 1 ∷ 1 ∷ 21 ∷ 1 ∷ 1 ∷ 2 ∷ 2 ∷ 1 ∷ 8 ∷ 40 ∷ 18 ∷ 1 ∷ 0 ∷ 20 ∷ 9 ∷ 0 ∷ 0 ∷ 0 ∷ 4 ∷ 1 ∷ 19 ∷ 255
    ∷ 255 ∷ 255 ∷ 255 ∷ 23 ∷ 1 ∷ 0 ∷ 1 ∷ 3 ∷ 1 ∷ 1 ∷ 17 ∷ 0 ∷ 20 ∷ 0 ∷ 0 ∷ 0 ∷ 0 ∷ 37 ∷ 18 ∷ 1 ∷ 0 ∷ 18 ∷ 1 ∷ 0 ∷ 22 ∷ 17 ∷ 3 ∷ 2 ∷ 1 ∷ 0 ∷ 1 ∷ 1 ∷ 3 ∷ 2 ∷
    1 ∷ 0 ∷ 2 ∷ 0 ∷ 0 ∷ [])
unfolding text_Q derivation_Q streamed of_derivation of_program holding meanings encodings on asked given
Q-text out h = streams text_Q out refl Q-read (rw (le-ltb (length out) (block_size * program_blocks) h) refl)
