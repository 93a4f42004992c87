-- Rows that pin the grammar, by computation: which tokens derive (the readings of docs/DECISIONS.md, 'Program text'), and the derivation of P.
use Rattle.std.specs.Prelude.{◌≡◌, refl, Bool, true, false, List, [], ◌∷◌, ◌++◌}
use Rattle.std.proofs.Math.Option.{Option, none, some}
use Rattle.program.specs.Tree.{Op.op_eq, Op.op_lt, Op.op_add, Op.op_and}
use Rattle.tokens.specs.Tokens.{Word.w_struct, Word.w_if, Word.w_then, Word.w_null, Word.w_this, Word.w_fix, Word.w_int, Word.w_nat, Word.w_string}
use Rattle.tokens.specs.Tokens.{Word.w_true, Sign.lpar, Sign.rpar, Sign.lbrace, Sign.rbrace, Sign.comma, Sign.colon, Sign.semicolon, Sign.assign}
use Rattle.tokens.specs.Tokens.{Sign.dot, Sign.bang, Polarity.plus, Token, Token.word, Token.sign, Token.op, Token.name, Token.int, Token.nat}
use Rattle.tokens.specs.Rows.{tokens_P}
use Rattle.syntax.specs.Syntax.{TypeName.int_type, TypeName.id_type, Var.id, Var.dot as path, Exp.binary, Exp.brackets, Exp.variable}
use Rattle.syntax.specs.Syntax.{Stat.update, Stats.no_stats, Stats.stats, Par.par, Step.step as a_step, Struct.struct, Defs.last_struct}
use Rattle.syntax.specs.Syntax.{Item.execution, Sched.last_item, Program, Program.program}
use Rattle.syntax.specs.Letters.{A, B, a, b, s}
use Rattle.syntax.specs.Reading.{read}
use Rattle.syntax.specs.Unfold.{reading}

-- whether tokens derive
unfoldable pub derivable : Option Program → Bool
derivable none = false
derivable (some c) = true

pub record Row : Type 0 where
  pub tokens : List Token
  pub derived : Bool

abbrev pub row : Bool → List Token → Row
row b ts = record { tokens = ts; derived = b }

pub data Rows : List Row → Type 0 where
  no_more : Rows []
  and_then : {r : Row} {rs : List Row} → derivable (read r.tokens) ≡ r.derived → Rows rs → Rows (r ∷ rs)

-- a program with one step, of the given statements
abbrev pub stepped : List Token → List Token
stepped ts =
    word w_struct ∷ name A ∷ sign lpar ∷ sign rpar ∷ sign lbrace ∷ name s ∷ sign lbrace ∷ []
    ++ (ts ++ (sign rbrace ∷ sign rbrace ∷ name s ∷ []))

unfoldable pub statements : List Row
statements =
    -- a := (b + a);
    row true (stepped (name a ∷ sign assign ∷ sign lpar ∷ name b ∷ op op_add ∷ name a ∷ sign rpar ∷ sign semicolon ∷ []))
    -- a := b + a;
    ∷ row true (stepped (name a ∷ sign assign ∷ name b ∷ op op_add ∷ name a ∷ sign semicolon ∷ []))
    -- a := ((b + a));
    ∷ row true (stepped (name a ∷ sign assign ∷ sign lpar ∷ sign lpar ∷ name b ∷ op op_add ∷ name a ∷ sign rpar ∷ sign rpar ∷ sign semicolon ∷ []))
    -- a := (b);
    ∷ row true (stepped (name a ∷ sign assign ∷ sign lpar ∷ name b ∷ sign rpar ∷ sign semicolon ∷ []))
    -- a := !(b);
    ∷ row true (stepped (name a ∷ sign assign ∷ sign bang ∷ sign lpar ∷ name b ∷ sign rpar ∷ sign semicolon ∷ []))
    -- a := !b + a;
    ∷ row true (stepped (name a ∷ sign assign ∷ sign bang ∷ name b ∷ op op_add ∷ name a ∷ sign semicolon ∷ []))
    -- a := (!b && a);
    ∷ row true (stepped (name a ∷ sign assign ∷ sign lpar ∷ sign bang ∷ name b ∷ op op_and ∷ name a ∷ sign rpar ∷ sign semicolon ∷ []))
    -- a := (b + a + b);
    ∷ row true (stepped (name a ∷ sign assign ∷ sign lpar ∷ name b ∷ op op_add ∷ name a ∷ op op_add ∷ name b ∷ sign rpar ∷ sign semicolon ∷ []))
    -- a := ((b + a) + b);
    ∷ row true (stepped (name a ∷ sign assign ∷ sign lpar ∷ sign lpar ∷ name b ∷ op op_add ∷ name a ∷ sign rpar ∷ op op_add ∷ name b ∷ sign rpar
    ∷ sign semicolon ∷ []))
    -- a := null Int;
    ∷ row true (stepped (name a ∷ sign assign ∷ word w_null ∷ word w_int ∷ sign semicolon ∷ []))
    -- a := null A;
    ∷ row true (stepped (name a ∷ sign assign ∷ word w_null ∷ name A ∷ sign semicolon ∷ []))
    -- a := null;
    ∷ row false (stepped (name a ∷ sign assign ∷ word w_null ∷ sign semicolon ∷ []))
    -- String a := +1;
    ∷ row false (stepped (word w_string ∷ name a ∷ sign assign ∷ int plus (49 ∷ []) ∷ sign semicolon ∷ []))
    -- Nat a := 2n;
    ∷ row true (stepped (word w_nat ∷ name a ∷ sign assign ∷ nat (50 ∷ []) ∷ sign semicolon ∷ []))
    -- A a := this;
    ∷ row true (stepped (name A ∷ name a ∷ sign assign ∷ word w_this ∷ sign semicolon ∷ []))
    -- a := this.b;
    ∷ row false (stepped (name a ∷ sign assign ∷ word w_this ∷ sign dot ∷ name b ∷ sign semicolon ∷ []))
    -- a.b.a := true;
    ∷ row true (stepped (name a ∷ sign dot ∷ name b ∷ sign dot ∷ name a ∷ sign assign ∷ word w_true ∷ sign semicolon ∷ []))
    -- a. := true;
    ∷ row false (stepped (name a ∷ sign dot ∷ sign assign ∷ word w_true ∷ sign semicolon ∷ []))
    -- A(+1, b);
    ∷ row true (stepped (name A ∷ sign lpar ∷ int plus (49 ∷ []) ∷ sign comma ∷ name b ∷ sign rpar ∷ sign semicolon ∷ []))
    -- A(+1,);
    ∷ row false (stepped (name A ∷ sign lpar ∷ int plus (49 ∷ []) ∷ sign comma ∷ sign rpar ∷ sign semicolon ∷ []))
    -- A();
    ∷ row true (stepped (name A ∷ sign lpar ∷ sign rpar ∷ sign semicolon ∷ []))
    -- a := A(b);
    ∷ row true (stepped (name a ∷ sign assign ∷ name A ∷ sign lpar ∷ name b ∷ sign rpar ∷ sign semicolon ∷ []))
    -- A() A();
    ∷ row false (stepped (name A ∷ sign lpar ∷ sign rpar ∷ name A ∷ sign lpar ∷ sign rpar ∷ sign semicolon ∷ []))
    -- if (a = b) then { a := b; if b then { } }
    ∷ row true (stepped (word w_if ∷ sign lpar ∷ name a ∷ op op_eq ∷ name b ∷ sign rpar ∷ word w_then ∷ sign lbrace ∷ name a ∷ sign assign ∷ name b
    ∷ sign semicolon ∷ word w_if ∷ name b ∷ word w_then ∷ sign lbrace ∷ sign rbrace ∷ sign rbrace ∷ []))
    -- if a { }
    ∷ row false (stepped (word w_if ∷ name a ∷ sign lbrace ∷ sign rbrace ∷ []))
    -- if a = b then { }
    ∷ row true (stepped (word w_if ∷ name a ∷ op op_eq ∷ name b ∷ word w_then ∷ sign lbrace ∷ sign rbrace ∷ []))
    -- a := b
    ∷ row false (stepped (name a ∷ sign assign ∷ name b ∷ []))
    -- (a) := b;
    ∷ row false (stepped (sign lpar ∷ name a ∷ sign rpar ∷ sign assign ∷ name b ∷ sign semicolon ∷ []))
    ∷ []

unfoldable pub programs : List Row
programs =
    -- the empty text
    row false ([])
    -- struct A() { }
    ∷ row false (word w_struct ∷ name A ∷ sign lpar ∷ sign rpar ∷ sign lbrace ∷ sign rbrace ∷ [])
    -- struct A() { } s
    ∷ row true (word w_struct ∷ name A ∷ sign lpar ∷ sign rpar ∷ sign lbrace ∷ sign rbrace ∷ name s ∷ [])
    -- s
    ∷ row false (name s ∷ [])
    -- struct A() { } struct B(a: Int, b: A) { s { } s { } } s < B.s < Fix(s < Fix(s))
    ∷ row true (word w_struct ∷ name A ∷ sign lpar ∷ sign rpar ∷ sign lbrace ∷ sign rbrace ∷ word w_struct ∷ name B ∷ sign lpar ∷ name a
    ∷ sign colon ∷ word w_int ∷ sign comma ∷ name b ∷ sign colon ∷ name A ∷ sign rpar ∷ sign lbrace ∷ name s ∷ sign lbrace ∷ sign rbrace ∷ name s
    ∷ sign lbrace ∷ sign rbrace ∷ sign rbrace ∷ name s ∷ op op_lt ∷ name B ∷ sign dot ∷ name s ∷ op op_lt ∷ word w_fix ∷ sign lpar ∷ name s
    ∷ op op_lt ∷ word w_fix ∷ sign lpar ∷ name s ∷ sign rpar ∷ sign rpar ∷ [])
    -- struct A() { } Fix()
    ∷ row false (word w_struct ∷ name A ∷ sign lpar ∷ sign rpar ∷ sign lbrace ∷ sign rbrace ∷ word w_fix ∷ sign lpar ∷ sign rpar ∷ [])
    -- struct A() { } (s)
    ∷ row false (word w_struct ∷ name A ∷ sign lpar ∷ sign rpar ∷ sign lbrace ∷ sign rbrace ∷ sign lpar ∷ name s ∷ sign rpar ∷ [])
    -- struct A() { } s <
    ∷ row false (word w_struct ∷ name A ∷ sign lpar ∷ sign rpar ∷ sign lbrace ∷ sign rbrace ∷ name s ∷ op op_lt ∷ [])
    -- struct A(a: Int,) { } s
    ∷ row false (word w_struct ∷ name A ∷ sign lpar ∷ name a ∷ sign colon ∷ word w_int ∷ sign comma ∷ sign rpar ∷ sign lbrace ∷ sign rbrace ∷ name s ∷ [])
    -- struct A(a: String) { } s
    ∷ row false (word w_struct ∷ name A ∷ sign lpar ∷ name a ∷ sign colon ∷ word w_string ∷ sign rpar ∷ sign lbrace ∷ sign rbrace ∷ name s ∷ [])
    -- struct A { } s
    ∷ row false (word w_struct ∷ name A ∷ sign lbrace ∷ sign rbrace ∷ name s ∷ [])
    -- struct A() { } s s
    ∷ row false (word w_struct ∷ name A ∷ sign lpar ∷ sign rpar ∷ sign lbrace ∷ sign rbrace ∷ name s ∷ name s ∷ [])
    -- struct A() { s } s
    ∷ row false (word w_struct ∷ name A ∷ sign lpar ∷ sign rpar ∷ sign lbrace ∷ name s ∷ sign rbrace ∷ name s ∷ [])
    ∷ []

pub statements_hold : Rows statements
unfolding statements derivable reading
statements_hold =
    (and_then refl (and_then refl (and_then refl (and_then refl (and_then refl (and_then refl (and_then refl (and_then refl
    (and_then refl (and_then refl (and_then refl (and_then refl (and_then refl (and_then refl (and_then refl (and_then refl
    (and_then refl (and_then refl (and_then refl (and_then refl (and_then refl (and_then refl (and_then refl (and_then refl
    (and_then refl (and_then refl (and_then refl (and_then refl no_more))))))))))))))))))))))))))))

pub programs_hold : Rows programs
unfolding programs derivable reading
programs_hold =
    (and_then refl (and_then refl (and_then refl (and_then refl (and_then refl (and_then refl (and_then refl (and_then refl
    (and_then refl (and_then refl (and_then refl (and_then refl (and_then refl no_more)))))))))))))

-- the one derivation of P's tokens
pub P-derived : read tokens_P
    ≡ some
    (program
    (last_struct
    (struct (68 ∷ 101 ∷ 99 ∷ 107 ∷ []) (par (108 ∷ 111 ∷ 97 ∷ 100 ∷ []) int_type ∷ par (112 ∷ 114 ∷ 101 ∷ 118 ∷ []) (id_type (68 ∷ 101 ∷ 99 ∷ 107 ∷ [])) ∷ [])
    (a_step (97 ∷ 100 ∷ 100 ∷ [])
    (stats
    (update (id (108 ∷ 111 ∷ 97 ∷ 100 ∷ []))
    (brackets (binary op_add (variable (id (108 ∷ 111 ∷ 97 ∷ 100 ∷ []))) (variable (path (112 ∷ 114 ∷ 101 ∷ 118 ∷ []) (id (108 ∷ 111 ∷ 97 ∷ 100 ∷ [])))))))
    no_stats)
    ∷ [])))
    (last_item (execution (97 ∷ 100 ∷ 100 ∷ []))))
unfolding tokens_P derivable reading
P-derived = refl
