-- Rows that pin what no law does: steps, their commands and their depth, by computation (01, 'Names, types, commands' and its listing).
use Rattle.std.specs.Prelude.{ℕ, zero, suc, List, [], ◌∷◌, ◌++◌, Bool, true, false, replicate, eqb, T, pos, negsuc}
use Rattle.types.specs.Types.{Ty.int, Ty.nat, Ty.bool, Ty.ref, code}
use Rattle.types.specs.Values.{Val, Val.int_val, Val.nat_val, Val.bool_val, Val.label, default, value_of, word_int}
use Rattle.program.specs.Tree.{Var.par, Var.loc, Op.op_add, Op.op_eq, Expr.inv, Expr.make, Expr.path, Expr.int_lit, Expr.nat_lit, Expr.bool_lit}
use Rattle.program.specs.Tree.{Expr.null, Expr.self, Expr.op, Exprs.none, Exprs.more, Stmt.when, Stmt.declare, Stmt.update, Stmt.create, Stmts}
use Rattle.program.specs.Tree.{Stmts.end, Stmts.next}
use Rattle.program.specs.Encoding.{flat, op_code, var_code}
use Rattle.commands.specs.Commands.{Com.push, Com.push_this, Com.rd, Com.wr, Com.cons, Com.not, Com.oper}
use Rattle.commands.specs.Commands.{Flat, Flat.plain, Flat.if_n, commands}
use Rattle.commands.specs.Depth.{depth}
use Rattle.commands.specs.Unfold.{compiling}

-- a step of struct 0, which has two parameters (struct 1 has none), the commands that it gives and its depth
pub record Row : Type 0 where
  pub step : Stmts
  pub gives : List Flat
  pub deep : ℕ

-- The test -----------------------------------------------------------------------

-- numbers that tell commands apart, also in a row
unfoldable pub val_numbers : Val → List ℕ
val_numbers (int_val (pos n)) = 0 ∷ n ∷ []
val_numbers (int_val (negsuc n)) = 1 ∷ n ∷ []
val_numbers (nat_val n) = 2 ∷ n ∷ []
val_numbers (bool_val true) = 3 ∷ 1 ∷ []
val_numbers (bool_val false) = 3 ∷ 0 ∷ []
val_numbers (label l) = 4 ∷ l ∷ []

unfoldable pub numbers : Flat → List ℕ
numbers (plain (push t v)) = 0 ∷ code t ∷ val_numbers v
numbers (plain push_this) = 1 ∷ []
numbers (plain (rd x)) = 2 ∷ x ∷ []
numbers (plain (wr x)) = 3 ∷ x ∷ []
numbers (plain (cons k)) = 4 ∷ k ∷ []
numbers (plain not) = 5 ∷ []
numbers (plain (oper o)) = 6 ∷ op_code o ∷ []
numbers (if_n n) = 7 ∷ n ∷ []

unfoldable pub same : List ℕ → List ℕ → Bool
same [] [] = true
same [] (y ∷ ys) = false
same (x ∷ xs) [] = false
same (x ∷ xs) (y ∷ ys) = elim (eqb x y) [ true ↦ same xs ys | false ↦ false ]

unfoldable pub holds : Row → Bool
holds r = elim (same (flat numbers (commands r.step)) (flat numbers r.gives)) [
  | true ↦ eqb (depth (2 ∷ 0 ∷ []) (commands r.step) 0 0) r.deep
  | false ↦ false
]

unfoldable pub all : List Row → Bool
all [] = true
all (r ∷ rs) = elim (holds r) [ true ↦ all rs | false ↦ false ]

-- The rows -----------------------------------------------------------------------

-- n construct statements of struct 1 before others; a literal update
unfoldable pub labels : ℕ → Stmts → Stmts
labels zero b = b
labels (suc n) b = next (create 1 none) (labels n b)

abbrev set_2 : Stmts
set_2 = next (update (par 0) [] (int_lit 2)) end

abbrev set_2_list : List Flat
set_2_list = plain (push int (int_val (pos 2))) ∷ plain push_this ∷ plain (wr 0) ∷ []

unfoldable pub rows : List Row
rows =
    -- P: load := load + prev.load
    record {
      step = next (update (par 0) [] (op op_add (path (par 0) []) (path (par 1) (0 ∷ [])))) end;
      gives = plain push_this ∷ plain (rd 0) ∷ plain push_this ∷ plain (rd 1) ∷ plain (rd 0) ∷ plain (oper op_add) ∷ plain push_this ∷ plain (wr 0) ∷ [];
      deep = 2;
    }
    -- labels that construct statements leave, and leave in an if
    ∷ record { step = labels 14 set_2; gives = replicate 14 (plain (cons 1)) ++ set_2_list; deep = 16 }
    ∷ record {
      step = next (when (bool_lit 1) (labels 14 end)) set_2;
      gives = plain (push bool (bool_val true)) ∷ if_n 14 ∷ replicate 14 (plain (cons 1)) ++ set_2_list;
      deep = 16;
    }
    -- a path of three variables, written and read
    ∷ record {
      step = next (update (par 1) (1 ∷ 0 ∷ []) (path (loc 7) (1 ∷ 0 ∷ []))) end;
      gives = plain push_this ∷ plain (rd 15) ∷ plain (rd 1) ∷ plain (rd 0) ∷ plain push_this ∷ plain (rd 1) ∷ plain (rd 1) ∷ plain (wr 0) ∷ [];
      deep = 2;
    }
    -- a declaration; the literal is -1
    ∷ record {
      step = next (declare int 3 (int_lit 4294967295)) end;
      gives = plain (push int (int_val (negsuc 0))) ∷ plain push_this ∷ plain (wr 11) ∷ [];
      deep = 2;
    }
    -- ifs in one another
    ∷ record {
      step = next (when (inv (bool_lit 0)) (next (when (op op_eq self (null (ref 0))) set_2) (next (when (bool_lit 1) end) end))) set_2;
      gives =
          plain (push bool (bool_val false)) ∷ plain not ∷ if_n 9
          ∷ plain push_this ∷ plain (push (ref 0) (label 0)) ∷ plain (oper op_eq) ∷ if_n 3
          ∷ set_2_list ++ plain (push bool (bool_val true)) ∷ if_n 0
          ∷ set_2_list;
      deep = 2;
    }
    -- arguments
    ∷ record {
      step = next (create 0 (more (nat_lit 7) (more (make 0 (more self (more (make 1 none) none))) none))) end;
      gives = plain (push nat (nat_val 7)) ∷ plain push_this ∷ plain (cons 1) ∷ plain (cons 0) ∷ plain (cons 0) ∷ [];
      deep = 3;
    }
    ∷ []

pub rows_hold : T (all rows)
unfolding all rows holds same numbers val_numbers labels flat op_code var_code code default value_of word_int compiling
rows_hold = tt
