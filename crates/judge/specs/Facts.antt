-- What a checker computes of a program in one walk over its stream (01, numbers 6 to 8): how many commands, how high the stack,
-- and whether names and types are right, as numbers: 0, or the lower of 7 and 8. Types stand as their bytes. The locals of a
-- step are two numbers whose digits to the base 256 are, for each local, 1 more than its type while it lives, and 1 once it was
-- declared. SizeFactsLaws (6), ExprFactsLaws and BodyFactsLaws (7 and 8) tie these to the conditions of 01.
use Rattle.std.specs.Prelude.{ℕ, suc, ◌+◌, ◌*◌, ◌-◌, ◌/◌, ◌%◌, ◌^◌, max, Bool, true, false, ◌&&◌, List, [], ◌∷◌, length, get_or, ltb, leb, eqb}
use Rattle.types.specs.Limits.{max_params}
use Rattle.types.specs.Numbers.{wrong_names, wrong_types}
use Rattle.types.specs.Types.{struct_code, code}
use Rattle.program.specs.Tree.{Var, Var.par, Var.loc, Op, Expr, Expr.inv, Expr.make, Expr.path, Expr.int_lit, Expr.nat_lit, Expr.bool_lit, Expr.null}
use Rattle.program.specs.Tree.{Expr.self, Expr.op, Exprs, Exprs.none, Exprs.more, Stmt, Stmt.when, Stmt.declare, Stmt.update, Stmt.create, Stmts}
use Rattle.program.specs.Tree.{Stmts.end, Stmts.next}
use Rattle.judge.specs.declared.Judged.{Judged}
use Rattle.judge.specs.declared.Facts.{Facts}
use Rattle.judge.specs.declared.Scope.{Scope}
use Rattle.judge.specs.declared.Done.{Done}
use Rattle.commands.specs.Typing.{Sort, Sort.equality, Sort.order, Sort.arithmetic, Sort.logic, sort}

-- Faults: 0, 7 or 8 --------------------------------------------------------------

abbrev pub no_fault : ℕ
no_fault = 0

-- the lower number of two, where there is one
unfoldable pub worst : ℕ → ℕ → ℕ
worst a b = elim (eqb a 0) [ true ↦ b | false ↦ elim (eqb b 0) [ true ↦ a | false ↦ elim (ltb a b) [ true ↦ a | false ↦ b ] ] ]

-- 8 where a test of types fails and nothing was wrong before
unfoldable pub demand : ℕ → Bool → ℕ
demand f t = elim (eqb f 0) [ false ↦ f | true ↦ elim t [ true ↦ 0 | false ↦ wrong_types ] ]

-- 7 where a test of names fails
unfoldable pub named : Bool → ℕ
named t = elim t [ true ↦ 0 | false ↦ wrong_names ]

-- Digits to the base 256 -----------------------------------------------------------

unfoldable pub digit : ℕ → ℕ → ℕ
digit w x = w / 256 ^ x % 256

-- digit x set to v, where it was 0
unfoldable pub mark : ℕ → ℕ → ℕ → ℕ
mark w x v = elim (eqb (digit w x) 0) [ true ↦ w + v * 256 ^ x | false ↦ w ]

-- Paths ----------------------------------------------------------------------------

abbrev pub judged : ℕ → ℕ → Judged
judged f t = record { fault = f; typ = t }

-- `ar` has the parameter count of each struct; `types` 8 places for each struct, with its parameters' types in the first
module _ (ar types : List ℕ) where
  -- a parameter of the struct k
  unfoldable pub param : ℕ → ℕ → ℕ → Judged
  param f k x = elim (ltb x (get_or ar k 0)) [ true ↦ judged 0 (get_or types (max_params * k + x) 0) | false ↦ judged f 0 ]

  -- from a value, its parameter x
  unfoldable pub lead_by : Judged → ℕ → Judged
  lead_by j x =
      elim (eqb j.fault 0) [
        | false ↦ j
        | true ↦
            elim (leb struct_code j.typ) [ true ↦ param wrong_types (j.typ - struct_code) x | false ↦ judged wrong_types 0 ]
      ]

  unfoldable pub lead : Judged → List ℕ → Judged
  lead j [] = j
  lead j (x ∷ xs) = lead (lead_by j x) xs

  module _ (own w : ℕ) where
    unfoldable pub start_of : Var → Judged
    start_of (par x) = param wrong_names own x
    start_of (loc x) = elim (eqb (digit w x) 0) [ true ↦ judged wrong_names 0 | false ↦ judged 0 (digit w x - 1) ]

    unfoldable pub path_of : Var → List ℕ → Judged
    path_of v vs = lead (start_of v) vs

-- Expressions ----------------------------------------------------------------------

abbrev pub facts : ℕ → ℕ → ℕ → ℕ → Facts
facts n h f t = record { size = n; peak = h; fault = f; typ = t }

-- one push of this type
abbrev pub pushed : ℕ → Facts
pushed t = facts 1 1 0 t

abbrev pub bool_code : ℕ
bool_code = 2

unfoldable pub negated : Facts → Facts
negated f = facts (suc f.size) f.peak (demand f.fault (eqb f.typ bool_code)) bool_code

-- whether operators of a sort take a type; what they give
unfoldable pub takes : Sort → ℕ → Bool
takes equality t = true
takes order t = ltb t bool_code
takes arithmetic t = ltb t bool_code
takes logic t = eqb t bool_code

unfoldable pub gives : Sort → ℕ → ℕ
gives equality t = bool_code
gives order t = bool_code
gives arithmetic t = t
gives logic t = bool_code

unfoldable pub combined : Op → Facts → Facts → Facts
combined o f g =
    facts
    (suc (f.size + g.size))
    (max f.peak (suc g.peak))
    (demand (worst f.fault g.fault) (eqb f.typ g.typ && takes (sort o) f.typ))
    (gives (sort o) f.typ)

-- a path of n variables
unfoldable pub travelled : ℕ → Judged → Facts
travelled n j = facts (suc n) 1 j.fault j.typ

-- arguments: the type field is not used
abbrev pub no_args : Facts
no_args = facts 0 0 0 0

-- an argument for a parameter of type t, before others
unfoldable pub argued : ℕ → Facts → Facts → Facts
argued t f g =
    facts (f.size + g.size) (max f.peak (suc g.peak)) (worst (demand f.fault (eqb f.typ t)) g.fault) 0

-- an argument for a parameter of type t, behind x others
unfoldable pub appended : ℕ → ℕ → Facts → Facts → Facts
appended x t a f =
    facts (a.size + f.size) (max a.peak (x + f.peak)) (worst a.fault (demand f.fault (eqb f.typ t))) 0

unfoldable pub constructed : ℕ → Facts → Facts
constructed k f = facts (suc f.size) (max 1 f.peak) f.fault (struct_code + k)

module _ (ar types : List ℕ) (own w : ℕ) where
  unfoldable mutual
    pub expr_facts : Expr → Facts
    expr_facts (inv e) = negated (expr_facts e)
    expr_facts (make k es) = constructed k (args_facts es k 0)
    expr_facts (path v vs) = travelled (suc (length vs)) (path_of ar types own w v vs)
    expr_facts (int_lit n) = pushed 0
    expr_facts (nat_lit n) = pushed 1
    expr_facts (bool_lit n) = pushed bool_code
    expr_facts (null t) = pushed (code t)
    expr_facts self = pushed (struct_code + own)
    expr_facts (op o a b) = combined o (expr_facts a) (expr_facts b)

    -- the arguments for the parameters of struct k from x on
    pub args_facts : Exprs → ℕ → ℕ → Facts
    args_facts none k x = no_args
    args_facts (more e es) k x = argued (get_or types (max_params * k + x) 0) (expr_facts e) (args_facts es k (suc x))

-- Statements -----------------------------------------------------------------------

abbrev pub scope : ℕ → ℕ → Scope
scope w n = record { live = w; seen = n }

-- no local lives, none was declared
abbrev pub no_locals : Scope
no_locals = scope 0 0

abbrev pub result : ℕ → ℕ → ℕ → ℕ → Scope → Done
result n h g f c = record { size = n; height = h; growth = g; fault = f; after = c }

-- no statement
abbrev pub nothing : Scope → Done
nothing c = result 0 0 0 0 c

-- an if: what its body declares dies with it, and stays declared
unfoldable pub branched : Scope → Facts → Done → Done
branched c f b =
    result
    (f.size + suc b.size)
    (max f.peak b.height)
    b.growth
    (worst (demand f.fault (eqb f.typ bool_code)) b.fault)
    (scope c.live b.after.seen)

-- the local x declared with type t
unfoldable pub declared : Scope → ℕ → ℕ → Facts → Done
declared c t x f =
    result
    (suc (suc f.size))
    (max f.peak 2)
    0
    (worst (demand f.fault (eqb f.typ t)) (named (eqb (digit c.seen x) 0)))
    (scope (mark c.live x (suc t)) (mark c.seen x 1))

-- an update of a path of n variables
unfoldable pub updated : Scope → ℕ → Judged → Facts → Done
updated c n j f =
    result (f.size + suc n) (max f.peak 2) 0 (demand (worst j.fault f.fault) (eqb j.typ f.typ)) c

unfoldable pub created : Scope → Facts → Done
created c f = result (suc f.size) (max 1 f.peak) 1 f.fault c

-- one statement, then others
unfoldable pub followed : Done → Done → Done
followed a b =
    result (a.size + b.size) (max a.height (a.growth + b.height)) (a.growth + b.growth) (worst a.fault b.fault) b.after

module _ (ar types : List ℕ) (own : ℕ) where
  unfoldable mutual
    pub stmt_facts : Stmt → Scope → Done
    stmt_facts (when e b) c = branched c (expr_facts ar types own c.live e) (body_facts b c)
    stmt_facts (declare t x e) c = declared c (code t) x (expr_facts ar types own c.live e)
    stmt_facts (update v vs e) c =
        updated c (suc (length vs)) (path_of ar types own c.live v vs) (expr_facts ar types own c.live e)
    stmt_facts (create k es) c = created c (args_facts ar types own c.live es k 0)

    pub body_facts : Stmts → Scope → Done
    body_facts end c = nothing c
    body_facts (next s b) c = followed (stmt_facts s c) (body_facts b (stmt_facts s c).after)
