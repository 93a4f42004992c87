-- Expressions are read exactly (01, 'Program stream'), at every number of levels.
use Prim.Native.Nat.{ℕ, zero, suc, ◌+◌, ◌<◌, ◌≤◌}
use Rattle.std.proofs.Common.{arith, ap, ◌∙◌}
use Rattle.std.specs.Prelude.{◌≡◌, List, ◌∷◌, length, get_or}
use Rattle.std.proofs.Math.Path.{refl}
use Rattle.program.specs.Tree.{Op, Op.op_eq, Op.op_ne, Op.op_le, Op.op_ge, Op.op_lt, Op.op_gt, Op.op_mul, Op.op_div, Op.op_rem, Op.op_add}
use Rattle.program.specs.Tree.{Op.op_sub, Op.op_and, Op.op_or, Expr, Expr.inv, Expr.make, Expr.path, Expr.int_lit, Expr.nat_lit, Expr.bool_lit}
use Rattle.program.specs.Tree.{Expr.null, Expr.self, Expr.op, Exprs, Exprs.none, Exprs.more, args}
use Rattle.program.specs.Encoding.{op_code, enc_expr, enc_exprs}
use Rattle.program.specs.Counts.{expr_height, args_height, CountsExpr, CountsExprs}
use Rattle.program.specs.Reader.{Result, lookup, Form, Form.form_inv, Form.form_make, Form.form_path, Form.form_int, Form.form_nat}
use Rattle.program.specs.Reader.{Form.form_bool, Form.form_null, Form.form_self, Form.form_op, Form.form_none, forms, form, bool_end}
use Rattle.program.specs.Reader.{word_bytes, read_make, rule_expr, read_expr}
use Rattle.program.specs.Exact.{Stands, Stands.done, Stands.letter, Told.told, Told.silent, Cut.stop, Exact, Formed, Rowed}
use Rattle.program.proofs.Laws.PartLaws.{made_ok, told_byte, cuts_byte, cuts_ok}
use Rattle.program.proofs.Laws.JoinLaws.{pair_exact, row_exact, behind, formed, no_form, lookup_is, Reads, opened_exact}
use Rattle.program.proofs.Laws.WordLaws.{below_exact, word_exact, type_exact, path_exact}

-- the bytes that open a form
abbrev pub Opens : ℕ → Form → Type 0
Opens b form_inv = b ≡ 16
Opens b form_make = b ≡ 17
Opens b form_path = b ≡ 18
Opens b form_int = b ≡ 19
Opens b form_nat = b ≡ 20
Opens b form_bool = b ≡ 21
Opens b form_null = b ≡ 22
Opens b form_self = b ≡ 23
Opens b (form_op o) = b ≡ op_code o
Opens b form_none = Unit {0}

-- a byte is one of those that open its form
pub opens : (b : ℕ) → Opens b (form b)
unfolding form op_code
opens b =
    lookup_is Opens forms form_none b tt (omega arith)

-- an operator's byte opens its form
pub form_code : (o : Op) → form (op_code o) ≡ form_op o
unfolding form lookup op_code
form_code op_eq = refl
form_code op_ne = refl
form_code op_le = refl
form_code op_ge = refl
form_code op_lt = refl
form_code op_gt = refl
form_code op_mul = refl
form_code op_div = refl
form_code op_rem = refl
form_code op_add = refl
form_code op_sub = refl
form_code op_and = refl
form_code op_or = refl

-- the bytes of operators
pub op_range : (o : Op) → (32 ≤ op_code o) × (op_code o ≤ 44)
unfolding op_code
op_range o =
    elim o as (λ x. (32 ≤ op_code x) × (op_code x ≤ 44)) [
      | op_eq ↦ omega arith
      | op_ne ↦ omega arith
      | op_le ↦ omega arith
      | op_ge ↦ omega arith
      | op_lt ↦ omega arith
      | op_gt ↦ omega arith
      | op_mul ↦ omega arith
      | op_div ↦ omega arith
      | op_rem ↦ omega arith
      | op_add ↦ omega arith
      | op_sub ↦ omega arith
      | op_and ↦ omega arith
      | op_or ↦ omega arith
    ]

-- an expression has a level
pub height_pos : (e : Expr) → 1 ≤ expr_height e
unfolding expr_height
height_pos (inv e) = omega arith
height_pos (op o a b) = omega arith
height_pos (make k es) = omega arith
height_pos (path v vs) = omega arith
height_pos (int_lit w) = omega arith
height_pos (nat_lit w) = omega arith
height_pos (bool_lit w) = omega arith
height_pos (null t) = omega arith
height_pos self = omega arith

module _ (ar : List ℕ) where
  -- within the counts, of at most d levels; a row of i such expressions
  abbrev pub InExpr : ℕ → Expr → Type 0
  InExpr d e = (CountsExpr ar e) × (expr_height e ≤ d)

  abbrev pub InExprs : ℕ → ℕ → Exprs → Type 0
  InExprs d i es = (args es ≡ i) × (CountsExprs ar es) × (args_height es ≤ d)

  -- the arguments of a construct are a row of expressions
  pub exprs_row : (d : ℕ) → Rowed none more (InExpr d) enc_expr (InExprs d) (λ i. enc_exprs)
  unfolding args CountsExprs args_height enc_exprs
  exprs_row d = record {
    nil = (refl, tt, omega arith);
    cons = λ i e es p q. (ap suc q.0, (p.0, q.1), omega arith);
    nil_only = nil_only;
    cons_only = cons_only;
    nil_bytes = refl;
    cons_bytes = λ i e es p. refl;
  }
    where
      nil_only : (es : Exprs) → InExprs d 0 es → none ≡ es
      nil_only none h = refl
      nil_only (more e es) h = absurd (omega arith)

      cons_only : (i : ℕ) (es : Exprs) → InExprs d (suc i) es → (e : Expr) × (fs : Exprs) × (InExpr d e) × (InExprs d i fs) × (more e fs ≡ es)
      cons_only i none h = absurd (omega arith)
      cons_only i (more e es) h = (e, es, (h.1.0, omega arith), (omega arith, h.1.1, omega arith), refl)

  -- where r reads expressions of at most d levels
  module _ (d : ℕ) (r : List ℕ → ℕ → Result Expr) (x : Exact (InExpr d) enc_expr r) where
    -- a struct and an expression for each of its parameters
    pub make_exact : Exact (λ p. (p.0 < length ar) × (InExprs d (get_or ar p.0 0) p.1)) (λ p. p.0 ∷ enc_exprs p.1) (λ s. read_make ar s (r s))
    unfolding read_make
    make_exact = pair_exact (below_exact (length ar)) λ k. row_exact x (exprs_row d) (get_or ar k 0)

    -- each form, behind a byte that opens it
    form_laws : (f : Form) → Formed (InExpr (suc d)) enc_expr (λ b. Opens b f) (λ s n. rule_expr ar s (r s) n (n + 1) f)
    unfolding rule_expr CountsExpr expr_height enc_expr
    form_laws form_inv = formed (behind x) _ (λ e h. (h.0, omega arith)) λ b e o. rw o
    form_laws form_make = formed (behind make_exact) _ (λ p h. ((h.0, h.1.0, h.1.1), omega arith)) λ b p o. rw o
    form_laws form_path = formed (behind path_exact) _ (λ p h. (h, omega arith)) λ b p o. rw o
    form_laws form_int = formed (behind (word_exact word_bytes)) _ (λ v h. (h, omega arith)) λ b v o. rw o
    form_laws form_nat = formed (behind (word_exact word_bytes)) _ (λ v h. (h, omega arith)) λ b v o. rw o
    form_laws form_bool = formed (behind (below_exact bool_end)) _ (λ v h. (h, omega arith)) λ b v o. rw o
    form_laws form_null = formed (behind (type_exact (length ar))) _ (λ t h. (h, omega arith)) λ b t o. rw o
    form_laws form_self = record {
      sound = λ s n b l e o. told {a = self} ((tt, omega arith), letter l (e ∙ o) done);
      cut = λ s t n l. cuts_ok self s t (n + 1) (omega arith);
    }
    form_laws (form_op c) = formed (behind (pair_exact x λ e. x)) _ (λ p h. ((h.0.0, h.1.0), omega arith)) λ b p o. rw o
    form_laws form_none = no_form

    -- each tree, at the byte that opens it
    complete_rule : (s : List ℕ) (e : Expr) (n m : ℕ) → InExpr (suc d) e → Stands s n (enc_expr e) m
        → Reads s (λ b. rule_expr ar s (r s) n (n + 1) (form b)) e n m
    unfolding rule_expr CountsExpr expr_height enc_expr form lookup
    complete_rule s (inv e) n m c (letter h q w) = (16, h, q, made_ok _ (x.complete s e _ m (c.0, omega arith) w))
    complete_rule s (make k es) n m c (letter h q w) =
        (17, h, q, made_ok _ (make_exact.complete s (k, es) _ m (c.0.0, (c.0.1, c.0.2, omega arith)) w))
    complete_rule s (path v vs) n m c (letter h q w) = (18, h, q, made_ok _ (path_exact.complete s (v, vs) _ m c.0 w))
    complete_rule s (int_lit v) n m c (letter h q w) = (19, h, q, made_ok _ ((word_exact word_bytes).complete s v _ m c.0 w))
    complete_rule s (nat_lit v) n m c (letter h q w) = (20, h, q, made_ok _ ((word_exact word_bytes).complete s v _ m c.0 w))
    complete_rule s (bool_lit v) n m c (letter h q w) = (21, h, q, made_ok _ ((below_exact bool_end).complete s v _ m c.0 w))
    complete_rule s (null t) n m c (letter h q w) = (22, h, q, made_ok _ ((type_exact (length ar)).complete s t _ m c.0 w))
    complete_rule s self n m c (letter h q done) = (23, h, q, refl)
    complete_rule s (op o a b) n m c (letter h q w) =
        let e = (pair_exact x (λ e. x)).complete s (a, b) _ m ((c.0.0, omega arith), (c.0.1, omega arith)) w in
        (op_code o, h, q, rw (form_code o) (made_ok _ e))

  -- an expression of at most d levels
  pub expr_exact : (d : ℕ) → Exact (InExpr d) enc_expr (λ s. read_expr ar s d)
  unfolding read_expr
  expr_exact zero = record {
    sound = λ s n. told_byte _ s n λ b l e. silent;
    complete = λ s e n m c w. absurd (omega (arith, height_pos e));
    cut = cuts_byte _ λ b s t n l. stop {p = n} (omega arith) l;
  }
  expr_exact (suc d) = let x = expr_exact d in opened_exact _ Opens opens (form_laws d _ x) (complete_rule d _ x)
