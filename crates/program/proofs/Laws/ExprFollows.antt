-- Expressions follow the fronts of their encodings (01, 4 and 5 of 'Numbers from the input'): the byte that is refused for its level is the
-- one that stands below the last level, whatever it is.
use Prim.Native.Nat.{ℕ, zero, suc, ◌+◌, ◌<◌, ◌≤◌}
use Rattle.std.proofs.Common.{arith, ◌∙◌, drop_of_length-le}
use Rattle.std.proofs.Math.Decide.{dec_lt}
use Rattle.std.proofs.Math.Path.{◌≡◌, refl, sym}
use mathlib.Core.List.{List, ◌∷◌}
use Rattle.std.proofs.Math.ListN.{length}
use Rattle.std.specs.Prelude.{get_or, drop}
use Rattle.program.specs.Tree.{Expr, Expr.inv, Expr.make, Expr.path, Expr.int_lit, Expr.nat_lit, Expr.bool_lit, Expr.null, Expr.self, Expr.op}
use Rattle.program.specs.Encoding.{op_code, enc_expr, enc_exprs}
use Rattle.program.specs.Levels.{levels_expr, levels_exprs}
use Rattle.program.specs.Counts.{expr_height, CountsExpr}
use Rattle.program.specs.Fronts.{Front.front_none}
use Rattle.program.specs.Reader.{Result, Result.bad, wrong_end, wrong_byte, lookup, Form, Form.form_inv, Form.form_make, Form.form_path}
use Rattle.program.specs.Reader.{Form.form_int, Form.form_nat, Form.form_bool, Form.form_null, Form.form_self, Form.form_op, Form.form_none}
use Rattle.program.specs.Reader.{form, bool_end, word_bytes, byte, then, read_make, rule_expr, read_expr}
use Rattle.program.specs.Exact.{Stands, Stands.letter, Stands.done, Exact}
use Rattle.program.proofs.Laws.PartLaws.{then_ok, byte_ok}
use Rattle.program.proofs.Laws.WordLaws.{below_exact}
use Rattle.program.proofs.Laws.ExprLaws.{Opens, opens, form_code, InExpr, InExprs, exprs_row, expr_exact}
use Rattle.program.specs.Follows.{Covers.covers_none, Covers.covers_byte, Deep, Deep.deep_here, Met.met_whole, Met.met_deep, GoesOn, Follows}
use Rattle.program.specs.Follows.{FormEnds, Opened}
use Rattle.program.proofs.Laws.MetLaws.{met_made}
use Rattle.program.proofs.Laws.FollowsLaws.{pair_follows, row_follows, follows_behind, formed_ends, met_byte, opened_follows, no_form_ends}
use Rattle.program.proofs.Laws.WordFollows.{below_follows, word_follows, type_follows, path_follows}

-- an expression has a byte, at its own level
first_byte : {s : List ℕ} {n m : ℕ} (e : Expr) → Stands s n (enc_expr e) m → n < length s
unfolding enc_expr
first_byte (inv e) (letter h q w) = h
first_byte (make k es) (letter h q w) = h
first_byte (path v vs) (letter h q w) = h
first_byte (int_lit v) (letter h q w) = h
first_byte (nat_lit v) (letter h q w) = h
first_byte (bool_lit v) (letter h q w) = h
first_byte (null t) (letter h q w) = h
first_byte self (letter h q w) = h
first_byte (op o a b) (letter h q w) = h

first_level : {d l : ℕ} (e : Expr) → d < l → Deep d 0 (levels_expr e l)
unfolding enc_expr levels_expr
first_level (inv e) h = deep_here h
first_level (make k es) h = deep_here h
first_level (path v vs) h = deep_here h
first_level (int_lit v) h = deep_here h
first_level (nat_lit v) h = deep_here h
first_level (bool_lit v) h = deep_here h
first_level (null t) h = deep_here h
first_level self h = deep_here h
first_level (op o a b) h = deep_here h

-- there is a struct, and no byte may stand deeper than level `top`
module _ (ar : List ℕ) (structs : 0 < length ar) (top : ℕ) where
  abbrev At : ℕ → Expr → List ℕ
  At l e = levels_expr e l

  wider : (d : ℕ) (e : Expr) → InExpr ar d e → InExpr ar (suc d) e
  wider d e c = (c.0, omega arith)

  -- what stands at level l, where r reads expressions of at most d levels from the next level on
  module _ (d l : ℕ) (o : l ≤ top) (r : List ℕ → ℕ → Result Expr) (x : Exact (InExpr ar d) enc_expr r)
      (y : Follows top (InExpr ar (suc d)) enc_expr (At (suc l)) r) where
    -- a struct and an expression for each of its parameters
    pub make_follows : Follows top (λ p. (p.0 < length ar) × (InExprs ar (suc d) (get_or ar p.0 0) p.1))
        (λ p. p.0 ∷ enc_exprs p.1) (λ p. l ∷ levels_exprs p.1 (suc l)) (λ s. read_make ar s (r s))
    unfolding read_make levels_expr
    make_follows =
        pair_follows top (below_exact (length ar)) (λ k c. c) (below_follows top l o (length ar) structs) λ k c.
        row_follows top x (wider d) y (exprs_row ar (suc d)) (λ i es. levels_exprs es (suc l)) refl (λ i e es c. refl) (get_or ar k 0)

    -- each form, behind a byte that opens it
    form_ends : (f : Form)
        → FormEnds top (InExpr ar (suc (suc d))) enc_expr (At l) (λ b. Opens b f) (λ s n. rule_expr ar s (r s) n (n + 1) f)
    unfolding rule_expr CountsExpr expr_height enc_expr levels_expr
    form_ends form_inv = formed_ends top o (follows_behind top y) _ (λ e h. (h.0, omega arith)) (λ b e q. rw q) λ e. refl
    form_ends form_make =
        formed_ends top o (follows_behind top make_follows) _ (λ p h. ((h.0, h.1.0, h.1.1), omega arith)) (λ b p q. rw q) λ p. refl
    form_ends form_path = formed_ends top o (follows_behind top (path_follows top l o)) _ (λ p h. (h, omega arith)) (λ b p q. rw q) λ p. refl
    form_ends form_int =
        formed_ends top o (follows_behind top (word_follows top l o word_bytes)) _ (λ v h. (h, omega arith)) (λ b v q. rw q) λ v. refl
    form_ends form_nat =
        formed_ends top o (follows_behind top (word_follows top l o word_bytes)) _ (λ v h. (h, omega arith)) (λ b v q. rw q) λ v. refl
    form_ends form_bool =
        formed_ends top o (follows_behind top (below_follows top l o bool_end (omega arith))) _ (λ v h. (h, omega arith)) (λ b v q. rw q) λ v. refl
    form_ends form_null =
        formed_ends top o (follows_behind top (type_follows top l o (length ar))) _ (λ t h. (h, omega arith)) (λ b t q. rw q) λ t. refl
    form_ends form_self = record { ends = λ s n b h q e. let z : ◌≡◌ {A = ℕ} 0 1 = cc in absurd (omega arith) }
    form_ends (form_op c) =
        let y2 = pair_follows top x (wider d) y (λ e c. y) in
        formed_ends top o (follows_behind top y2) _ (λ p h. ((h.0.0, h.1.0), omega arith)) (λ b p q. rw q) λ p. refl
    form_ends form_none = no_form_ends

    -- each tree, at the byte that opens it
    tree_met : (s : List ℕ) (e : Expr) (n m : ℕ) → InExpr ar (suc (suc d)) e → Stands s n (enc_expr e) m
        → Opened top s (λ b. rule_expr ar s (r s) n (n + 1) (form b)) enc_expr (At l) e n m
    unfolding rule_expr CountsExpr expr_height enc_expr levels_expr form lookup
    tree_met s (inv e) n m c (letter h q w) = (16, h, q, met_byte top o (met_made _ (y.meets s e _ m (c.0, omega arith) w)))
    tree_met s (make k es) n m c (letter h q w) =
        (17, h, q, met_byte top o (met_made _ (make_follows.meets s (k, es) _ m (c.0.0, (c.0.1, c.0.2, omega arith)) w)))
    tree_met s (path v vs) n m c (letter h q w) = (18, h, q, met_byte top o (met_made _ ((path_follows top l o).meets s (v, vs) _ m c.0 w)))
    tree_met s (int_lit v) n m c (letter h q w) = (19, h, q, met_byte top o (met_made _ ((word_follows top l o word_bytes).meets s v _ m c.0 w)))
    tree_met s (nat_lit v) n m c (letter h q w) = (20, h, q, met_byte top o (met_made _ ((word_follows top l o word_bytes).meets s v _ m c.0 w)))
    tree_met s (bool_lit v) n m c (letter h q w) =
        (21, h, q, met_byte top o (met_made _ ((below_follows top l o bool_end (omega arith)).meets s v _ m c.0 w)))
    tree_met s (null t) n m c (letter h q w) = (22, h, q, met_byte top o (met_made _ ((type_follows top l o (length ar)).meets s t _ m c.0 w)))
    tree_met s self n m c (letter h q done) = (23, h, q, met_whole (covers_byte o covers_none))
    tree_met s (op f a b) n m c (letter h q w) =
        let y2 = pair_follows top x (wider d) y (λ e c. y) in
        (op_code f, h, q, rw (form_code f) (met_byte top o (met_made _ (y2.meets s (a, b) _ m ((c.0.0, omega arith), (c.0.1, omega arith)) w))))

  -- below the last level every byte is refused
  none_follows : (l : ℕ) → top < l → Follows top (InExpr ar 1) enc_expr (At l) (λ s. read_expr ar s 0)
  unfolding read_expr CountsExpr expr_height
  none_follows l o = record {
    fill = self;
    fills = (tt, omega arith);
    ends = λ s n k e. ends s n (dec_lt n (length s)) e;
    meets = λ s e n m c w.
        rw (then_ok (λ b k. bad n wrong_byte) (byte_ok s (first_byte e w) refl) refl) (met_deep {p = n} {j = 0} (omega arith) (first_level e o));
  }
    where
      ends : (s : List ℕ) (n : ℕ) → Dec (n < length s) → then {B = Expr} (byte s n) (λ b k. bad n wrong_byte) ≡ bad (length s) wrong_end
          → GoesOn top (InExpr ar 1) enc_expr (At l) (drop n s)
      ends s n (yes j) e =
          let q : bad n wrong_byte ≡ bad (length s) wrong_end = sym (then_ok {B = Expr} (λ b k. bad n wrong_byte) (byte_ok s j refl) refl) ∙ e in
          let z : ◌≡◌ {A = ℕ} 5 4 = cc in absurd (omega arith)
      ends s n (no j) e = (self, (tt, omega arith), rw (drop_of_length-le s {i = n} (omega arith)) front_none)

  -- an expression of at most d levels, from level l on
  pub expr_follows : (d l : ℕ) → l + d ≡ suc top → Follows top (InExpr ar (suc d)) enc_expr (At l) (λ s. read_expr ar s d)
  unfolding read_expr CountsExpr expr_height
  expr_follows zero l e = none_follows l (omega arith)
  expr_follows (suc d) l e =
      let x = expr_exact ar d in
      let y = expr_follows d (suc l) (omega arith) in
      opened_follows top _ Opens opens self (tt, omega arith) (form_ends d l (omega arith) _ x y) (tree_met d l (omega arith) _ x y)
