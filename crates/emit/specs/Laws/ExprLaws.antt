-- What the code has of an expression that was read, one law for each form (01, 'Program stream'; 000, definition 2).
use Rattle.std.specs.Prelude.{ℕ, zero, suc, ◌+◌, ◌-◌, ◌<◌, ◌≤◌, ◌≡◌, List, [], ◌∷◌, length, get_or}
use Rattle.std.proofs.Common.{arith, sub-one, ◌∙◌, append-nil}
use Rattle.std.proofs.Math.Path.{refl, sym}
use Rattle.program.specs.Tree.{Expr, Expr.inv, Expr.make, Expr.path, Expr.op, Exprs, Exprs.none, Exprs.more}
use Rattle.program.specs.Reader.{Result, Result.ok, Result.bad, wrong_byte, byte, ranged, lookup, Form, Form.form_inv, Form.form_make, Form.form_path}
use Rattle.program.specs.Reader.{Form.form_int, Form.form_nat, Form.form_bool, Form.form_null, Form.form_self, Form.form_op, Form.form_none, form}
use Rattle.program.specs.Reader.{read_path, read_make, rule_expr, read_expr}
use Rattle.program.proofs.Laws.ExprLaws.{Opens, opens}
use Rattle.commands.specs.Coding.{coded}
use Rattle.emit.specs.declared.Put.{Put}
use Rattle.emit.specs.Written.{Good, Ready, Wrote, expr_words, args_words, make_words, path_words, args_at, make_at}
use Rattle.emit.specs.Laws.WordLaws.{inv_words, make_is, cons_words, path_is, op_words, no_args, more_args}
use Rattle.emit.specs.Laws.ReadLaws.{then_value, pair_value, ranged_value, opened_value}
use Rattle.emit.specs.Parts.{Part, Parts, Rest}
use Rattle.emit.specs.Laws.PartsLaws.{part_of, made_part, pair_parts, rest_ready, rest_next, rest_none}
use Rattle.commands.specs.CommandKinds.{not_kind, cons_kind, op_kind}
use Rattle.program.specs.Forms.{inv_form, make_form, path_form, this_form}

-- an expression has a byte and a level, and its byte's form says what is read
pub expr_step : (ar s : List ℕ) (d at : ℕ) → Good (read_expr ar s d at)
    → (at < length s) × (0 < d) × (read_expr ar s d at ≡ rule_expr ar s (λ n. read_expr ar s (d - 1) n) at (at + 1) (form (get_or s at 0)))
unfolding read_expr
expr_step ar s zero at g = absurd (then_value (byte s at) _ g).4
expr_step ar s (suc d) at g =
    let p = opened_value s form (λ at k f. rule_expr ar s (λ n. read_expr ar s d n) at k f) at g in
    (p.0, omega arith, rw sub-one p.1)

module _ (ar s : List ℕ) (d at : ℕ) (g : Good (read_expr ar s d at)) where
  abbrev deeper : ℕ → Result Expr
  deeper n = read_expr ar s (d - 1) n

  -- an expression stands in the stream, and has a level
  pub expr_in : (at < length s) × (0 < d)
  expr_in = let p = expr_step ar s d at g in (p.0, p.1)

  -- not
  pub inv_part : get_or s at 0 ≡ inv_form → Part expr_words (read_expr ar s d at) expr_words (deeper (at + 1)) (coded not_kind 0 0 ∷ [])
  unfolding rule_expr form lookup
  inv_part e = made_part expr_words expr_words inv (deeper (at + 1)) ((expr_step ar s d at g).2 ∙ rw e refl) g inv_words

  -- construct
  pub make_part : get_or s at 0 ≡ make_form → Part expr_words (read_expr ar s d at) make_words (make_at ar s (d - 1) (at + 1)) []
  unfolding rule_expr form lookup
  make_part e =
      made_part expr_words make_words (λ p. make p.0 p.1) (make_at ar s (d - 1) (at + 1)) ((expr_step ar s d at g).2 ∙ rw e refl) g
      (λ p. make_is p.0 p.1 ∙ sym (append-nil _))

  -- a path
  pub path_part : get_or s at 0 ≡ path_form → Part expr_words (read_expr ar s d at) path_words (read_path s (at + 1)) []
  unfolding rule_expr form lookup
  path_part e =
      made_part expr_words path_words (λ p. path p.0 p.1) (read_path s (at + 1)) ((expr_step ar s d at g).2 ∙ rw e refl) g
      (λ p. path_is p.0 p.1 ∙ sym (append-nil _))

  -- an operator
  pub op_parts : this_form + 1 ≤ get_or s at 0
      → Parts expr_words (read_expr ar s d at) expr_words (deeper (at + 1)) expr_words deeper (coded op_kind 0 (get_or s at 0) ∷ [])
  unfolding rule_expr
  op_parts h = go (form (get_or s at 0)) refl (opens (get_or s at 0))
    where
      go : (f : Form) → form (get_or s at 0) ≡ f → Opens (get_or s at 0) f
          → Parts expr_words (read_expr ar s d at) expr_words (deeper (at + 1)) expr_words deeper (coded op_kind 0 (get_or s at 0) ∷ [])
      go form_inv e o = absurd (omega arith)
      go form_make e o = absurd (omega arith)
      go form_path e o = absurd (omega arith)
      go form_int e o = absurd (omega arith)
      go form_nat e o = absurd (omega arith)
      go form_bool e o = absurd (omega arith)
      go form_null e o = absurd (omega arith)
      go form_self e o = absurd (omega arith)
      go (form_op c) e o =
          rw o
          (pair_parts expr_words expr_words expr_words (λ p. op c p.0 p.1) (deeper (at + 1)) deeper ((expr_step ar s d at g).2 ∙ rw e refl) g
          (op_words c))
      go form_none e o =
          let p : read_expr ar s d at ≡ bad at wrong_byte = (expr_step ar s d at g).2 ∙ rw e refl in
          absurd (rw p at g)

-- what the code has of a struct's arguments
pub record MakeFacts (ar s : List ℕ) (d at : ℕ) : Type 0 where
  pub inside : at < length s
  pub struct : get_or s at 0 < length ar
  pub part : Part make_words (make_at ar s d at) args_words (args_at ar s d (get_or ar (get_or s at 0) 0) (at + 1)) (coded cons_kind 0 (get_or s at 0) ∷ [])

-- arguments that were read have it
pub make_facts : (ar s : List ℕ) (d at : ℕ) → Good (make_at ar s d at) → MakeFacts ar s d at
unfolding read_make
make_facts ar s d at g =
    let v = pair_value (ranged s 0 (length ar) at) (λ k m. args_at ar s d (get_or ar k 0) m) g in
    let b = ranged_value s 0 (length ar) at (rw v.4 tt) in
    let e : ok v.0 v.1 ≡ ok (get_or s at 0) (at + 1) = sym v.4 ∙ b.2 in
    let e0 : v.0 ≡ get_or s at 0 = cc in
    let e1 : v.1 ≡ at + 1 = cc in
    record {
      inside = b.0;
      struct = omega (arith, b.1.1);
      part = rw (← e0, ← e1) (part_of make_words args_words v.6 v.5 (cons_words v.0 v.2));
    }

-- of arguments n are left: the next may be written, and then the others are left; or all are written
module _ (ar s : List ℕ) (d n : ℕ) {R : Result Exprs} {out : List ℕ} {k : ℕ} {p : Put} {out1 : List ℕ}
    (x : Rest args_words R out k (args_at ar s d n p.next) p out1) where
  pub args_ready : (n ≡ 0 → ⊥) → Ready expr_words (read_expr ar s d p.next) out1 p.at
  args_ready = rest_ready args_words expr_words none more (λ m. read_expr ar s d m) n x more_args

  pub args_next : (n ≡ 0 → ⊥) → {q : Put} {out2 : List ℕ} → Wrote expr_words (read_expr ar s d p.next) out1 p.at q out2
      → Rest args_words R out k (args_at ar s d (n - 1) q.next) q out2
  args_next i w = rest_next args_words expr_words none more (λ m. read_expr ar s d m) n x more_args i w

  pub args_none : n ≡ 0 → Wrote args_words R out k p out1
  args_none = rest_none args_words expr_words none more (λ m. read_expr ar s d m) n x no_args
