-- What is written of expressions: the bytes of what they mean, in front of those that were there; by the derivation and its meaning.
use Rattle.std.specs.Prelude.{ℕ, suc, ◌≤◌, ◌≡◌, refl, Bool, List, [], ◌∷◌, ◌++◌, length}
use Rattle.std.proofs.Common.{arith, sym, ◌∙◌, append_assoc}
use Rattle.std.proofs.Math.Path.{ap}
use Rattle.types.specs.Types.{Ty}
use Rattle.program.specs.Tree.{Op, Op.op_eq, Op.op_ne, Op.op_le, Op.op_ge, Op.op_lt, Op.op_gt, Op.op_mul, Op.op_div, Op.op_rem, Op.op_add, Op.op_sub, Op.op_and}
use Rattle.program.specs.Tree.{Op.op_or}
use Rattle.program.specs.Tree.{Var as Variable, Expr, Expr.inv, Expr.make, Expr.path as path_of}
use Rattle.program.specs.Tree.{Expr.null as null_of, Expr.self, Expr.op as op_of, Exprs, Exprs.none, Exprs.more as more_of}
use Rattle.program.specs.Encoding.{op_code, var_code, enc_path, enc_expr, enc_exprs}
use Rattle.tokens.specs.Tokens.{Token.op}
use Rattle.tokens.specs.TokenNumbers.{word_number, sign_number}
use Rattle.syntax.specs.Syntax.{Id, TypeName, TypeName.int_type, TypeName.nat_type, TypeName.bool_type, TypeName.id_type, Literal}
use Rattle.syntax.specs.Syntax.{Var}
use Rattle.syntax.specs.Syntax.{Exp, Exp.binary, Exp.brackets, Exp.negation, Exp.constructor, Exp.variable, Exp.literal, Exp.null, Exp.this, Exps, Exps.no_exps}
use Rattle.syntax.specs.Syntax.{Exps.exps, Par, Struct}
use Rattle.syntax.specs.Yield.{literal_token}
use Rattle.syntax.specs.Bracketing.{level, loosest, tightest, left as left_level, Fits, FitsExps}
use Rattle.syntax.proofs.Laws.LevelLaws.{level_most, left_from}
use Rattle.tokens.specs.Kinds.{word_kind, sign_kind, op_kind, kind}
use Rattle.meaning.specs.Scope.{Local}
use Rattle.meaning.specs.Means.{LiteralMeans, LiteralMeans.int_means, LiteralMeans.nat_means, LiteralMeans.true_means, LiteralMeans.false_means}
use Rattle.meaning.specs.Means.{Further, Further.last, Further.goes_on, PathMeans, PathMeans.alone, PathMeans.behind as path_behind}
use Rattle.meaning.specs.Means.{ExpMeans, ExpMeans.binary_means, ExpMeans.brackets_mean, ExpMeans.negation_means, ExpMeans.constructor_means}
use Rattle.meaning.specs.Means.{ExpMeans.variable_means, ExpMeans.literal_means, ExpMeans.null_means, ExpMeans.this_means, ExpsMean, ExpsMean.no_exps_mean}
use Rattle.meaning.specs.Means.{ExpsMean.exps_mean}
use Rattle.text_shape.specs.Roles.{Naming, Naming.first_read, Part.brackets_close, Part.args_open, Role, Role.plain, Role.part, naming_code, typed_code}
use Rattle.text_shape.specs.Roles.{type_number, part_code, code, roles_later, roles_var, close_of, roles_exp, roles_exps, roles_exp_list}
use Rattle.resolve.specs.Numbers.{expr_numbers, exprs_numbers}
use Rattle.resolve.specs.Outcomes.{onto, onto_both}
use Rattle.compose.specs.Writing.{Writing, Writing.writing}
use Rattle.compose.specs.Writing.{opened, tightness, poured, begun, put, writes}
use Rattle.compose.proofs.Laws.WaitingLaws.{tight_op, From, Upto, waiting, spilt, from_down, from_end, waiting_end, spilt_end, from_tightest, upto_up}
use Rattle.compose.proofs.Laws.WaitingLaws.{pours_tighter, pours_all}
use Rattle.compose.specs.Checks.{checks_expr, checks_exprs}
use Rattle.text_shape.specs.RoleNames.{later_variable_role, made_role, null_int_role, null_nat_role, null_bool_role, null_struct_role}
use Rattle.text_shape.specs.RoleNames.{brackets_close_role, args_open_role, args_close_role, no_args_close_role}
use Rattle.tokens.specs.KindNames.{null_kind, this_kind, true_kind, false_kind, dot_kind, bang_kind, int_kind, nat_kind}

-- `writes`, with all that it computes with
unfoldable pub written : List Role → Writing → Writing
unfolding writes code naming_code typed_code type_number part_code kind word_kind sign_kind word_number sign_number
written k z = writes k z

-- the roles k leave s of z
pub data Leaves (k : List Role) (z s : Writing) : Type 0 where
  leaves : written k z ≡ s → Leaves k z s

pub left : {k : List Role} {z s : Writing} → Leaves k z s → written k z ≡ s
left (leaves e) = e

-- numbers of two things in a row; bytes of two things
module _ {k : List Role} {z : Writing} {l : ℕ} {f : Bool} where
  pub first_then : (a b n : List ℕ) {s w : List ℕ} → Leaves k z (writing s w (onto (a ++ b) n) l f) → Leaves k z (writing s w (onto b (onto a n)) l f)
  first_then a b n h = rw (onto_both a b n) h

  pub as_one : (a b s : List ℕ) {w n : List ℕ} → Leaves k z (writing (a ++ (b ++ s)) w n l f) → Leaves k z (writing ((a ++ b) ++ s) w n l f)
  as_one a b s h = rw (append_assoc a b s) h

-- Variables --------------------------------------------------------------------------------------

module _ {ds : List Struct} where
  pub later_left : {d : Struct} {v : Var} {vs : List ℕ} → Further ds d v vs → {k : List Role} {z : Writing} {s w n : List ℕ} {f : Bool}
      → Leaves k z (writing s w (onto vs n) 0 f) → Leaves (roles_later v k) z (writing (vs ++ s) w n (length vs) f)
  unfolding roles_later onto written
  later_left (last p) h = leaves (ap (put later_variable_role 0) (left h))
  later_left (goes_on p q r) h = leaves (ap (λ x. put later_variable_role 0 (put dot_kind 0 x)) (left (later_left r h)))

  -- a path up to its first variable
  pub path_left : {own : List Par} {alive : List Local} {v : Var} {u : Variable} {vs : List ℕ} → PathMeans ds own alive v u vs → (r : Naming)
      → (n : List ℕ) {k : List Role} {z : Writing} {s w : List ℕ} {f : Bool} → Leaves k z (writing s w (onto (var_code u ∷ vs) n) 0 f)
      → written (roles_var r v k) z ≡ put (naming_code r) 0 (writing (vs ++ s) w (var_code u ∷ n) (length vs) f)
  unfolding roles_var onto written
  path_left (alone p) r n h = ap (put (naming_code r) 0) (left h)
  path_left (path_behind p q t) r n h = ap (λ x. put (naming_code r) 0 (put dot_kind 0 x)) (left (later_left t h))

-- the roles k leave the bytes t of z, but that operators of level l and tighter still wait
pub record Waits (l : ℕ) (k : List Role) (z : Writing) (t w n : List ℕ) (f : Bool) : Type 0 where
  pub ops : List Op
  pub bytes : List ℕ
  pub tight : From l ops
  pub all : Leaves k z (writing bytes (waiting ops w) n 0 f)
  pub are : spilt ops bytes ≡ t

none_wait : (l : ℕ) {k : List Role} {z : Writing} {t w n : List ℕ} {f : Bool} → Leaves k z (writing t w n 0 f) → Waits l k z t w n f
unfolding From waiting spilt
none_wait l {t = t} h = record { ops = []; bytes = t; tight = tt; all = h; are = refl }

-- where an expression begins, none waits
pub begins : (l : ℕ) {k : List Role} {z : Writing} {t w n : List ℕ} {f : Bool} → Waits l k z t (0 ∷ w) n f → begun (written k z) ≡ writing t w n 0 f
begins l {w = w} {n = n} {f = f} h =
    ap begun (left h.all)
    ∙ pours_all n 0 f h.ops h.bytes w (from_down 0 l h.ops (omega arith) h.tight)
    ∙ ap (λ b. writing b w n 0 f) h.are

-- what e yields is written as the bytes of c, where operators of level l may stand bare
pub record LeavesExp (l : ℕ) (e : Exp) (c : Expr) : Type 0 where
  pub there : {k : List Role} {z : Writing} {s w n : List ℕ} {f : Bool} → Upto l w → Leaves k z (writing s w (onto (expr_numbers c) n) 0 f)
      → Waits l (roles_exp e k) z (enc_expr c ++ s) w n (checks_expr c f)

-- behind its end
pub ended : {l : ℕ} {e : Exp} {c : Expr} → LeavesExp l e c → {k : List Role} {z : Writing} {s w n : List ℕ} {f : Bool}
    → Leaves k z (writing s (0 ∷ w) (onto (expr_numbers c) n) 0 f) → begun (written (roles_exp e k) z) ≡ writing (enc_expr c ++ s) w n 0 (checks_expr c f)
unfolding Upto tightness
ended {l} p h = begins l (p.there (omega arith) h)

-- arguments with their ( before them, behind their )
pub record LeavesExps (es : Exps) (cs : Exprs) : Type 0 where
  pub all : {k : List Role} {z : Writing} {s w n : List ℕ} {f : Bool} → Leaves k z (writing s (0 ∷ w) (onto (exprs_numbers cs) n) 0 f)
      → Leaves (part args_open ∷ roles_exps es k) z (writing (enc_exprs cs ++ s) w n 0 (checks_exprs cs f))

-- arguments behind one, each with a comma before it
record LeavesList (es : Exps) (cs : Exprs) : Type 0 where
  all : {k : List Role} {z : Writing} {s w n : List ℕ} {f : Bool} → Leaves k z (writing s (0 ∷ w) (onto (exprs_numbers cs) n) 0 f)
      → Leaves (roles_exp_list es k) z (writing (enc_exprs cs ++ s) (0 ∷ w) n 0 (checks_exprs cs f))

var_left : {ds : List Struct} {own : List Par} {alive : List Local} {v : Var} {u : Variable} {vs : List ℕ} → PathMeans ds own alive v u vs
    → (l : ℕ) → LeavesExp l (variable v) (path_of u vs)
unfolding roles_exp expr_numbers enc_expr enc_path checks_expr written
var_left p l = record { there = λ {n = n} a h. none_wait l (leaves (path_left p first_read n h)) }

literal_left : {a : Literal} {c : Expr} → LiteralMeans a c → (l : ℕ) → LeavesExp l (literal a) c
unfolding roles_exp literal_token expr_numbers onto enc_expr checks_expr written
literal_left (int_means p) l = record { there = λ a h. none_wait l (leaves (ap (put int_kind _) (left h))) }
literal_left (nat_means p) l = record { there = λ a h. none_wait l (leaves (ap (put nat_kind _) (left h))) }
literal_left true_means l = record { there = λ a h. none_wait l (leaves (ap (put true_kind 0) (left h))) }
literal_left false_means l = record { there = λ a h. none_wait l (leaves (ap (put false_kind 0) (left h))) }

null_left : (t : TypeName) (u : Ty) (l : ℕ) → LeavesExp l (null t) (null_of u)
unfolding roles_exp expr_numbers onto enc_expr checks_expr written
null_left int_type u l = record { there = λ a h. none_wait l (leaves (ap (λ x. put null_kind 0 (put null_int_role 0 x)) (left h))) }
null_left nat_type u l = record { there = λ a h. none_wait l (leaves (ap (λ x. put null_kind 0 (put null_nat_role 0 x)) (left h))) }
null_left bool_type u l = record { there = λ a h. none_wait l (leaves (ap (λ x. put null_kind 0 (put null_bool_role 0 x)) (left h))) }
null_left (id_type y) u l = record { there = λ a h. none_wait l (leaves (ap (λ x. put null_kind 0 (put null_struct_role 0 x)) (left h))) }

this_left : (l : ℕ) → LeavesExp l this self
unfolding roles_exp expr_numbers onto enc_expr checks_expr written
this_left l = record { there = λ a h. none_wait l (leaves (ap (put this_kind 0) (left h))) }

-- Operators ---------------------------------------------------------------------------------------

-- an operator stands bare in nothing that a not stands before
none_waits : {k : List Role} {z : Writing} {t w n : List ℕ} {f : Bool} → Waits tightest k z t w n f → written k z ≡ writing t w n 0 f
unfolding waiting spilt
none_waits {w = w} {n = n} {f = f} h =
    let none : h.ops ≡ [] = from_tightest h.ops h.tight in
    left h.all ∙ ap (λ os. writing h.bytes (waiting os w) n 0 f) none ∙ ap (λ b. writing b w n 0 f) (sym (ap (λ os. spilt os h.bytes) none) ∙ h.are)

negation_left : {e : Exp} {c : Expr} → LeavesExp tightest e c → (l : ℕ) → l ≤ tightest → LeavesExp l (negation e) (inv c)
unfolding roles_exp expr_numbers enc_expr checks_expr written
negation_left q l m = record { there = λ {w = w} a h. none_wait l (leaves (ap (put bang_kind 0) (none_waits (q.there (upto_up l tightest w m a) h)))) }

operator_left : (o : Op) (x : Writing) → put (op_kind o) 0 x ≡ opened (op_code o) (poured (tightness (op_code o)) x)
unfolding put op_kind op_code
operator_left op_eq x = refl
operator_left op_ne x = refl
operator_left op_le x = refl
operator_left op_ge x = refl
operator_left op_lt x = refl
operator_left op_gt x = refl
operator_left op_mul x = refl
operator_left op_div x = refl
operator_left op_rem x = refl
operator_left op_add x = refl
operator_left op_sub x = refl
operator_left op_and x = refl
operator_left op_or x = refl

-- it waits where no tighter one does
operator_waits : (l : ℕ) (o : Op) {k : List Role} {z : Writing} {t w n : List ℕ} {f : Bool} → l ≤ level o → Upto l w
    → Waits (suc (level o)) k z t w n f → Leaves (plain (op o) ∷ k) z (writing t (op_code o ∷ w) n 0 f)
unfolding opened written
operator_waits l o {k} {z} {t} {w} {n} {f} m u h =
    leaves
    (operator_left o (written k z)
    ∙ ap (λ x. opened (op_code o) (poured (tightness (op_code o)) x)) (left h.all)
    ∙ ap (λ i. opened (op_code o) (poured i (writing h.bytes (waiting h.ops w) n 0 f))) (tight_op o)
    ∙ ap (opened (op_code o)) (pours_tighter n 0 f (level o) h.ops h.bytes w h.tight (upto_up l (level o) w m u))
    ∙ ap (λ b. writing b (op_code o ∷ w) n 0 f) h.are)

-- and what waits in its left operand stands before it
left_waits : (l : ℕ) (o : Op) {k : List Role} {z : Writing} {t w n : List ℕ} {f : Bool} → l ≤ level o → Waits (left_level o) k z t (op_code o ∷ w) n f
    → Waits l k z (op_code o ∷ t) w n f
left_waits l o {w = w} m h =
    record {
      ops = h.ops ++ (o ∷ []);
      bytes = h.bytes;
      tight = from_end l h.ops o (from_down l (left_level o) h.ops (omega (arith, left_from o)) h.tight) m;
      all = rw (waiting_end h.ops o w) h.all;
      are = spilt_end h.ops o h.bytes ∙ ap (λ b. op_code o ∷ b) h.are;
    }

binary_left : (l : ℕ) (o : Op) {a b : Exp} {c d : Expr} → l ≤ level o → LeavesExp (left_level o) a c → LeavesExp (suc (level o)) b d
    → LeavesExp l (binary o a b) (op_of o c d)
unfolding roles_exp expr_numbers enc_expr checks_expr Upto
binary_left l o {a} {b} {c} {d} m p q =
    record {
      there = λ {k} {z} {s} {w} {n} {f} u h.
          let g = q.there (upto_up l (suc (level o)) w (omega arith) u) (first_then (expr_numbers c) (expr_numbers d) n h) in
          let i = operator_waits l o m u g in
          let j = left_waits l o m (p.there (omega (arith, tight_op o, left_from o)) i) in
          record {
            ops = j.ops;
            bytes = j.bytes;
            tight = j.tight;
            all = j.all;
            are = j.are ∙ ap (λ x. op_code o ∷ x) (sym (append_assoc (enc_expr c) (enc_expr d) s));
          };
    }

brackets_left : {e : Exp} {c : Expr} → LeavesExp loosest e c → (l : ℕ) → LeavesExp l (brackets e) c
unfolding roles_exp written
brackets_left {c = c} q l =
    record {
      there = λ {k} {z} {s} {w} {n} {f} u h.
          let g : Leaves (part brackets_close ∷ k) z (writing s (0 ∷ w) (onto (expr_numbers c) n) 0 f) = leaves (ap (put brackets_close_role 0) (left h)) in
          none_wait l (leaves (ended q g));
    }

-- Arguments ---------------------------------------------------------------------------------------

-- what ends arguments ends the last one, or that there is none
pub close_left : (es : Exps) {k : List Role} {z : Writing} {s w n : List ℕ} {f : Bool} → Leaves k z (writing s w n 0 f)
    → Leaves (close_of es ∷ k) z (writing s (0 ∷ w) n 0 f)
unfolding close_of written
close_left no_exps h = leaves (ap (put no_args_close_role 0) (left h))
close_left (exps e es) h = leaves (ap (put args_close_role 0) (left h))

list_none : LeavesList no_exps none
unfolding roles_exp_list exprs_numbers onto enc_exprs checks_exprs
list_none = record { all = λ h. h }

list_some : {e : Exp} {c : Expr} {es : Exps} {cs : Exprs} → LeavesExp loosest e c → LeavesList es cs → LeavesList (exps e es) (more_of c cs)
unfolding roles_exp_list exprs_numbers enc_exprs checks_exprs written
list_some {c = c} {es = es} {cs = cs} p q =
    record {
      all = λ {k} {z} {s} {w} {n} {f} h.
          let g = q.all (first_then (expr_numbers c) (exprs_numbers cs) n h) in
          as_one (enc_expr c) (enc_exprs cs) s (leaves (ap (opened 0) (ended p g)));
    }

args_none : LeavesExps no_exps none
unfolding roles_exps exprs_numbers onto enc_exprs checks_exprs written
args_none = record { all = λ h. leaves (ap (put args_open_role 0) (left h)) }

args_some : {e : Exp} {c : Expr} {es : Exps} {cs : Exprs} → LeavesExp loosest e c → LeavesList es cs → LeavesExps (exps e es) (more_of c cs)
unfolding roles_exps exprs_numbers enc_exprs checks_exprs written
args_some {c = c} {es = es} {cs = cs} p q =
    record {
      all = λ {k} {z} {s} {w} {n} {f} h.
          let g = q.all (first_then (expr_numbers c) (exprs_numbers cs) n h) in
          as_one (enc_expr c) (enc_exprs cs) s (leaves (ended p g));
    }

constructor_left : (x : Id) (j : ℕ) {es : Exps} {cs : Exprs} → LeavesExps es cs → (l : ℕ) → LeavesExp l (constructor x es) (make j cs)
unfolding roles_exp expr_numbers onto enc_expr checks_expr written
constructor_left x j {es} {cs} q l = record { there = λ u h. none_wait l (leaves (ap (put made_role 0) (left (q.all (close_left es h))))) }

-- Every expression ---------------------------------------------------------------------------------

module _ {ds : List Struct} {own : List Par} {alive : List Local} where
  mutual
    pub exp_left : (e : Exp) (l : ℕ) → l ≤ tightest → Fits l e → (c : Expr) → ExpMeans ds own alive e c → LeavesExp l e c
    exp_left (binary o a b) l t f c (binary_means m q) =
        binary_left l o f.0 (exp_left a (left_level o) (omega (arith, left_from o, level_most o)) f.1 _ m)
        (exp_left b (suc (level o)) (level_most o) f.2 _ q)
    exp_left (brackets e) l t f c (brackets_mean m) = brackets_left (exp_left e loosest (omega arith) f c m) l
    exp_left (negation e) l t f c (negation_means m) = negation_left (exp_left e tightest (omega arith) f _ m) l t
    exp_left (constructor x es) l t f c (constructor_means p m q) = constructor_left x _ (exps_left es f _ m) l
    exp_left (variable v) l t f c (variable_means p) = var_left p l
    exp_left (literal a) l t f c (literal_means p) = literal_left p l
    exp_left (null a) l t f c (null_means {u = u} p) = null_left a u l
    exp_left this l t f c this_means = this_left l

    pub exps_left : (es : Exps) → FitsExps es → (cs : Exprs) → ExpsMean ds own alive es cs → LeavesExps es cs
    exps_left no_exps f cs no_exps_mean = args_none
    exps_left (exps e es) f cs (exps_mean m q) = args_some (exp_left e loosest (omega arith) f.0 _ m) (list_left es f.1 _ q)

    list_left : (es : Exps) → FitsExps es → (cs : Exprs) → ExpsMean ds own alive es cs → LeavesList es cs
    list_left no_exps f cs no_exps_mean = list_none
    list_left (exps e es) f cs (exps_mean m q) = list_some (exp_left e loosest (omega arith) f.0 _ m) (list_left es f.1 _ q)
