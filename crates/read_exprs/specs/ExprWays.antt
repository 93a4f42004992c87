-- Each way through the reader of expressions (01, 'Program stream'): what the code answers is what is read and computed there.
use Prim.Native.Nat.{ℕ, zero, suc, ◌+◌, ◌-◌, ◌*◌, ◌<◌, ◌≤◌}
use Rattle.std.proofs.Common.{arith, add-one, sub-one, ◌∙◌}
use Rattle.std.specs.Prelude.{◌≡◌, Ok, Err, List, length, get_or}
use Rattle.std.proofs.Math.Path.{refl, ap}
use Rattle.types.specs.Limits.{max_params}
use Rattle.types.specs.Types.{struct_code, code}
use Rattle.program.specs.Tree.{Op, Expr, Expr.inv, Expr.make, Expr.op, Exprs, Exprs.none, Exprs.more}
use Rattle.program.specs.Reader.{Result, Result.ok, Result.bad, then, pair, made, many, lookup, Form.form_op, form, opened, ranged, read_word}
use Rattle.program.specs.Reader.{read_type, read_path, read_make, rule_expr, read_expr}
use Rattle.answers.specs.Answers.{Answer, answer, after}
use Rattle.answers.specs.AnswerLaws.{answer_is, answer_stops, answer_made, row_none, row_stop, row_more}
use Rattle.judge.specs.declared.Facts.{Facts}
use Rattle.judge.specs.Facts.{pushed, negated, combined, travelled, path_of, appended, constructed, no_args, expr_facts, args_facts}
use Rattle.judge.proofs.Laws.FollowLaws.{behind, behind_argued, none_behind, behind_none, args_typ, expr_high}
use Rattle.read_exprs.specs.Told.{told, byte_told, made_facts, Ahead, ArgsRead}
use Rattle.read_exprs.specs.ByteWays.{byte_out, byte_in, byte_is, byte_stops}
use Rattle.read_exprs.specs.FormWays.{op_form, Apart, no_form}

-- what is made of what was read is computed of it
pub told_made : {A B : Type 0} (f : B → Facts) (g : A → B) (r : Result A) → told f (made g r) ≡ told (λ a. f (g a)) r
told_made f g r = answer_made f g r

pub told_after : {A : Type 0} (h : Facts → Facts) (f : A → Facts) (r : Result A) → told (λ a. h (f a)) r ≡ after h (told f r)
told_after h f (ok a m) = refl
told_after h f (bad p n) = refl

-- what was read, from what was answered
pub told_is : {A : Type 0} (f : A → Facts) (r : Result A) (m : ℕ) (g : Facts) → told f r ≡ Ok (m, g) → (a : A) × (r ≡ ok a m) × (f a ≡ g)
told_is f r m g e = answer_is f r m g e

pub told_stops : {A : Type 0} (f : A → Facts) (r : Result A) (n : ℕ) → told f r ≡ Err n → (p : ℕ) × (r ≡ bad p n)
told_stops f r n e = answer_stops f r n e

module _ (ar types s : List ℕ) (own w : ℕ) where
  abbrev E : Expr → Facts
  E e = expr_facts ar types own w e

  abbrev A : ℕ → ℕ → Exprs → Facts
  A k x es = args_facts ar types own w es k x

  -- arguments of struct k, each read by r, behind x others of which a is computed: none left; the next is not read; it is
  module _ (r : ℕ → Result Expr) (k : ℕ) where
    abbrev pub args_row : ℕ → Facts → ℕ → ℕ → Answer Facts
    args_row x a n at = answer (λ es. behind x a (A k x es)) (many none more r n at)

    abbrev step : ℕ × Facts → Facts → ℕ × Facts
    step p f = (suc p.0, appended p.0 (get_or types (max_params * k + p.0) 0) p.1 f)

    abbrev total : ℕ × Facts → Exprs → Facts
    total p es = behind p.0 p.1 (A k p.0 es)

    goes : (p : ℕ × Facts) (e : Expr) (es : Exprs) → total p (more e es) ≡ total (step p (E e)) es
    unfolding args_facts
    goes p e es = behind_argued p.0 _ p.1 (E e) (A k (suc p.0) es)

    module _ (n x : ℕ) (a : Facts) (at : ℕ) where
      pub args_end : n ≤ x → x ≤ a.peak → a.typ ≡ 0 → args_row x a (n - x) at ≡ Ok (at, a)
      unfolding args_facts
      args_end h l e = row_none none more r (λ p. E) step total goes (x, a) (n - x) at (omega arith) ∙ ap (λ t. Ok (at, t)) (behind_none x a l e)

      pub args_stop : x < n → (i : ℕ) → told E (r at) ≡ Err i → args_row x a (n - x) at ≡ Err i
      args_stop h i e = row_stop none more r (λ p. E) step total goes (x, a) (n - x) at (λ z. omega arith) i e

      pub args_more : x < n → (m : ℕ) (f : Facts) → told E (r at) ≡ Ok (m, f)
          → args_row x a (n - x) at ≡ args_row (x + 1) (appended x (get_or types (8 * k + x) 0) a f) (n - (x + 1)) m
      args_more h m f e =
          let l : n - (x + 1) ≡ n - x - 1 = omega arith in
          rw (l, add-one) (row_more none more r (λ p. E) step total goes (x, a) (n - x) at (λ z. omega arith) m f e)

      -- how far they reach: a byte for each, and no more computed than bytes were read
      pub args_read : (from m : ℕ) (f : Facts) → told E (r at) ≡ Ok (m, f) → Ahead {E = ℕ} s at (Ok (m, f)) → ArgsRead s from at x a
          → ArgsRead s from m (x + 1) (appended x (get_or types (8 * k + x) 0) a f)
      unfolding appended
      args_read from m f e h q =
          let (b, _, i) = told_is E (r at) m f e in
          let l : 1 ≤ f.peak = rw i at (expr_high ar types own w b) in
          let w = q.within in
          let v = q.high in
          record { within = omega arith; high = omega arith; untyped = refl }

  -- behind the byte of a form, where r reads an expression one level deeper
  module _ (r : ℕ → Result Expr) (p at : ℕ) where
    abbrev R : ℕ → Result Expr
    R b = rule_expr ar s r p at (form b)

    pub rule_not : (b : ℕ) → b ≡ 16 → told E (R b) ≡ after negated (told E (r at))
    unfolding form lookup rule_expr expr_facts
    rule_not b e = rw e (told_made E inv (r at) ∙ told_after negated E (r at))

    pub rule_make : (b : ℕ) → b ≡ 17 → told E (R b) ≡ told (made_facts ar types own w) (read_make ar s r at)
    unfolding form lookup rule_expr expr_facts
    rule_make b e = rw e (told_made E (λ q. make q.0 q.1) (read_make ar s r at))

    pub rule_path : (b : ℕ) → b ≡ 18 → told E (R b) ≡ told (λ q. travelled (suc (length q.1)) (path_of ar types own w q.0 q.1)) (read_path s at)
    unfolding form lookup rule_expr expr_facts
    rule_path b e = rw e (told_made E _ (read_path s at))

    pub rule_int : (b : ℕ) → b ≡ 19 → told E (R b) ≡ told (λ n. pushed 0) (read_word s 4 at)
    unfolding form lookup rule_expr expr_facts
    rule_int b e = rw e (told_made E _ (read_word s 4 at))

    pub rule_nat : (b : ℕ) → b ≡ 20 → told E (R b) ≡ told (λ n. pushed 1) (read_word s 4 at)
    unfolding form lookup rule_expr expr_facts
    rule_nat b e = rw e (told_made E _ (read_word s 4 at))

    pub rule_bool : (b : ℕ) → b ≡ 21 → told E (R b) ≡ told (λ n. pushed 2) (ranged s 0 2 at)
    unfolding form lookup rule_expr expr_facts
    rule_bool b e = rw e (told_made E _ (ranged s 0 2 at))

    pub rule_null : (b : ℕ) → b ≡ 22 → told E (R b) ≡ told (λ t. pushed (code t)) (read_type s (length ar) at)
    unfolding form lookup rule_expr expr_facts
    rule_null b e = rw e (told_made E _ (read_type s (length ar) at))

    pub rule_self : (b : ℕ) → b ≡ 23 → told E (R b) ≡ Ok (at, (pushed (struct_code + own)))
    unfolding form lookup rule_expr expr_facts
    rule_self b e = rw e

    pub rule_none : (b : ℕ) → Apart b → ((32 ≤ b) × (b ≤ 44) → ⊥) → told E (R b) ≡ Err 5
    unfolding rule_expr
    rule_none b n k = rw (no_form b n k)

    -- an operator: the first expression is not read, or is, with the second behind it
    pub rule_stop : (b : ℕ) (o : Op) → form b ≡ form_op o → (n : ℕ) → told E (r at) ≡ Err n → told E (R b) ≡ Err n
    unfolding rule_expr made pair then
    rule_stop b o e n q = rw (e, (told_stops E (r at) n q).1)

    pub rule_op : (b : ℕ) (o : Op) → form b ≡ form_op o → (m : ℕ) (f : Facts) → told E (r at) ≡ Ok (m, f) → told E (R b) ≡ after (combined o f) (told E (r m))
    unfolding rule_expr made pair then expr_facts
    rule_op b o e m f q =
        let h = told_is E (r at) m f q in
        rw (e, h.1) (go h.0 h.2 (r m))
      where
        go : (a : Expr) → E a ≡ f → (q : Result Expr)
            → told E (then {A = Expr × Expr} (then q λ c k. ok (a, c) k) λ t k. ok (op o t.0 t.1) k) ≡ after (combined o f) (told E q)
        go a h (ok c k) = rw h
        go a h (bad u k) = refl

    -- a construct: its struct is not read, or is, with the arguments behind it
    pub make_stop : (n : ℕ) → byte_told (ranged s 0 (length ar) at) ≡ Err n → told (made_facts ar types own w) (read_make ar s r at) ≡ Err n
    unfolding read_make pair then
    make_stop n e = rw (byte_stops (ranged s 0 (length ar) at) n e).1

    pub make_row : (k m : ℕ) → byte_told (ranged s 0 (length ar) at) ≡ Ok (k, m)
        → (after (constructed k) (args_row r k 0 no_args (get_or ar k 0) m)) ≡ told (made_facts ar types own w) (read_make ar s r at)
    unfolding read_make pair then
    make_row k m e = rw (byte_is (ranged s 0 (length ar) at) k m e) (go (many none more r (get_or ar k 0) m))
      where
        go : (q : Result Exprs)
            → (after (constructed k) (answer (λ es. behind 0 no_args (A k 0 es)) q))
            ≡ told (made_facts ar types own w) (then q λ es i. ok (k, es) i)
        go (ok es i) = ap (λ f. Ok (i, (constructed k f))) (none_behind (A k 0 es) (args_typ ar types own w es k 0))
        go (bad u i) = refl

  -- an expression of at most d levels: past the end, at the level below, and by the form of its byte
  pub expr_out : (d at : ℕ) → length s ≤ at → told E (read_expr ar s d at) ≡ Err 4
  unfolding read_expr opened then
  expr_out zero at h = rw (byte_out s at h)
  expr_out (suc d) at h = rw (byte_out s at h)

  module _ (d at : ℕ) where
    pub expr_deep : d ≡ 0 → at < length s → told E (read_expr ar s d at) ≡ Err 5
    unfolding read_expr then
    expr_deep z h = rw (z, byte_in s at h)

    pub expr_in : (d ≡ 0 → ⊥) → at < length s → read_expr ar s d at ≡ rule_expr ar s (read_expr ar s (d - 1)) at (at + 1) (form (get_or s at 0))
    unfolding read_expr opened then
    expr_in z h = go d z
      where
        go : (d : ℕ) → (d ≡ 0 → ⊥) → read_expr ar s d at ≡ rule_expr ar s (read_expr ar s (d - 1)) at (at + 1) (form (get_or s at 0))
        go zero z = absurd (z refl)
        go (suc d) z = rw (byte_in s at h, sub-one)

    module _ (z : d ≡ 0 → ⊥) (h : at < length s) where
      pub is_not : get_or s at 0 ≡ 16 → told E (read_expr ar s d at) ≡ after negated (told E (read_expr ar s (d - 1) (at + 1)))
      is_not e = rw (expr_in z h) (rule_not (read_expr ar s (d - 1)) at (at + 1) _ e)

      pub is_make : get_or s at 0 ≡ 17 → told E (read_expr ar s d at) ≡ told (made_facts ar types own w) (read_make ar s (read_expr ar s (d - 1)) (at + 1))
      is_make e = rw (expr_in z h) (rule_make (read_expr ar s (d - 1)) at (at + 1) _ e)

      pub is_leaf : (q : Answer Facts) → ((r : ℕ → Result Expr) (p : ℕ) → q ≡ told E (rule_expr ar s r p (at + 1) (form (get_or s at 0))))
          → q ≡ told E (read_expr ar s d at)
      is_leaf q f = rw (expr_in z h) (f (read_expr ar s (d - 1)) at)

      pub is_none : 44 < get_or s at 0 → told E (read_expr ar s d at) ≡ Err 5
      is_none l =
          let n : Apart (get_or s at 0) =
          (λ e. omega arith, λ e. omega arith, λ e. omega arith, λ e. omega arith, λ e. omega arith, λ e. omega arith, λ e. omega arith, λ e. omega arith) in
          rw (expr_in z h) (rule_none (read_expr ar s (d - 1)) at (at + 1) _ n (λ k. omega arith))

      pub is_stop : 32 ≤ get_or s at 0 → get_or s at 0 ≤ 44 → (n : ℕ) → told E (read_expr ar s (d - 1) (at + 1)) ≡ Err n
          → told E (read_expr ar s d at) ≡ Err n
      is_stop l k n e =
          let o = op_form _ l k in
          rw (expr_in z h) (rule_stop (read_expr ar s (d - 1)) at (at + 1) _ o.0 o.1 n e)

      pub is_op : (o : Op) → form (get_or s at 0) ≡ form_op o → (m : ℕ) (f : Facts) → told E (read_expr ar s (d - 1) (at + 1)) ≡ Ok (m, f)
          → told E (read_expr ar s d at) ≡ after (combined o f) (told E (read_expr ar s (d - 1) m))
      is_op o i m f e = rw (expr_in z h) (rule_op (read_expr ar s (d - 1)) at (at + 1) _ o i m f e)
