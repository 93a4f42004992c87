use mir.Val.{bool_byte}
use Rattle.std.proofs.Common.{ℕ, suc, ◌+◌, ◌-◌, ◌<◌, ◌≤◌, ◌≡◌, List, get_or, ap, sym, ◌∙◌, arith}
use Rattle.holders.specs.declared.Record.{Record}
use Rattle.holders.specs.Records.{idle, wrapped, search}
use Rattle.holders.proofs.RecordsWays.{wrapped_here, wrapped_past, search_here, search_past}
use Rattle.holders.proofs.holder.Goals as goal
use Rattle.holders.proofs.holder.Goals.{then-n-l, else-n-l}

-- a record is looked at: that of the label x, which is l or wraps to it
module _ (ys : List Record) (n p l k x : ℕ) (less : p < n) (is : x ≡ wrapped n l) where
  abbrev one : ℕ
  one = bool_byte (get_or ys x idle).holds

  left : n - p ≡ suc (n - (p + 1))
  left = omega arith

  same : one ≡ bool_byte (get_or ys (wrapped n l) idle).holds
  same = ap (λ (y : ℕ). bool_byte (get_or ys y idle).holds) is

  at_found : k < one → search ys n (n - p) l k ≡ x
  at_found h = ap (λ (m : ℕ). search ys n m l k) left ∙ search_here ys n (n - (p + 1)) l k (omega (arith, same)) ∙ sym is

  onward : one ≤ k → search ys n (n - p) l k ≡ search ys n (n - (p + 1)) (x + 1) (k - one)
  onward h =
      ap (λ (m : ℕ). search ys n m l k) left ∙ search_past ys n (n - (p + 1)) l k (omega (arith, same))
      ∙ ap (λ (y : ℕ). search ys n (n - (p + 1)) (y + 1) (k - bool_byte (get_or ys (wrapped n l) idle).holds)) (sym is)
      ∙ ap (λ (y : ℕ). search ys n (n - (p + 1)) (x + 1) (k - y)) (sym same)

-- no record is left
at_end : (ys : List Record) (n p l k : ℕ) → n ≤ p → search ys n (n - p) l k ≡ l
unfolding search
at_end ys n p l k h = let z : n - p ≡ 0 = omega arith in ap (λ (m : ℕ). search ys n m l k) z

pub returns-then-left-one : goal.returns-then-left-one
returns-then-left-one c =
    let is : c.if-n-l.l ≡ wrapped c.args.n c.loop-passed.l = elim c.if-n-l.branch [
      | then-n-l w ↦ w.l-is ∙ sym (wrapped_past _ _ w.if-n-l.true)
      | else-n-l w ↦ w.l-is ∙ sym (wrapped_here _ _ w.if-n-l.false)
    ] in
    sym (c.loop-passed.invariant.finds
    ∙ at_found c.args.rs.now c.args.n c.loop-passed._passed c.loop-passed.l c.loop-passed.left c.if-n-l.l c.loop-passed-test.true is (rw c.from-one.ensures at c.if-left-one.true))

pub loop-passed-preserved : goal.loop-passed-preserved
loop-passed-preserved c =
    let is : c.if-n-l.l ≡ wrapped c.args.n c.loop-passed.l = elim c.if-n-l.branch [
      | then-n-l w ↦ w.l-is ∙ sym (wrapped_past _ _ w.if-n-l.true)
      | else-n-l w ↦ w.l-is ∙ sym (wrapped_here _ _ w.if-n-l.false)
    ] in
    record {
      within = omega arith;
      finds =
          rw c.from-one.ensures (c.loop-passed.invariant.finds
          ∙ onward c.args.rs.now c.args.n c.loop-passed._passed c.loop-passed.l c.loop-passed.left c.if-n-l.l c.loop-passed-test.true is (rw c.from-one.ensures at c.if-left-one.false));
    }

pub returns : goal.returns
returns c = sym (c.loop-passed.invariant.finds ∙ at_end _ _ _ _ _ c.loop-passed-test.false)
