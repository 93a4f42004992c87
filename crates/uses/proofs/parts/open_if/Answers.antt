-- `parts::open_if` meets its contract.
use Rattle.std.proofs.Common.{◌+◌, ◌-◌, ap, ◌∙◌, arith, length, set, length-set}
use Rattle.uses.specs.Lent.{passed_in}
use Rattle.uses.specs.Laws.StackLaws.{opened, next_lived}
use Rattle.uses.proofs.parts.open_if.Goals as goal
use Rattle.uses.specs.Passed.{onward}

pub returns : goal.returns
returns c =
    let k = c.args.stack.now in
    let s = c.args.c in
    record {
      o_after = λ x t l o r. ap (λ d. passed_in x l (set k (length k - (s.bodies + 1)) (s.living - s.fresh)) (onward d) o) c.lived.ensures ∙ opened x l k o
          s r c.requires.0;
      by_index = λ t l r. rw c.lived.ensures (next_lived t l s r s.met (s.living - s.fresh) (s.bodies + 1) r.met (omega (arith, r.living))
          (omega arith) (omega arith));
      stack_len_unchanged = length-set k (length k - (s.bodies + 1)) (s.living - s.fresh);
    }
