-- `parts::kind_role` meets its contract: one law for each kind.
use Rattle.std.proofs.Common.{ap, ◌∙◌, arith, drop}
use Rattle.uses.specs.Lent.{passed_in}
use Rattle.uses.specs.Laws.StackLaws.{next_same, next_lived}
use Rattle.uses.specs.Laws.BracketLaws.{kind_semicolon, kind_int, kind_nat, kind_quiet, next_word}
use Rattle.uses.proofs.parts.kind_role.Goals as goal
use Rattle.uses.specs.Passed.{onward}

pub returns-in-19 : goal.returns-in-19
returns-in-19 c =
    let x = c.args.text.now in
    let s = c.args.c in
    record {
      by_index = λ l k o. ap (λ d. passed_in x l k (onward d) o) c.lived.ensures ∙ kind_semicolon x l k o s c.args.kind (drop c.args.at x) c.in-19.is;
      by_index_2 = λ t l r. rw c.lived.ensures (next_lived t l s r s.met s.living s.bodies r.met r.living (omega arith) (omega arith));
    }

pub returns-in-37 : goal.returns-in-37
returns-in-37 c =
    let x = c.args.text.now in
    let s = c.args.c in
    record {
      by_index = λ l k o. ap (λ d. passed_in x l k d o) c.of_type.ensures ∙ kind_int x l k o s c.args.at c.args.kind c.int_word.ensures c.in-37.is;
      by_index_2 = λ t l r. rw c.of_type.ensures (next_word t l s r c.int_word.result);
    }

pub returns-in-38 : goal.returns-in-38
returns-in-38 c =
    let x = c.args.text.now in
    let s = c.args.c in
    record {
      by_index = λ l k o. ap (λ d. passed_in x l k d o) c.of_type-in-38.ensures ∙ kind_nat x l k o s c.args.at c.args.kind c.nat_word.ensures
          c.in-38.is;
      by_index_2 = λ t l r. rw c.of_type-in-38.ensures (next_word t l s r c.nat_word.result);
    }

pub returns-in_default : goal.returns-in_default
returns-in_default c =
    let x = c.args.text.now in
    let s = c.args.c in
    record {
      by_index = λ l k o. kind_quiet x l k o s c.args.kind (drop c.args.at x) (λ e. omega arith)
          (λ e. omega arith) (λ e. omega arith);
      by_index_2 = λ t l r. next_same t l s r;
    }
