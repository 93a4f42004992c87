-- `parts::part_role` meets its contract: one law for each part.
use Rattle.std.proofs.Common.{refl, ap, ◌∙◌, arith}
use Rattle.uses.specs.Lent.{use_in, passed_in}
use Rattle.uses.specs.Laws.StackLaws.{next_same, next_lived}
use Rattle.uses.specs.Laws.BracketLaws.{part_args, part_no_args, part_body, part_if, part_end_if, part_comma, part_quiet, body_shut}
use Rattle.uses.proofs.parts.part_role.Goals as goal
use Rattle.uses.specs.Passed.{onward}

pub returns-in-66 : goal.returns-in-66
returns-in-66 c =
    let a = c.args in
    record {
      o_after = λ x t l o r. c.close.ensures.by_index x l o ∙ part_args a.role (use_in x l a.stack.now a.c o) c.in-66.is;
      by_index = c.close.ensures.by_index_2;
      stack_len_unchanged = refl;
    }

pub returns-in-67 : goal.returns-in-67
returns-in-67 c =
    let a = c.args in
    record {
      o_after = λ x t l o r. c.close-in-67.ensures.by_index x l o ∙ part_no_args a.role (use_in x l a.stack.now a.c o) c.in-67.is;
      by_index = c.close-in-67.ensures.by_index_2;
      stack_len_unchanged = refl;
    }

pub returns-in-75 : goal.returns-in-75
returns-in-75 c =
    let a = c.args in
    let k = a.stack.now in
    let s = a.c in
    record {
      o_after = λ x t l o r. ap (λ d. passed_in x l k (onward d) o) c.lived.ensures ∙ body_shut x l k o s ∙ part_body a.role (use_in x l k s o) c.in-75.is;
      by_index = λ t l r. rw c.lived.ensures (next_lived t l s r 0 0 0 (omega arith) (omega arith) (omega arith) (omega arith));
      stack_len_unchanged = refl;
    }

pub returns-in-76 : goal.returns-in-76
returns-in-76 c =
    let a = c.args in
    record {
      o_after = λ x t l o r. c.open_if.ensures.o_after x t l o r ∙ part_if a.role (use_in x l a.stack.now a.c o) c.in-76.is;
      by_index = c.open_if.ensures.by_index;
      stack_len_unchanged = c.open_if.ensures.stack_len_unchanged;
    }

pub returns-in-77 : goal.returns-in-77
returns-in-77 c =
    let a = c.args in
    record {
      o_after = λ x t l o r. c.close_if.ensures.o_value x t l o r ∙ part_end_if a.role (use_in x l a.stack.now a.c o) c.in-77.is;
      by_index = c.close_if.ensures.by_index;
      stack_len_unchanged = refl;
    }

pub returns-in-79 : goal.returns-in-79
returns-in-79 c =
    let a = c.args in
    record {
      o_after = λ x t l o r. c.go_on.ensures.by_index x l o ∙ part_comma a.role (use_in x l a.stack.now a.c o) c.in-79.is;
      by_index = c.go_on.ensures.by_index_2;
      stack_len_unchanged = c.go_on.ensures.stack_len_unchanged;
    }

pub returns-in_default : goal.returns-in_default
unfolding passed_in
returns-in_default c =
    let a = c.args in
    let p = c.requires in
    record {
      o_after = λ x t l o r. part_quiet (use_in x l a.stack.now a.c o) a.role p.3 (λ e. omega arith) (λ e. omega arith)
          (λ e. omega arith) (λ e. omega arith) (λ e. omega arith) (λ e. omega arith);
      by_index = λ t l r. next_same t l a.c r;
      stack_len_unchanged = refl;
    }
