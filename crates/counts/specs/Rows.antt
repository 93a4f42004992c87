-- Counts by computation (02 §14): a machine is given where 12 commands could not tell one way of counting from another.
use Rattle.std.specs.Prelude.{ℕ, ◌≡◌, refl, true, false, List, [], ◌∷◌, ◌++◌, replicate}
use Rattle.types.specs.Types.{Ty.bool, Ty.ref}
use Rattle.types.specs.Values.{Val.bool_val, Val.label}
use Rattle.program.specs.Tree.{Var.par, Expr.bool_lit, Exprs.none, Stmt.update, Stmt.create, Stmts.end, Stmts.next, Item.call, Items.stop, Items.item, Program}
use Rattle.commands.specs.Noted.{Note.n_push, Note.n_this, Note.n_rd, Note.n_wr, Note.n_cons}
use Rattle.machine.specs.Published.{Sched.done, fresh_env}
use Rattle.machine.specs.Machine.{Machine, machine}
use Rattle.machine.specs.Measure.{total, codes}
use Rattle.run.specs.Begin.{resting}
use Rattle.run.proofs.Rows.RowsOpen.{running}
use Rattle.counts.specs.Numbers.{sum}
use Rattle.counts.specs.Tally.{Kind.ends, Kind.stops, value_in, one_if, at_rest, at_refusal, after, tally_by, tally_with, tally}
use Rattle.orders.specs.StepAnswer.{step_machine}
use Rattle.counts.specs.CountEntry.{count_machine}

-- the three numbers
abbrev pub three : Program → ℕ → ℕ → Machine → List ℕ
three p l v m = tally p l v (ends true) m ∷ tally p l v (ends false) m ∷ tally p l v stops m ∷ []

-- on := true, of one record and its null instance: 6 commands
abbrev pub switch : Program
switch = record {
  params = (bool ∷ []) ∷ [];
  steps = (record { name = 3; body = next (update (par 0) [] (bool_lit 1)) end } ∷ []) ∷ [];
  schedule = item (call 3) stop;
}

pub switched : three switch 1 0 (count_machine switch (record { struct = 0; values = bool_val false ∷ [] } ∷ []) 3) ≡ 20 ∷ 0 ∷ 0 ∷ []
unfolding running step_machine total codes sum value_in one_if at_rest at_refusal after tally_by tally_with tally
switched = refl

-- a null label may be asked about, whose parameter stays false
pub null_asked : three switch 0 0 (count_machine switch (record { struct = 0; values = bool_val false ∷ [] } ∷ []) 3) ≡ 0 ∷ 20 ∷ 0 ∷ []
unfolding running step_machine total codes sum value_in one_if at_rest at_refusal after tally_by tally_with tally
null_asked = refl

-- a step without commands: the empty sequence
abbrev pub nothing_done : Program
nothing_done = record { params = (bool ∷ []) ∷ []; steps = (record { name = 0; body = end } ∷ []) ∷ []; schedule = item (call 0) stop }

pub empty_counts : three nothing_done 0 0 (count_machine nothing_done [] 0) ≡ 0 ∷ 1 ∷ 0 ∷ []
unfolding running step_machine total codes sum value_in one_if at_rest at_refusal after tally_by tally_with tally
empty_counts = refl

-- label 2 holds r.on := true, label 3 on := false; the null instances have finished: whoever writes last decides
abbrev pub two_writers : Program
two_writers = record {
  params = (ref 1 ∷ []) ∷ (bool ∷ []) ∷ [];
  steps = (record { name = 0; body = next (update (par 0) (0 ∷ []) (bool_lit 1)) end } ∷ [])
      ∷ (record { name = 0; body = next (update (par 0) [] (bool_lit 0)) end } ∷ [])
      ∷ [];
  schedule = item (call 0) stop;
}

abbrev pub racing : Machine
racing = machine done (
    resting 0 (label 1 ∷ [])
    ∷ resting 1 (bool_val false ∷ [])
    ∷ record {
      struct = 0;
      code = n_push bool (bool_val true) ∷ n_this ∷ n_rd 0 0 ∷ n_wr 1 0 ∷ [];
      stack = [];
      env = fresh_env (label 3 ∷ []);
      written = [];
    }
    ∷ record { struct = 1; code = n_push bool (bool_val false) ∷ n_this ∷ n_wr 1 0 ∷ []; stack = []; env = fresh_env (bool_val false ∷ []); written = [] }
    ∷ []
    ) [] 0

pub raced : three two_writers 3 0 racing ≡ 20 ∷ 15 ∷ 0 ∷ []
unfolding running total codes sum value_in one_if at_rest at_refusal after tally_by tally_with tally
raced = refl

-- one place left and two that construct: whoever comes second stops
abbrev pub makers : Program
makers = record { params = [] ∷ []; steps = (record { name = 0; body = next (create 0 none) end } ∷ []) ∷ []; schedule = item (call 0) stop }

abbrev pub crowded : Machine
crowded = machine done (
    replicate 253 (resting 0 [])
    ++ record { struct = 0; code = n_cons 0 ∷ []; stack = []; env = fresh_env []; written = [] }
    ∷ record { struct = 0; code = n_cons 0 ∷ []; stack = []; env = fresh_env []; written = [] }
    ∷ []
    ) [] 0

pub one_place : three makers 0 0 crowded ≡ 0 ∷ 0 ∷ 2 ∷ []
unfolding running total codes sum value_in one_if at_rest at_refusal after tally_by tally_with tally
one_place = refl
