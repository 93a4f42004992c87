-- What a stream can hold of a program (02 §1: 17 for "more of anything than the stream's counts, numbers or bytes hold, nesting apart"; 01, 'Program stream').
use Rattle.std.specs.Prelude.{ℕ, ◌*◌, ◌<◌, ◌≤◌, ◌≡◌, List, map, length, get_or}
use Rattle.types.specs.Limits.{max_structs, max_params, max_steps, step_names, max_statements, max_items, max_locals, program_blocks}
use Rattle.types.specs.Types.{IsType}
use Rattle.program.specs.Tree.{Stmt, Stmt.when, Stmt.declare, Stmt.update, Stmt.create, Stmts, Stmts.end, Stmts.next, Items, Step, Program, args, size, items}
use Rattle.program.specs.Encoding.{enc_program}
use Rattle.program.specs.Counts.{All, Few, IsPath, CountsExpr, CountsExprs, CountsItems}

-- stream bytes of a block, and of the largest image
abbrev pub block_bytes : ℕ
block_bytes = 504

abbrev pub max_stream : ℕ
max_stream = program_blocks * block_bytes

module _ (ar : List ℕ) where
  unfoldable mutual
    pub HoldsStmt : Stmt → Type 0
    HoldsStmt (when e b) = (CountsExpr ar e) × (size b ≤ max_statements) × (HoldsStmts b)
    HoldsStmt (declare t x e) = (IsType (length ar) t) × (x < max_locals) × (CountsExpr ar e)
    HoldsStmt (update v vs e) = (IsPath v vs) × (CountsExpr ar e)
    HoldsStmt (create k es) = (k < length ar) × (args es ≡ get_or ar k 0) × (CountsExprs ar es)

    pub HoldsStmts : Stmts → Type 0
    HoldsStmts end = Unit {0}
    HoldsStmts (next t b) = (HoldsStmt t) × (HoldsStmts b)

  unfoldable pub HoldsStep : Step → Type 0
  HoldsStep t = (t.name < step_names) × (size t.body ≤ max_statements) × (HoldsStmts t.body)

  unfoldable pub HoldsSchedule : Items → Type 0
  HoldsSchedule is = (1 ≤ items is) × (items is ≤ max_items) × (CountsItems ar is)

-- counts and ranges without nesting
unfoldable pub Counted : Program → Type 0
Counted p =
    (Few 1 max_structs (Few 0 max_params (IsType (length p.params))) p.params)
    × (length p.steps ≡ length p.params)
    × (All (Few 0 max_steps (HoldsStep (map length p.params))) p.steps)
    × (HoldsSchedule (map length p.params) p.schedule)

-- and the bytes
pub record Holds (p : Program) : Type 0 where
  pub counted : Counted p
  pub fits : length (enc_program p) ≤ max_stream
