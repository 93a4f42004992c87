-- What the readers of statements answer for what is read (01, 4 and 5 of 'Numbers from the input'), and where the next place
-- lies, with how much was computed on the way.
use Rattle.std.specs.Prelude.{Result as Answered, Ok, Err, ℕ, suc, ◌+◌, ◌<◌, ◌≤◌, ◌^◌, List, length}
use Rattle.types.specs.Limits.{expr_levels}
use Rattle.types.specs.Types.{Ty, code}
use Rattle.program.specs.Tree.{Var, Expr, Exprs, Stmts}
use Rattle.program.specs.Reader.{Result, pair, read_local, read_expr}
use Rattle.answers.specs.Answers.{Answer, answer}
use Rattle.judge.specs.declared.Facts.{Facts}
use Rattle.judge.specs.declared.Scope.{Scope}
use Rattle.judge.specs.declared.Done.{Done}
use Rattle.judge.specs.Facts.{result, path_of, expr_facts, args_facts, branched, declared, updated, created, body_facts}

abbrev pub done : {A : Type 0} → (A → Done) → Result A → Answer Done
done f r = answer f r

-- a construct whose label stays
abbrev pub labelled : Scope → Facts → Done
labelled c f = result f.size f.peak 1 f.fault c

-- what stands behind the type of a declaration
unfoldable pub read_named : List ℕ → List ℕ → ℕ → Result (ℕ × Expr)
read_named ar s at = pair (read_local s at) λ x. read_expr ar s expr_levels

-- statements by their parts
module _ (ar types : List ℕ) (own : ℕ) (c : Scope) where
  abbrev pub local_facts : ℕ → ℕ × Expr → Done
  local_facts t p = declared c t p.0 (expr_facts ar types own c.live p.1)

  abbrev pub declare_facts : Ty × (ℕ × Expr) → Done
  declare_facts p = local_facts (code p.0) p.1

  abbrev pub update_facts : (Var × List ℕ) × Expr → Done
  update_facts p = updated c (suc (length p.0.1)) (path_of ar types own c.live p.0.0 p.0.1) (expr_facts ar types own c.live p.1)

  abbrev pub create_facts : ℕ × Exprs → Done
  create_facts p = created c (args_facts ar types own c.live p.1 p.0 0)

  abbrev pub when_facts : Expr × Stmts → Done
  when_facts p = branched c (expr_facts ar types own c.live p.0) (body_facts ar types own p.1 c)

-- the next place lies from lo on, and no more was computed than bytes were read from `from` on and more
abbrev pub DoneSpan : {E : Type 0} → List ℕ → ℕ → ℕ → ℕ → Answered (ℕ × Done) E → Type 0
DoneSpan s lo from more (Ok (n, d)) =
    (lo ≤ n) × (n ≤ length s) × (d.size + from ≤ n + more) × (d.height + from ≤ n + more) × (d.growth + from ≤ n + more)
DoneSpan s lo from more (Err k) = Unit {0}

-- of a statement; of any number of them; of a count and so many; of what stands behind the byte of a statement
abbrev pub DoneAhead : {E : Type 0} → List ℕ → ℕ → Answered (ℕ × Done) E → Type 0
DoneAhead s at r = DoneSpan s (at + 1) at 0 r

abbrev pub DoneWithin : {E : Type 0} → List ℕ → ℕ → Answered (ℕ × Done) E → Type 0
DoneWithin s at r = DoneSpan s at at 0 r

abbrev pub DoneBody : {E : Type 0} → List ℕ → ℕ → Answered (ℕ × Done) E → Type 0
DoneBody s at r = DoneSpan s (at + 1) (at + 1) 0 r

abbrev pub DoneBehind : {E : Type 0} → List ℕ → ℕ → Answered (ℕ × Done) E → Type 0
DoneBehind s at r = DoneSpan s at at 1 r

-- two of each together are still numbers of 64 bits
abbrev pub RoomDone : {E : Type 0} → Answered (ℕ × Done) E → Type 0
RoomDone (Ok (n, d)) = (d.size < 2 ^ 63) × (d.height < 2 ^ 63) × (d.growth < 2 ^ 63)
RoomDone (Err k) = Unit {0}
