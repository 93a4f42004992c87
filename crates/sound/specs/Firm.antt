-- What the runs of an accepted program rest on (01, numbers 6 to 8).
use Rattle.std.specs.Prelude.{ℕ, ◌≤◌, ◌≡◌, List, [], length, false}
use Rattle.std.proofs.Math.Option.{some}
use Rattle.types.specs.Limits.{first_local, fix_levels}
use Rattle.program.specs.Tree.{Stmts, Program}
use Rattle.program.specs.Counts.{fixes_in}
use Rattle.commands.specs.Context.{params_of, context, step_of}
use Rattle.commands.specs.Noted.{Note, noted}
use Rattle.commands.specs.Bounds.{program_depth}
use Rattle.machine.specs.Published.{structs}
use Rattle.commands.specs.Tags.{Tags, at_start, Way}
use Rattle.commands.specs.Living.{lives, alive, Among}
use Rattle.commands.specs.Secure.{Secure}
use Rattle.sound.specs.Sized.{SizedAll}

-- a step's commands are safe on every way, no way goes higher than the reported depth, and what they carry is in its range;
-- parameters lie below the locals, and Fixes nest within their levels
pub record Firm (p : Program) : Type 0 where
  pub secure : (k n : ℕ) {b : Stmts} → step_of p k n ≡ some b
      → (Among (alive (lives b)) []) × (Secure (context p k b) (noted (context p k b) b) (lives b) [] false)
  pub low : (k n : ℕ) {b : Stmts} → step_of p k n ≡ some b → {c : List Note} {x : Tags}
      → Way (context p k b) (noted (context p k b) b) at_start c x → length x.stack ≤ program_depth p
  pub sized : (k n : ℕ) {b : Stmts} → step_of p k n ≡ some b → SizedAll (structs p) (noted (context p k b) b)
  pub few : (k : ℕ) → length (params_of p k) ≤ first_local
  pub levels : fixes_in p.schedule ≤ fix_levels
