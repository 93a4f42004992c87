-- Demand 3 is not empty (01, 'The words of demand 3'): a run of a program refused with 8, and one of a program refused with 7,
-- passes through a machine whose next command lacks what it needs, and jams there.
use Rattle.std.specs.Prelude.{ℕ, ◌≡◌, false, List, [], ◌∷◌, pos}
use Rattle.std.proofs.Math.Option.{some}
use Rattle.std.proofs.Math.ListN.{get_elem?}
use Rattle.types.specs.Types.{Ty.int}
use Rattle.types.specs.Values.{Val.int_val, Val.bool_val}
use Rattle.program.specs.Tree.{Program}
use Rattle.program.specs.Counts.{Counts}
use Rattle.commands.specs.Noted.{Note, Note.n_this, Note.n_not, Note.n_wr}
use Rattle.commands.specs.Numbers.{breach_number}
use Rattle.table.specs.Table.{Record, TableRight}
use Rattle.machine.specs.Published.{fresh_env}
use Rattle.machine.specs.Machine.{tagged, Instance, Machine}
use Rattle.run.specs.Run.{Outcome.jammed, run}
use Rattle.run.specs.Visits.{Visits}
use Rattle.run.specs.Begin.{begin}
use Rattle.sound.specs.Needs.{Needs}
use Rattle.sound.specs.NeverStuck.{Demand3}

-- a run passes through a machine where the next command of an instance lacks what it needs
pub record Lacks (p : Program) (rs : List Record) (es : List ℕ) : Type 0 where
  pub place : Machine
  pub left : List ℕ
  pub visited : Visits p (begin p rs) es place left
  pub holder : ℕ
  pub instance : Instance
  pub there : get_elem? place.instances holder ≡ some instance
  pub command : Note
  pub rest : List Note
  pub holds : instance.code ≡ command ∷ rest
  pub lacks : Needs p place holder instance command → ⊥

-- such a run comes to no number
abbrev pub Jams : Program → List Record → List ℕ → Type 0
Jams p rs es = run p (begin p rs) es ≡ jammed

-- a program with right counts is refused with n; demand 3 fails of a run of it on a right table
abbrev pub Fails : ℕ → Program → List Record → List ℕ → Type 0
Fails n p rs es = Counts p × (breach_number p ≡ n) × TableRight p.params rs × (Demand3 p rs es → ⊥)

-- the null instance before its not, with the Int that its push put there
abbrev pub negating : Instance
negating = record {
  struct = 0;
  code = n_not ∷ n_this ∷ n_wr 0 1 ∷ [];
  stack = tagged int (int_val (pos 1)) ∷ [];
  env = fresh_env (int_val (pos 0) ∷ bool_val false ∷ []);
  written = [];
}
