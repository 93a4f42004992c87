-- Demand 3 is not empty (01, 'The words of demand 3'): a run of a program refused with 8, and one of a program refused with 7,
-- passes through a machine whose next command lacks what it needs, and jams there.
use Rattle.std.specs.Prelude.{ℕ, ◌≡◌, refl, false, List, [], ◌∷◌, pos}
use Rattle.std.proofs.Common.{arith, ap, subst}
use mathlib.Core.List.Memᴰ
use Rattle.types.specs.Types.{Ty, Ty.int, Ty.bool, Ty.ref}
use Rattle.types.specs.Values.{Val.int_val, Val.bool_val, Val.label}
use Rattle.program.specs.Tree.{Stmts, Program}
use Rattle.commands.specs.Noted.{Note.n_this, Note.n_not, Note.n_wr, Note.n_get}
use Rattle.commands.specs.Numbers.{wrong_names, wrong_types}
use Rattle.commands.proofs.Exhibits.{program, negated, outlived, refused_8, refused_7}
use Rattle.table.specs.Table.{Record, HeldTable, References, TableRight}
use Rattle.machine.specs.Published.{fresh_env}
use Rattle.machine.specs.Machine.{Tagged, tagged}
use Rattle.run.specs.Run.{run}
use Rattle.run.specs.Begin.{begin}
use Rattle.run.proofs.Rows.RowsOpen.{running}
use Rattle.sound.specs.Needs.{NextReady}
use Rattle.sound.specs.NeverStuck.{Demand3}
use Rattle.sound.specs.After.{onward, act_on, after, after_visited}
use Rattle.sound.specs.Exhibits.{Lacks, Jams, Fails, negating}
pub mod ExhibitAccepted
pub mod ExhibitLacks
pub mod ExhibitLocals
pub mod ExhibitTurns

-- what demand 3 says does not hold of such a run, by what it says of the commands' needs alone
pub lacks_refutes : {p : Program} {rs : List Record} {es : List ℕ} → Lacks p rs es → Demand3 p rs es → ⊥
lacks_refutes {p} s d =
    s.lacks
    (subst (NextReady p s.place s.holder s.instance) s.holds
    ((d.right s.place s.left s.visited).ready s.holder s.instance s.there))

-- the table without a record is right
pub no_record : (b : Stmts) → TableRight (program b).params []
unfolding HeldTable References TableRight
no_record b = ((omega arith, tt), tt)

-- Refused with 8 -----------------------------------------------------------------

-- its not needs a Bool
pub not_of_int : (x : Tagged) (χ : List Tagged) → tagged int (int_val (pos 1)) ∷ [] ≡ x ∷ χ → x.by ≡ bool → ⊥
not_of_int x χ e f = let q : int ≡ x.by = ap top e in let z : ◌≡◌ {A = ℕ} 0 1 = cc in omega arith
  where
    top : List Tagged → Ty
    top [] = bool
    top (x ∷ χ) = x.by

-- p1 := not 1: the null instance's not finds the Int that its push put there
pub stuck_8 : Lacks (program negated) [] (0 ∷ 0 ∷ [])
unfolding running onward act_on after
stuck_8 = record {
  place = after (program negated) 2 (begin (program negated) []) (0 ∷ 0 ∷ []);
  left = (after_visited (program negated) 2 (begin (program negated) []) (0 ∷ 0 ∷ [])).0;
  visited = (after_visited (program negated) 2 (begin (program negated) []) (0 ∷ 0 ∷ [])).1;
  holder = 0;
  instance = negating;
  there = refl;
  command = n_not;
  rest = n_this ∷ n_wr 0 1 ∷ [];
  holds = refl;
  lacks = λ (x, (χ, e), f). not_of_int x χ e f.0;
}

pub jams_8 : Jams (program negated) [] (0 ∷ 0 ∷ [])
unfolding running
jams_8 = refl

-- it is refused with 8, and demand 3 fails of that run
pub fails_8 : Fails wrong_types (program negated) [] (0 ∷ 0 ∷ [])
unfolding running
fails_8 = (refused_8.0.0, refl, no_record negated, lacks_refutes stuck_8)

-- Refused with 7 -----------------------------------------------------------------

-- if false { Int l := 1 }; p0 := l: the null instance's rd of the local finds no value
pub stuck_7 : Lacks (program outlived) [] (0 ∷ 0 ∷ 0 ∷ 0 ∷ [])
unfolding running onward act_on after
stuck_7 = record {
  place = after (program outlived) 4 (begin (program outlived) []) (0 ∷ 0 ∷ 0 ∷ 0 ∷ []);
  left = (after_visited (program outlived) 4 (begin (program outlived) []) (0 ∷ 0 ∷ 0 ∷ 0 ∷ [])).0;
  visited = (after_visited (program outlived) 4 (begin (program outlived) []) (0 ∷ 0 ∷ 0 ∷ 0 ∷ [])).1;
  holder = 0;
  instance = record {
    struct = 0;
    code = n_get int 0 ∷ n_this ∷ n_wr 0 0 ∷ [];
    stack = tagged (ref 0) (label 0) ∷ [];
    env = fresh_env (int_val (pos 0) ∷ bool_val false ∷ []);
    written = [];
  };
  there = refl;
  command = n_get int 0;
  rest = n_this ∷ n_wr 0 0 ∷ [];
  holds = refl;
  lacks = λ n. Memᴰ.not-nil n.3.0;
}

pub jams_7 : Jams (program outlived) [] (0 ∷ 0 ∷ 0 ∷ 0 ∷ [])
unfolding running
jams_7 = refl

-- it is refused with 7, and demand 3 fails of that run
pub fails_7 : Fails wrong_names (program outlived) [] (0 ∷ 0 ∷ 0 ∷ 0 ∷ [])
unfolding running
fails_7 = (refused_7.0.0, refl, no_record outlived, lacks_refutes stuck_7)
