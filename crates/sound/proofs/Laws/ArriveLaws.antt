-- Where an instance stands after a command (01, 'The words of demand 3').
use Rattle.std.specs.Prelude.{ℕ, ◌+◌, ◌<◌, ◌≡◌, refl, true, length}
use Rattle.std.proofs.Math.Option.{some}
use Rattle.std.proofs.Common.{inr}
use mathlib.Core.List.{List, [], ◌∷◌, ◌++◌, Memᴰ}
use Rattle.types.specs.Limits.{first_local}
use Rattle.types.specs.Types.{Ty.int}
use Rattle.types.specs.Values.{Val, Val.label}
use Rattle.program.specs.Tree.{Stmts, Program}
use Rattle.commands.specs.Context.{body_local, context}
use Rattle.commands.specs.Noted.{Note, noted}
use Rattle.commands.specs.Tags.{Tags, Way, at_start}
use Rattle.commands.specs.Living.{alive, lives_at, Among}
use Rattle.table.specs.Table.{Each}
use Rattle.machine.specs.Published.{Sched, Env, lookup}
use Rattle.machine.specs.Machine.{Tagged, Instance}
use Rattle.sound.specs.Needs.{ValueAmong}
use Rattle.sound.specs.Invariant.{Fits, Job, InJob, InJob.in_call, Place, Place.passing, Running}
use Rattle.sound.specs.Firm.{Firm}

-- an instance of struct k with these commands, stack, environment and written locals
abbrev at_place : ℕ → List Note → List Tagged → Env → List ℕ → Instance
at_place k c χ ξ w = record { struct = k; code = c; stack = χ; env = ξ; written = w }

-- each of these locals of the step holds a value of its type
abbrev Hold : Stmts → List Instance → Env → List ℕ → Type 0
Hold b js ξ w = (x : ℕ) → Memᴰ x w → (v : Val) × (lookup ξ (first_local + x) ≡ some v) × (ValueAmong js (body_local b x int) v)

-- after a push this the own label is on top
abbrev OwnTop : ℕ → List Tagged → Tags → Type 0
OwnTop l χ y = y.fresh ≡ true → (x : Tagged) × (ψ : List Tagged) × (χ ≡ x ∷ ψ) × (x.is ≡ label l)

module _ {p : Program} (firm : Firm p) (k l : ℕ) (b : Stmts) (js : List Instance) (χ : List Tagged) (ξ : Env) (w : List ℕ) where
  -- with fewer commands of the step left than it has, at a place that they lead to, the instance stands where it may
  pub arrive : {a : Job} (s : Sched) → Running p (some a) s → {rest : List Note} → InJob p k a b rest → (c : List Note)
      → length c < length (noted (context p k b) b) → {y : Tags}
      → Way (context p k b) (noted (context p k b) b) at_start c y → Among (alive (lives_at (context p k b) b c)) w
      → Each (Fits js) y.stack χ → OwnTop l χ y → Hold b js ξ w → Place p (some a) js l (at_place k (c ++ rest) χ ξ w)
  arrive t run (in_call e) c h {y} way sf s own v =
      passing (record {
        body = b;
        rest = [];
        has = in_call e;
        held = c;
        code = refl;
        full = λ z. refl;
        place = y;
        way = way;
        kept = sf;
        stacked = s;
        own = own;
        locals = v;
      }) (inr refl)
