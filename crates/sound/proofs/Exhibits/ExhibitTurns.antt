-- What the exhibits share (01, 'The words of demand 3'). Their programs are accepted, by what they are read to. Turns as they show them: a machine
-- that a run passes through, where an instance holds a command, and the one that this command leads to.
use Rattle.std.specs.Prelude.{ℕ, suc, ◌≡◌, List, ◌∷◌, map, length}
use Rattle.std.proofs.Common.{ap}
use Rattle.std.proofs.Math.Option.{Option, none, some}
use Rattle.std.proofs.Math.ListN.{get_elem?}
use Rattle.types.specs.Values.{Val}
use Rattle.program.specs.Tree.{Program}
use Rattle.program.specs.Encoding.{enc_program}
use Rattle.program.specs.Reader.{Result.ok, read}
use Rattle.program.proofs.Laws.ProgramLaws.{program_law}
use Rattle.commands.specs.Noted.{Note}
use Rattle.commands.specs.Accepted.{Accepted}
use Rattle.commands.specs.Numbers.{no_breach, breach_number}
use Rattle.commands.proofs.Laws.NumbersLaws.{number_accepted}
use Rattle.machine.specs.Published.{lookup}
use Rattle.machine.specs.Machine.{Tagged, Instance, Machine, Out.next, command}
use Rattle.table.specs.Table.{Record}
use Rattle.run.specs.Begin.{table_of}
use Rattle.run.specs.Run.{Outcome, Outcome.stopped, Outcome.jammed}
use Rattle.run.specs.Visits.{Visits}
use Rattle.sound.proofs.Laws.ElemLaws.{none_some, some_is}
use Rattle.sound.specs.After.{after, after_visited}

-- a program that its stream is read to has the right counts; of its limits, names and types no number comes out
pub by_stream : (p : Program) → breach_number p ≡ no_breach → read (enc_program p) ≡ ok p (length (enc_program p)) → Accepted p
by_stream p n r = let a = (number_accepted p).0 n in (((program_law (enc_program p) p (length (enc_program p))).0 r).0, a.0, a.1, a.2)

-- what stands at an instance of a machine
abbrev pub code_at : Machine → ℕ → Option (List Note)
code_at m l = get_elem? (map (λ (i : Instance). i.code) m.instances) l

abbrev pub stack_at : Machine → ℕ → Option (List Tagged)
stack_at m l = get_elem? (map (λ (i : Instance). i.stack) m.instances) l

abbrev pub value_at : Machine → ℕ → ℕ → Option (Option Val)
value_at m l v = get_elem? (map (λ (i : Instance). lookup i.env v) m.instances) l

-- number, turns and table of an outcome; a row computes them, and the last machine is the outcome's own
abbrev pub came : Program → Outcome → Option (ℕ × ℕ × List Record)
came p (stopped n t z) = some (n, t, table_of p z)
came p jammed = none

pub came_stopped : (p : Program) (o : Outcome) {n t : ℕ} {rs : List Record} → came p o ≡ some (n, t, rs)
    → (z : Machine) × (o ≡ stopped n t z) × (table_of p z ≡ rs)
came_stopped p (stopped k u z) {n} {t} {rs} e =
    let q = some_is e in
    let a : k ≡ n = ap (λ (x : ℕ × ℕ × List Record). x.0) q in
    let b : u ≡ t = ap (λ (x : ℕ × ℕ × List Record). x.1) q in
    let c : table_of p z ≡ rs = ap (λ (x : ℕ × ℕ × List Record). x.2) q in
    (z, cc, c)
came_stopped p jammed e = none_some e

module _ (p : Program) (m : Machine) (es : List ℕ) where
  -- a run from m with these bytes comes to the instance l with the command n, which is taken
  pub record Turn (l : ℕ) (n : Note) : Type 0 where
    pub before : Machine
    pub behind : Machine
    pub holder : Instance
    pub rest : List Note
    pub there : get_elem? before.instances l ≡ some holder
    pub holds : holder.code ≡ n ∷ rest
    pub act : command p l before ≡ next behind
    pub visited_before : (fs : List ℕ) × Visits p m es before fs
    pub visited_behind : (fs : List ℕ) × Visits p m es behind fs

  -- the machine after so many acts, and the turn there
  abbrev pub at_act : ℕ → Machine
  at_act k = after p k m es

  abbrev pub turn_at : (k l : ℕ) {i : Instance} {n : Note} {c : List Note} → get_elem? (at_act k).instances l ≡ some i → i.code ≡ n ∷ c
      → command p l (at_act k) ≡ next (at_act (suc k))
      → Turn l n
  turn_at k l {i} {n} {c} t h a = record {
    before = at_act k;
    behind = at_act (suc k);
    holder = i;
    rest = c;
    there = t;
    holds = h;
    act = a;
    visited_before = after_visited p k m es;
    visited_behind = after_visited p (suc k) m es;
  }
