-- The published rules determine the next state of each actor, and no rule fits where a number from the state is due.
use Rattle.std.specs.Prelude.{ℕ, ◌≡◌, refl, List, [], ◌∷◌, map}
use Rattle.std.proofs.Common.{ap, subst, arith}
use Rattle.types.specs.Types.{Ty.int}
use Rattle.types.specs.Values.{Val}
use Rattle.program.specs.Tree.{Program}
use Rattle.commands.specs.Commands.{Com.push, Com.push_this, Com.rd, Com.wr, Com.cons, Com.not, Com.oper, Flat, Flat.plain, Flat.if_n, flatten}
use Rattle.commands.specs.Noted.{Note, Note.n_push, Note.n_this, Note.n_not, Note.n_rd, Note.n_wr, Note.n_cons, Note.n_op, Note.n_if, erase}
use Rattle.machine.specs.Published.{Inst, Inst.inst, State, State.state}
use Rattle.machine.specs.Rules.{Actor, Actor.instance, Actor.schedule, Rule}
use Rattle.machine.specs.Stops.{Full, Exceeded, full, exceeded}
use Rattle.machine.specs.Machine.{Tagged, tagged, Instance, Machine, machine}
use Rattle.machine.specs.Represents.{values, RepresentsAll, Represents}
use Rattle.machine.proofs.Laws.RepresentsLaws.{represents_unique}
use Rattle.machine.proofs.Laws.CommandAgrees.{command_complete, command_full, command_exceeded}
use Rattle.machine.proofs.Laws.MoveAgrees.{move_complete}

-- Every state has a machine --------------------------------------------------------

note : Flat → Note
note (plain (push t v)) = n_push t v
note (plain push_this) = n_this
note (plain (rd x)) = n_rd 0 x
note (plain (wr x)) = n_wr 0 x
note (plain (cons k)) = n_cons k
note (plain not) = n_not
note (plain (oper o)) = n_op o
note (if_n n) = n_if n

erase_note : (f : Flat) → erase (note f) ≡ f
unfolding note erase
erase_note (plain (push t v)) = refl
erase_note (plain push_this) = refl
erase_note (plain (rd x)) = refl
erase_note (plain (wr x)) = refl
erase_note (plain (cons k)) = refl
erase_note (plain not) = refl
erase_note (plain (oper o)) = refl
erase_note (if_n n) = refl

erase_notes : (l : List Flat) → map erase (map note l) ≡ l
erase_notes [] = refl
erase_notes (f ∷ l) = rw (erase_note, erase_notes l)

tags : List Val → List Tagged
tags χ = map (tagged int) χ

values_tags : (χ : List Val) → values (tags χ) ≡ χ
unfolding values tags
values_tags [] = refl
values_tags (x ∷ χ) = ap (λ l. x ∷ l) (values_tags χ)

noting : Inst → Instance
noting (inst k c χ ξ) = record { struct = k; code = map note (flatten c); stack = tags χ; env = ξ; written = [] }

noting_represents : (σ : List Inst) → RepresentsAll (map noting σ) σ
unfolding noting
noting_represents [] = tt
noting_represents (inst k c χ ξ ∷ σ) = ((refl, erase_notes (flatten c), values_tags χ, refl), noting_represents σ)

-- every published state has a machine that stands for it
pub represented : (st : State) → (m : Machine) × (Represents m st)
represented (state s σ b) = (machine s (map noting σ) b 0, (refl, noting_represents σ, refl))

-- One next state -------------------------------------------------------------------

module _ (p : Program) where
  -- one machine stands for one state
  same : {m n : Machine} {st st' : State} → n ≡ m → Represents m st → Represents n st' → st ≡ st'
  same {m} {st = st} {st' = st'} h R Q = represents_unique m st st' R (subst (λ x. Represents x st') h Q)

  -- a state has at most one next state by the command of an instance, and at most one by a move of the schedule
  pub rule_unique : (a : Actor) {st st' st'' : State} → Rule p a st st' → Rule p a st st'' → st' ≡ st''
  rule_unique (instance l) {st} r q =
      let (m, R) = represented st in
      let (y, e, Y) = command_complete p l m R r in
      let (z, f, Z) = command_complete p l m R q in
      same {m = y} {n = z} (cc) Y Z
  rule_unique schedule {st} r q =
      let (m, R) = represented st in
      let (y, e, Y) = move_complete p m R r in
      let (z, f, Z) = move_complete p m R q in
      same {m = y} {n = z} (cc) Y Z

  -- no rule fits where 34 is due
  pub rule_not_full : {l : ℕ} {st st' : State} → Rule p (instance l) st st' → Full l st → ⊥
  rule_not_full {l} {st} r h =
      let (m, R) = represented st in
      let (m', e, Q) = command_complete p l m R r in
      let f = (command_full p l m st R).1 h in
      let z : ◌≡◌ {A = ℕ} 0 1 = cc in
      omega arith

  -- nor where 35 is
  pub rule_not_exceeded : {l : ℕ} {st st' : State} → Rule p (instance l) st st' → Exceeded l st → ⊥
  rule_not_exceeded {l} {st} r h =
      let (m, R) = represented st in
      let (m', e, Q) = command_complete p l m R r in
      let f = (command_exceeded p l m st R).1 h in
      let z : ◌≡◌ {A = ℕ} 0 1 = cc in
      omega arith

  -- 34 and 35 are never due together
  pub full_not_exceeded : {l : ℕ} {st : State} → Full l st → Exceeded l st → ⊥
  full_not_exceeded {l} {st} g h =
      let (m, R) = represented st in
      let e = (command_full p l m st R).1 g in
      let f = (command_exceeded p l m st R).1 h in
      let z : full ≡ exceeded = cc in
      omega arith
