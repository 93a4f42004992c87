-- Behind a command the records are those before it with that of the actor written anew (01, 'Table and turns').
use Rattle.std.specs.Prelude.{ℕ, zero, suc, ◌<◌, ◌≤◌, ◌≡◌, refl, Bool, true, false, List, [], ◌∷◌, ◌++◌, length, get_or, set, eqb, ltb}
use Rattle.std.proofs.Common.{ap, sym, ◌∙◌, inl, inr, append-nil, arith, length-set, get_or-set_same, get_or-set_other, eqb-true, ltb-true, ltb-false}
use Rattle.std.proofs.Math.Option.{some}
use Rattle.std.proofs.Math.ListN.{get_elem?}
use Rattle.std.proofs.lemmas.Bool.{eqb-false}
use Rattle.program.specs.Tree.{Program}
use Rattle.machine.specs.Machine.{Instance, Machine, Out.next, command}
use Rattle.run.specs.Holders.{flag, flags}
use Rattle.sound.proofs.Laws.ElemLaws.{at_below}
use Rattle.sound.proofs.Laws.FlagLaws.{Idle, flags_behind}
use Rattle.layout.specs.Layout.{holds}
use Rattle.layout.specs.State.{State}
use Rattle.memory.proofs.Laws.ChooseStands.{holds_same}
use Rattle.holders.specs.declared.Record.{Record}
use Rattle.holders.specs.Records.{idle, Recorded}
use Rattle.interpreter.specs.Ready.{Ready}

-- an instance has its flag
flag_at : (is : List Instance) (k : ℕ) → k < length is → (i : Instance) × (get_elem? is k ≡ some i) × (get_or (flags is) k false ≡ flag i)
flag_at [] k h = absurd (omega arith)
flag_at (x ∷ is) zero h = (x, refl, refl)
flag_at (x ∷ is) (suc k) h = flag_at is k (omega arith)

-- and nobody has one
flag_none : (is : List Instance) (k : ℕ) → length is ≤ k → get_or (flags is) k false ≡ false
flag_none [] k h = refl
flag_none (x ∷ is) zero h = absurd (omega arith)
flag_none (x ∷ is) (suc k) h = flag_none is k (omega arith)

-- a new instance holds nothing
flag_idle : (fs more : List Bool) → Idle more → (k : ℕ) → get_or (fs ++ more) k false ≡ get_or fs k false
flag_idle fs more (inl e) k = rw (e, append-nil fs)
flag_idle [] more (inr e) zero = rw e
flag_idle [] more (inr e) (suc k) = rw e
flag_idle (t ∷ fs) more (inr e) zero = refl
flag_idle (t ∷ fs) more (inr e) (suc k) = flag_idle fs more (inr e) k

module _ {p : Program} {counts list items spans : List ℕ} {m : Machine} {z : State} (r : Ready p counts list items spans m z) where
  holds_flag : (k : ℕ) → k < z.machine.count → holds z.heads k ≡ get_or (flags m.instances) k false
  holds_flag k h =
      let n = r.stands.counted in
      let (i, g, e) = flag_at m.instances k (omega arith) in
      holds_same (r.stands.each k i g) ∙ sym e

  -- the records of all instances are their flags
  record_flag : {rs : List Record} → Recorded z.heads z.machine.count rs → (k : ℕ) → (get_or rs k idle).holds ≡ get_or (flags m.instances) k false
  record_flag {rs} f k = go (ltb k z.machine.count) refl
    where
      go : (t : Bool) → ltb k z.machine.count ≡ t → (get_or rs k idle).holds ≡ get_or (flags m.instances) k false
      go true t = let h = ltb-true k z.machine.count t in f.each k h ∙ holds_flag k h
      go false t =
          let h = ltb-false k z.machine.count t in
          let n = r.stands.counted in
          f.rest k h ∙ sym (flag_none m.instances k (omega arith))

-- memory z with the records rs before a command of instance l, and memory y behind it
module _ {p : Program} {counts list items spans : List ℕ} {m m' : Machine} {z y : State} (r : Ready p counts list items spans m z)
    (r' : Ready p counts list items spans m' y) (l : ℕ) (c : command p l m ≡ next m') (h : l < z.machine.count) where
  -- the others have the flags that they had
  others_same : (k : ℕ) → (k ≡ l → ⊥) → get_or (flags m'.instances) k false ≡ get_or (flags m.instances) k false
  others_same k d =
      let f = flags_behind p l m c in
      ap (λ (fs : List Bool). get_or fs k false) f.others ∙ flag_idle (set (flags m.instances) l (flag f.actor)) f.more f.idle k
      ∙ get_or-set_other (flags m.instances) l k (flag f.actor) false d

  -- the actor is still there
  actor_there : l < y.machine.count
  actor_there =
      let f = flags_behind p l m c in
      let n = r'.stands.counted in
      omega (arith, at_below m'.instances l f.actor f.there)

  pub records_behind : {rs : List Record} → Recorded z.heads z.machine.count rs
      → Recorded y.heads y.machine.count (set rs l (record { holds = holds y.heads l }))
  records_behind {rs} f = record {
    long = length-set rs l now ∙ f.long;
    each = λ k q. own k q (eqb k l) refl;
    rest = λ k q.
        let n = r'.stands.counted in
        other k (λ e. let a = actor_there in omega arith) ∙ flag_none m'.instances k (omega arith);
  }
    where
      now : Record
      now = record { holds = holds y.heads l }

      other : (k : ℕ) → (k ≡ l → ⊥) → (get_or (set rs l now) k idle).holds ≡ get_or (flags m'.instances) k false
      other k d = ap (λ (x : Record). x.holds) (get_or-set_other rs l k now idle d) ∙ record_flag r f k ∙ sym (others_same k d)

      own : (k : ℕ) → k < y.machine.count → (t : Bool) → eqb k l ≡ t → (get_or (set rs l now) k idle).holds ≡ holds y.heads k
      own k q true t =
          let few = r.stands.few in
          let long = f.long in
          let e : k ≡ l = eqb-true k l t in
          rw e (ap (λ (x : Record). x.holds) (get_or-set_same rs l now idle (omega arith)))
      own k q false t = other k (eqb-false k l t) ∙ sym (holds_flag r' k q)
