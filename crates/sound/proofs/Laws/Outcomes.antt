-- What each command comes to, given the operands that it finds (01, 'Table and turns').
use Rattle.std.specs.Prelude.{ℕ, ◌≡◌, Bool, true, false, not, List, [], ◌∷◌, ◌++◌, map, reverse, length, set, ltb, leb}
use Rattle.std.proofs.Common.{arith, length-append, take_at, drop_at, le-leb}
use Rattle.std.proofs.Math.Option.{some}
use Rattle.std.proofs.Math.ListN.{get_elem?, take, drop}
use Rattle.types.specs.Limits.{max_instances}
use Rattle.types.specs.Types.{Ty, Ty.bool, Ty.ref}
use Rattle.types.specs.Values.{Val, Val.bool_val, Val.label}
use Rattle.program.specs.Tree.{Op, Program}
use Rattle.commands.specs.Noted.{Note}
use Rattle.operators.specs.Apply.{apply}
use Rattle.machine.specs.Rules.{meet}
use Rattle.machine.specs.Published.{lookup, structs, arity}
use Rattle.machine.specs.Machine.{Tagged, tagged, Source, Source.result, given_by, Instance, Machine, with_code, with_instances, with_stability, put}
use Rattle.machine.specs.Machine.{Out.next, Out.refused, read_from, read_at, read, write_to, write_parameter, write_at, write, negate, branch}
use Rattle.machine.specs.Machine.{operated, operate, construct}
use Rattle.machine.specs.Stops.{full}
use Rattle.run.specs.Begin.{resting}

module _ (p : Program) (m : Machine) (l : ℕ) (i : Instance) (c : List Note) {χ ψ : List Tagged} where
  -- not, with a truth on top
  pub negated : {t : Ty} {b : Bool} → ψ ≡ tagged t (bool_val b) ∷ χ → negate p m l i c ψ ≡ next (put m l (with_code i c (tagged bool (bool_val (not b)) ∷ χ)))
  unfolding negate
  negated s = rw s

  -- if n, with a truth on top
  pub branched : (n : ℕ) {t : Ty} {b : Bool} → ψ ≡ tagged t (bool_val b) ∷ χ
      → branch p m l i n c ψ ≡ next (put m l (with_code i (elim b [ true ↦ c | false ↦ drop n c ]) χ))
  unfolding branch
  branched n s = rw s

  -- an operator, with two values on top
  pub operates : (o : Op) {x y : Tagged} → ψ ≡ y ∷ x ∷ χ
      → operate p m l i o c ψ ≡ operated p m l i c χ (result o x.by) (apply o x.is y.is)
  unfolding operate
  operates o s = rw s

  -- rd, with the label of an instance on top whose variable has a value
  pub has_read : (v : ℕ) (f : ℕ → Source) {u : Ty} {r : ℕ} {j : Instance} {x : Val} → ψ ≡ tagged u (label r) ∷ χ → get_elem? m.instances r ≡ some j
      → lookup j.env v ≡ some x
      → read p m l i c ψ v f ≡ next (put m l (with_code i c (tagged (given_by p (f j.struct)) x ∷ χ)))
  unfolding read read_at read_from
  has_read v f s a b = rw (s, a, b)

  module _ (v : ℕ) {u : Ty} {r : ℕ} {x : Tagged} {j : Instance} (s : ψ ≡ tagged u (label r) ∷ x ∷ χ) (a : get_elem? m.instances r ≡ some j) where
    -- a parameter of a null instance
    pub leaves_null : ltb v (arity p j.struct) ≡ true → ltb r (structs p) ≡ true → write p m l i c ψ v ≡ next (put m l (with_code i c χ))
    unfolding write write_at
    leaves_null h k = rw (s, a, write_at, h, k)

    -- a parameter of another instance
    pub writes_param : ltb v (arity p j.struct) ≡ true → ltb r (structs p) ≡ false → {y : Val} → lookup j.env v ≡ some y
        → write p m l i c ψ v ≡ write_to p m l i c χ v x.is r j
    unfolding write write_at write_parameter
    writes_param h k q = rw (s, a, write_at, h, k, q)

    -- a local
    pub writes_local : ltb v (arity p j.struct) ≡ false → write p m l i c ψ v ≡ write_to p m l i c χ v x.is r j
    unfolding write write_at
    writes_local h = rw (s, a, write_at, h)

module _ (p : Program) (m : Machine) (l : ℕ) (i : Instance) (c : List Note) (k : ℕ) (ξ χ : List Tagged) {ψ : List Tagged}
    (s : ψ ≡ ξ ++ χ) (q : length ξ ≡ arity p k) where
  enough : leb (arity p k) (length ψ) ≡ true
  enough = le-leb (arity p k) (length ψ) (rw (s, ← q) (omega (arith, length-append ξ χ)))

  -- as many operands as parameters, and room for an instance
  pub constructs : ltb (length m.instances) max_instances ≡ true
      → construct p m l i k c ψ
      ≡ next
      (with_stability
      (with_instances m
      (set m.instances l (with_code i c (tagged (ref k) (label (length m.instances)) ∷ χ)) ++ resting k (reverse (map (λ x. x.is) ξ)) ∷ []))
      (meet false m.stability))
  unfolding construct
  constructs h =
      let d : drop (arity p k) ψ ≡ χ = rw s (drop_at ξ χ (arity p k) q) in
      let t : take (arity p k) ψ ≡ ξ = rw s (take_at ξ χ (arity p k) q) in
      rw (construct, h, enough, d, t)

-- cons where no label is free
pub finds_full : (p : Program) (m : Machine) (l : ℕ) (i : Instance) (c : List Note) (k : ℕ) (χ : List Tagged)
    → ltb (length m.instances) max_instances ≡ false
    → construct p m l i k c χ ≡ refused full
unfolding construct
finds_full p m l i c k χ h = rw (construct, h)
