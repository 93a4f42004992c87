-- The ways through one command of the machine (000, section 4; 01, 'Numbers from the state'), with what each finds on the stack
-- and in the table. Law `performed` of PerformedLaws says that there are no others, so that a law of commands is proved by these cases.
use Rattle.std.specs.Prelude.{ℕ, ◌+◌, ◌<◌, ◌≤◌, ◌≡◌, Bool, true, false, not, List, [], ◌∷◌, ◌++◌, length, set, drop}
use Rattle.std.proofs.Math.Option.{none, some}
use Rattle.std.proofs.Math.ListN.{get_elem?}
use Rattle.types.specs.Limits.{max_instances, first_local}
use Rattle.types.specs.Types.{Ty, Ty.bool, Ty.ref}
use Rattle.types.specs.Values.{Val, Val.bool_val, Val.label}
use Rattle.program.specs.Tree.{Op, Program}
use Rattle.commands.specs.Typing.{sort}
use Rattle.commands.specs.Noted.{Note, Note.n_push, Note.n_this, Note.n_not, Note.n_rd, Note.n_wr, Note.n_get, Note.n_set, Note.n_cons, Note.n_op, Note.n_if}
use Rattle.operators.specs.Apply.{Answer.value, Answer.outside, apply}
use Rattle.machine.specs.Published.{lookup, assign, structs, arity}
use Rattle.machine.specs.Rules.{meet}
use Rattle.machine.specs.Machine.{Tagged, tagged, Source, Source.variable, Source.local, given_by, Instance, Machine, Out, Out.next}
use Rattle.machine.specs.Machine.{Out.refused, Out.stuck, with_code, update_env, with_instances, put, with_stability, leaves_stable, made}
use Rattle.machine.specs.Stops.{full, exceeded}
use Rattle.commands.specs.Tags.{result_type}

-- rd of the variable v of an instance, with where its value comes from by that instance's struct; wr of it
pub data Reads : Note → ℕ → (ℕ → Source) → Type 0 where
  parameter : {k x : ℕ} → Reads (n_rd k x) x (λ j. variable j x)
  of_local : {t : Ty} {x : ℕ} → Reads (n_get t x) (first_local + x) (λ j. local t)

pub data Writes : Note → ℕ → Type 0 where
  to_parameter : {k x : ℕ} → Writes (n_wr k x) x
  to_local : {d : Bool} {t : Ty} {x : ℕ} → Writes (n_set d t x) (first_local + x)

-- instance l, which is i, takes a command with r after it
pub data Performed (p : Program) (m : Machine) (l : ℕ) (i : Instance) (r : List Note) : Note → Out → Type 0 where
  pushed : {t : Ty} {v : Val} → Performed p m l i r (n_push t v) (next (put m l (with_code i r (tagged t v ∷ i.stack))))
  pushed_this : Performed p m l i r n_this (next (put m l (with_code i r (tagged (ref i.struct) (label l) ∷ i.stack))))
  negated : {t : Ty} {b : Bool} {χ : List Tagged}
      → i.stack ≡ tagged t (bool_val b) ∷ χ
      → Performed p m l i r n_not (next (put m l (with_code i r (tagged bool (bool_val (not b)) ∷ χ))))
  read_one : {n : Note} {v q : ℕ} {s : ℕ → Source} {u : Ty} {χ : List Tagged} {j : Instance} {x : Val}
      → Reads n v s
      → i.stack ≡ tagged u (label q) ∷ χ
      → get_elem? m.instances q ≡ some j
      → lookup j.env v ≡ some x
      → Performed p m l i r n (next (put m l (with_code i r (tagged (given_by p (s j.struct)) x ∷ χ))))
  skipped : {n : Note} {v q : ℕ} {u : Ty} {y : Tagged} {χ : List Tagged} {j : Instance}
      → Writes n v
      → i.stack ≡ tagged u (label q) ∷ y ∷ χ
      → get_elem? m.instances q ≡ some j
      → q < structs p
      → v < arity p j.struct
      → Performed p m l i r n (next (put m l (with_code i r χ)))
  wrote : {n : Note} {v q : ℕ} {u : Ty} {y : Tagged} {χ : List Tagged} {j : Instance}
      → Writes n v
      → i.stack ≡ tagged u (label q) ∷ y ∷ χ
      → get_elem? m.instances q ≡ some j
      → (q < structs p → v < arity p j.struct → ⊥)
      → (v < arity p j.struct → lookup j.env v ≡ none → ⊥)
      → Performed p m l i r n
      (next
      (with_stability
      (with_instances m (update_env (set m.instances l (with_code i r χ)) q (assign j.env v y.is)))
      (meet (leaves_stable p j.struct v y.is (lookup j.env v)) m.stability)))
  calculated : {o : Op} {x y : Tagged} {χ : List Tagged} {z : Val}
      → i.stack ≡ y ∷ x ∷ χ
      → apply o x.is y.is ≡ value z
      → Performed p m l i r (n_op o) (next (put m l (with_code i r (tagged (result_type (sort o) x.by) z ∷ χ))))
  exceeding : {o : Op} {x y : Tagged} {χ : List Tagged}
      → i.stack ≡ y ∷ x ∷ χ
      → apply o x.is y.is ≡ outside
      → Performed p m l i r (n_op o) (refused exceeded)
  constructed : {k : ℕ}
      → arity p k ≤ length i.stack
      → length m.instances < max_instances
      → Performed p m l i r (n_cons k)
      (next
      (with_stability
      (with_instances m
      (set m.instances l (with_code i r (tagged (ref k) (label (length m.instances)) ∷ drop (arity p k) i.stack))
      ++ made p m l i k (arity p k) i.stack ∷ []))
      (meet false m.stability)))
  filled : {k : ℕ} → max_instances ≤ length m.instances → Performed p m l i r (n_cons k) (refused full)
  branched : {n : ℕ} {t : Ty} {b : Bool} {χ : List Tagged}
      → i.stack ≡ tagged t (bool_val b) ∷ χ
      → Performed p m l i r (n_if n) (next (put m l (with_code i (elim b [ true ↦ r | false ↦ drop n r ]) χ)))
  no_way : {n : Note} → Performed p m l i r n stuck
