-- A command of an instance as a plan, made of what it looks at, and the plan's application.
use Rattle.std.specs.Prelude.{ℕ, ◌+◌, ◌<◌, ◌≤◌, ◌≡◌, Bool, true, false, not, List, ◌∷◌, get_or, drop}
use Rattle.std.proofs.Math.Option.{some}
use Rattle.std.proofs.Math.ListN.{get_elem?}
use Rattle.types.specs.Limits.{first_local}
use Rattle.types.specs.Types.{Ty, Ty.int, Ty.bool, Ty.ref}
use Rattle.types.specs.Values.{Val, Val.bool_val, Val.label}
use Rattle.program.specs.Tree.{Op, Program}
use Rattle.commands.specs.Context.{params_of}
use Rattle.commands.specs.Typing.{sort}
use Rattle.commands.specs.Tags.{result_type}
use Rattle.commands.specs.Noted.{Note, Note.n_push, Note.n_this, Note.n_not, Note.n_rd, Note.n_wr, Note.n_get, Note.n_set, Note.n_op, Note.n_if, now_written}
use Rattle.operators.specs.Apply.{Answer.value, apply}
use Rattle.machine.specs.Published.{Env, lookup, assign, structs, arity}
use Rattle.machine.specs.Rules.{meet}
use Rattle.machine.specs.Machine.{Tagged, tagged, Instance, Machine, with_env, with_instances, with_stability, leaves_stable}
use Rattle.orders.specs.Deeds.{Deed, Deed.nothing, Deed.reads, Deed.writes}
use Rattle.orders.proofs.Laws.Alter.{alter}

-- a local of its own that a command writes
pub data Local : Type 0 where
  no_local : Local
  a_local : ℕ → Val → Local

-- what a command leaves of the instance that takes it
pub record Own : Type 0 where
  pub code : List Note
  pub stack : List Tagged
  pub written : List ℕ
  pub kept : Local

abbrev pub own : List Note → List Tagged → List ℕ → Local → Own
own c χ w y = record { code = c; stack = χ; written = w; kept = y }

unfoldable pub localized : Local → Env → Env
localized no_local ξ = ξ
localized (a_local x y) ξ = assign ξ (first_local + x) y

abbrev pub owned : Own → Instance → Instance
owned o i = record { struct = i.struct; code = o.code; stack = o.stack; env = localized o.kept i.env; written = o.written }

-- x stored in parameter v
abbrev pub store : ℕ → Val → Instance → Instance
store v x i = with_env i (assign i.env v x)

pub data Plan : Type 0 where
  keeps : Own → Plan
  -- instance, parameter, value, and whether it has that value already
  stores : Own → ℕ → ℕ → Val → Bool → Plan

abbrev pub made : List Instance → ℕ → Plan → List Instance
made is l (keeps o) = alter is l (owned o)
made is l (stores o q v x su) = alter (alter is l (owned o)) q (store v x)

abbrev pub entries : List Bool → Plan → List Bool
entries b (keeps o) = b
entries b (stores o q v x su) = meet su b

abbrev pub applied : Machine → ℕ → Plan → Machine
applied m l P = with_stability (with_instances m (made m.instances l P)) (entries m.stability P)

-- the next command of instance l, which is i: its deed and its plan. It is no cons
pub data Plans (p : Program) (is : List Instance) (l : ℕ) (i : Instance) : Deed → Plan → Type 0 where
  p_push : {t : Ty} {v : Val} {c : List Note} {χ : List Tagged} {w : List ℕ}
      → i.code ≡ n_push t v ∷ c → i.stack ≡ χ → i.written ≡ w
      → Plans p is l i nothing (keeps (own c (tagged t v ∷ χ) w no_local))
  p_this : {k : ℕ} {c : List Note} {χ : List Tagged} {w : List ℕ}
      → i.code ≡ n_this ∷ c → i.stack ≡ χ → i.written ≡ w → i.struct ≡ k
      → Plans p is l i nothing (keeps (own c (tagged (ref k) (label l) ∷ χ) w no_local))
  p_not : {t : Ty} {b : Bool} {c : List Note} {χ : List Tagged} {w : List ℕ}
      → i.code ≡ n_not ∷ c → i.stack ≡ tagged t (bool_val b) ∷ χ → i.written ≡ w
      → Plans p is l i nothing (keeps (own c (tagged bool (bool_val (not b)) ∷ χ) w no_local))
  p_if : {n : ℕ} {t : Ty} {b : Bool} {c : List Note} {χ : List Tagged} {w : List ℕ}
      → i.code ≡ n_if n ∷ c → i.stack ≡ tagged t (bool_val b) ∷ χ → i.written ≡ w
      → Plans p is l i nothing (keeps (own (elim b [ true ↦ c | false ↦ drop n c ]) χ w no_local))
  p_op : {o : Op} {x y : Tagged} {z : Val} {c : List Note} {χ : List Tagged} {w : List ℕ}
      → i.code ≡ n_op o ∷ c → i.stack ≡ y ∷ x ∷ χ → i.written ≡ w → apply o x.is y.is ≡ value z
      → Plans p is l i nothing (keeps (own c (tagged (result_type (sort o) x.by) z ∷ χ) w no_local))
  p_rd : {k v q s : ℕ} {u : Ty} {x : Val} {j : Instance} {c : List Note} {χ : List Tagged} {w : List ℕ}
      → i.code ≡ n_rd k v ∷ c → i.stack ≡ tagged u (label q) ∷ χ → i.written ≡ w
      → get_elem? is q ≡ some j → lookup j.env v ≡ some x → v < first_local → j.struct ≡ s
      → Plans p is l i (reads q v) (keeps (own c (tagged (get_or (params_of p s) v int) x ∷ χ) w no_local))
  p_get : {x : ℕ} {t u : Ty} {y : Val} {c : List Note} {χ : List Tagged} {w : List ℕ}
      → i.code ≡ n_get t x ∷ c → i.stack ≡ tagged u (label l) ∷ χ → i.written ≡ w → lookup i.env (first_local + x) ≡ some y
      → Plans p is l i nothing (keeps (own c (tagged t y ∷ χ) w no_local))
  p_set : {d : Bool} {x : ℕ} {t u : Ty} {y : Tagged} {c : List Note} {χ : List Tagged} {w : List ℕ}
      → i.code ≡ n_set d t x ∷ c → i.stack ≡ tagged u (label l) ∷ y ∷ χ → i.written ≡ w
      → Plans p is l i nothing (keeps (own c χ (now_written (n_set d t x) w) (a_local x y.is)))
  p_skip : {k v q : ℕ} {u : Ty} {y : Tagged} {j : Instance} {c : List Note} {χ : List Tagged} {w : List ℕ}
      → i.code ≡ n_wr k v ∷ c → i.stack ≡ tagged u (label q) ∷ y ∷ χ → i.written ≡ w
      → get_elem? is q ≡ some j → q < structs p → v < arity p j.struct
      → Plans p is l i nothing (keeps (own c χ w no_local))
  p_wr : {k v q : ℕ} {u : Ty} {y : Tagged} {z : Val} {su : Bool} {j : Instance} {c : List Note} {χ : List Tagged} {w : List ℕ}
      → i.code ≡ n_wr k v ∷ c → i.stack ≡ tagged u (label q) ∷ y ∷ χ → i.written ≡ w
      → get_elem? is q ≡ some j → structs p ≤ q → v < arity p j.struct → v < first_local → lookup j.env v ≡ some z
      → leaves_stable p j.struct v y.is (some z) ≡ su
      → Plans p is l i (writes q v) (stores (own c χ w no_local) q v y.is su)
