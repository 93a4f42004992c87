-- What demand 3 says of a state (01, 'The words of demand 3'), of every existing instance, chosen or not.
-- An operand must be of the type asked for in both senses: by what put it there, and as a value.
use Rattle.std.specs.Prelude.{ℕ, ◌+◌, ◌<◌, ◌≤◌, ◌≡◌, true, false, length, get_or}
use Rattle.std.proofs.Math.Option.{some}
use mathlib.Core.List.{List, [], ◌∷◌, ◌++◌, reverse, Memᴰ}
use Rattle.std.proofs.Math.ListN.{get_elem?}
use Rattle.types.specs.Limits.{first_local}
use Rattle.types.specs.Types.{Ty, Ty.int, Ty.bool, Ty.ref}
use Rattle.types.specs.Values.{Val, Val.label}
use Rattle.types.specs.TypeBytes.{ValueIn}
use Rattle.program.specs.Tree.{Program}
use Rattle.commands.specs.Context.{params_of}
use Rattle.commands.specs.Typing.{Takes, sort}
use Rattle.commands.specs.Noted.{Note, Note.n_push, Note.n_this, Note.n_not, Note.n_rd, Note.n_wr, Note.n_get, Note.n_set, Note.n_cons, Note.n_op, Note.n_if}
use Rattle.table.specs.Table.{Each}
use Rattle.machine.specs.Published.{Env, Env.env, lookup}
use Rattle.machine.specs.Machine.{Tagged, Instance, Machine}

-- a value is of a type if it lies in its range; of a struct, if it is the label of an existing instance of it
abbrev pub ValueAmong : List Instance → Ty → Val → Type 0
ValueAmong is t v = ValueIn (λ k l. (i : Instance) × (get_elem? is l ≡ some i) × (i.struct ≡ k)) t v

module _ (p : Program) (m : Machine) where
  -- in both senses
  abbrev pub Operand : Ty → Tagged → Type 0
  Operand t x = (x.by ≡ t) × (ValueAmong m.instances t x.is)

  module _ (l : ℕ) (i : Instance) where
    -- the instance's own label, put there by push this
    abbrev pub Own : Tagged → Type 0
    Own x = (x.by ≡ ref i.struct) × (x.is ≡ label l)

    -- the local x has been declared in this passage, and holds a value of its type
    abbrev pub Written : Ty → ℕ → Type 0
    Written t x =
        (Memᴰ x i.written) × (v : Val) × (lookup i.env (first_local + x) ≡ some v) × (ValueAmong m.instances t v)

    -- these stand on the stack, the first on top
    abbrev pub Under : List Tagged → Type 0
    Under xs = (χ : List Tagged) × (i.stack ≡ xs ++ χ)

    -- what its next command needs
    abbrev pub Needs : Note → Type 0
    Needs (n_push t v) = Unit {0}
    Needs n_this = Unit {0}
    Needs n_not = (x : Tagged) × Under (x ∷ []) × Operand bool x
    Needs (n_if n) = (x : Tagged) × Under (x ∷ []) × Operand bool x
    Needs (n_op o) =
        (x : Tagged) × (y : Tagged) × Under (y ∷ x ∷ []) × (t : Ty) × (u : Ty) × Takes (sort o) t u × Operand t x × Operand t y
    Needs (n_cons k) = (xs : List Tagged) × Under (reverse xs) × Each Operand (params_of p k) xs
    Needs (n_rd k v) = (x : Tagged) × Under (x ∷ []) × (v < length (params_of p k)) × Operand (ref k) x
    Needs (n_wr k v) =
        (x : Tagged) × (y : Tagged) × Under (y ∷ x ∷ []) × (v < length (params_of p k)) × Operand (ref k) y
        × Operand (get_or (params_of p k) v int) x
    Needs (n_get t v) = (x : Tagged) × Under (x ∷ []) × Own x × Written t v
    Needs (n_set true t v) = (x : Tagged) × (y : Tagged) × Under (y ∷ x ∷ []) × Own y × Operand t x
    Needs (n_set false t v) = (x : Tagged) × (y : Tagged) × Under (y ∷ x ∷ []) × Own y × Operand t x × Written t v

    abbrev pub NextReady : List Note → Type 0
    NextReady [] = Unit {0}
    NextReady (n ∷ c) = Needs n

    abbrev pub TypedParams : Env → Type 0
    TypedParams (env ps ls) = Each (ValueAmong m.instances) (params_of p i.struct) ps

-- the next command of every instance finds what it needs; every parameter holds a value of its type; no stack is higher than d
pub record Right (p : Program) (d : ℕ) (m : Machine) : Type 0 where
  pub ready : (l : ℕ) (i : Instance) → get_elem? m.instances l ≡ some i → NextReady p m l i i.code
  pub typed : (l : ℕ) (i : Instance) → get_elem? m.instances l ≡ some i → TypedParams p m l i i.env
  pub low : (l : ℕ) (i : Instance) → get_elem? m.instances l ≡ some i → length i.stack ≤ d
