-- The static side of demand 3: what put each value on a stack, what a command asks of that, the places that commands lead to
-- (both ways through each if), and when commands are safe on every way.
use Rattle.std.specs.Prelude.{ℕ, ◌<◌, ◌≡◌, Bool, true, false, length, get_or, drop}
use mathlib.Core.List.{List, [], ◌∷◌, ◌++◌, reverse, Memᴰ}
use Rattle.types.specs.Types.{Ty, Ty.int, Ty.bool, Ty.ref}
use Rattle.commands.specs.Context.{Ctx, typ}
use Rattle.commands.specs.Typing.{Sort, Sort.equality, Sort.order, Sort.arithmetic, Sort.logic, Takes, sort}
use Rattle.commands.specs.Noted.{Note, Note.n_push, Note.n_this, Note.n_not, Note.n_rd, Note.n_wr, Note.n_get, Note.n_set, Note.n_cons}
use Rattle.commands.specs.Noted.{Note.n_op, Note.n_if, now_written}

-- arithmetic gives its operands' type, the other operators Bool
abbrev pub result_type : Sort → Ty → Ty
result_type equality t = bool
result_type order t = bool
result_type arithmetic t = t
result_type logic t = bool

-- what put each value on the stack, top first; the locals written in this passage; whether the last command was push this
pub record Tags : Type 0 where
  pub stack : List Ty
  pub written : List ℕ
  pub fresh : Bool

abbrev pub tags : List Ty → List ℕ → Bool → Tags
tags χ w f = record { stack = χ; written = w; fresh = f }

-- an instance as it starts a step
abbrev pub at_start : Tags
at_start = tags [] [] false

-- what a command leaves on the stack, whether or not its operands are right
abbrev pub stack_after : Ctx → Note → List Ty → List Ty
stack_after G (n_push t v) χ = t ∷ χ
stack_after G n_this χ = ref G.own ∷ χ
stack_after G n_not χ = bool ∷ drop 1 χ
stack_after G (n_rd k x) χ = typ G k x ∷ drop 1 χ
stack_after G (n_wr k x) χ = drop 2 χ
stack_after G (n_get t x) χ = t ∷ drop 1 χ
stack_after G (n_set d t x) χ = drop 2 χ
stack_after G (n_cons k) χ = ref k ∷ drop (length (G.params k)) χ
stack_after G (n_op o) χ = result_type (sort o) (get_or χ 1 int) ∷ drop 2 χ
stack_after G (n_if n) χ = drop 1 χ

abbrev pub is_this : Note → Bool
is_this (n_push t v) = false
is_this n_this = true
is_this n_not = false
is_this (n_rd k x) = false
is_this (n_wr k x) = false
is_this (n_get t x) = false
is_this (n_set d t x) = false
is_this (n_cons k) = false
is_this (n_op o) = false
is_this (n_if n) = false

abbrev pub next : Ctx → Note → Tags → Tags
next G n x = tags (stack_after G n x.stack) (now_written n x.written) (is_this n)

-- these types stand on the stack, the first on top
abbrev pub Top : List Ty → Tags → Type 0
Top ts x = (r : List Ty) × (x.stack ≡ ts ++ r)

-- what a command asks (01, 'The words of demand 3', by what put the operands there)
abbrev pub Asks : Ctx → Note → Tags → Type 0
Asks G (n_push t v) x = Unit {0}
Asks G n_this x = Unit {0}
Asks G n_not x = Top (bool ∷ []) x
Asks G (n_rd k v) x = (v < length (G.params k)) × Top (ref k ∷ []) x
Asks G (n_wr k v) x = (v < length (G.params k)) × Top (ref k ∷ typ G k v ∷ []) x
Asks G (n_get t v) x = (x.fresh ≡ true) × (t ≡ G.local v) × Memᴰ v x.written × Top (ref G.own ∷ []) x
Asks G (n_set true t v) x = (x.fresh ≡ true) × (t ≡ G.local v) × Top (ref G.own ∷ t ∷ []) x
Asks G (n_set false t v) x = (x.fresh ≡ true) × (t ≡ G.local v) × Memᴰ v x.written × Top (ref G.own ∷ t ∷ []) x
Asks G (n_cons k) x = Top (reverse (G.params k)) x
Asks G (n_op o) x = (t : Ty) × (u : Ty) × Takes (sort o) t u × Top (t ∷ t ∷ []) x
Asks G (n_if n) x = Top (bool ∷ []) x

-- how many commands the other way leaves out
abbrev pub jump : Note → ℕ
jump (n_push t v) = 0
jump n_this = 0
jump n_not = 0
jump (n_rd k x) = 0
jump (n_wr k x) = 0
jump (n_get t x) = 0
jump (n_set d t x) = 0
jump (n_cons k) = 0
jump (n_op o) = 0
jump (n_if n) = n

-- the places that the commands c₀ lead to from x₀
pub data Way (G : Ctx) (c₀ : List Note) (x₀ : Tags) : List Note → Tags → Type 0 where
  start : Way G c₀ x₀ c₀ x₀
  on : {n : Note} {c : List Note} {x : Tags} → Way G c₀ x₀ (n ∷ c) x → Way G c₀ x₀ c (next G n x)
  over : {n : Note} {c : List Note} {x : Tags} → Way G c₀ x₀ (n ∷ c) x → Way G c₀ x₀ (drop (jump n) c) (next G n x)

-- every command on every way from here finds what it asks for
pub data Safe (G : Ctx) : List Note → Tags → Type 0 where
  stop : {x : Tags} → Safe G [] x
  act : (n : Note) {c : List Note} {x : Tags} → Asks G n x → Safe G c (next G n x) → Safe G (drop (jump n) c) (next G n x)
      → Safe G (n ∷ c) x
