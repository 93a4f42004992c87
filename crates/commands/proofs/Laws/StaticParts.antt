-- What right names and types say of the parts of an expression or a statement (01, numbers 7 and 8), for the proof that a step is safe.
use Rattle.std.specs.Prelude.{ℕ, ◌≡◌, refl, List, [], ◌∷◌}
use mathlib.Core.List.Memᴰ
use Rattle.types.specs.Types.{Ty, Ty.int, Ty.nat, Ty.bool, Ty.ref}
use Rattle.program.specs.Tree.{Expr, Expr.inv, Expr.make, Expr.path, Expr.int_lit, Expr.nat_lit, Expr.bool_lit, Expr.null, Expr.self, Expr.op, Stmt}
use Rattle.program.specs.Tree.{Stmt.when, Stmt.declare, Stmt.update, Stmt.create}
use Rattle.commands.specs.Context.{Ctx}
use Rattle.commands.specs.Names.{live_after}
use Rattle.commands.specs.Typing.{Sort, sort, Takes, Takes.any_equal, Takes.order_int, Takes.order_nat, Takes.arith_int, Takes.arith_nat}
use Rattle.commands.specs.Typing.{Takes.logic_bool, Leads, Leads.arrived, Reaches, Types, Types.t_not, Types.t_make, Types.t_path, Types.t_int}
use Rattle.commands.specs.Typing.{Types.t_nat, Types.t_bool, Types.t_null, Types.t_this, Types.t_op, TypesAll}
use Rattle.commands.specs.Tags.{result_type}
use Rattle.commands.specs.Living.{Among}

pub widen : {l w : List ℕ} (x : ℕ) → Among l w → Among (x ∷ l) (x ∷ w)
widen x i y (Memᴰ.head e) = Memᴰ.head e
widen x i y (Memᴰ.tail m) = Memᴰ.tail (i y m)

-- what lives before a statement lives behind it
pub live_on : (s : Stmt) (l : List ℕ) → Among l (live_after s l)
live_on (when e b) l x m = m
live_on (declare t y e) l x m = Memᴰ.tail m
live_on (update v vs e) l x m = m
live_on (create k es) l x m = m

pub stays : {G : Ctx} {t u : Ty} → Leads G t [] u → u ≡ t
stays arrived = refl

pub result_of : {s : Sort} {t u : Ty} → Takes s t u → u ≡ result_type s t
result_of any_equal = refl
result_of order_int = refl
result_of order_nat = refl
result_of arith_int = refl
result_of arith_nat = refl
result_of logic_bool = refl

module _ (G : Ctx) where
  -- what the type of an expression says of its parts
  abbrev pub Parts : Expr → Ty → Type 0
  Parts (inv e) t = (t ≡ bool) × Types G e bool
  Parts (make k es) t = (t ≡ ref k) × TypesAll G es (G.params k)
  Parts (path v vs) t = Reaches G v vs t
  Parts (int_lit w) t = t ≡ int
  Parts (nat_lit w) t = t ≡ nat
  Parts (bool_lit w) t = t ≡ bool
  Parts (null u) t = t ≡ u
  Parts self t = t ≡ ref G.own
  Parts (op o a b) u = (t : Ty) × Takes (sort o) t u × Types G a t × Types G b t

  pub parts : {e : Expr} {t : Ty} → Types G e t → Parts e t
  parts (t_not d) = (refl, d)
  parts (t_make d) = (refl, d)
  parts (t_path r) = r
  parts t_int = refl
  parts t_nat = refl
  parts t_bool = refl
  parts t_null = refl
  parts t_this = refl
  parts (t_op {t = t} r d d') = (t, r, d, d')
