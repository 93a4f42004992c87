-- The static side of demand 3 is not empty (01, 'The words of demand 3'): a program refused with 8 and one refused with 7 lead to
-- a command that lacks what it asks for; an accepted one, which constructs and goes both ways through an if, does not.
pub mod Rows
pub mod NumberRows
use Rattle.std.specs.Prelude.{ℕ, ◌≤◌, ◌≡◌, refl, List, [], ◌∷◌, true, false, length}
use Rattle.std.proofs.Common.{arith}
use Rattle.std.proofs.Math.Option.{some}
use mathlib.Core.List.Memᴰ
use Rattle.types.specs.Limits.{step_commands, max_depth}
use Rattle.types.specs.Types.{Ty, Ty.int, Ty.bool, Ty.ref}
use Rattle.types.specs.Values.{value_of}
use Rattle.program.specs.Tree.{Var.par, Var.loc, Op.op_add, Expr.inv, Expr.path, Expr.int_lit, Expr.bool_lit, Expr.self, Expr.op, Exprs.none}
use Rattle.program.specs.Tree.{Exprs.more, Stmt.when, Stmt.declare, Stmt.update, Stmt.create, Stmts, Stmts.end, Stmts.next, Item.call, Items.stop}
use Rattle.program.specs.Tree.{Items.item, Program, args, size, items}
use Rattle.program.specs.Counts.{Counts, CountsExpr, CountsStmts, CountsItems, CountsStep, CountsSchedule, IsPath, IsVar, expr_height, nests, fixes_in}
use Rattle.commands.specs.Commands.{commands}
use Rattle.commands.specs.Context.{Ctx, context, body_local, find_step, step_of}
use Rattle.commands.specs.Names.{Names, declared, Named, names_of_steps, Scheduled, NamesRight}
use Rattle.commands.specs.Typing.{Takes.arith_int, Leads.arrived, Leads.onward, Reaches, Reaches.from_own, Reaches.from_local, Types}
use Rattle.commands.specs.Typing.{Types.t_not, Types.t_path, Types.t_int, Types.t_bool, Types.t_this, Types.t_op, TypesAll.t_none}
use Rattle.commands.specs.Typing.{TypesAll.t_more, TypedStmt.t_when, TypedStmt.t_declare, TypedStmt.t_update, TypedStmt.t_create, Typed}
use Rattle.commands.specs.Typing.{Typed.t_end, Typed.t_next, TypesRight}
use Rattle.types.specs.TypeBytes.{struct_of}
use Rattle.commands.specs.Noted.{Note, Note.n_push, Note.n_this, Note.n_not, Note.n_wr, Note.n_get, walk, store, read_path, write_path}
use Rattle.commands.specs.Noted.{note_expr, note_body, noted, now_written}
use Rattle.commands.specs.Depth.{depth}
use Rattle.commands.specs.Bounds.{Within, program_size, total, items_count}
use Rattle.commands.specs.Tags.{Tags, tags, at_start, Asks, Way, Way.start, Way.on, Way.over}
use Rattle.commands.proofs.Laws.SafeLaws.{ready, way_safe}
use Rattle.commands.proofs.Steps.{step_safe}
use Rattle.commands.specs.Unfold.{compiling}

-- a program has a step that leads to a command which lacks what it asks for
pub record Lacking (p : Program) : Type 0 where
  pub struct : ℕ
  pub name : ℕ
  pub body : Stmts
  pub found : step_of p struct name ≡ some body
  pub command : Note
  pub rest : List Note
  pub place : Tags
  pub way : Way (context p struct body) (noted (context p struct body) body) at_start (command ∷ rest) place
  pub lacks : Asks (context p struct body) command place → ⊥

-- no program with right names and types has one
pub none_lacking : (p : Program) → NamesRight p → TypesRight p → Lacking p → ⊥
none_lacking p names types l = l.lacks (ready (way_safe (step_safe p names types l.struct l.name l.found) l.way))

-- struct 0 has an Int and a Bool, struct 1 an Int and a reference to struct 0; struct 0 has the step 0, which is run once
abbrev pub program : Stmts → Program
program b = record {
  params = (int ∷ bool ∷ []) ∷ (int ∷ ref 0 ∷ []) ∷ [];
  steps = (record { name = 0; body = b } ∷ []) ∷ [] ∷ [];
  schedule = item (call 0) stop;
}

-- its counts are right and it keeps within the limits: it is refused with no number below 7
abbrev pub Formed : Stmts → Type 0
Formed b = Counts (program b) × Within (program b)

formed : (b : Stmts) → CountsStep (2 ∷ 2 ∷ []) (record { name = 0; body = b }) → length (commands b) ≤ step_commands
    → depth (2 ∷ 2 ∷ []) (commands b) 0 0 ≤ max_depth → Formed b
unfolding Counts CountsSchedule CountsItems fixes_in items Within total program_size items_count
formed b c s d = (
  (
    (omega arith, omega arith, ((omega arith, omega arith, (tt, (tt, tt))), ((omega arith, omega arith, (tt, (omega arith, tt))), tt))),
    refl,
    ((omega arith, omega arith, (c, tt)), ((omega arith, omega arith, tt), tt)),
    (omega arith, omega arith, (omega arith, tt), omega arith),
  ),
  (((s, tt), (tt, tt)), omega arith, ((d, tt), (tt, tt)), omega arith),
)

-- its names are right, or wrong, as its step's are
named : (b : Stmts) → Named b 2 [] [] → NamesRight (program b)
unfolding NamesRight names_of_steps Scheduled
named b h = (((λ m. Memᴰ.not-nil m, tt), (h, tt), (tt, tt, tt)), ((0, Memᴰ.head refl), tt))

step_named : (b : Stmts) → NamesRight (program b) → Named b 2 [] []
unfolding NamesRight
step_named b h = h.0.1.0

-- its types too
typed : (b : Stmts) → Typed (context (program b) 0 b) b → TypesRight (program b)
unfolding TypesRight
typed b h = ((h, tt), (tt, tt))

step_typed : (b : Stmts) → TypesRight (program b) → Typed (context (program b) 0 b) b
unfolding TypesRight
step_typed b h = h.0.0

-- Refused with 8 -----------------------------------------------------------------

-- p1 := not 1
abbrev pub negated : Stmts
negated = next (update (par 1) [] (inv (int_lit 1))) end

negated_formed : Formed negated
unfolding CountsStep CountsStmts CountsExpr IsPath IsVar expr_height nests size compiling
negated_formed =
    formed negated
    (omega arith, omega arith, (((omega arith, omega arith, tt), omega arith, omega arith), tt), omega arith)
    (omega arith) (omega arith)

untyped : {G : Ctx} → Typed G negated → ⊥
untyped (t_next (t_update r (t_not d)) ds) = no_bool d
  where
    no_bool : {G : Ctx} → Types G (int_lit 1) bool → ⊥
    no_bool d = elim d [ ]

negated_lacking : Lacking (program negated)
unfolding noted note_body note_expr write_path store struct_of now_written find_step
negated_lacking = record {
  struct = 0;
  name = 0;
  body = negated;
  found = refl;
  command = n_not;
  rest = n_this ∷ n_wr 0 1 ∷ [];
  place = tags (int ∷ []) [] false;
  way = on start;
  lacks = λ n. apart n.0 n.1;
}
  where
    apart : (r : List Ty) → int ∷ [] ≡ bool ∷ r → ⊥
    apart r q = let z : ◌≡◌ {A = ℕ} 0 1 = cc in omega arith

-- its names are right and its types are not: it is refused with 8, and its `not` finds an Int
pub refused_8 : Formed negated × NamesRight (program negated) × (TypesRight (program negated) → ⊥) × Lacking (program negated)
unfolding Named Names
refused_8 =
    (negated_formed, named negated ((omega arith, tt), tt), λ h. untyped (step_typed negated h), negated_lacking)

-- Refused with 7 -----------------------------------------------------------------

-- if false { Int l := 1 }; p0 := l
abbrev pub outlived : Stmts
outlived = next (when (bool_lit 0) (next (declare int 0 (int_lit 1)) end)) (next (update (par 0) [] (path (loc 0) [])) end)

outlived_formed : Formed outlived
unfolding CountsStep CountsStmts CountsExpr IsPath IsVar expr_height nests size compiling
outlived_formed =
    formed outlived (
      omega arith,
      omega arith,
      (
        (omega arith, omega arith, omega arith, ((tt, omega arith, omega arith, omega arith), tt)),
        (((omega arith, omega arith, tt), (omega arith, omega arith, tt), omega arith), tt),
      ),
      omega arith,
    )
    (omega arith) (omega arith)

outlived_lacking : Lacking (program outlived)
unfolding noted note_body note_expr write_path read_path walk store struct_of now_written find_step body_local
outlived_lacking = record {
  struct = 0;
  name = 0;
  body = outlived;
  found = refl;
  command = n_get int 0;
  rest = n_this ∷ n_wr 0 0 ∷ [];
  place = tags (ref 0 ∷ []) [] true;
  way = on (over (on start));
  lacks = λ n. Memᴰ.not-nil n.2;
}

-- its types are right and its names are not: it is refused with 7, and where its if is left out its local was never written
pub refused_7 : Formed outlived × (NamesRight (program outlived) → ⊥) × TypesRight (program outlived) × Lacking (program outlived)
unfolding Named Names body_local
refused_7 = (
  outlived_formed,
  λ h. Memᴰ.not-nil (step_named outlived h).1.0.1,
  typed outlived
      (t_next (t_when t_bool (t_next (t_declare t_int) t_end))
      (t_next (t_update (from_own (onward {k = 0} {x = 0} (omega arith) arrived)) (t_path (from_local arrived))) t_end)),
  outlived_lacking,
)

-- Accepted -----------------------------------------------------------------------

-- if p1 { construct 1 (7, this); Int l := 1; p0 := l + p0 }; p0 := 2
abbrev pub joined : Stmts
joined =
    next
    (when (path (par 1) [])
    (next (create 1 (more (int_lit 7) (more self none)))
    (next (declare int 0 (int_lit 1)) (next (update (par 0) [] (op op_add (path (loc 0) []) (path (par 0) []))) end))))
    (next (update (par 0) [] (int_lit 2)) end)

-- what its step is read against
abbrev pub G₁ : Ctx
G₁ = context (program joined) 0 joined

joined_formed : Formed joined
unfolding CountsStep CountsStmts CountsExpr IsPath IsVar expr_height nests size args compiling
joined_formed =
    let v : IsPath (par 0) [] = (omega arith, omega arith, tt) in
    formed joined (
      omega arith,
      omega arith,
      (
        (
          (omega arith, omega arith, tt),
          omega arith,
          omega arith,
          (
            (omega arith, refl, (omega arith, (tt, tt)), omega arith),
            (
              (tt, omega arith, omega arith, omega arith),
              ((v, (v, v), omega arith), tt),
            ),
          ),
        ),
        ((v, omega arith, omega arith), tt),
      ),
      omega arith,
    )
    (omega arith) (omega arith)

joined_named : NamesRight (program joined)
unfolding Named Names declared
joined_named =
    named joined (
      (omega arith, ((tt, (tt, tt)), ((tt, λ m. Memᴰ.not-nil m), ((omega arith, (Memᴰ.head refl, omega arith)), tt)))),
      ((omega arith, tt), tt),
    )

p0 : Reaches G₁ (par 0) [] int
p0 = from_own (onward {k = 0} {x = 0} (omega arith) arrived)

joined_typed : TypesRight (program joined)
unfolding body_local
joined_typed =
    typed joined
    (t_next
    (t_when (t_path (from_own (onward {k = 0} {x = 1} (omega arith) arrived)))
    (t_next (t_create (t_more t_int (t_more t_this t_none)))
    (t_next (t_declare t_int) (t_next (t_update p0 (t_op arith_int (t_path (from_local arrived)) (t_path p0))) t_end))))
    (t_next (t_update p0 t_int) t_end))

-- its commands behind the if
abbrev pub behind : List Note
behind = n_push int (value_of int 2) ∷ n_this ∷ n_wr 0 0 ∷ []

-- it is accepted, so that no command lacks anything; both ways through its if meet again behind it, without the label that the body
-- leaves and with it
pub accepted : Formed joined × NamesRight (program joined) × TypesRight (program joined) × (Lacking (program joined) → ⊥)
    × Way G₁ (noted G₁ joined) at_start behind (tags [] [] false)
    × Way G₁ (noted G₁ joined) at_start behind (tags (ref 1 ∷ []) (0 ∷ []) false)
unfolding noted note_body note_expr write_path read_path walk store struct_of now_written body_local
accepted = (
  joined_formed,
  joined_named,
  joined_typed,
  none_lacking (program joined) joined_named joined_typed,
  over (on (on start)),
  on (on (on (on (on (on (on (on (on (on (on (on (on (on (on (on start))))))))))))))),
)
