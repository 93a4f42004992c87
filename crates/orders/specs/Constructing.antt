-- A step that constructs nothing (02 §11): no cons among its commands, whether they are taken or not.
use Rattle.std.specs.Prelude.{ℕ, ◌≡◌}
use Rattle.std.proofs.Math.Option.{some}
use Rattle.program.specs.Tree.{Stmts, Program}
use Rattle.commands.specs.Commands.{Com, Com.push, Com.push_this, Com.rd, Com.wr, Com.cons, Com.not, Com.oper, Coms, Coms.nil, Coms.act}
use Rattle.commands.specs.Commands.{Coms.if_then, body_coms}
use Rattle.machine.specs.Published.{StepCall, called}

-- a command other than cons
abbrev pub NoCons : Com → Type 0
NoCons (push t v) = Unit {0}
NoCons push_this = Unit {0}
NoCons (rd v) = Unit {0}
NoCons (wr v) = Unit {0}
NoCons (cons k) = ⊥
NoCons not = Unit {0}
NoCons (oper o) = Unit {0}

-- commands of which none is a cons, the bodies of ifs included
unfoldable pub MakesNone : Coms → Type 0
MakesNone nil = Unit {0}
MakesNone (act m c) = (NoCons m) × (MakesNone c)
MakesNone (if_then d c) = (MakesNone d) × (MakesNone c)

-- the step that a call starts constructs nothing, on whatever struct has it
abbrev pub ConstructsNothing : Program → StepCall → Type 0
ConstructsNothing p a = (k : ℕ) (b : Stmts) → called p a k ≡ some b → MakesNone (body_coms b)
