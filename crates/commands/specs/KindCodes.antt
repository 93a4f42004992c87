-- The kinds of commands as an enum of the code, each with its number in the lent list, which `CommandKinds` names.
use Rattle.std.specs.Prelude.{ℕ, ◌≡◌, Result, Ok, Err}
use Rattle.commands.specs.CommandKinds.{push_kind, this_kind, rd_kind, wr_kind, cons_kind, if_kind, not_kind, op_kind}
use Rattle.commands.specs.declared.kind.Kind.{Kind}
use Rattle.commands.specs.declared.kind.Kind.TheVariants.{Push, This, Rd, Wr, Cons, If, Not, Op}
use Rattle.commands.specs.declared.kind.UnknownKind.{UnknownKind}

abbrev pub kind_code : Kind → ℕ
kind_code Push = push_kind
kind_code This = this_kind
kind_code Rd = rd_kind
kind_code Wr = wr_kind
kind_code Cons = cons_kind
kind_code If = if_kind
kind_code Not = not_kind
kind_code Op = op_kind

-- the kind that a number names has that number; where it names none, no kind has it
abbrev pub Names : ℕ → Result Kind UnknownKind → Type 0
Names n (Ok k) = kind_code k ≡ n
Names n (Err e) = (k : Kind) → kind_code k ≡ n → ⊥
