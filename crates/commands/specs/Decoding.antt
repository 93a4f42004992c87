-- What a place of the lent list says (see Coding): its kind, type byte and operand, and the command that they are of. Beside it the
-- ranges of a command's operands in a program that is accepted (01, 'Program stream' and number 6).
use Rattle.std.specs.Prelude.{ℕ, ◌/◌, ◌%◌, ◌<◌, ◌≤◌, [], ◌∷◌}
use Rattle.std.proofs.Math.Option.{Option, none, some}
use Rattle.types.specs.Limits.{max_structs, nat_end, variables, step_commands}
use Rattle.types.specs.Types.{IsType, type_of}
use Rattle.types.specs.TypeBytes.{ValueOf}
use Rattle.types.specs.Values.{value_of}
use Rattle.program.specs.Reader.{Row.row, lookup, Form, Form.form_inv, Form.form_make, Form.form_path, Form.form_int, Form.form_nat, Form.form_bool}
use Rattle.program.specs.Reader.{Form.form_null, Form.form_self, Form.form_op, Form.form_none, form}
use Rattle.commands.specs.Commands.{Com.push, Com.push_this, Com.rd, Com.wr, Com.cons, Com.not, Com.oper, Flat, Flat.plain, Flat.if_n}
use Rattle.commands.specs.CommandKinds.{if_kind, this_kind, push_kind, not_kind, cons_kind, op_kind, rd_kind, wr_kind}

-- an operator, where its byte is one
unfoldable pub operator : Form → Option Flat
operator form_inv = none
operator form_make = none
operator form_path = none
operator form_int = none
operator form_nat = none
operator form_bool = none
operator form_null = none
operator form_self = none
operator (form_op o) = some (plain (oper o))
operator form_none = none

-- the command of a kind, a type byte and an operand
unfoldable pub command_of : ℕ → ℕ → ℕ → Option Flat
command_of k t v =
    lookup (
    row op_kind (operator (form v))
    ∷ row not_kind (some (plain not))
    ∷ row if_kind (some (if_n v))
    ∷ row cons_kind (some (plain (cons v)))
    ∷ row wr_kind (some (plain (wr v)))
    ∷ row rd_kind (some (plain (rd v)))
    ∷ row this_kind (some (plain push_this))
    ∷ row push_kind (some (plain (push (type_of t) (value_of (type_of t) v))))
    ∷ []
    ) none k

unfoldable pub decode : ℕ → Option Flat
decode w = command_of (w % 256) (w / 256 % 256) (w / nat_end)

-- a type of a program and a value of it; a variable; a struct; no more commands than a step has
abbrev pub InRanges : Flat → Type 0
InRanges (plain (push t v)) = (IsType max_structs t) × (ValueOf t v)
InRanges (plain push_this) = Unit {0}
InRanges (plain (rd x)) = x < variables
InRanges (plain (wr x)) = x < variables
InRanges (plain (cons k)) = k < max_structs
InRanges (plain not) = Unit {0}
InRanges (plain (oper o)) = Unit {0}
InRanges (if_n n) = n ≤ step_commands
