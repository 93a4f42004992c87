-- Rows that pin what no law does: each form of a command as 01 lists it ('Bench rows'). The laws say that the digits mean the numbers, and
-- that a command's word has the command's text.
use Rattle.std.specs.Prelude.{ℕ, ◌≡◌, refl, true, false, List, [], ◌∷◌, ◌++◌, map, pos, negsuc}
use Prim.Native.Char.{code as code_point}
use Prim.Native.String.{String, [] as none_left, ◌∷◌ as ◌then◌}
use Rattle.types.specs.Types.{Ty.int, Ty.nat, Ty.bool, Ty.ref, code}
use Rattle.types.specs.Values.{Val.int_val, Val.nat_val, Val.bool_val, Val.label}
use Rattle.program.specs.Tree.{Op.op_add}
use Rattle.program.specs.Encoding.{op_code}
use Rattle.commands.specs.Commands.{Com.push, Com.push_this, Com.rd, Com.wr, Com.cons, Com.not, Com.oper, Flat, Flat.plain, Flat.if_n}
use Rattle.text.specs.Listing.{digits, decimal}
use Rattle.text.specs.CommandText.{shown, command_text}

-- the bytes of a text; of lines, each with its line feed
unfoldable pub bytes : String → List ℕ
bytes none_left = []
bytes (c then s) = code_point c ∷ bytes s

unfoldable pub line_bytes : List String → List ℕ
line_bytes [] = []
line_bytes (s ∷ ss) = bytes s ++ 10 ∷ line_bytes ss

-- a command, and the text that lists it
pub record Form : Type 0 where
  pub command : Flat
  pub text : String

abbrev form : Flat → String → Form
form c t = record { command = c; text = t }

unfoldable pub forms : List Form
forms =
    form (plain push_this) "push this"
    ∷ form (plain (push int (int_val (pos 2147483647)))) "push 0 2147483647"
    ∷ form (plain (push int (int_val (negsuc 2147483647)))) "push 0 -2147483648"
    ∷ form (plain (push nat (nat_val 4294967295))) "push 1 4294967295"
    ∷ form (plain (push bool (bool_val true))) "push 2 1"
    ∷ form (plain (push bool (bool_val false))) "push 2 0"
    ∷ form (plain (push (ref 15) (label 15))) "push 31 15"
    ∷ form (plain (rd 0)) "rd 0"
    ∷ form (plain (wr 15)) "wr 15"
    ∷ form (plain (oper op_add)) "op 41"
    ∷ form (plain not) "not"
    ∷ form (if_n 63) "if 63"
    ∷ form (plain (cons 1)) "cons 1"
    ∷ []

-- every command has its text
pub forms_right : map (λ f. command_text f.command) forms ≡ map (λ f. bytes f.text) forms
unfolding forms bytes command_text shown digits decimal code op_code
forms_right = refl
