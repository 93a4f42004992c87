-- A command as 01 lists it ('Bench rows'): `push T V` with the type byte and the value, `push this`, `rd x`, `wr x`, `cons k`, `if n`, `not`, `op o`.
use Rattle.std.specs.Prelude.{ℕ, suc, true, false, List, [], ◌∷◌, ◌++◌, pos, negsuc}
use Rattle.types.specs.Types.{IsType, code}
use Rattle.types.specs.TypeBytes.{ValueOf}
use Rattle.types.specs.Values.{Val, Val.int_val, Val.nat_val, Val.bool_val, Val.label}
use Rattle.types.specs.Limits.{max_structs}
use Rattle.program.specs.Encoding.{op_code}
use Rattle.commands.specs.Commands.{Com.push, Com.push_this, Com.rd, Com.wr, Com.cons, Com.not, Com.oper, Flat, Flat.plain, Flat.if_n}
use Rattle.text.specs.Listing.{decimal}

-- in decimal, a minus sign before a negative Int, 0 or 1 for Bool, the label for a null
unfoldable pub shown : Val → List ℕ
shown (int_val (pos n)) = decimal n
shown (int_val (negsuc n)) = 45 ∷ decimal (suc n)
shown (nat_val n) = decimal n
shown (bool_val true) = decimal 1
shown (bool_val false) = decimal 0
shown (label l) = decimal l

unfoldable pub command_text : Flat → List ℕ
command_text (plain (push t v)) = (112 ∷ 117 ∷ 115 ∷ 104 ∷ 32 ∷ []) ++ (decimal (code t) ++ 32 ∷ shown v)
command_text (plain push_this) = 112 ∷ 117 ∷ 115 ∷ 104 ∷ 32 ∷ 116 ∷ 104 ∷ 105 ∷ 115 ∷ []
command_text (plain (rd x)) = (114 ∷ 100 ∷ 32 ∷ []) ++ decimal x
command_text (plain (wr x)) = (119 ∷ 114 ∷ 32 ∷ []) ++ decimal x
command_text (plain (cons k)) = (99 ∷ 111 ∷ 110 ∷ 115 ∷ 32 ∷ []) ++ decimal k
command_text (if_n n) = (105 ∷ 102 ∷ 32 ∷ []) ++ decimal n
command_text (plain not) = 110 ∷ 111 ∷ 116 ∷ []
command_text (plain (oper o)) = (111 ∷ 112 ∷ 32 ∷ []) ++ decimal (op_code o)

-- the type of a push is one of a program, and its value of that type
abbrev pub Listed : Flat → Type 0
Listed (plain (push t v)) = IsType max_structs t × ValueOf t v
Listed (plain push_this) = Unit {0}
Listed (plain (rd x)) = Unit {0}
Listed (plain (wr x)) = Unit {0}
Listed (plain (cons k)) = Unit {0}
Listed (plain not) = Unit {0}
Listed (plain (oper o)) = Unit {0}
Listed (if_n n) = Unit {0}
