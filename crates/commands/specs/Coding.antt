-- How a command stands in its place of the lent list, which 01 leaves open: one number of 64 bits, with the kind in its lowest
-- byte, the type byte of a push in the next, and the operand in its upper half.
use Rattle.std.specs.Prelude.{ℕ, ◌+◌, ◌*◌, List, map}
use Rattle.types.specs.Limits.{nat_end}
use Rattle.types.specs.Types.{code}
use Rattle.types.specs.Values.{word}
use Rattle.program.specs.Encoding.{op_code}
use Rattle.commands.specs.Commands.{Com, Com.push, Com.push_this, Com.rd, Com.wr, Com.cons, Com.not, Com.oper, Flat, Flat.plain, Flat.if_n}
use Rattle.commands.specs.CommandKinds.{if_kind, this_kind, push_kind, not_kind, cons_kind, op_kind, rd_kind, wr_kind}

unfoldable pub coded : ℕ → ℕ → ℕ → ℕ
coded k t v = k + 256 * t + nat_end * v

unfoldable pub com_word : Com → ℕ
com_word (push t v) = coded push_kind (code t) (word v)
com_word push_this = coded this_kind 0 0
com_word (rd x) = coded rd_kind 0 x
com_word (wr x) = coded wr_kind 0 x
com_word (cons k) = coded cons_kind 0 k
com_word not = coded not_kind 0 0
com_word (oper o) = coded op_kind 0 (op_code o)

unfoldable pub command_word : Flat → ℕ
command_word (plain m) = com_word m
command_word (if_n n) = coded if_kind 0 n

unfoldable pub words : List Flat → List ℕ
words c = map command_word c
