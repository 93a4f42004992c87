-- `emit::words::coded` meets its contract: the sum is the coding's.
use Rattle.std.proofs.Common.{ℕ, ◌+◌, ◌*◌, ◌<◌, ap, arith}
use Rattle.commands.specs.Coding.{coded}
use Rattle.commands.specs.KindCodes.{kind_code}
use Rattle.commands.specs.declared.kind.Kind.{Kind}
use Rattle.commands.specs.declared.kind.Kind.TheVariants.{Push, This, Rd, Wr, Cons, If, Not, Op}
use Rattle.emit.proofs.words.coded.Goals as goal

pub returns : goal.returns
unfolding coded
returns c = ap (λ (k : ℕ). k + 256 * c.args.typ + 4294967296 * c.args.operand) c.from.ensures
