use Rattle.std.proofs.Common.{ℕ, ◌+◌, ◌*◌, ◌<◌, ◌≤◌, ◌≡◌, sym, arith, lt-ltb, le-ltb, Ok, Err, None}
use Rattle.types.specs.Limits.{nat_end}
use Rattle.numbers.specs.Scan.{longer, open_at}
use Rattle.numbers.specs.declared.Number.{Number}
use Rattle.numbers.specs.declared.Fault.TheVariants.{Large}
use Rattle.numbers.proofs.longer.Goals as goal

over : (n : Number) (d : ℕ) → nat_end ≤ 10 * n.value + d → longer n d ≡ Err Large
unfolding longer
over n d h = rw (longer, le-ltb (10 * n.value + d) nat_end h)

within : (n : Number) (d : ℕ) → 10 * n.value + d < nat_end → longer n d ≡ Ok (None, open_at n.first n.minus (10 * n.value + d))
unfolding longer
within n d h = rw (longer, lt-ltb (10 * n.value + d) nat_end h)

pub returns-in_default : goal.returns-in_default
returns-in_default c = sym (over c.args.n c.args.d (omega (arith, c.in_default.ensures, c.from.ensures, c.from-2.ensures)))

pub returns : goal.returns
returns c =
    let h = c.in-Ok.ensures in
    let e : c.in-Ok.value ≡ 10 * c.args.n.value + c.args.d = omega (arith, h.1, c.from.ensures, c.from-2.ensures) in
    rw e (sym (within c.args.n c.args.d (omega (arith, h.0, c.from.ensures, c.from-2.ensures))))
