-- `turned` meets its contract: by what the step is.
use Rattle.std.proofs.Common.{ℕ, ◌+◌, ◌≤◌, ◌<◌, ◌≡◌, arith, rules, sym, ap, Bool, true, false, lt-ltb, le-ltb, Ok, Err, Some}
use Rattle.std.proofs.Math.Seq.{set_out}
use Rattle.numbers.specs.Scan.{Turn, step, turn_of, turn_into}
use Rattle.numbers.specs.declared.Number.{Number}
use Rattle.numbers.specs.declared.State.{State}
use Rattle.numbers.specs.declared.ScanError.TheVariants.{Long}
use Rattle.numbers.proofs.turned.Goals as goal

-- a number, where there is no place for it, and where there is one
full : (room at n : ℕ) (w : Number) (u : State) → room ≤ n → turn_of room at n (Ok (Some w, u)) ≡ Err Long
unfolding turn_of
full room at n w u h = ap {A = Bool} {B = Turn} (λ b. elim b [ true ↦ Ok (u, n + 1) | false ↦ Err Long ]) (le-ltb n room h)

placed : (room at n : ℕ) (w : Number) (u : State) → n < room → turn_of room at n (Ok (Some w, u)) ≡ Ok (u, n + 1)
unfolding turn_of
placed room at n w u h = ap {A = Bool} {B = Turn} (λ b. elim b [ true ↦ Ok (u, n + 1) | false ↦ Err Long ]) (lt-ltb n room h)

pub returns-then-out-n : goal.returns-then-out-n
unfolding turn_into
returns-then-out-n c =
    let a = c.in-Ok-Some-default in
    let e : step c.args.s c.args.c ≡ Ok (Some a.number, a.next) = rw (← c.stepped.ensures, a.is, a.field-0-0-is) in
    record { value = rw e (sym (full _ _ _ _ _ c.if-out-n.true)); bound = tt; out_after = rw e (sym (set_out _ _ _ c.if-out-n.true)) }

pub returns-else-out-n : goal.returns-else-out-n
unfolding turn_into
returns-else-out-n c =
    let a = c.in-Ok-Some-default in
    let e : step c.args.s c.args.c ≡ Ok (Some a.number, a.next) = rw (← c.stepped.ensures, a.is, a.field-0-0-is) in
    record { value = rw e (sym (placed _ _ _ _ _ c.if-out-n.false)); bound = omega (arith, c.if-out-n.false); out_after = rw (e, c.from.ensures) }

pub returns-in-Ok-None-default : goal.returns-in-Ok-None-default
unfolding turn_of turn_into
returns-in-Ok-None-default c = search rules

pub returns-in-Err-Strange : goal.returns-in-Err-Strange
unfolding turn_of turn_into
returns-in-Err-Strange c = search rules

pub returns-in-Err-Large : goal.returns-in-Err-Large
unfolding turn_of turn_into
returns-in-Err-Large c = search rules
