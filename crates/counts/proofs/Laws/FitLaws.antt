-- The three counts together are at most n factorial where n commands are held, so that 12 commands give numbers of 32 bits (02 §14).
use Rattle.std.specs.Prelude.{ℕ, zero, suc, ◌+◌, ◌-◌, ◌*◌, ◌<◌, ◌≤◌, ◌≡◌, refl, Bool, List, [], ◌∷◌, length}
use Rattle.std.proofs.Common.{arith, suc-mul, zero-mul, mul-le-mul_right, sym, subst}
use Rattle.std.proofs.Math.Nat.{one-le-mul}
use Rattle.std.proofs.Math.Bool.{true, false}
use Rattle.std.proofs.Math.Option.{Option, none, some}
use Rattle.types.specs.Values.{Val, Val.int_val, Val.nat_val, Val.bool_val, Val.label}
use Rattle.types.specs.Limits.{nat_end}
use Rattle.program.specs.Tree.{Program}
use Rattle.commands.specs.Noted.{Note}
use Rattle.machine.specs.Machine.{Instance, Machine, Out, Out.next, Out.refused, Out.stuck, command}
use Rattle.machine.specs.Measure.{total, codes}
use Rattle.machine.proofs.Laws.MeasureLaws.{command_shortens}
use Rattle.run.specs.Turns.{labels_from}
use Rattle.run.specs.Holders.{holds_code, flags}
use Rattle.counts.specs.Numbers.{sum}
use Rattle.counts.specs.Tally.{Kind.ends, Kind.stops, value_at, one_if, at_rest, at_refusal, after, holding, tally_by, tally_with, tally}

unfoldable pub factorial : ℕ → ℕ
factorial zero = 1
factorial (suc n) = suc n * factorial n

factorial_some : (n : ℕ) → 1 ≤ factorial n
unfolding factorial
factorial_some zero = omega arith
factorial_some (suc n) = one-le-mul (omega arith) (factorial_some n)

factorial_next : (n : ℕ) → factorial n ≤ factorial (suc n)
unfolding factorial
factorial_next n = omega (arith, suc-mul n (factorial n))

factorial_grows : (k n : ℕ) → factorial n ≤ factorial (k + n)
factorial_grows zero n =
    let e : n ≡ 0 + n = omega arith in let h : factorial n ≤ factorial n = omega arith in subst (λ x. factorial n ≤ factorial x) e h
factorial_grows (suc k) n =
    let h = factorial_grows k n in
    let j = factorial_next (k + n) in
    let e : suc k + n ≡ suc (k + n) = omega arith in
    subst (λ x. factorial n ≤ factorial x) (sym e) (omega (arith, h, j))

factorial_over : (m n : ℕ) → m ≤ n → factorial m ≤ factorial n
factorial_over m n h = go (n - m) (omega arith)
  where
    go : (k : ℕ) → n ≡ k + m → factorial m ≤ factorial n
    go k e = subst (λ x. factorial m ≤ factorial x) (sym e) (factorial_grows k m)

twelve : factorial 12 ≡ 479001600
unfolding factorial
twelve = refl

-- three sums at once
sums_over : (f g k : ℕ → ℕ) (b : ℕ) → ((h : ℕ) → f h + g h + k h ≤ b) → (hs : List ℕ) → sum f hs + sum g hs + sum k hs ≤ length hs * b
unfolding sum
sums_over f g k b q [] = omega (arith, zero-mul b)
sums_over f g k b q (h ∷ hs) = omega (arith, q h, sums_over f g k b q hs, suc-mul (length hs) b)

-- each holder holds a command
held_some : (c : List Note) → holds_code c ≡ true → 1 ≤ length c
unfolding holds_code
held_some [] e = let z : ◌≡◌ {A = ℕ} 0 1 = cc in absurd (omega arith)
held_some (n ∷ c) e = omega arith

module _ (i : Instance) (is : List Instance) (l : ℕ) (rest : length (labels_from (suc l) (flags is)) ≤ codes is) where
  one_more : (t : Bool) → holds_code i.code ≡ t → length (labels_from l (t ∷ flags is)) ≤ length i.code + codes is
  unfolding labels_from
  one_more true e = omega (arith, rest, held_some i.code e)
  one_more false e = omega (arith, rest)

labels_few : (l : ℕ) (is : List Instance) → length (labels_from l (flags is)) ≤ codes is
unfolding labels_from codes total
labels_few l [] = omega arith
labels_few l (i ∷ is) = one_more i is l (labels_few (suc l) is) (holds_code i.code) refl

-- at rest at most one is counted
rest_few : (x : Option Val) → at_rest (ends true) x + at_rest (ends false) x + at_rest stops x ≤ 1
unfolding at_rest one_if
rest_few none = omega arith
rest_few (some (int_val z)) = omega arith
rest_few (some (nat_val n)) = omega arith
rest_few (some (bool_val true)) = omega arith
rest_few (some (bool_val false)) = omega arith
rest_few (some (label r)) = omega arith

-- of a command: at most what its next machine has, and one where it is refused
after_few : (f g k : Machine → ℕ) (o : Out) (b : ℕ) → 1 ≤ b → ((m : Machine) → o ≡ next m → f m + g m + k m ≤ b)
    → after (ends true) f o + after (ends false) g o + after stops k o ≤ b
unfolding after at_refusal
after_few f g k (next m) b h q = q m refl
after_few f g k (refused n) b h q = omega (arith, h)
after_few f g k stuck b h q = omega (arith, h)

by_few : (f g k : ℕ → ℕ) (x y z : ℕ) (hs : List ℕ) (c : ℕ) → length hs ≤ c → x + y + z ≤ 1
    → ((n : ℕ) → c ≡ suc n → (h : ℕ) → f h + g h + k h ≤ factorial n)
    → tally_by f x hs + tally_by g y hs + tally_by k z hs ≤ factorial c
unfolding tally_by factorial
by_few f g k x y z [] c h e q = omega (arith, e, factorial_some c)
by_few f g k x y z (l ∷ hs) zero h e q = absurd (omega (arith, h))
by_few f g k x y z (l ∷ hs) (suc n) h e q =
    let a = sums_over f g k (factorial n) (q n refl) (l ∷ hs) in
    let b = mul-le-mul_right (factorial n) h in
    omega (arith, a, b)

-- the three counts together
pub tally_few : (f : ℕ) (p : Program) (l v : ℕ) (m : Machine) → codes m.instances < f
    → tally_with f p l v (ends true) m + tally_with f p l v (ends false) m + tally_with f p l v stops m ≤ factorial (codes m.instances)
unfolding tally_with
tally_few zero p l v m h = absurd (omega (arith, h))
tally_few (suc f) p l v m h =
    by_few
    (λ k. after (ends true) (λ m'. tally_with f p l v (ends true) m') (command p k m))
    (λ k. after (ends false) (λ m'. tally_with f p l v (ends false) m') (command p k m))
    (λ k. after stops (λ m'. tally_with f p l v stops m') (command p k m))
    (at_rest (ends true) (value_at m l v)) (at_rest (ends false) (value_at m l v)) (at_rest stops (value_at m l v))
    (holding m) (codes m.instances) (labels_few 0 m.instances) (rest_few (value_at m l v))
    (λ n e k.
    after_few (λ m'. tally_with f p l v (ends true) m') (λ m'. tally_with f p l v (ends false) m') (λ m'. tally_with f p l v stops m') (command p k m)
    (factorial n) (factorial_some n)
    (λ m' q.
    let s = command_shortens p k m q in
    let u = tally_few f p l v m' (omega (arith, h, s)) in
    let w = factorial_over (codes m'.instances) n (omega (arith, s, e)) in
    omega (arith, u, w)))

-- 12 commands or fewer: the counts, and their sum, are numbers of 32 bits
pub counts_fit : (p : Program) (l v : ℕ) (m : Machine) → codes m.instances ≤ 12
    → tally p l v (ends true) m + tally p l v (ends false) m + tally p l v stops m < nat_end
unfolding tally
counts_fit p l v m h =
    let a = tally_few (suc (codes m.instances)) p l v m (omega arith) in
    let b = factorial_over (codes m.instances) 12 h in
    let c : factorial 12 ≡ 479001600 = twelve in
    omega (arith, a, b, c)
