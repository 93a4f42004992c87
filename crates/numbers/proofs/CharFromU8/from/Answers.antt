use Rattle.std.proofs.Common.{ℕ, ◌≡◌, ◌≢◌, ◌⊎◌, ◌-◌, ◌<◌, ◌≤◌, ◌∙◌, sym, arith, ne_eqb, lt-ltb, le-ltb}
use mathlib.Core.Logic.{inl, inr}
use Rattle.numbers.specs.Scan.{char_of, comma_of, digit_of}
use Rattle.numbers.specs.declared.Char.TheVariants.{Digit, Blank, Other}
use Rattle.numbers.proofs.CharFromU8.from.Goals as goal

blank : (c : ℕ) → (c ≡ 9) ⊎ ((c ≡ 13) ⊎ ((c ≡ 32) ⊎ (c ≡ 44))) → Blank ≡ char_of c
unfolding char_of
blank c (inl e) = rw e
blank c (inr (inl e)) = rw e
blank c (inr (inr (inl e))) = rw e
blank c (inr (inr (inr e))) = rw e

-- a byte that parts no numbers
late : (c : ℕ) → c ≢ 10 → c ≢ 45 → c ≢ 32 → c ≢ 9 → c ≢ 13 → c ≢ 44 → char_of c ≡ digit_of c
unfolding char_of
late c f g h i j k = rw (char_of, ne_eqb c 10 f, ne_eqb c 45 g, ne_eqb c 32 h, ne_eqb c 9 i, comma_of, ne_eqb c 13 j, ne_eqb c 44 k)

below : (c : ℕ) → c < 48 → digit_of c ≡ Other
below c h = rw (digit_of, lt-ltb c 48 h)

above : (c : ℕ) → 58 ≤ c → digit_of c ≡ Other
above c h = let a : 48 ≤ c = omega arith in rw (digit_of, le-ltb c 48 a, le-ltb c 58 h)

digit : (c : ℕ) → 48 ≤ c → c < 58 → digit_of c ≡ Digit (c - 48)
digit c a h = rw (digit_of, le-ltb c 48 a, lt-ltb c 58 h)

pub returns-in-10 : goal.returns-in-10
unfolding char_of
returns-in-10 c = rw c.in-10.is

pub returns-in-45 : goal.returns-in-45
unfolding char_of
returns-in-45 c = rw c.in-45.is

pub returns-in-32 : goal.returns-in-32
returns-in-32 c = blank _ c.in-32.is

pub returns-in-48-to-57 : goal.returns-in-48-to-57
returns-in-48-to-57 c =
    sym (late c.args.c (omega arith) (omega arith) (omega arith) (omega arith) (omega arith) (omega arith)
    ∙ digit c.args.c (omega arith) (omega arith))

pub returns-in_default : goal.returns-in_default
returns-in_default c =
    sym (late c.args.c (grind arith) (grind arith) (grind arith) (grind arith) (grind arith) (grind arith) ∙ below c.args.c (omega arith))

pub returns-in_default-2 : goal.returns-in_default-2
returns-in_default-2 c =
    sym (late c.args.c (omega arith) (omega arith) (omega arith) (omega arith) (omega arith) (omega arith) ∙ above c.args.c (omega arith))
