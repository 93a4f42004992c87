-- A digit to the base 256 that was 0 is set within 64 bits.
use Rattle.std.specs.Prelude.{ℕ, zero, suc, ◌+◌, ◌*◌, ◌<◌, ◌^◌, ◌≡◌, refl}
use Rattle.std.proofs.Common.{arith}
use Rattle.judge.specs.Facts.{digit}

pub mark_fits : (w x v : ℕ) → x < 8 → w < 2 ^ 64 → v < 256 → digit w x ≡ 0 → w + v * 256 ^ x < 2 ^ 64
unfolding digit
mark_fits w zero v h l k e = omega arith
mark_fits w (suc zero) v h l k e = omega arith
mark_fits w (suc (suc zero)) v h l k e = omega arith
mark_fits w (suc (suc (suc zero))) v h l k e = omega arith
mark_fits w (suc (suc (suc (suc zero)))) v h l k e = omega arith
mark_fits w (suc (suc (suc (suc (suc zero))))) v h l k e = omega arith
mark_fits w (suc (suc (suc (suc (suc (suc zero)))))) v h l k e = omega arith
mark_fits w (suc (suc (suc (suc (suc (suc (suc zero))))))) v h l k e = omega arith
mark_fits w (suc (suc (suc (suc (suc (suc (suc (suc x)))))))) v h l k e = absurd (omega arith)

-- a number below 8 that is none of 0 to 6
pub is_last : (x : ℕ) → x < 8 → (x ≡ 0 → ⊥) → (x ≡ 1 → ⊥) → (x ≡ 2 → ⊥) → (x ≡ 3 → ⊥) → (x ≡ 4 → ⊥) → (x ≡ 5 → ⊥) → (x ≡ 6 → ⊥) → x ≡ 7
is_last zero h a b c d e f g = absurd (a refl)
is_last (suc zero) h a b c d e f g = absurd (b refl)
is_last (suc (suc zero)) h a b c d e f g = absurd (c refl)
is_last (suc (suc (suc zero))) h a b c d e f g = absurd (d refl)
is_last (suc (suc (suc (suc zero)))) h a b c d e f g = absurd (e refl)
is_last (suc (suc (suc (suc (suc zero))))) h a b c d e f g = absurd (f refl)
is_last (suc (suc (suc (suc (suc (suc zero)))))) h a b c d e f g = absurd (g refl)
is_last (suc (suc (suc (suc (suc (suc (suc x))))))) h a b c d e f g = omega (arith, h)
