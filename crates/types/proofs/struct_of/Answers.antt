-- `struct_of` meets its contract, below the structs' bytes and from them on.
use Rattle.std.proofs.Common.{ℕ, ◌≡◌, ◌-◌, Bool, true, false, ltb, refl, arith, ◌∙◌, ltb-true, ltb-false}
use Rattle.types.specs.Types.{type_of}
use Rattle.types.specs.TypeBytes.{struct_of}
use Rattle.types.proofs.Laws.TypeLaws.{no_struct_byte, struct_byte}
use Rattle.types.proofs.struct_of.Goals as goal

below : (b : ℕ) → b - 16 ≡ struct_of (type_of b)
below b = go (ltb b 16) refl
  where
    go : (t : Bool) → ltb b 16 ≡ t → b - 16 ≡ struct_of (type_of b)
    go true e = let z : b - 16 ≡ 0 = omega (arith, ltb-true b 16 e) in z ∙ no_struct_byte b (ltb-true b 16 e)
    go false e = struct_byte b (ltb-false b 16 e)

pub returns : goal.returns
returns c = c.saturating_sub.ensures ∙ below c.args.code
