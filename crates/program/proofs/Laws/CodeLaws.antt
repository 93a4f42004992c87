-- Types and variables and the bytes that name them (01, 'Program stream'): each goes to its byte and back.
use Rattle.std.specs.Prelude.{ℕ, ◌+◌, ◌-◌, ◌<◌, ◌≡◌, refl, Bool, true, false, T}
use Rattle.std.proofs.Common.{arith, ap, sym, ◌∙◌, lt-ltb, le-ltb}
use Rattle.std.proofs.Math.Decide.{dec_lt}
use Rattle.types.specs.Limits.{first_local, variables}
use Rattle.types.specs.Types.{Ty, code, IsType, type_of}
use Rattle.program.specs.Tree.{Var, Var.par, Var.loc}
use Rattle.program.specs.Encoding.{var_code}
use Rattle.program.specs.Counts.{IsVar}
use Rattle.types.specs.TypeBytes.{is_type}
use Rattle.types.specs.Reflects.{reflects_iff}
use Rattle.types.proofs.Laws.TypeLaws.{type_of_code, code_is_type, type_exact, code_type_of}
use Rattle.program.specs.Reader.{var_of}

-- the type that an allowed byte names is one of the program's, and has that byte
pub code_type : (S b : ℕ) → T (is_type S b) → (IsType S (type_of b)) × (code (type_of b) ≡ b)
code_type S b h = go (is_type S b) refl h
  where
    go : (u : Bool) → is_type S b ≡ u → T u → (IsType S (type_of b)) × (code (type_of b) ≡ b)
    go true e h =
        let (t, i, c) = (reflects_iff (type_exact S b)).0 e in
        let q : type_of b ≡ t = ap type_of (sym c) ∙ type_of_code t in
        (rw q i, code_type_of S b e)
    go false e h = absurd h

-- the byte of a type of the program is allowed
pub type_allowed : (S : ℕ) (t : Ty) → IsType S t → T (is_type S (code t))
type_allowed S t h = rw (code_is_type S t h) tt

-- a variable's byte names it
pub var_code_of : (v : Var) → IsVar v → (var_code v < variables) × (var_of (var_code v) ≡ v)
unfolding IsVar var_code var_of
var_code_of (par x) h = (omega arith, rw (lt-ltb x 8 h, var_of))
var_code_of (loc x) h = let e : 8 + x - 8 ≡ x = omega arith in (omega arith, rw (le-ltb (8 + x) 8 (omega arith), e, var_of))

-- the variable that a byte names is one, and has that byte
pub code_var : (b : ℕ) → b < variables → (IsVar (var_of b)) × (var_code (var_of b) ≡ b)
unfolding IsVar var_code var_of
code_var b h = go (dec_lt b first_local)
  where
    go : Dec (b < first_local) → (IsVar (var_of b)) × (var_code (var_of b) ≡ b)
    go (yes l) = let k : var_of b ≡ par b = rw (lt-ltb b 8 l, var_of) in rw k (l, refl)
    go (no l) = let k : var_of b ≡ loc (b - 8) = rw (le-ltb b 8 (omega arith), var_of) in rw k (omega arith, omega arith)
