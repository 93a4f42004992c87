-- Which bytes open an operator, and which open no form (01, 'Program stream').
use Rattle.std.specs.Prelude.{ℕ, zero, suc, ◌+◌, ◌-◌, ◌<◌, ◌≤◌, ◌≡◌, refl}
use Rattle.std.proofs.Common.{arith}
use Rattle.program.specs.Tree.{Op, Op.op_eq, Op.op_ne, Op.op_le, Op.op_ge, Op.op_lt, Op.op_gt, Op.op_mul, Op.op_div, Op.op_rem, Op.op_add, Op.op_sub}
use Rattle.program.specs.Tree.{Op.op_and, Op.op_or}
use Rattle.program.specs.Reader.{lookup, Form, Form.form_inv, Form.form_make, Form.form_path, Form.form_int, Form.form_nat, Form.form_bool}
use Rattle.program.specs.Reader.{Form.form_null, Form.form_self, Form.form_op, Form.form_none, form}
use Rattle.program.proofs.Laws.ExprLaws.{Opens, opens, op_range}

-- the bytes from 32 to 44 open operators
pub op_form : (b : ℕ) → 32 ≤ b → b ≤ 44 → (o : Op) × (form b ≡ form_op o)
unfolding form lookup
op_form b l h = let e : b ≡ 32 + (b - 32) = omega arith in rw e (go (b - 32) (omega arith))
  where
    go : (i : ℕ) → i < 13 → (o : Op) × (form (32 + i) ≡ form_op o)
    go zero h = (op_eq, refl)
    go (suc zero) h = (op_ne, refl)
    go (suc (suc zero)) h = (op_le, refl)
    go (suc (suc (suc zero))) h = (op_ge, refl)
    go (suc (suc (suc (suc zero)))) h = (op_lt, refl)
    go (suc (suc (suc (suc (suc zero))))) h = (op_gt, refl)
    go (suc (suc (suc (suc (suc (suc zero)))))) h = (op_mul, refl)
    go (suc (suc (suc (suc (suc (suc (suc zero))))))) h = (op_div, refl)
    go (suc (suc (suc (suc (suc (suc (suc (suc zero)))))))) h = (op_rem, refl)
    go (suc (suc (suc (suc (suc (suc (suc (suc (suc zero))))))))) h = (op_add, refl)
    go (suc (suc (suc (suc (suc (suc (suc (suc (suc (suc zero)))))))))) h = (op_sub, refl)
    go (suc (suc (suc (suc (suc (suc (suc (suc (suc (suc (suc zero))))))))))) h = (op_and, refl)
    go (suc (suc (suc (suc (suc (suc (suc (suc (suc (suc (suc (suc zero)))))))))))) h = (op_or, refl)
    go (suc (suc (suc (suc (suc (suc (suc (suc (suc (suc (suc (suc (suc i))))))))))))) h = absurd (omega (arith, h))

-- a byte that opens no form but an operator
abbrev pub Apart : ℕ → Type 0
Apart b = (b ≡ 16 → ⊥) × (b ≡ 17 → ⊥) × (b ≡ 18 → ⊥) × (b ≡ 19 → ⊥) × (b ≡ 20 → ⊥) × (b ≡ 21 → ⊥) × (b ≡ 22 → ⊥) × (b ≡ 23 → ⊥)

pub no_form : (b : ℕ) → Apart b → ((32 ≤ b) × (b ≤ 44) → ⊥) → form b ≡ form_none
no_form b n k = go (form b) (opens b)
  where
    go : (f : Form) → Opens b f → f ≡ form_none
    go form_inv o = absurd (n.0 o)
    go form_make o = absurd (n.1 o)
    go form_path o = absurd (n.2 o)
    go form_int o = absurd (n.3 o)
    go form_nat o = absurd (n.4 o)
    go form_bool o = absurd (n.5 o)
    go form_null o = absurd (n.6 o)
    go form_self o = absurd (n.7 o)
    go (form_op p) o = absurd (k (rw o (op_range p)))
    go form_none o = refl
