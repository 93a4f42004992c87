-- Laws of each way through the code that finds a role.
use Prim.Native.Nat.{ℕ, zero, suc, ◌-◌}
use Rattle.std.proofs.Math.Numerals.{sub-one}
use Rattle.std.specs.Prelude.{◌≡◌, List, get_or}
use Rattle.std.proofs.Math.Path.{refl, sym, ap}
use Rattle.std.proofs.Common.{◌∙◌}
use borrow.Author.Tests.{ne_eqb}
use Rattle.text_shape.specs.Shape.{Shape.shape, sample}
use Rattle.text_shape.specs.RoleMarks.{by_opened, mark, said, said_below, role, waits, other_role, renamed}
use Rattle.derive.specs.Held.{held}
use Rattle.text_shape.specs.CodeNames.{behind_name_code, behind_id_code, behind_execution_code}
use Rattle.text_shape.specs.RoleNames.{made_role, made_statement_role, called_struct_role, local_struct_role}
use Rattle.tokens.specs.KindNames.{lpar_kind, dot_kind, name_kind}

module _ (q k h : ℕ) (s : List ℕ) {b : ℕ} (e : b ≡ mark q (sample k)) where
  -- by the state that a token meets
  pub role_own : (b ≡ by_opened → ⊥) → said b k ≡ role (shape q (held s h)) k
  unfolding role
  role_own n =
      let f : role (shape q (held s h)) k ≡ said (mark q (sample k)) k = rw (role, ne_eqb (mark q (sample k)) by_opened (λ z. n (e ∙ z))) in
      ap (λ x. said x k) e ∙ sym f

  module _ (o : b ≡ by_opened) where
    role_opened : role (shape q (held s h)) k ≡ said_below (held s h) k
    unfolding role
    role_opened = let f : mark q (sample k) ≡ by_opened = sym e ∙ o in rw (role, f)

    -- by what was opened last, if anything was
    pub role_none : h ≡ 0 → k ≡ role (shape q (held s h)) k
    unfolding said_below held
    role_none z = sym (role_opened ∙ rw z refl)

    pub role_top : (h ≡ 0 → ⊥) → said (mark (get_or s (h - 1) 0) (sample k)) k ≡ role (shape q (held s h)) k
    unfolding said_below held
    role_top n = go h n ∙ sym role_opened
      where
        go : (h : ℕ) → (h ≡ 0 → ⊥) → said (mark (get_or s (h - 1) 0) (sample k)) k ≡ said_below (held s h) k
        go zero n = absurd (n refl)
        go (suc i) n = rw sub-one refl

-- A name that waits, by its state and the kind behind it -------------------------------------------

module _ {q k : ℕ} where
  pub name_type : q ≡ behind_name_code → k ≡ name_kind → local_struct_role ≡ renamed q k
  unfolding renamed waits other_role
  name_type e f = rw (e, f) refl

  pub name_made : q ≡ behind_name_code → (k ≡ name_kind → ⊥) → k ≡ lpar_kind → made_statement_role ≡ renamed q k
  unfolding renamed waits other_role
  name_made e n f = rw (e, f) refl

  pub name_kept : q ≡ behind_name_code → (k ≡ name_kind → ⊥) → (k ≡ lpar_kind → ⊥) → 0 ≡ renamed q k
  unfolding renamed waits other_role
  name_kept e n f = rw (e, other_role, ne_eqb k name_kind n, ne_eqb k lpar_kind f) refl

  pub id_made : q ≡ behind_id_code → k ≡ lpar_kind → made_role ≡ renamed q k
  unfolding renamed waits other_role
  id_made e f = rw (e, f) refl

  pub id_kept : q ≡ behind_id_code → (k ≡ lpar_kind → ⊥) → 0 ≡ renamed q k
  unfolding renamed waits other_role
  id_kept e f = rw (e, other_role, ne_eqb k lpar_kind f) refl

  pub step_struct : q ≡ behind_execution_code → k ≡ dot_kind → called_struct_role ≡ renamed q k
  unfolding renamed waits other_role
  step_struct e f = rw (e, f) refl

  pub step_kept : q ≡ behind_execution_code → (k ≡ dot_kind → ⊥) → 0 ≡ renamed q k
  unfolding renamed waits other_role
  step_kept e f = rw (e, other_role, ne_eqb k dot_kind f) refl

pub none_waits : (q k : ℕ) → (q ≡ behind_name_code → ⊥) → (q ≡ behind_id_code → ⊥) → (q ≡ behind_execution_code → ⊥) → 0 ≡ renamed q k
unfolding renamed waits
none_waits q k e f g = rw (renamed, ne_eqb q behind_name_code e, ne_eqb q behind_id_code f, ne_eqb q behind_execution_code g) refl
