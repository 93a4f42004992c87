-- The place of an act and of a role in the tables: for each code and each byte of a kind, also those that are none.
use Rattle.std.specs.Prelude.{ℕ, ◌+◌, ◌*◌, ◌/◌, ◌%◌, ◌<◌, ◌≤◌, ◌≡◌}
use native.Mathlib.Omega.{arith}
use Rattle.std.proofs.Math.Path.{refl, sym, ap}
use Rattle.std.proofs.Common.{◌∙◌}
use Rattle.std.proofs.Math.ListN.{get_or, get_or-eq_default}
use Rattle.tokens.specs.Tokens.{Word.w_string, Token, Token.word}
use Rattle.text_shape.specs.CodeNames.{codes}
use Rattle.text_shape.specs.Shape.{acts, act, samples, sample}
use Rattle.text_shape.specs.RoleMarks.{by_kind, marks, mark}
use Rattle.derive.specs.Table.{below_number, entries, act_at, mark_at, next_of, opened_of, told}
use Rattle.derive.specs.TableLaws.{entry_told}
use Rattle.text_shape.specs.declared.Act.TheVariants.{Go, Open, Below, Stop}
use Rattle.tokens.specs.KindNames.{kinds}
use borrow.Author.Tests.{eq-eqb, ne_eqb}

-- of every table of rows
module _ {A : Type 0} (f : ℕ → Token → A) (q k : ℕ) where
  pub index_in : k < kinds → f ((q * kinds + k) / kinds) (sample ((q * kinds + k) % kinds)) ≡ f q (sample k)
  index_in h =
      let d : (q * kinds + k) / kinds ≡ q = omega arith in
      let m : (q * kinds + k) % kinds ≡ k = omega arith in
      rw (d, m) refl

  pub index_row : kinds ≤ k → f ((q * kinds) / kinds) (sample ((q * kinds) % kinds)) ≡ f q (sample k)
  unfolding sample samples
  index_row h =
      let d : (q * kinds) / kinds ≡ q = omega arith in
      let m : (q * kinds) % kinds ≡ 0 = omega arith in
      rw (d, m) (ap (f q) (first ∙ sym (get_or-eq_default samples (word w_string) {n = k} h)))
    where
      first : get_or samples 0 (word w_string) ≡ word w_string
      first = refl

-- what no code is does nothing and says nothing
module _ (q k : ℕ) (h : codes ≤ q) where
  pub act_out : act_at 0 ≡ act q (sample k)
  unfolding act_at act acts
  act_out = sym (get_or-eq_default (acts (sample k)) Stop {n = q} h)

  pub mark_out : mark_at 0 ≡ mark q (sample k)
  unfolding mark_at mark marks
  mark_out = sym (get_or-eq_default (marks (sample k)) by_kind {n = q} h)

-- the act of an entry by its numbers
module _ {i n : ℕ} (l : i < entries) (e : n ≡ next_of (act_at i)) where
  by_next : told n (opened_of (act_at i)) ≡ act_at i
  by_next = ap (λ m. told m (opened_of (act_at i))) e ∙ entry_told i l

  pub told_stop : n ≡ 0 → Stop ≡ act_at i
  unfolding told
  told_stop z = let h : told n (opened_of (act_at i)) ≡ Stop = rw (eq-eqb n 0 z, told) refl in sym h ∙ by_next

  pub told_below : (n ≡ 0 → ⊥) → n ≡ below_number → Below ≡ act_at i
  unfolding told
  told_below y z = let h : told n (opened_of (act_at i)) ≡ Below = rw (ne_eqb n 0 y, eq-eqb n below_number z, told) refl in sym h ∙ by_next

  module _ {o : ℕ} (y : n ≡ 0 → ⊥) (z : n ≡ below_number → ⊥) (g : o ≡ opened_of (act_at i)) where
    pub told_go : o ≡ 0 → Go n ≡ act_at i
    unfolding told
    told_go w =
        let h : told n (opened_of (act_at i)) ≡ Go n = rw (ne_eqb n 0 y, ne_eqb n below_number z, eq-eqb (opened_of (act_at i)) 0 (sym g ∙ w), told) refl in
        sym h ∙ by_next

    pub told_open : (o ≡ 0 → ⊥) → Open n o ≡ act_at i
    unfolding told
    told_open w =
        let h : told n (opened_of (act_at i)) ≡ Open n (opened_of (act_at i)) =
        rw (ne_eqb n 0 y, ne_eqb n below_number z, ne_eqb (opened_of (act_at i)) 0 (λ v. w (g ∙ v)), told) refl in
        ap (λ m. Open n m) g ∙ sym h ∙ by_next
