-- What the tables of roles say, in a row as they are lent.
use Rattle.std.specs.Prelude.{ℕ, zero, suc, ◌+◌, ◌*◌, ◌<◌, ◌≡◌, refl, List, [], ◌∷◌, ◌++◌, length, get_or}
use Rattle.std.proofs.Common.{arith, ap, ◌∙◌, length-append, get_or-append-add}
use Rattle.std.proofs.Math.ListN.{get_or-append}
use Rattle.program.specs.Counts.{All}
use Rattle.compose.specs.Writing.{behind_marks, forms, stack_marks, pour_marks}
use Rattle.composing.specs.RoleTable.{shifted, in_a_row, mark_tables, mark_bytes}
use Rattle.text_shape.specs.RoleNames.{role_count}
use Rattle.tokens.specs.Bytes.{zero_byte}

shifted_long : (l : List ℕ) → length (shifted l) ≡ length l
unfolding shifted
shifted_long [] = refl
shifted_long (b ∷ l) = ap suc (shifted_long l)

shifted_at : (l : List ℕ) (i : ℕ) → i < length l → get_or (shifted l) i 0 ≡ zero_byte + get_or l i 0
unfolding shifted
shifted_at [] i h = absurd (omega arith)
shifted_at (b ∷ l) zero h = refl
shifted_at (b ∷ l) (suc i) h = shifted_at l i (omega arith)

-- there are 81 roles
abbrev Long : List (List ℕ) → Type 0
Long ls = All (λ l. length l ≡ role_count) ls

row_long : (ls : List (List ℕ)) → Long ls → length (in_a_row ls) ≡ role_count * length ls
unfolding in_a_row
row_long [] a = refl
row_long (l ∷ ls) a =
    let b = length-append (shifted l) (in_a_row ls) in
    let here = shifted_long l in
    let rest = row_long ls a.1 in
    omega (arith, a.0, b, here, rest)

row_at : (ls : List (List ℕ)) (k c : ℕ) → Long ls → k < length ls → c < role_count
    → get_or (in_a_row ls) (role_count * k + c) 0 ≡ zero_byte + get_or (get_or ls k []) c 0
unfolding in_a_row
row_at [] k c a h i = absurd (omega arith)
row_at (l ∷ ls) zero c a h i =
    let here = shifted_long l in
    let e : role_count * 0 + c ≡ c = omega arith in
    ap (λ n. get_or (shifted l ++ in_a_row ls) n 0) e
    ∙ get_or-append (shifted l) (in_a_row ls) 0 c (omega (arith, here, a.0, i)) ∙ shifted_at l c (omega (arith, a.0, i))
row_at (l ∷ ls) (suc k) c a h i =
    let here = shifted_long l in
    let e : role_count * suc k + c ≡ length (shifted l) + (role_count * k + c) = omega (arith, here, a.0) in
    ap (λ n. get_or (shifted l ++ in_a_row ls) n 0) e ∙ get_or-append-add (shifted l) (in_a_row ls) (role_count * k + c) 0 ∙ row_at ls k c a.1 (omega arith) i

tables_long : Long mark_tables
unfolding pour_marks behind_marks forms stack_marks
tables_long = (refl, (refl, (refl, (refl, tt))))

-- what the row that was lent says of a role
pub record Marks (t : List ℕ) (k c : ℕ) : Type 0 where
  pub inside : role_count * k + c < length t
  pub says : get_or t (role_count * k + c) 0 ≡ zero_byte + get_or (get_or mark_tables k []) c 0

pub marks_in : {t : List ℕ} {k c : ℕ} → t ≡ mark_bytes → k < 4 → c < role_count → Marks t k c
unfolding mark_bytes
marks_in {t} {k} {c} e h i =
    record {
      inside = let l : length t ≡ 324 = ap length e ∙ row_long mark_tables tables_long in omega (arith, l, h, i);
      says = ap (λ l. get_or l (role_count * k + c) 0) e ∙ row_at mark_tables k c tables_long h i;
    }
