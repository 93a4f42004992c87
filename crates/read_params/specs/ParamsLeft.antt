-- What is left to a loop that reads a row of types or the lists of structs: once it is read and stands, all does (01, 'Program stream').
use Rattle.std.specs.Prelude.{Ok, Err, ℕ, ◌+◌, ◌-◌, ◌≡◌, refl, List, [], ◌∷◌, set}
use Rattle.std.proofs.Common.{ap, sym, ◌∙◌}
use Rattle.std.proofs.lemmas.List.Edits.{sets}
use Rattle.types.specs.Types.{Ty}
use Rattle.types.specs.TypeBytes.{is_type}
use Rattle.program.specs.Reader.{Result, many, tested, read_type}
use Rattle.judge.specs.ProgramFacts.{row, types_table}
use Rattle.read_exprs.specs.Told.{byte_told}
use Rattle.read_params.specs.ParamsTold.{read_list, place_told, RowKept, ListKept, ListsKept}
use Rattle.read_params.specs.ParamsWays.{place_is, place_stops, onto_place, many_none, many_stop, many_more, type_read, type_stop, kept_zero}
use Rattle.read_params.specs.ParamsWays.{kept_type, kept_lists}

-- Zeros --------------------------------------------------------------------------------

module _ (room place : ℕ) (ts end : List ℕ) (x : sets ts place (row room []) ≡ end) where
  pub zeros_none : room ≡ 0 → ts ≡ end
  unfolding row
  zeros_none e = rw e at x

  pub zeros_more : (room ≡ 0 → ⊥) → sets (set ts place 0) (place + 1) (row (room - 1) []) ≡ end
  zeros_more z = kept_zero room place ts (sets (set ts place 0) (place + 1) (row (room - 1) [])) 0 z refl ∙ x

-- Types --------------------------------------------------------------------------------

-- n types are left, in so much room
pub record RowLeft (s : List ℕ) (S : ℕ) (R : Result (List Ty)) (room₀ place₀ : ℕ) (ts₀ : List ℕ) (n at room place : ℕ) (ts : List ℕ) : Type 0 where
  pub told : place_told (many [] ◌∷◌ (read_type s S) n at) ≡ place_told R
  pub kept : (ts' : List ℕ) → RowKept room place ts ts' (many [] ◌∷◌ (read_type s S) n at) → RowKept room₀ place₀ ts₀ ts' R

pub row_all : (s : List ℕ) (S n at room place : ℕ) (ts : List ℕ) → RowLeft s S (many [] ◌∷◌ (read_type s S) n at) room place ts n at room place ts
row_all s S n at room place ts = record { told = refl; kept = λ ts' h. h }

module _ {s : List ℕ} {S : ℕ} {R : Result (List Ty)} {room₀ place₀ : ℕ} {ts₀ : List ℕ} {n at room place : ℕ} {ts : List ℕ}
    (x : RowLeft s S R room₀ place₀ ts₀ n at room place ts) where
  -- none is, and zeros stand in the room
  pub row_none : n ≡ 0 → (ts' : List ℕ) → ts' ≡ sets ts place (row room []) → (Ok at ≡ place_told R) × (RowKept room₀ place₀ ts₀ ts' R)
  row_none e ts' h = let q = many_none (read_type s S) n at e in (sym (ap place_told q) ∙ x.told, x.kept ts' (rw q h))

  -- the first is not read
  pub row_stops : (n ≡ 0 → ⊥) → (e : ℕ) → byte_told (tested s (is_type S) at) ≡ Err e → (ts' : List ℕ)
      → (Err e ≡ place_told R) × (RowKept room₀ place₀ ts₀ ts' R)
  row_stops z e h ts' =
      let t = type_stop s S at e h in
      let q = many_stop (read_type s S) n at t.0 e z t.1 in
      (sym (ap place_told q) ∙ x.told, x.kept ts' (rw q tt))

  -- or is, and the others are left
  pub row_next : (n ≡ 0 → ⊥) → (room ≡ 0 → ⊥) → (b m : ℕ) → byte_told (tested s (is_type S) at) ≡ Ok (b, m)
      → RowLeft s S R room₀ place₀ ts₀ (n - 1) m (room - 1) (place + 1) (set ts place b)
  row_next z free b m h =
      let t = type_read s S at b m h in
      let q = many_more (read_type s S) n at t.0 m z t.1.0 in
      let rest = many [] ◌∷◌ (read_type s S) (n - 1) m in
      record {
        told = sym (ap place_told q ∙ onto_place t.0 rest) ∙ x.told;
        kept = λ ts' g. x.kept ts' (rw q (kept_type room place ts ts' t.0 b rest free t.1.1 g));
      }

-- Lists --------------------------------------------------------------------------------

-- the lists of n structs are left, from struct k on
pub record ListsLeft (s : List ℕ) (S : ℕ) (R : Result (List (List Ty))) (k₀ : ℕ) (cs₀ ts₀ : List ℕ) (n at k : ℕ) (cs ts : List ℕ) : Type 0 where
  pub told : place_told (many [] ◌∷◌ (read_list s S) n at) ≡ place_told R
  pub kept : (cs' ts' : List ℕ) → ListsKept k cs cs' ts ts' (many [] ◌∷◌ (read_list s S) n at) → ListsKept k₀ cs₀ cs' ts₀ ts' R

pub lists_all : (s : List ℕ) (S n at k : ℕ) (cs ts : List ℕ) → ListsLeft s S (many [] ◌∷◌ (read_list s S) n at) k cs ts n at k cs ts
lists_all s S n at k cs ts = record { told = refl; kept = λ cs' ts' h. h }

module _ {s : List ℕ} {S : ℕ} {R : Result (List (List Ty))} {k₀ : ℕ} {cs₀ ts₀ : List ℕ} {n at k : ℕ} {cs ts : List ℕ}
    (x : ListsLeft s S R k₀ cs₀ ts₀ n at k cs ts) where
  -- none is
  pub lists_none : n ≡ 0 → (Ok at ≡ place_told R) × (ListsKept k₀ cs₀ cs ts₀ ts R)
  unfolding types_table
  lists_none e = let q = many_none (read_list s S) n at e in (sym (ap place_told q) ∙ x.told, x.kept cs ts (rw q (refl, refl)))

  -- the first is not read
  pub lists_stop : (n ≡ 0 → ⊥) → (e : ℕ) → place_told (read_list s S at) ≡ Err e → (cs' ts' : List ℕ)
      → (Err e ≡ place_told R) × (ListsKept k₀ cs₀ cs' ts₀ ts' R)
  lists_stop z e h cs' ts' =
      let t = place_stops (read_list s S at) e h in
      let q = many_stop (read_list s S) n at t.0 e z t.1 in
      (sym (ap place_told q) ∙ x.told, x.kept cs' ts' (rw q tt))

  -- or is, and the others are left
  pub lists_next : (n ≡ 0 → ⊥) → (m : ℕ) → place_told (read_list s S at) ≡ Ok m → (cs' ts' : List ℕ) → ListKept k cs cs' ts ts' (read_list s S at)
      → ListsLeft s S R k₀ cs₀ ts₀ (n - 1) m (k + 1) cs' ts'
  lists_next z m h cs' ts' l =
      let t = place_is (read_list s S at) m h in
      let q = many_more (read_list s S) n at t.0 m z t.1 in
      let rest = many [] ◌∷◌ (read_list s S) (n - 1) m in
      record {
        told = sym (ap place_told q ∙ onto_place t.0 rest) ∙ x.told;
        kept = λ cs'' ts'' g. x.kept cs'' ts'' (rw q (kept_lists k cs cs' cs'' ts ts' ts'' t.0 m rest (rw t.1 at l) g));
      }
