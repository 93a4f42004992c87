-- Each way through the readers of the parameter lists (01, 'Program stream').
use Prim.Native.Nat.{ℕ, zero, suc, ◌+◌, ◌-◌, ◌*◌, ◌≤◌}
use borrow.Rule.Slice.PartMut.{put_mid}
use Rattle.std.proofs.Common.{arith, sym, append_assoc, drop-drop, zero-add, sub-one, add-one, ap, ◌∙◌, length-append}
use Rattle.std.proofs.Math.Path.{◌≡◌}
use Rattle.std.specs.Prelude.{Result as Answered, Ok, Err, refl, drop, set}
use Rattle.answers.specs.AnswerLaws.{ok_parts}
use mathlib.Core.List.{List, [], ◌∷◌, ◌++◌, map}
use Rattle.std.proofs.Math.ListN.{length, replicate}
use Rattle.std.proofs.lemmas.List.{length-map}
use Rattle.std.proofs.Math.Seq.{sets}
use Rattle.std.proofs.lemmas.List.Edits.{sets-eq}
use Rattle.types.specs.Types.{Ty, code}
use Rattle.types.specs.TypeBytes.{is_type}
use Rattle.types.proofs.Laws.SetsLaws.{sets_append}
use Rattle.program.specs.Reader.{Result, Result.ok, Result.bad, then, made, many, tested, ranged, counted, read_type, read_params}
use Rattle.judge.specs.declared.Facts.{Facts}
use Rattle.judge.specs.Facts.{pushed}
use Rattle.judge.specs.ProgramFacts.{row, types_table}
use Rattle.read_exprs.specs.Told.{told, byte_told}
use Rattle.read_exprs.specs.ByteWays.{byte_is, type_is}
use Rattle.read_params.specs.ParamsTold.{read_list, place_told, params_told, PlaceSpan, RowKept, ListKept, ListsKept, ParamsKept}

-- Things in a row --------------------------------------------------------------------

-- what was read, from what was answered
pub place_is : {A : Type 0} (q : Result A) (m : ℕ) → place_told q ≡ Ok m → (a : A) × (q ≡ ok a m)
place_is (ok a k) m e = let h : k ≡ m = cc in (a, rw h)
place_is (bad p n) m e = cc

pub place_stops : {A : Type 0} (q : Result A) (n : ℕ) → place_told q ≡ Err n → (p : ℕ) × (q ≡ bad p n)
place_stops (ok a m) n e = cc
place_stops (bad p k) n e = let h : k ≡ n = cc in (p, rw h)

-- one thing before the others, and where they end
abbrev pub onto : {A : Type 0} → A → Result (List A) → Result (List A)
onto a q = then q λ b m. ok (a ∷ b) m

pub onto_place : {A : Type 0} (a : A) (q : Result (List A)) → place_told (onto a q) ≡ place_told q
unfolding then
onto_place a (ok b m) = refl
onto_place a (bad p n) = refl

-- each read by r: none is left, the first is not read, or is with the others behind it
module _ {A : Type 0} (r : ℕ → Result A) where
  pub many_none : (n at : ℕ) → n ≡ 0 → many [] ◌∷◌ r n at ≡ ok [] at
  unfolding many
  many_none n at e = rw e

  pub many_stop : (n at p e : ℕ) → (n ≡ 0 → ⊥) → r at ≡ bad p e → many [] ◌∷◌ r n at ≡ bad p e
  unfolding many then
  many_stop zero at p e z h = absurd (z refl)
  many_stop (suc n) at p e z h = rw h

  pub many_more : (n at : ℕ) (a : A) (m : ℕ) → (n ≡ 0 → ⊥) → r at ≡ ok a m → many [] ◌∷◌ r n at ≡ onto a (many [] ◌∷◌ r (n - 1) m)
  unfolding many then
  many_more zero at a m z h = absurd (z refl)
  many_more (suc n) at a m z h = rw (h, sub-one)

  -- there are as many as were to be read
  pub many_length : (n at : ℕ) (b : List A) (m : ℕ) → many [] ◌∷◌ r n at ≡ ok b m → length b ≡ n
  unfolding many then
  many_length zero at b m e = let h : b ≡ [] = cc in rw h
  many_length (suc n) at b m e = first (λ k c j. many_length n k c j) (r at) e
    where
      rest : (a : A) (q : Result (List A)) → ((c : List A) (j : ℕ) → q ≡ ok c j → length c ≡ n) → onto a q ≡ ok b m → length b ≡ suc n
      rest a (ok c j) f e = let i : b ≡ a ∷ c = cc in rw i (ap suc (f c j refl))
      rest a (bad p j) f e = cc

      first : ((k : ℕ) (c : List A) (j : ℕ) → many [] ◌∷◌ r n k ≡ ok c j → length c ≡ n) → (q : Result A)
          → then q (λ a k. onto a (many [] ◌∷◌ r n k)) ≡ ok b m → length b ≡ suc n
      first f (ok a k) e = rest a (many [] ◌∷◌ r n k) (f k) e
      first f (bad p j) e = cc

-- Types ------------------------------------------------------------------------------

-- a byte that was not read ends the reading
stopped : {B : Type 0} (q : Result ℕ) (f : ℕ → ℕ → Result B) (e : ℕ) → byte_told q ≡ Err e → (p : ℕ) × (then q f ≡ bad p e)
unfolding then
stopped (ok a m) f e h = cc
stopped (bad p k) f e h = let j : k ≡ e = cc in (p, rw j)

-- a type whose byte was read, or was not
module _ (s : List ℕ) (S at : ℕ) where
  pub type_read : (b m : ℕ) → byte_told (tested s (is_type S) at) ≡ Ok (b, m) → (t : Ty) × ((read_type s S at ≡ ok t m) × (code t ≡ b))
  type_read b m e = go (read_type s S at) refl (type_is s S at b m e)
    where
      go : (q : Result Ty) → read_type s S at ≡ q → told (λ t. pushed (code t)) q ≡ Ok (m, pushed b)
          → (t : Ty) × ((read_type s S at ≡ ok t m) × (code t ≡ b))
      go (ok t k) h e =
          let i = ok_parts k m (pushed (code t)) (pushed b) e in
          (t, (h ∙ rw i.0, ap (λ (f : Facts). f.typ) i.1))
      go (bad p k) h e = cc

  pub type_stop : (e : ℕ) → byte_told (tested s (is_type S) at) ≡ Err e → (p : ℕ) × (read_type s S at ≡ bad p e)
  unfolding read_type made
  type_stop e h = stopped (tested s (is_type S) at) _ e h

-- what one place more holds: a zero behind the types, or the byte of the first
module _ (room place : ℕ) (ts ts' : List ℕ) where
  pub kept_zero : (m : ℕ) → (room ≡ 0 → ⊥) → RowKept (room - 1) (place + 1) (set ts place 0) ts' (ok [] m) → RowKept room place ts ts' (ok [] m)
  unfolding row
  kept_zero m z h = go room z h
    where
      go : (room : ℕ) → (room ≡ 0 → ⊥) → ts' ≡ sets (set ts place 0) (place + 1) (row (room - 1) []) → ts' ≡ sets ts place (row room [])
      go zero z h = absurd (z refl)
      go (suc room) z h = rw (sub-one, add-one) at h

  pub kept_type : (t : Ty) (b : ℕ) (q : Result (List Ty)) → (room ≡ 0 → ⊥) → code t ≡ b → RowKept (room - 1) (place + 1) (set ts place b) ts' q
      → RowKept room place ts ts' (onto t q)
  unfolding row then
  kept_type t b (ok r m) z e h = go room z h
    where
      go : (room : ℕ) → (room ≡ 0 → ⊥) → ts' ≡ sets (set ts place b) (place + 1) (row (room - 1) r) → ts' ≡ sets ts place (row room (t ∷ r))
      go zero z h = absurd (z refl)
      go (suc room) z h = rw e (rw (sub-one, add-one) at h)
  kept_type t b (bad p n) z e h = tt

-- Lists ------------------------------------------------------------------------------

module _ (s : List ℕ) (S at : ℕ) where
  -- how many parameters, which is not read, or is, with their types behind it
  pub list_stop : (e : ℕ) → byte_told (ranged s 0 9 at) ≡ Err e → (p : ℕ) × (read_list s S at ≡ bad p e)
  unfolding read_list counted
  list_stop e h = stopped (ranged s 0 9 at) _ e h

  pub list_more : (n m : ℕ) → byte_told (ranged s 0 9 at) ≡ Ok (n, m) → read_list s S at ≡ many [] ◌∷◌ (read_type s S) n m
  unfolding read_list counted then
  list_more n m h = rw (byte_is (ranged s 0 9 at) n m h)

  -- the same of the structs and their lists
  pub params_stop : (e : ℕ) → byte_told (ranged s 1 17 at) ≡ Err e → (p : ℕ) × (read_params s at ≡ bad p e)
  unfolding read_params counted
  params_stop e h = stopped (ranged s 1 17 at) _ e h

  pub params_more : (m : ℕ) → byte_told (ranged s 1 17 at) ≡ Ok (S, m) → read_params s at ≡ many [] ◌∷◌ (read_list s S) S m
  unfolding read_params counted then read_list
  params_more m h = rw (byte_is (ranged s 1 17 at) S m h)

-- the count goes with the types
pub kept_list : (r : ℕ → Result Ty) (n m k : ℕ) (cs ts ts' : List ℕ) → RowKept 8 (8 * k) ts ts' (many [] ◌∷◌ r n m)
    → ListKept k cs (set cs k n) ts ts' (many [] ◌∷◌ r n m)
kept_list r n m k cs ts ts' = go (many [] ◌∷◌ r n m) refl
  where
    go : (q : Result (List Ty)) → many [] ◌∷◌ r n m ≡ q → RowKept 8 (8 * k) ts ts' q → ListKept k cs (set cs k n) ts ts' q
    go (ok b i) e h = (rw (many_length r n m b i e), h)
    go (bad p i) e h = tt

row_length : (n : ℕ) (t : List Ty) → length (row n t) ≡ n
unfolding row
row_length zero t = refl
row_length (suc n) [] = ap suc (row_length n [])
row_length (suc n) (t ∷ ts) = ap suc (row_length n ts)

pub table_length : (tss : List (List Ty)) → length (types_table tss) ≡ 8 * length tss
unfolding types_table
table_length [] = refl
table_length (t ∷ tss) = rw (length-append) (omega (arith, row_length 8 t, table_length tss))

-- the parameters of one struct, and those of the others behind it
pub kept_lists : (k : ℕ) (cs cs' cs'' ts ts' ts'' : List ℕ) (t : List Ty) (m : ℕ) (q : Result (List (List Ty))) → ListKept k cs cs' ts ts' (ok t m)
    → ListsKept (k + 1) cs' cs'' ts' ts'' q → ListsKept k cs cs'' ts ts'' (onto t q)
unfolding then types_table
kept_lists k cs cs' cs'' ts ts' ts'' t m (ok tss i) h g = (
  g.0 ∙ rw (h.0, add-one),
  g.1 ∙ rw (h.1, sets_append ts (8 * k) (row 8 t) (types_table tss), row_length 8 t, step),
)
  where
    step : 8 * (k + 1) ≡ 8 * k + 8
    step = omega arith
kept_lists k cs cs' cs'' ts ts' ts'' t m (bad p n) h g = tt

pub from_start : (l vs : List ℕ) → length vs ≤ length l → sets l 0 vs ≡ vs ++ drop (length vs) l
from_start l vs h = rw zero-add at (sets-eq vs l 0 (rw zero-add h))

-- all of them, from the start of the tables
pub kept_params : (r : ℕ → Result (List Ty)) (n m : ℕ) (cs cs' ts ts' : List ℕ) → n ≤ length cs → 8 * n ≤ length ts
    → ListsKept 0 cs cs' ts ts' (many [] ◌∷◌ r n m) → ParamsKept cs cs' ts ts' (many [] ◌∷◌ r n m)
kept_params r n m cs cs' ts ts' h k = go (many [] ◌∷◌ r n m) refl
  where
    go : (q : Result (List (List Ty))) → many [] ◌∷◌ r n m ≡ q → ListsKept 0 cs cs' ts ts' q → ParamsKept cs cs' ts ts' q
    go (ok b i) e g =
        let l = many_length r n m b i e in
        let c : length (map length b) ≡ length b = length-map b length in
        let w = table_length b in (
          g.0 ∙ from_start cs (map length b) (omega arith) ∙ rw c,
          g.1 ∙ from_start ts (types_table b) (omega arith) ∙ rw w,
        )
    go (bad p i) e g = tt

-- the lists that were read are as many as the structs
pub params_value : (r : ℕ → Result (List Ty)) (n m next : ℕ) → place_told (many [] ◌∷◌ r n m) ≡ Ok next → params_told (many [] ◌∷◌ r n m) ≡ Ok (next, n)
params_value r n m next = go (many [] ◌∷◌ r n m) refl
  where
    go : (q : Result (List (List Ty))) → many [] ◌∷◌ r n m ≡ q → place_told q ≡ Ok next → params_told q ≡ Ok (next, n)
    go (ok b i) e h = let j : i ≡ next = cc in rw (many_length r n m b i e, j)
    go (bad p i) e h = cc

-- Places -----------------------------------------------------------------------------

-- from an earlier place
pub span_from : {E : Type 0} (s : List ℕ) (at from : ℕ) (r : Answered ℕ E) → at ≤ from → PlaceSpan s from r → PlaceSpan s at r
span_from s at from (Ok m) h x = omega arith
span_from s at from (Err e) h x = tt

-- zeros alone
row_zeros : (n : ℕ) → row n [] ≡ replicate n 0
unfolding row
row_zeros zero = refl
row_zeros (suc n) = ap (λ t. 0 ∷ t) (row_zeros n)

-- a part filled with zeros
pub zeros_kept : (room place k : ℕ) (ts ys : List ℕ) → place + room ≤ length ts → k ≡ room → ys ≡ replicate k 0
    → put_mid place k ts ys ≡ sets ts place (row room [])
zeros_kept room place k ts ys h e f =
    let len : length (row room []) ≡ room = row_length room [] in
    let row' : ys ≡ row room [] = f ∙ rw e (sym (row_zeros room)) in
    rw (row', e, sets-eq (row room []) ts place (omega arith), len, drop-drop, append_assoc)
