-- Laws of the tests of tables: one for each way through the code, and the loops over rows.
use Prim.Native.Nat.{ℕ, zero, suc, ◌+◌, ◌-◌, ◌≤◌, ◌<◌}
use native.Mathlib.Omega.{arith}
use Rattle.std.proofs.Common.{add-one, ◌∙◌, drop_of_length-le}
use Rattle.std.specs.Prelude.{◌≡◌, Bool, set}
use Rattle.std.proofs.Math.Path.{refl, sym, ap}
use Rattle.std.proofs.Math.Bool.{true, false}
use mathlib.Core.List.{List, [], ◌∷◌}
use Rattle.std.proofs.Math.ListN.{length, get_or, drop, length-set, length-drop}
use Rattle.std.proofs.Math.Seq.{sets}
use borrow.Author.Tests.{le-leb, lt-leb, lt-ltb, le-ltb}
use Rattle.types.proofs.Laws.ListLaws.{drop_next}
use Rattle.types.specs.Limits.{max_params}
use Rattle.types.specs.Types.{struct_code}
use Rattle.tokens.specs.Tokens.{same}
use Rattle.syntax.specs.Syntax.{Id, TypeName.id_type}
use Rattle.meaning.specs.Finding.{distinct}
use Rattle.meaning.specs.HoldsDecide.{all}
use Rattle.resolve.specs.Named.{name_of, name_at, names_at, sought}
use Rattle.resolve.specs.Checks.{part_of, row_ok, between_all, type_here, byte_of, types_at, known}
use Rattle.text_shape.specs.RoleNames.{first_type_role}

-- A row ------------------------------------------------------------------------------------------

module _ (text pars : List ℕ) (a b : ℕ) where
  pub row_turned : b < a → false ≡ row_ok text pars a b
  unfolding row_ok
  row_turned l = rw (row_ok, lt-leb a b l) refl

  module _ (up : a ≤ b) where
    pub row_out : length pars < b → false ≡ row_ok text pars a b
    unfolding row_ok
    row_out l = rw (row_ok, le-leb a b up, lt-leb b (length pars) l) refl

    module _ (within : b ≤ length pars) where
      pub row_long : max_params < b - a → false ≡ row_ok text pars a b
      unfolding row_ok
      row_long l = rw (row_ok, le-leb a b up, le-leb b (length pars) within, lt-leb (b - a) max_params l) refl

      pub row_short : b - a ≤ max_params → distinct (names_at text (part_of pars a b)) ≡ row_ok text pars a b
      unfolding row_ok
      row_short l = rw (row_ok, le-leb a b up, le-leb b (length pars) within, le-leb (b - a) max_params l) refl

-- Rows ---------------------------------------------------------------------------------------------

-- the pairs before i are passed
pub record Paired (t : ℕ → ℕ → Bool) (l : List ℕ) (i : ℕ) : Type 0 where
  pub begun : 1 ≤ i
  pub rest : between_all t (drop (i - 1) l) ≡ between_all t l

module _ (t : ℕ → ℕ → Bool) (l : List ℕ) where
  pub paired_start : Paired t l 1
  paired_start = record { begun = omega arith; rest = refl }

  module _ (i : ℕ) (r : Paired t l i) where
    module _ (inside : i < length l) where
      here : drop (i - 1) l ≡ get_or l (i - 1) 0 ∷ get_or l i 0 ∷ drop (i + 1) l
      here =
          let f : (i - 1) + 1 ≡ i = let h = r.begun in omega (arith, h) in
          drop_next l (i - 1) (omega arith) ∙ ap (λ k. get_or l (i - 1) 0 ∷ drop k l) f
          ∙ ap (λ m. get_or l (i - 1) 0 ∷ m) (drop_next l i inside)

      pub paired_not : false ≡ t (get_or l (i - 1) 0) (get_or l i 0) → false ≡ between_all t l
      unfolding between_all
      paired_not e = let f : between_all t (drop (i - 1) l) ≡ false = rw (here, between_all, ← e) refl in sym f ∙ r.rest

      pub paired_on : true ≡ t (get_or l (i - 1) 0) (get_or l i 0) → Paired t l (i + 1)
      unfolding between_all
      paired_on e =
          let f : between_all t (drop (i - 1) l) ≡ between_all t (get_or l i 0 ∷ drop (i + 1) l) = rw (here, between_all, ← e) refl in
          let k : (i + 1) - 1 ≡ i = omega arith in
          let g : drop ((i + 1) - 1) l ≡ get_or l i 0 ∷ drop (i + 1) l = ap (λ k. drop k l) k ∙ drop_next l i inside in
          record { begun = omega arith; rest = ap (between_all t) g ∙ sym f ∙ r.rest }

    pub paired_end : length l ≤ i → true ≡ between_all t l
    unfolding between_all
    paired_end e = sym (short (drop (i - 1) l) (let h = length-drop (i - 1) l in let b = r.begun in omega (arith, h, b))) ∙ r.rest
      where
        short : (m : List ℕ) → length m ≤ 1 → between_all t m ≡ true
        short [] h = refl
        short (a ∷ []) h = refl
        short (a ∷ b ∷ m) h = absurd (omega arith)

-- Types --------------------------------------------------------------------------------------------

module _ (names : List Id) (s : List ℕ) where
  pub byte_small : (n : ℕ) → n < 3 → n ≡ byte_of names (type_here n s)
  unfolding type_here byte_of
  byte_small zero l = refl
  byte_small (suc zero) l = refl
  byte_small (suc (suc zero)) l = refl
  byte_small (suc (suc (suc n))) l = absurd (omega arith)

  pub type_named : (n : ℕ) → 3 ≤ n → type_here n s ≡ id_type (name_of s)
  unfolding type_here
  type_named zero l = absurd (omega arith)
  type_named (suc zero) l = absurd (omega arith)
  type_named (suc (suc zero)) l = absurd (omega arith)
  type_named (suc (suc (suc n))) l = refl

  pub byte_named : (n r : ℕ) → 3 ≤ n → r ≡ sought (name_of s) names → struct_code + r ≡ byte_of names (type_here n s)
  unfolding byte_of
  byte_named n r l e = ap (λ k. struct_code + k) e ∙ ap (byte_of names) (sym (type_named n l))

-- what is sought stands among the places, or behind them
pub sought_within : (y : Id) (text table : List ℕ) → sought y (names_at text table) ≤ length table
unfolding sought
sought_within y text [] = omega arith
sought_within y text (p ∷ table) = go (same (name_at text p) y) refl (sought_within y text table)
  where
    go : (t : Bool) → same (name_at text p) y ≡ t → sought y (names_at text table) ≤ length table
        → sought y (name_at text p ∷ names_at text table) ≤ suc (length table)
    go true e h = rw (sought, e) (omega arith)
    go false e h = rw (sought, e) (omega arith)

-- a type's byte, by the role at its place
pub of_type : {b k c m : ℕ} (names : List Id) (s : List ℕ) → b ≡ byte_of names (type_here k s) → k ≡ c - first_type_role → c ≡ m
    → b ≡ byte_of names (type_here (m - first_type_role) s)
of_type names s e f g = e ∙ ap (λ n. byte_of names (type_here n s)) (f ∙ ap (λ n. n - first_type_role) g)

-- the loop over types: those from i on are as they were, and complete the table
pub record Typing (text roles : List ℕ) (names : List Id) (structs : ℕ) (places table₀ table : List ℕ) (i : ℕ) : Type 0 where
  pub inner : i ≤ length places
  pub kept : length table ≡ length table₀
  pub rest : known structs (types_at text roles names (drop i places)) ≡ known structs (types_at text roles names places)
  pub stored : sets table i (types_at text roles names (drop i places)) ≡ sets table₀ 0 (types_at text roles names places)

module _ (text roles : List ℕ) (names : List Id) (structs : ℕ) (places table₀ : List ℕ) where
  pub typing_start : Typing text roles names structs places table₀ table₀ 0
  typing_start = record { inner = omega arith; kept = refl; rest = refl; stored = refl }

  module _ (table : List ℕ) (i : ℕ) (r : Typing text roles names structs places table₀ table i) where
    module _ (inside : i < length places) (b : ℕ)
        (e : b ≡ byte_of names (type_here (get_or roles (get_or places i 0) 0 - first_type_role) (drop (get_or places i 0) text))) where
      here_typed : types_at text roles names (drop i places) ≡ b ∷ types_at text roles names (drop (i + 1) places)
      unfolding types_at
      here_typed = rw (drop_next places i inside) (ap (λ c. c ∷ types_at text roles names (drop (i + 1) places)) (sym e))

      pub typing_not : struct_code + structs ≤ b → false ≡ known structs (types_at text roles names places)
      unfolding known all
      typing_not l =
          let f : known structs (types_at text roles names (drop i places)) ≡ false = rw (here_typed, le-ltb b (struct_code + structs) l) refl in
          sym f ∙ r.rest

      pub typing_on : {table' : List ℕ} → b < struct_code + structs → table' ≡ set table i b → Typing text roles names structs places table₀ table' (i + 1)
      unfolding known all
      typing_on {table'} l g =
          let f : known structs (types_at text roles names (drop i places)) ≡ known structs (types_at text roles names (drop (i + 1) places)) =
          rw (here_typed, lt-ltb b (struct_code + structs) l) refl in
          record {
            inner = omega arith;
            kept = ap length g ∙ length-set table i b ∙ r.kept;
            rest = sym f ∙ r.rest;
            stored =
                ap (λ k. sets table' k (types_at text roles names (drop (i + 1) places))) (add-one i)
                ∙ ap (λ v. sets v (suc i) (types_at text roles names (drop (i + 1) places))) g ∙ ap (sets table i) (sym here_typed) ∙ r.stored;
          }

    module _ (l : length places ≤ i) where
      none_typed : types_at text roles names (drop i places) ≡ []
      unfolding types_at
      none_typed = rw (drop_of_length-le places {i = i} l) refl

      pub typing_end : true ≡ known structs (types_at text roles names places)
      unfolding known all
      typing_end = sym (rw none_typed refl) ∙ r.rest

      pub typing_stored : table ≡ sets table₀ 0 (types_at text roles names places)
      typing_stored = ap (sets table i) (sym none_typed) ∙ r.stored
