-- Roles that stand in a text are found by their bytes: the names at the places of a byte, the types of parameters, and how many of a byte stand before each
-- struct.
use Rattle.std.specs.Prelude.{ℕ, suc, ◌+◌, ◌-◌, ◌≤◌, ◌<◌, ◌≡◌, ◌⊎◌, Bool, true, false, ◌&&◌, length, get_or, drop, eqb, leb}
use Rattle.std.proofs.Common.{arith, add-one, sym, ◌∙◌, inl, inr, length-drop}
use Rattle.std.proofs.Math.Path.{refl, ap}
use mathlib.Core.List.{List, ◌∷◌, map}
use borrow.Author.Tests.{ne_eqb, eqb-true, eqb-false, le-leb, lt-leb, leb-true}
use Rattle.types.proofs.Laws.ListLaws.{drop_next}
use Rattle.tokens.specs.Tokens.{between}
use Rattle.syntax.specs.Syntax.{Id, TypeName, TypeName.int_type, TypeName.nat_type, TypeName.bool_type, TypeName.id_type}
use Rattle.syntax.specs.Yield.{type_token}
use Rattle.tokens.proofs.Laws.KindLaws.{kind_within}
use Rattle.text_shape.specs.Roles.{Naming, Naming.new_struct, Naming.new_par, Naming.new_step, Naming.new_local, Naming.first_read, Naming.first_written}
use Rattle.text_shape.specs.Roles.{Naming.later_variable, Naming.made, Naming.made_statement, Naming.called, Naming.called_struct}
use Rattle.text_shape.specs.Roles.{Naming.called_step, Typed.of_par}
use Rattle.text_shape.specs.Roles.{Typed.of_local, Typed.of_null, Role, Role.plain, Role.naming, Role.typed, Role.part, naming_code, typed_code, type_number, naming_number}
use Rattle.text_shape.specs.Roles.{part_code, code, token_of}
use Rattle.resolve.specs.Named.{name_of, names_at}
use Rattle.resolve.specs.Tables.{places_from, with_one, offsets_from}
use Rattle.resolve.specs.Declares.{named, par_types}
use Rattle.resolve.specs.Laws.RowLaws.{typed_far, part_far}
use Rattle.resolve.specs.Checks.{type_here, byte_of, types_at}
use Rattle.resolve.specs.Standing.{Spelt, Stood, Stood.at_end, Stood.no_token, Stood.a_role}
use Rattle.text_shape.specs.RoleNames.{new_struct_role, local_int_role, null_int_role, first_type_role, last_par_type_role}
use Rattle.tokens.specs.KindNames.{nat_kind}

-- what stands at a place, and behind it
module _ (x : List ℕ) (i b : ℕ) (s : List ℕ) (e : drop i x ≡ b ∷ s) where
  inside : i < length x
  inside = let h = length-drop i x in omega (arith, h, ap length e)

  pub next_of : drop (suc i) x ≡ s
  next_of =
      let f : get_or x i 0 ∷ drop (i + 1) x ≡ b ∷ s = sym (drop_next x i inside) ∙ e in
      let g : drop (i + 1) x ≡ s = cc in
      ap (λ k. drop k x) (sym (add-one i)) ∙ g

  pub first_of : get_or x i 0 ≡ b
  first_of = let f : get_or x i 0 ∷ drop (i + 1) x ≡ b ∷ s = sym (drop_next x i inside) ∙ e in cc

-- one byte
one_byte : (q b : ℕ) → between q q b ≡ eqb b q
unfolding between
one_byte q b = go (eqb b q) refl (leb q b) refl
  where
    go : (t : Bool) → eqb b q ≡ t → (u : Bool) → leb q b ≡ u → (leb q b && leb b q) ≡ eqb b q
    go true e u f = let h = eqb-true b q e in rw (e, le-leb q b (omega (arith, h)), le-leb b q (omega (arith, h))) refl
    go false e true f = let h = leb-true q b f in rw (e, f, lt-leb b q (apart h (eqb-false b q e))) refl
      where
        apart : q ≤ b → (b ≡ q → ⊥) → q < b
        apart l n = omega (arith, n)
    go false e false f = rw (e, f) refl

-- Names ------------------------------------------------------------------------------------------

pub naming_near : (m : Naming) → (nat_kind < naming_code m) × (naming_code m < first_type_role)
unfolding naming_code naming_number
naming_near new_struct = omega arith
naming_near new_par = omega arith
naming_near new_step = omega arith
naming_near new_local = omega arith
naming_near first_read = omega arith
naming_near first_written = omega arith
naming_near later_variable = omega arith
naming_near made = omega arith
naming_near made_statement = omega arith
naming_near called = omega arith
naming_near called_struct = omega arith
naming_near called_step = omega arith

module _ (x : List ℕ) (q : ℕ) (low : nat_kind < q) (high : q < first_type_role) where
  other_byte : (i c : ℕ) (cs : List ℕ) → (c ≡ q → ⊥) → names_at x (places_from q q i (c ∷ cs)) ≡ names_at x (places_from q q (suc i) cs)
  unfolding places_from
  other_byte i c cs n = rw (places_from, one_byte q c, ne_eqb c q n) refl

  name_byte_here : (i b : ℕ) (s cs : List ℕ) (m : Naming) (y : Id) (rs : List Role) → drop i x ≡ b ∷ s → name_of (b ∷ s) ≡ y
      → names_at x (places_from q q (suc i) cs) ≡ named q rs → names_at x (places_from q q i (naming_code m ∷ cs)) ≡ named q (naming m y ∷ rs)
  unfolding places_from named
  name_byte_here i b s cs m y rs e p rec = go (eqb (naming_code m) q) refl
    where
      both : (a c : Id) (k l : List Id) → a ≡ c → k ≡ l → a ∷ k ≡ c ∷ l
      both a c k l f g = cc

      go : (t : Bool) → eqb (naming_code m) q ≡ t → names_at x (places_from q q i (naming_code m ∷ cs)) ≡ named q (naming m y ∷ rs)
      go true f = rw (places_from, one_byte q (naming_code m), f, named) (both _ y _ (named q rs) (ap name_of e ∙ p) rec)
      go false f = rw (places_from, one_byte q (naming_code m), f, named) rec

  role_here : (i b : ℕ) (s cs : List ℕ) (r : Role) (rs : List Role) → drop i x ≡ b ∷ s → Spelt (token_of r) (b ∷ s)
      → names_at x (places_from q q (suc i) cs) ≡ named q rs → names_at x (places_from q q i (code r ∷ cs)) ≡ named q (r ∷ rs)
  unfolding code named token_of Spelt
  role_here i b s cs (plain t) rs e p rec = other_byte i (code (plain t)) cs (λ f. omega (arith, (kind_within t).1)) ∙ rec
  role_here i b s cs (naming m y) rs e p rec = name_byte_here i b s cs m y rs e p rec
  role_here i b s cs (typed u t) rs e p rec = other_byte i (code (typed u t)) cs (λ f. omega (arith, typed_far u)) ∙ rec
  role_here i b s cs (part g) rs e p rec = other_byte i (code (part g)) cs (λ f. omega (arith, part_far g)) ∙ rec

  pub names_stand : {s cs : List ℕ} {rs : List Role} (i : ℕ) → drop i x ≡ s → Stood s cs rs → names_at x (places_from q q i cs) ≡ named q rs
  unfolding places_from named
  names_stand i e at_end = refl
  names_stand i e (no_token {b = b} {s = s} {cs = cs} st) = other_byte i 0 cs (λ f. omega arith) ∙ names_stand (suc i) (next_of x i b s e) st
  names_stand i e (a_role {b = b} {s = s} {cs = cs} {rs = rs} r p st) = role_here i b s cs r rs e p (names_stand (suc i) (next_of x i b s e) st)

-- Rows ---------------------------------------------------------------------------------------------

pub rows_stand : {s cs : List ℕ} {rs : List Role} (q n : ℕ) → 0 < q → Stood s cs rs → offsets_from q n cs ≡ offsets_from q n (map code rs)
unfolding offsets_from with_one
rows_stand q n l at_end = refl
rows_stand q n l (no_token st) = rw (offsets_from, ne_eqb 0 q (λ e. omega arith)) (rows_stand q n l st)
rows_stand q n l (a_role {cs = cs} {rs = rs} r p st) = go (eqb (code r) new_struct_role) refl (rows_stand q (with_one (eqb (code r) q) n) l st)
  where
    m : ℕ
    m = with_one (eqb (code r) q) n

    go : (t : Bool) → eqb (code r) new_struct_role ≡ t → offsets_from q m cs ≡ offsets_from q m (map code rs)
        → offsets_from q n (code r ∷ cs) ≡ offsets_from q n (code r ∷ map code rs)
    go true e rec = rw (offsets_from, e) (ap (λ k. n ∷ k) rec)
    go false e rec = rw (offsets_from, e) rec

-- Types ----------------------------------------------------------------------------------------------

pub type_near : (t : TypeName) → type_number t < 4
unfolding type_number
type_near int_type = omega arith
type_near nat_type = omega arith
type_near bool_type = omega arith
type_near (id_type y) = omega arith

pub type_spelt : (t : TypeName) (s : List ℕ) → Spelt (type_token t) s → type_here (type_number t) s ≡ t
unfolding type_number type_token Spelt type_here
type_spelt int_type s p = refl
type_spelt nat_type s p = refl
type_spelt bool_type s p = refl
type_spelt (id_type y) s p = ap (λ z. id_type z) p

module _ (x codes : List ℕ) (names : List Id) where
  abbrev bytes : List ℕ → List ℕ
  bytes l = types_at x codes names l

  no_type : (i c : ℕ) (cs : List ℕ) → (c < first_type_role) ⊎ (last_par_type_role < c)
      → bytes (places_from first_type_role last_par_type_role i (c ∷ cs)) ≡ bytes (places_from first_type_role last_par_type_role (suc i) cs)
  unfolding places_from between
  no_type i c cs (inl l) = rw (places_from, lt-leb first_type_role c l) refl
  no_type i c cs (inr l) = rw (places_from, le-leb first_type_role c (omega arith), lt-leb c last_par_type_role l) refl

  type_at_place : (i b : ℕ) (s cs : List ℕ) (t : TypeName) (rs : List Role) → drop i x ≡ b ∷ s → drop i codes ≡ (first_type_role + type_number t) ∷ cs
      → Spelt (type_token t) (b ∷ s) → bytes (places_from first_type_role last_par_type_role (suc i) cs) ≡ map (byte_of names) (par_types rs)
      → bytes (places_from first_type_role last_par_type_role i ((first_type_role + type_number t) ∷ cs)) ≡ byte_of names t ∷ map (byte_of names) (par_types rs)
  unfolding places_from between types_at
  type_at_place i b s cs t rs e f p rec =
      let n = type_near t in
      let g : (get_or codes i 0 - first_type_role) ≡ type_number t = let h = first_of codes i (first_type_role + type_number t) cs f in omega (arith, h) in
      let k : type_here (get_or codes i 0 - first_type_role) (drop i x) ≡ t =
      ap (λ m. type_here m (drop i x)) g ∙ ap (type_here (type_number t)) e ∙ type_spelt t (b ∷ s) p in
      rw (
        places_from,
        le-leb first_type_role (first_type_role + type_number t) (omega arith),
        le-leb (first_type_role + type_number t) last_par_type_role (omega (arith, n)),
      )
      (both _ _ _ _ (ap (byte_of names) k) rec)
    where
      both : (a c : ℕ) (k l : List ℕ) → a ≡ c → k ≡ l → a ∷ k ≡ c ∷ l
      both a c k l f g = cc

  type_here_or_not : (i b : ℕ) (s cs : List ℕ) (r : Role) (rs : List Role) → drop i x ≡ b ∷ s → drop i codes ≡ code r ∷ cs → Spelt (token_of r) (b ∷ s)
      → bytes (places_from first_type_role last_par_type_role (suc i) cs) ≡ map (byte_of names) (par_types rs)
      → bytes (places_from first_type_role last_par_type_role i (code r ∷ cs)) ≡ map (byte_of names) (par_types (r ∷ rs))
  unfolding code typed_code token_of par_types
  type_here_or_not i b s cs (plain t) rs e f p rec = no_type i (code (plain t)) cs (inl (omega (arith, (kind_within t).1))) ∙ rec
  type_here_or_not i b s cs (naming m y) rs e f p rec = no_type i (naming_code m) cs (inl (naming_near m).1) ∙ rec
  type_here_or_not i b s cs (typed of_par t) rs e f p rec = type_at_place i b s cs t rs e f p rec
  type_here_or_not i b s cs (typed of_local t) rs e f p rec = no_type i (local_int_role + type_number t) cs (inr (omega arith)) ∙ rec
  type_here_or_not i b s cs (typed of_null t) rs e f p rec = no_type i (null_int_role + type_number t) cs (inr (omega arith)) ∙ rec
  type_here_or_not i b s cs (part g) rs e f p rec = no_type i (part_code g) cs (inr (omega (arith, part_far g))) ∙ rec

  pub types_stand : {s cs : List ℕ} {rs : List Role} (i : ℕ) → drop i x ≡ s → drop i codes ≡ cs → Stood s cs rs
      → bytes (places_from first_type_role last_par_type_role i cs) ≡ map (byte_of names) (par_types rs)
  unfolding places_from par_types types_at
  types_stand i e f at_end = refl
  types_stand i e f (no_token {b = b} {s = s} {cs = cs} st) =
      no_type i 0 cs (inl (omega arith)) ∙ types_stand (suc i) (next_of x i b s e) (next_of codes i 0 cs f) st
  types_stand i e f (a_role {b = b} {s = s} {cs = cs} {rs = rs} r p st) =
      type_here_or_not i b s cs r rs e f p (types_stand (suc i) (next_of x i b s e) (next_of codes i (code r) cs f) st)
