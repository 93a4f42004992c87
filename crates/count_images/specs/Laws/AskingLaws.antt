-- What memory says of a step, a label and a parameter is what the program and its table say (02 §14: 7, 21 and 8).
use Prim.Native.Nat.{ℕ, zero, suc, ◌+◌, ◌-◌, ◌*◌, ◌<◌, ◌≤◌}
use Rattle.std.proofs.Common.{arith, zero-add, sym, ap₂, subst, ◌∙◌}
use Rattle.std.proofs.Math.Numerals.{add-one}
use Rattle.std.specs.Prelude.{◌≡◌, Bool, not, ◌||◌, List, [], ◌∷◌, ◌++◌, map, get_or, eqb, leb}
use Rattle.std.proofs.Math.Path.{refl, ap}
use Rattle.std.proofs.Math.Bool.{true, false}
use Rattle.std.proofs.Math.Option.{Option, none, some}
use Rattle.std.proofs.Math.ListN.{length, get_elem?, length-map, length-append}
use Rattle.std.proofs.Math.Dec.{ltb}
use borrow.Author.Tests.{le-leb, lt-leb, leb-true, leb-false, eqb-true, eqb-false, eq-eqb, ne_eqb, ltb-true, ltb-false, lt-ltb, le-ltb}
use Rattle.types.specs.Limits.{max_params, step_names}
use Rattle.types.specs.Numbers.{absent, wrong_types}
use Rattle.types.specs.Types.{Ty, Ty.int, Ty.nat, Ty.bool, Ty.ref, type_of}
use Rattle.types.proofs.Laws.TypeLaws.{type_of_struct}
use Rattle.program.specs.Tree.{Stmts, Step, Program}
use Rattle.commands.specs.Context.{params_of, find_step, step_of}
use Rattle.commands.specs.Decide.{member}
use Rattle.commands.specs.Decide.NamesDecide.{stepped}
use Rattle.commands.specs.Names.{names_of_steps}
use Rattle.table.specs.Table.{Record, struct_at}
use Rattle.machine.specs.Published.{structs}
use Rattle.machine.specs.Machine.{Instance, Machine}
use Rattle.run.specs.Begin.{resting, nulls, first_instances}
use Rattle.sound.proofs.Laws.BeginGood.{nulls_length, null_at}
use Rattle.sound.proofs.Laws.ElemLaws.{some_is, at_append, at_behind, map_at}
use Rattle.layout.specs.Layout.{head, struct_of}
use Rattle.memory.specs.Plan.{span_of, from, to, Spans, Located}
use Rattle.table_read.specs.Params.{types_from}
use Rattle.table_read.specs.Laws.LaidLaws.{at_none}
use Rattle.counts.specs.CountEntry.{type_in, type_at, is_bool}
use Rattle.count_images.specs.Asking.{has_step, bool_byte, type_number, param_number, place_number}

-- Steps ------------------------------------------------------------------------------------

module _ (spans : List ℕ) (name n k : ℕ) where
  pub step_none : n ≤ k → has_step spans name k (n - k) ≡ false
  unfolding has_step
  step_none h = let e : n - k ≡ 0 = omega (arith, h) in rw e

  one_more : k < n → has_step spans name k (n - k) ≡ leb (from spans k name) (to spans k name) || has_step spans name (k + 1) (n - (k + 1))
  unfolding has_step
  one_more h = let e : n - k ≡ suc (n - (k + 1)) = omega (arith, h) in rw (e, has_step, add-one k)

  pub step_here : k < n → get_or spans (span_of k name) 0 ≤ get_or spans (span_of k name + 1) 0 → has_step spans name k (n - k) ≡ true
  step_here h q =
      let w : from spans k name ≤ to spans k name = rw (add-one (span_of k name)) at q in one_more h ∙ rw (le-leb (from spans k name) (to spans k name) w)

  pub step_past : k < n → get_or spans (span_of k name + 1) 0 < get_or spans (span_of k name) 0
      → has_step spans name k (n - k) ≡ has_step spans name (k + 1) (n - (k + 1))
  step_past h q =
      let w : to spans k name < from spans k name = rw (add-one (span_of k name)) at q in one_more h ∙ rw (lt-leb (from spans k name) (to spans k name) w)

-- the step of a struct by its name
unfoldable is_there : Option Stmts → Bool
is_there none = false
is_there (some b) = true

find_member : (ts : List Step) (n : ℕ) → is_there (find_step ts n) ≡ member n (names_of_steps ts)
unfolding is_there find_step member names_of_steps
find_member [] n = refl
find_member (t ∷ ts) n = go (eqb t.name n) refl (find_member ts n)
  where
    go : (b : Bool) → eqb t.name n ≡ b → is_there (find_step ts n) ≡ member n (names_of_steps ts)
        → is_there (elim b [ true ↦ some t.body | false ↦ find_step ts n ]) ≡ eqb n t.name || member n (names_of_steps ts)
    go true e f = rw (eq-eqb n t.name (sym (eqb-true t.name n e)))
    go false e f = rw (ne_eqb n t.name (λ q. eqb-false t.name n e (sym q))) f

spans_there : (list : List ℕ) (a e : ℕ) (o : Option Stmts) → Spans list a e o → leb a e ≡ is_there o
unfolding is_there
spans_there list a e none s = lt-leb a e s
spans_there list a e (some b) s = le-leb a e s.0

steps_there : (spans : List ℕ) (n j : ℕ) (tss : List (List Step))
    → ((k : ℕ) → k < length tss → leb (from spans (j + k) n) (to spans (j + k) n) ≡ member n (names_of_steps (get_or tss k [])))
    → has_step spans n j (length tss) ≡ stepped n tss
unfolding has_step stepped
steps_there spans n j [] h = refl
steps_there spans n j (ts ∷ tss) h =
    let z : j + 0 ≡ j = omega arith in
    let a = subst (λ x. leb (from spans x n) (to spans x n) ≡ member n (names_of_steps ts)) z (h 0 (omega arith)) in
    let b =
    steps_there spans n (suc j) tss (λ k q.
    let e : j + suc k ≡ suc j + k = omega arith in
    subst (λ x. leb (from spans x n) (to spans x n) ≡ member n (names_of_steps (get_or tss k []))) e (h (suc k) (omega (arith, q)))) in
    ap₂ (λ x y. x || y) a b

-- memory has the step exactly where a struct does
pub step_had : (p : Program) (list spans : List ℕ) → Located p list spans → length p.steps ≡ structs p → (n : ℕ) → n < step_names
    → has_step spans n 0 (structs p) ≡ stepped n p.steps
step_had p list spans located e n h =
    ap (has_step spans n 0) (sym e)
    ∙ steps_there spans n 0 p.steps (λ k q.
    let z : k ≡ 0 + k = omega arith in
    subst (λ x. leb (from spans x n) (to spans x n) ≡ member n (names_of_steps (get_or p.steps k []))) z
    (spans_there list (from spans k n) (to spans k n) (step_of p k n) (located k n (omega (arith, q, e)) h) ∙ find_member (get_or p.steps k []) n))

-- The parameter ------------------------------------------------------------------------------

-- 21, 8 or 0, of what is there
unfoldable pub place_told : Option Ty → ℕ
place_told none = absent
place_told (some t) = elim (is_bool t) [ true ↦ 0 | false ↦ wrong_types ]

type_told : (c : ℕ) → type_number c ≡ place_told (some (type_of c))
unfolding type_number place_told is_bool type_of
type_told zero = refl
type_told (suc zero) = refl
type_told (suc (suc zero)) = refl
type_told (suc (suc (suc c))) =
    let n : ℕ = suc (suc (suc c)) in
    let a : type_number n ≡ wrong_types = rw (type_number, ne_eqb n 2 (omega arith)) in
    let b : place_told (some (type_of n)) ≡ wrong_types = rw (type_of_struct n (omega arith)) in
    a ∙ sym b

types_there : (ts : List ℕ) (i n v : ℕ) → v < n → get_elem? (types_from ts i n) v ≡ some (type_of (get_or ts (i + v) 0))
unfolding types_from
types_there ts i zero v h = absurd (omega (arith, h))
types_there ts i (suc n) zero h = let e : i ≡ i + 0 = omega arith in ap (λ x. some (type_of (get_or ts x 0))) e
types_there ts i (suc n) (suc v) h =
    let e : suc i + v ≡ i + suc v = omega arith in types_there ts (suc i) n v (omega (arith, h)) ∙ ap (λ x. some (type_of (get_or ts x 0))) e

types_absent : (ts : List ℕ) (i n v : ℕ) → n ≤ v → get_elem? (types_from ts i n) v ≡ none
unfolding types_from
types_absent ts i zero v h = refl
types_absent ts i (suc n) zero h = absurd (omega (arith, h))
types_absent ts i (suc n) (suc v) h = types_absent ts (suc i) n v (omega (arith, h))

pub param_told : (counts types : List ℕ) (k v : ℕ) → param_number counts types k v ≡ place_told (get_elem? (types_from types (max_params * k) (get_or counts k 0)) v)
unfolding param_number place_told
param_told counts types k v = go (leb (get_or counts k 0) v) refl
  where
    go : (b : Bool) → leb (get_or counts k 0) v ≡ b
        → elim b [ true ↦ absent | false ↦ type_number (get_or types (max_params * k + v) 0) ] ≡ place_told (get_elem? (types_from types (max_params * k) (get_or counts k 0)) v)
    go true e = sym (ap place_told (types_absent types (max_params * k) (get_or counts k 0) v (leb-true (get_or counts k 0) v e)))
    go false e =
        let h = leb-false (get_or counts k 0) v e in
        type_told (get_or types (max_params * k + v) 0) ∙ sym (ap place_told (types_there types (max_params * k) (get_or counts k 0) v (omega (arith, h))))

-- The label -----------------------------------------------------------------------------------

module _ (p : Program) (rs : List Record) (l : ℕ) where
  front_long : length (nulls 0 p.params) ≡ structs p
  front_long = nulls_length 0 p.params

  -- a label that is there is of its instance's struct
  pub struct_there : {i : Instance} → get_elem? (first_instances p rs) l ≡ some i → struct_at p.params rs l ≡ some i.struct
  unfolding struct_at first_instances
  struct_there {i} g = go (ltb l (structs p)) refl
    where
      go : (b : Bool) → ltb l (structs p) ≡ b
          → elim b [ true ↦ some l | false ↦ elim (get_elem? rs (l - structs p)) [ none ↦ none | some r ↦ some r.struct ] ] ≡ some i.struct
      go true e =
          let h = ltb-true l (structs p) e in
          let a = at_append (nulls 0 p.params) (map (λ r. resting r.struct r.values) rs) l _ (null_at 0 p.params l h) in
          let q = some_is (sym a ∙ g) in
          let w : 0 + l ≡ i.struct = ap (λ (j : Instance). j.struct) q in
          ap some (sym (zero-add l) ∙ w)
      go false e =
          let h = ltb-false l (structs p) e in
          let a = at_behind (nulls 0 p.params) (map (λ r. resting r.struct r.values) rs) l (omega (arith, front_long, h)) in
          let n : l - length (nulls 0 p.params) ≡ l - structs p = ap (λ x. l - x) front_long in
          let (r, u, w) = map_at (λ (r : Record). resting r.struct r.values) rs (l - structs p) i (sym (a ∙ ap (get_elem? (map (λ r. resting r.struct r.values) rs)) n) ∙ g) in
          let v : r.struct ≡ i.struct = ap (λ (j : Instance). j.struct) w in
          rw u (ap some v)

  pub struct_absent : length (first_instances p rs) ≤ l → struct_at p.params rs l ≡ none
  unfolding struct_at first_instances
  struct_absent h =
      let n = length-append (nulls 0 p.params) (map (λ r. resting r.struct r.values) rs) in
      let k = length-map rs (λ (r : Record). resting r.struct r.values) in
      let f = front_long in
      let a = le-ltb l (structs p) (omega (arith, h, n, k, f)) in
      let b = at_none rs (l - structs p) (omega (arith, h, n, k, f)) in
      rw (struct_at, a, b)

-- The ways through the code ---------------------------------------------------------------------

module _ (heads counts types : List ℕ) (count l v : ℕ) where
  abbrev struct_of_label : ℕ
  struct_of_label = get_or heads (head l struct_of) 0

  pub label_absent : count ≤ l → place_number heads counts types count l v ≡ absent
  unfolding place_number
  label_absent h = rw (place_number, le-leb count l h)

  label_there : l < count → place_number heads counts types count l v ≡ param_number counts types struct_of_label v
  unfolding place_number
  label_there h = rw (place_number, lt-leb count l h)

  pub param_absent : l < count → get_or counts struct_of_label 0 ≤ v → place_number heads counts types count l v ≡ absent
  unfolding param_number
  param_absent h k = label_there h ∙ rw (param_number, le-leb (get_or counts struct_of_label 0) v k)

  param_there : l < count → v < get_or counts struct_of_label 0
      → place_number heads counts types count l v ≡ type_number (get_or types (max_params * struct_of_label + v) 0)
  unfolding param_number
  param_there h k = label_there h ∙ rw (param_number, lt-leb (get_or counts struct_of_label 0) v k)

  module _ (h : l < count) (k : v < get_or counts struct_of_label 0) where
    pub no_bool : (get_or types (max_params * struct_of_label + v) 0 ≡ bool_byte → ⊥) → place_number heads counts types count l v ≡ wrong_types
    unfolding type_number
    no_bool e = param_there h k ∙ rw (type_number, ne_eqb (get_or types (max_params * struct_of_label + v) 0) bool_byte e)

    pub a_bool : get_or types (max_params * struct_of_label + v) 0 ≡ bool_byte → place_number heads counts types count l v ≡ 0
    unfolding type_number
    a_bool e = param_there h k ∙ rw (type_number, eq-eqb (get_or types (max_params * struct_of_label + v) 0) bool_byte e)
