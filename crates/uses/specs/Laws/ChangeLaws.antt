-- What names and types do to the pass over uses, in lent memory (02 §1): one law for each way through the code.
use Rattle.std.specs.Prelude.{ℕ, ◌+◌, ◌-◌, ◌≤◌, ◌<◌, ◌≡◌, Bool, List, [], length, drop, eqb, ltb, Some, None}
use Rattle.std.proofs.Common.{arith, ap, ◌∙◌, eqb-true}
use Rattle.std.proofs.Math.Path.{refl}
use Rattle.std.proofs.Math.Bool.{true, false}
use Rattle.std.proofs.Math.Option.{Option, none, some}
use Rattle.std.proofs.Math.ListN.{get_or}
use Rattle.std.proofs.lemmas.Bool.{eqb-false}
use Rattle.types.specs.Limits.{first_local}
use Rattle.types.specs.Types.{struct_code}
use Rattle.syntax.specs.Syntax.{Id}
use Rattle.text_shape.specs.Roles.{Naming.new_struct}
use Rattle.meaning.specs.Meant.{provided}
use Rattle.resolve.specs.Named.{sought}
use Rattle.resolve.specs.Using.{Book, Use, chosen, own_row, leave, use_listed, use_par, use_local, use_made, use_first, use_behind, use_new, use_name}
use Rattle.resolve.specs.UsingAt.{naming_at}
use Rattle.uses.specs.Lent.{book_in, use_in, Roomy, passed_in, Next}
use Rattle.uses.specs.Seeing.{called_among, seen_listed, seen_par, seen_local, seen_first, seen_behind, seen_left, seen_passed, retyped}
use Rattle.uses.specs.declared.Scope.{Scope}
use Rattle.text_shape.specs.RoleNames.{new_struct_role, new_par_role, new_step_role, new_local_role, first_read_role, first_written_role}
use Rattle.text_shape.specs.RoleNames.{later_variable_role, made_role, made_statement_role, called_role, called_struct_role, called_step_role}
use Rattle.text_shape.specs.RoleNames.{par_int_role}
use Rattle.uses.specs.Passed.{Seen, Passed, onward}

-- Names that are looked up -----------------------------------------------------------------------

-- what was seen is left
pub seen_pass : (x l k o : List ℕ) (c : Scope) (s : Seen) → passed_in x l k (seen_passed c s) o ≡ seen_left (use_in x l k c o) s
unfolding passed_in use_in seen_passed seen_left leave retyped
seen_pass x l k o c (Some (n, b)) = refl
seen_pass x l k o c None = refl

pub next_seen : (t l : List ℕ) (c : Scope) → Roomy t l c → (s : Seen) → Next t l c (seen_passed c s)
unfolding Next seen_passed retyped
next_seen t l c r (Some (n, b)) =
    (record { long = r.long; begun = r.begun; met = r.met; living = r.living; fresh = r.fresh; small = r.small }, omega arith)
next_seen t l c r None = tt

module _ (u : Use) where
  left_if : (t : Bool) (n b : ℕ) → seen_left u (chosen t (Some (n, b)) None) ≡ provided t (some (leave u b n))
  unfolding seen_left chosen provided
  left_if true n b = refl
  left_if false n b = refl

  left_listed : (l : List Id) (y : Id) → seen_left u (seen_listed l y u.type) ≡ use_listed l y u
  unfolding seen_listed use_listed
  left_listed l y = left_if (ltb (sought y l) (length l)) (sought y l) u.type

  left_par : (l : List Id) (ts : List ℕ) (y : Id) → seen_left u (seen_par l ts y) ≡ use_par l ts y u
  unfolding seen_par use_par
  left_par l ts y = left_if (ltb (sought y l) (length l)) (sought y l) (get_or ts (sought y l) 0)

  left_local : (l : List Id) (ns bs : List ℕ) (y : Id) → seen_left u (seen_local l ns bs y) ≡ use_local l ns bs y u
  unfolding seen_local use_local
  left_local l ns bs y = left_if (ltb (sought y l) (length l)) (first_local + get_or ns (sought y l) 0) (get_or bs (sought y l) 0)

  left_either : (t : Bool) (r s : Seen) (p q : Option Use) → seen_left u r ≡ p → seen_left u s ≡ q → seen_left u (chosen t r s) ≡ chosen t p q
  unfolding chosen
  left_either true r s p q e f = e
  left_either false r s p q e f = f

  left_only : (t : Bool) (r : Seen) (p : Option Use) → seen_left u r ≡ p → seen_left u (chosen t r None) ≡ provided t p
  unfolding chosen provided seen_left
  left_only true r p e = e
  left_only false r p e = refl

  module _ (b : Book) (y : Id) where
    left_first : seen_left u (seen_first b y u) ≡ use_first b y u
    unfolding seen_first use_first
    left_first =
        left_either (ltb (sought y (own_row b.rows u.begun)) (length (own_row b.rows u.begun))) _ _ _ _
        (left_par (own_row b.rows u.begun) (own_row b.types u.begun) y)
        (left_local (drop u.fresh u.living) (drop u.fresh u.numbers) (drop u.fresh u.bytes) y)

    left_behind : (c : ℕ) → seen_left u (seen_behind b c y) ≡ use_behind b c y u
    unfolding seen_behind use_behind seen_left
    left_behind c =
        left_either (ltb c struct_code) None _ none _ refl
        (left_only (ltb (c - struct_code) (length b.structs)) _ _
        (left_par (get_or b.rows (c - struct_code) []) (get_or b.types (c - struct_code) []) y))

-- what is seen does not hang on the stack and on what was left
same_first : (b : Book) (y : Id) (x l k o : List ℕ) (c : Scope) → seen_first b y (use_in x l [] c []) ≡ seen_first b y (use_in x l k c o)
unfolding seen_first use_in
same_first b y x l k o c = refl

-- The roles of names by their bytes ----------------------------------------------------------------

-- a number from a on is a, or one from the next on
next_or : (P : ℕ → Type 0) (a c : ℕ) → a ≤ c → P a → (a + 1 ≤ c → P c) → P c
next_or P a c h p q = go (eqb a c) refl
  where
    go : (t : Bool) → eqb a c ≡ t → P c
    go true e = let w : a ≡ c = eqb-true a c e in rw w at p
    go false e = let w : a ≡ c → ⊥ = eqb-false a c e in q (omega (arith, w))

module _ (x t l k o : List ℕ) (c : Scope) (y : Id) (role : ℕ) where
  abbrev book : Book
  book = book_in x t

  abbrev used : Use
  used = use_in x l k c o

  abbrev named : ℕ → Option Use
  named z = use_name book (naming_at z) y used

  -- what was looked up is left
  looked_up : {s v : Seen} {r : Passed} → s ≡ v → r ≡ seen_passed c s → seen_left used v ≡ named role → passed_in x l k r o ≡ named role
  looked_up {s} e f g = ap (λ m. passed_in x l k m o) f ∙ seen_pass x l k o c s ∙ ap (seen_left used) e ∙ g

  pub name_struct : role ≡ new_struct_role → use_name book new_struct y used ≡ named role
  unfolding naming_at
  name_struct e = rw e refl

  pub name_par : role ≡ new_par_role → passed_in x l k (onward c) o ≡ named role
  unfolding naming_at use_name passed_in
  name_par e = rw e refl

  -- the names of structs and steps are looked up among those that the role says
  abbrev LeftAt : ℕ → Type 0
  LeftAt z = seen_left used (seen_listed (called_among book z) y c.typ) ≡ named z

  left_at_step : (z : ℕ) → z ≡ new_step_role → LeftAt z
  unfolding naming_at use_name called_among chosen use_in
  left_at_step z w = rw w (left_listed used book.steps y)

  left_from_called : called_role ≤ role → role < par_int_role → LeftAt role
  unfolding naming_at use_name called_among chosen use_in
  left_from_called low high =
      next_or LeftAt called_role role low (left_listed used book.steps y)
      (λ h. next_or LeftAt called_struct_role role h (left_listed used book.structs y)
      (λ h. next_or LeftAt called_step_role role h (left_listed used book.steps y) (λ h. absurd (omega (arith, h, high)))))

  pub name_step : {s : Seen} {r : Passed} → role ≡ new_step_role → s ≡ seen_listed (called_among book role) y c.typ → r ≡ seen_passed c s
      → passed_in x l k r o ≡ named role
  name_step w e f = looked_up e f (left_at_step role w)

  pub name_local : role ≡ new_local_role → use_new book y used ≡ named role
  unfolding naming_at use_name
  name_local e = rw e refl

  pub name_first : {s : Seen} {r : Passed} → first_read_role ≤ role → role < later_variable_role → s ≡ seen_first book y (use_in x l [] c [])
      → r ≡ seen_passed c s
      → passed_in x l k r o ≡ named role
  unfolding naming_at use_name
  name_first low high e f =
      looked_up (e ∙ same_first book y x l k o c) f
      (left_first used book y
      ∙ next_or (λ z. use_first book y used ≡ named z) first_read_role role low refl
      (λ h. next_or (λ z. use_first book y used ≡ named z) first_written_role role h refl (λ h. absurd (omega (arith, h, high)))))

  pub name_later : {s : Seen} {r : Passed} → later_variable_role ≤ role → role < made_role → s ≡ seen_behind book c.typ y → r ≡ seen_passed c s
      → passed_in x l k r o ≡ named role
  unfolding naming_at use_name use_in
  name_later low high e f =
      let w : role ≡ later_variable_role = omega (arith, low, high) in
      looked_up e f (rw w (left_behind used book y c.typ))

  pub name_made : made_role ≤ role → role < called_role → use_made book y used ≡ named role
  unfolding naming_at use_name
  name_made low high =
      next_or (λ z. use_made book y used ≡ named z) made_role role low refl
      (λ h. next_or (λ z. use_made book y used ≡ named z) made_statement_role role h refl (λ h. absurd (omega (arith, h, high))))

  pub name_called : {s : Seen} {r : Passed} → called_role ≤ role → role < par_int_role → s ≡ seen_listed (called_among book role) y c.typ
      → r ≡ seen_passed c s
      → passed_in x l k r o ≡ named role
  name_called low high e f = looked_up e f (left_from_called low high)
