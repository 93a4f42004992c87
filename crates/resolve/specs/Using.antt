-- The pass over uses with its trees forgotten (02 §1): it goes by tables of declarations, and keeps names, numbers and bytes of types. What the code computes;
-- that it leaves what the pass over trees leaves is a law (`UsingTextLaws`).
use Rattle.std.specs.Prelude.{ℕ, zero, suc, ◌+◌, ◌-◌, Bool, true, false, get_or, eqb, leb, ltb}
use mathlib.Core.List.{List, [], ◌∷◌, map}
use Rattle.std.proofs.Math.Option.{Option, none, some}
use Rattle.std.proofs.Math.ListN.{length, drop}
use Rattle.types.specs.Limits.{first_local, max_locals}
use Rattle.types.specs.Types.{struct_code}
use Rattle.tokens.specs.Tokens.{Token, Token.word, Token.sign, Token.op, Token.name, Token.int, Token.nat}
use Rattle.syntax.specs.Syntax.{Id, TypeName, Struct, Literal.int_literal, Literal.nat_literal}
use Rattle.meaning.specs.Scope.{par_id, par_type, struct_id, pars_of}
use Rattle.meaning.specs.Meant.{then, provided, literal_meaning}
use Rattle.text_shape.specs.Roles.{Typed, Typed.of_par, Typed.of_local, Typed.of_null, Naming, Naming.new_struct, Naming.new_par, Naming.new_step}
use Rattle.text_shape.specs.Roles.{Naming.new_local, Naming.first_read, Naming.first_written, Naming.later_variable, Naming.made, Naming.made_statement}
use Rattle.text_shape.specs.Roles.{Naming.called, Naming.called_struct, Naming.called_step}
use Rattle.text_shape.specs.Roles.{Part, Part.brackets_open, Part.brackets_close, Part.args_open, Part.args_close, Part.no_args_close, Part.pars_open}
use Rattle.text_shape.specs.Roles.{Part.pars_close, Part.fix_open, Part.fix_close, Part.steps_open, Part.steps_close, Part.body_open, Part.body_close}
use Rattle.text_shape.specs.Roles.{Part.then_open, Part.then_close, Part.par_comma, Part.arg_comma, Part.barrier_sign, Role, Role.plain, Role.naming}
use Rattle.text_shape.specs.Roles.{Role.typed}
use Rattle.text_shape.specs.Roles.{Role.part}
use Rattle.resolve.specs.Named.{sought}
use Rattle.resolve.specs.Checks.{byte_of}
use Rattle.resolve.specs.Passing.{at_semicolon}

-- the names of structs, of each the names of its parameters and the bytes of their types; the names of steps
pub record Book : Type 0 where
  pub structs : List Id
  pub rows : List (List Id)
  pub types : List (List ℕ)
  pub steps : List Id

-- of a derivation
abbrev pub book_of : List Struct → List Id → Book
book_of ds names =
    record {
      structs = map struct_id ds;
      rows = map (λ d. map par_id (pars_of d)) ds;
      types = map (λ d. map (λ q. byte_of (map struct_id ds) (par_type q)) (pars_of d)) ds;
      steps = names;
    }

pub record Use : Type 0 where
  -- how many structs are begun; the names declared in the step, the last one first
  pub begun : ℕ
  pub met : List Id
  -- the living locals, behind the one whose declaration is not at its end: names, numbers, bytes of types; how many are not alive yet
  pub living : List Id
  pub numbers : List ℕ
  pub bytes : List ℕ
  pub fresh : ℕ
  -- the byte of the type passed last
  pub type : ℕ
  -- of each argument list that is open, how many arguments are not at their end; of each if that is open, how many locals were alive before it
  pub dues : List ℕ
  pub heights : List ℕ
  -- the numbers, the last one first
  pub out : List ℕ

-- before the first struct
abbrev pub use_start : Use
use_start = record { begun = 0; met = []; living = []; numbers = []; bytes = []; fresh = 0; type = 0; dues = []; heights = []; out = [] }

-- A number is left; argument lists, locals, structs change ----------------------------------------

-- all but the locals
abbrev pub move : Use → ℕ → ℕ → List ℕ → List ℕ → Use
move u k t l o =
    record {
      begun = k;
      met = u.met;
      living = u.living;
      numbers = u.numbers;
      bytes = u.bytes;
      fresh = u.fresh;
      type = t;
      dues = l;
      heights = u.heights;
      out = o;
    }

unfoldable pub leave : Use → ℕ → ℕ → Use
leave u t n = move u u.begun t u.dues (n ∷ u.out)

unfoldable pub due : Use → List ℕ → Use
due u l = move u u.begun u.type l u.out

unfoldable pub begin : Use → Use
begin u = move u (suc u.begun) u.type u.dues u.out

-- the locals
unfoldable pub live : Use → List Id → List ℕ → List ℕ → ℕ → List Id → List ℕ → Use
live u l ns bs f m h =
    record { begun = u.begun; met = m; living = l; numbers = ns; bytes = bs; fresh = f; type = u.type; dues = u.dues; heights = h; out = u.out }

-- the row of the struct begun last; the last h of a list; one of two
unfoldable pub own_row : {A : Type 0} → List (List A) → ℕ → List A
own_row l zero = []
own_row l (suc k) = get_or l k []

unfoldable pub last_of : {A : Type 0} → ℕ → List A → List A
last_of h l = drop (length l - h) l

unfoldable pub chosen : {A : Type 0} → Bool → A → A → A
chosen true a b = a
chosen false a b = b

-- Names ----------------------------------------------------------------------------------------------

-- the number of a name among others; a parameter of a row, with its type
unfoldable pub use_listed : List Id → Id → Use → Option Use
unfolding provided leave sought
use_listed l x u = provided (ltb (sought x l) (length l)) (some (leave u u.type (sought x l)))

unfoldable pub use_par : List Id → List ℕ → Id → Use → Option Use
unfolding provided leave sought
use_par l ts x u = provided (ltb (sought x l) (length l)) (some (leave u (get_or ts (sought x l) 0) (sought x l)))

-- a living local, by names, numbers and bytes of types
unfoldable pub use_local : List Id → List ℕ → List ℕ → Id → Use → Option Use
unfolding provided leave sought
use_local l ns bs x u = provided (ltb (sought x l) (length l)) (some (leave u (get_or bs (sought x l) 0) (first_local + get_or ns (sought x l) 0)))

module _ (b : Book) where
  -- the struct of a constructor: as many arguments are due as it has parameters
  unfoldable pub use_made : Id → Use → Option Use
  unfolding provided leave due sought
  use_made x u =
      provided (ltb (sought x b.structs) (length b.structs))
      (some (due (leave u u.type (sought x b.structs)) (length (get_or b.rows (sought x b.structs) []) ∷ u.dues)))

  -- the first variable of a path: a parameter of the struct at hand, or a living local
  unfoldable pub use_first : Id → Use → Option Use
  unfolding chosen use_par use_local own_row sought
  use_first x u =
      chosen (ltb (sought x (own_row b.rows u.begun)) (length (own_row b.rows u.begun)))
      (use_par (own_row b.rows u.begun) (own_row b.types u.begun) x u)
      (use_local (drop u.fresh u.living) (drop u.fresh u.numbers) (drop u.fresh u.bytes) x u)

  -- a later variable: a parameter of the struct that a type's byte names
  unfoldable pub use_behind : ℕ → Id → Use → Option Use
  unfolding chosen provided use_par
  use_behind c x u =
      chosen (ltb c struct_code) none
      (provided (ltb (c - struct_code) (length b.structs)) (use_par (get_or b.rows (c - struct_code) []) (get_or b.types (c - struct_code) []) x u))

  -- a local is declared
  unfoldable pub use_new : Id → Use → Option Use
  unfolding provided leave live own_row sought
  use_new x u =
      provided (leb (length u.met) (sought x u.met)) (provided
      (leb (length (own_row b.rows u.begun)) (sought x (own_row b.rows u.begun))) (provided (ltb (length u.met) max_locals) (some
      (live (leave u u.type (first_local + length u.met)) (x ∷ drop u.fresh u.living) (length u.met ∷ drop u.fresh u.numbers)
      (u.type ∷ drop u.fresh u.bytes) 1 (x ∷ u.met) u.heights))))

  unfoldable pub use_name : Naming → Id → Use → Option Use
  unfolding provided begin use_made use_first use_behind use_new use_listed
  use_name new_struct x u = provided (ltb u.begun (length b.structs)) (some (begin u))
  use_name new_par x u = some u
  use_name new_step x u = use_listed b.steps x u
  use_name new_local x u = use_new x u
  use_name first_read x u = use_first x u
  use_name first_written x u = use_first x u
  use_name later_variable x u = use_behind u.type x u
  use_name made x u = use_made x u
  use_name made_statement x u = use_made x u
  use_name called x u = use_listed b.steps x u
  use_name called_struct x u = use_listed b.structs x u
  use_name called_step x u = use_listed b.steps x u

  -- a type by its byte
  unfoldable pub use_type : Typed → TypeName → Use → Option Use
  unfolding provided leave byte_of
  use_type of_par t u = some u
  use_type of_local t u =
      provided (ltb (byte_of b.structs t) (struct_code + length b.structs)) (some (leave u (byte_of b.structs t) (byte_of b.structs t)))
  use_type of_null t u =
      provided (ltb (byte_of b.structs t) (struct_code + length b.structs)) (some (leave u (byte_of b.structs t) (byte_of b.structs t)))

-- Parts and tokens -------------------------------------------------------------------------------------

unfoldable pub use_goes : Use → List ℕ → Option Use
unfolding due
use_goes u [] = none
use_goes u (zero ∷ l) = none
use_goes u (suc n ∷ l) = some (due u (n ∷ l))

unfoldable pub use_closes : ℕ → Use → List ℕ → Option Use
unfolding provided due
use_closes n u [] = none
use_closes n u (m ∷ l) = provided (eqb n m) (some (due u l))

unfoldable pub use_dies : Use → List ℕ → Option Use
unfolding live last_of
use_dies u [] = none
use_dies u (h ∷ l) = some (live u (last_of h u.living) (last_of h u.numbers) (last_of h u.bytes) 0 u.met l)

unfoldable pub use_opens : Use → Use
unfolding live
use_opens u =
    live u (drop u.fresh u.living) (drop u.fresh u.numbers) (drop u.fresh u.bytes) 0 u.met
    (length (drop u.fresh u.living) ∷ u.heights)

unfoldable pub use_part : Part → Use → Option Use
unfolding use_goes use_closes use_dies use_opens live
use_part brackets_open u = some u
use_part brackets_close u = some u
use_part args_open u = some u
use_part args_close u = use_closes 1 u u.dues
use_part no_args_close u = use_closes 0 u u.dues
use_part pars_open u = some u
use_part pars_close u = some u
use_part fix_open u = some u
use_part fix_close u = some u
use_part steps_open u = some u
use_part steps_close u = some u
use_part body_open u = some u
use_part body_close u = some (live u [] [] [] 0 [] [])
use_part then_open u = some (use_opens u)
use_part then_close u = use_dies u u.heights
use_part par_comma u = some u
use_part arg_comma u = use_goes u u.dues
use_part barrier_sign u = some u

unfoldable pub use_token : Token → Use → Option Use
unfolding then live
use_token (word w) u = some u
use_token (sign g) u = at_semicolon g (some (live u u.living u.numbers u.bytes 0 u.met u.heights)) (some u)
use_token (op o) u = some u
use_token (name x) u = some u
use_token (int g l) u = then (literal_meaning (int_literal g l)) (λ c. some u)
use_token (nat l) u = then (literal_meaning (nat_literal l)) (λ c. some u)

-- Role by role -------------------------------------------------------------------------------------------

module _ (b : Book) where
  unfoldable pub use_role : Role → Use → Option Use
  unfolding use_token use_name use_type use_part
  use_role (plain t) u = use_token t u
  use_role (naming n x) u = use_name b n x u
  use_role (typed k t) u = use_type b k t u
  use_role (part g) u = use_part g u

  unfoldable pub uses : List Role → Use → Option Use
  unfolding then use_role
  uses [] u = some u
  uses (r ∷ k) u = then (use_role r u) (uses k)
