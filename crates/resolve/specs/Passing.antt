-- What names stand for, role by role (02 §1): the pass over the uses of a text whose structs and step names are known. It leaves a number for each name that is
-- used, each type behind a declaration or null, each step and each local, the last one first; or nothing where one of them stands for nothing, a literal is
-- outside its type, arguments are other than one for each parameter, or a step has more locals than there are numbers for (17).
use Rattle.std.specs.Prelude.{ℕ, zero, suc, ◌+◌, eqb, ltb}
use mathlib.Core.List.{List, [], ◌∷◌, ◌++◌, map}
use Rattle.std.proofs.Math.Option.{Option, none, some}
use Rattle.std.proofs.Math.ListN.{length}
use Rattle.types.specs.Limits.{first_local, max_locals}
use Rattle.types.specs.Types.{code}
use Rattle.program.specs.Encoding.{var_code}
use Rattle.tokens.specs.Tokens.{Sign, Sign.lpar, Sign.rpar, Sign.lbrace, Sign.rbrace, Sign.comma, Sign.colon, Sign.semicolon, Sign.assign, Sign.dot, Sign.bang}
use Rattle.tokens.specs.Tokens.{Token, Token.word, Token.sign, Token.op, Token.name, Token.int, Token.nat}
use Rattle.syntax.specs.Syntax.{Id, TypeName, Par, Struct, Literal.int_literal, Literal.nat_literal}
use Rattle.meaning.specs.Scope.{par_id, par_type, struct_id, pars_of, Local, Local.declared}
use Rattle.meaning.specs.Finding.{find, absent}
use Rattle.meaning.specs.Meant.{then, provided, literal_meaning, type_meaning, referred, start}
use Rattle.text_shape.specs.Roles.{Typed, Typed.of_par, Typed.of_local, Typed.of_null, Naming, Naming.new_struct, Naming.new_par, Naming.new_step}
use Rattle.text_shape.specs.Roles.{Naming.new_local}
use Rattle.text_shape.specs.Roles.{Naming.first_read, Naming.first_written, Naming.later_variable, Naming.made, Naming.made_statement, Naming.called}
use Rattle.text_shape.specs.Roles.{Naming.called_struct, Naming.called_step}
use Rattle.text_shape.specs.Roles.{Part, Part.brackets_open, Part.brackets_close, Part.args_open, Part.args_close, Part.no_args_close, Part.pars_open}
use Rattle.text_shape.specs.Roles.{Part.pars_close, Part.fix_open, Part.fix_close, Part.steps_open, Part.steps_close, Part.body_open, Part.body_close}
use Rattle.text_shape.specs.Roles.{Part.then_open, Part.then_close, Part.par_comma, Part.arg_comma, Part.barrier_sign, Role, Role.plain, Role.naming}
use Rattle.text_shape.specs.Roles.{Role.typed}
use Rattle.text_shape.specs.Roles.{Role.part}

pub record Pass : Type 0 where
  -- the structs that are not begun; the parameters of the struct at hand
  pub left : List Struct
  pub own : List Par
  -- the living locals; the local whose declaration is not at its end; the names declared in the step
  pub alive : List Local
  pub fresh : List Local
  pub met : List Id
  -- the type of the variable or declaration passed last
  pub type : TypeName
  -- of each argument list that is open, how many arguments are not at their end; of each if that is open, the locals alive before it
  pub dues : List ℕ
  pub bodies : List (List Local)
  -- the numbers, the last one first
  pub out : List ℕ

-- A number is left; argument lists, locals, structs change ----------------------------------------

-- all but the locals
abbrev pub moves : Pass → List Struct → List Par → TypeName → List ℕ → List ℕ → Pass
moves p ds ps t l o =
    record { left = ds; own = ps; alive = p.alive; fresh = p.fresh; met = p.met; type = t; dues = l; bodies = p.bodies; out = o }

unfoldable pub leaves : Pass → TypeName → ℕ → Pass
leaves p t n = moves p p.left p.own t p.dues (n ∷ p.out)

unfoldable pub opens : Pass → List ℕ → Pass
opens p l = moves p p.left p.own p.type l p.out

unfoldable pub begins : Pass → List Struct → Option Pass
begins p [] = none
begins p (d ∷ ds) = some (moves p ds (pars_of d) p.type p.dues p.out)

-- the locals
unfoldable pub lives : Pass → List Local → List Local → List Id → List (List Local) → Pass
lives p l f m b =
    record { left = p.left; own = p.own; alive = l; fresh = f; met = m; type = p.type; dues = p.dues; bodies = b; out = p.out }

-- an argument is at its end, and another follows; the last one is, or there is none
unfoldable pub goes_on : Pass → List ℕ → Option Pass
unfolding opens
goes_on p [] = none
goes_on p (zero ∷ l) = none
goes_on p (suc n ∷ l) = some (opens p (n ∷ l))

unfoldable pub closes : ℕ → Pass → List ℕ → Option Pass
unfolding provided opens
closes n p [] = none
closes n p (m ∷ l) = provided (eqb n m) (some (opens p l))

-- behind an if its locals are dead
unfoldable pub dies : Pass → List (List Local) → Option Pass
unfolding lives
dies p [] = none
dies p (l ∷ b) = some (lives p l [] p.met b)

-- Role by role ------------------------------------------------------------------------------------

-- one at a semicolon, the other at any other sign
abbrev pub at_semicolon : {A : Type 0} → Sign → A → A → A
at_semicolon lpar a b = b
at_semicolon rpar a b = b
at_semicolon lbrace a b = b
at_semicolon rbrace a b = b
at_semicolon comma a b = b
at_semicolon colon a b = b
at_semicolon semicolon a b = a
at_semicolon assign a b = b
at_semicolon dot a b = b
at_semicolon bang a b = b

module _ (ds : List Struct) (names : List Id) where
  unfoldable pub makes : Id → Pass → Option Pass
  unfolding then opens leaves
  makes x p = then (find struct_id x ds) (λ f. some (opens (leaves p p.type f.at) (length (pars_of f.element) ∷ p.dues)))

  unfoldable pub starts : Id → Pass → Option Pass
  unfolding then leaves
  starts x p = then (start ds p.own p.alive x) (λ s. some (leaves p s.type_of (var_code s.variable_of)))

  unfoldable pub numbered : Id → Pass → Option Pass
  unfolding then leaves
  numbered x p = then (find (λ z. z) x names) (λ f. some (leaves p p.type f.at))

  unfoldable pub declares : Id → Pass → Option Pass
  unfolding provided leaves lives
  declares x p =
      provided (absent x p.met) (provided (absent x (map par_id p.own)) (provided (ltb (length p.met) max_locals) (some
      (lives (leaves p p.type (first_local + length p.met)) p.alive (declared x (length p.met) p.type ∷ []) (x ∷ p.met) p.bodies))))

  unfoldable pub pass_name : Naming → Id → Pass → Option Pass
  unfolding then begins makes starts numbered declares leaves
  pass_name new_struct x p = begins p p.left
  pass_name new_par x p = some p
  pass_name new_step x p = numbered x p
  pass_name new_local x p = declares x p
  pass_name first_read x p = starts x p
  pass_name first_written x p = starts x p
  pass_name later_variable x p =
      then (referred ds p.type) (λ d. then (find par_id x (pars_of d)) (λ f. some (leaves p (par_type f.element) f.at)))
  pass_name made x p = makes x p
  pass_name made_statement x p = makes x p
  pass_name called x p = numbered x p
  pass_name called_struct x p = then (find struct_id x ds) (λ f. some (leaves p p.type f.at))
  pass_name called_step x p = numbered x p

  unfoldable pub pass_part : Part → Pass → Option Pass
  unfolding goes_on closes dies lives
  pass_part brackets_open p = some p
  pass_part brackets_close p = some p
  pass_part args_open p = some p
  pass_part args_close p = closes 1 p p.dues
  pass_part no_args_close p = closes 0 p p.dues
  pass_part pars_open p = some p
  pass_part pars_close p = some p
  pass_part fix_open p = some p
  pass_part fix_close p = some p
  pass_part steps_open p = some p
  pass_part steps_close p = some p
  pass_part body_open p = some p
  -- a step's locals are its own
  pass_part body_close p = some (lives p [] [] [] [])
  pass_part then_open p = some (lives p p.alive [] p.met (p.alive ∷ p.bodies))
  pass_part then_close p = dies p p.bodies
  pass_part par_comma p = some p
  pass_part arg_comma p = goes_on p p.dues
  pass_part barrier_sign p = some p

  -- a local is alive from the end of its declaration; a literal is of its type
  unfoldable pub pass_token : Token → Pass → Option Pass
  unfolding then lives
  pass_token (word w) p = some p
  pass_token (sign g) p = at_semicolon g (some (lives p (p.fresh ++ p.alive) [] p.met p.bodies)) (some p)
  pass_token (op o) p = some p
  pass_token (name x) p = some p
  pass_token (int g l) p = then (literal_meaning (int_literal g l)) (λ c. some p)
  pass_token (nat l) p = then (literal_meaning (nat_literal l)) (λ c. some p)

  -- the types of parameters are those of the declarations
  unfoldable pub pass_type : Typed → TypeName → Pass → Option Pass
  unfolding then leaves
  pass_type of_par t p = some p
  pass_type of_local t p = then (type_meaning ds t) (λ v. some (leaves p t (code v)))
  pass_type of_null t p = then (type_meaning ds t) (λ v. some (leaves p t (code v)))

  unfoldable pub pass : Role → Pass → Option Pass
  unfolding pass_token pass_name pass_type pass_part
  pass (plain t) p = pass_token t p
  pass (naming n x) p = pass_name n x p
  pass (typed u t) p = pass_type u t p
  pass (part g) p = pass_part g p

  unfoldable pub passes : List Role → Pass → Option Pass
  unfolding then pass
  passes [] p = some p
  passes (r ∷ k) p = then (pass r p) (passes k)
