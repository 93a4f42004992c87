-- The pass over uses and the pass with its trees forgotten agree on all roles: what the second leaves is what the uses of a derivation mean (`used_exactly`).
use Rattle.std.specs.Prelude.{ℕ, zero, suc, ◌≡◌, eqb}
use Rattle.std.proofs.Math.Path.{refl, subst}
use Rattle.std.proofs.Common.{ap}
use mathlib.Core.List.{List, [], ◌∷◌}
use Rattle.std.proofs.Math.Option.{Option, none, some}
use Rattle.program.specs.Tree.{Expr}
use Rattle.tokens.specs.Tokens.{Sign, Sign.lpar, Sign.rpar, Sign.lbrace, Sign.rbrace, Sign.comma, Sign.colon, Sign.semicolon, Sign.assign, Sign.dot}
use Rattle.tokens.specs.Tokens.{Sign.bang, Token, Token.word, Token.sign, Token.op, Token.name, Token.int, Token.nat}
use Rattle.syntax.specs.Syntax.{Id, Struct, Defs, Sched, Program.program, Literal.int_literal, Literal.nat_literal}
use Rattle.meaning.specs.Scope.{structs_of, Local}
use Rattle.meaning.specs.StepNames.{step_names}
use Rattle.meaning.specs.Meant.{then, provided, literal_meaning}
use Rattle.text_shape.specs.Roles.{Part, Part.brackets_open, Part.brackets_close, Part.args_open, Part.args_close, Part.no_args_close, Part.pars_open}
use Rattle.text_shape.specs.Roles.{Part.pars_close, Part.fix_open, Part.fix_close, Part.steps_open, Part.steps_close, Part.body_open, Part.body_close}
use Rattle.text_shape.specs.Roles.{Part.then_open, Part.then_close, Part.par_comma, Part.arg_comma, Part.barrier_sign, Role, Role.plain, Role.naming}
use Rattle.text_shape.specs.Roles.{Role.typed}
use Rattle.text_shape.specs.Roles.{Role.part, roles}
use Rattle.resolve.specs.Checks.{byte_of}
use Rattle.resolve.specs.Passing.{Pass, goes_on, closes, dies, pass_part, pass_token, pass, passes}
use Rattle.resolve.specs.Uses.{pass_start, used}
use Rattle.resolve.specs.Using.{book_of, Use, use_start, own_row, use_goes, use_closes, use_dies, use_part, use_token, use_role, uses}
use Rattle.resolve.specs.Laws.UsingLaws.{Behind, Opened, Opened.none_open, Opened.one_open, Agrees, Both, Both.neither, Both.both, both_if, agree_due}
use Rattle.resolve.specs.Laws.UsingLaws.{agree_none, agree_alive, agree_opened, agree_closed}
use Rattle.resolve.specs.Laws.UsingNameLaws.{name_both, type_both}

module _ (ds : List Struct) (names : List Id) where
  module _ {p : Pass} {u : Use} (s : Agrees ds names p u) where
    -- Argument lists and ifs -----------------------------------------------------------------------

    closes_both : (n : ℕ) (l : List ℕ) → Both ds names (closes n p l) (use_closes n u l)
    unfolding closes use_closes provided
    closes_both n [] = neither
    closes_both n (m ∷ l) = both_if ds names (eqb n m) (eqb n m) refl (both (agree_due ds names s l l refl))

    goes_both : (l : List ℕ) → Both ds names (goes_on p l) (use_goes u l)
    unfolding goes_on use_goes
    goes_both [] = neither
    goes_both (zero ∷ l) = neither
    goes_both (suc n ∷ l) = both (agree_due ds names s (n ∷ l) (n ∷ l) refl)

    dies_both : {a : List Local} {b : List (List Local)} {h : List ℕ} → Opened a b h → a ≡ p.alive → Both ds names (dies p b) (use_dies u h)
    unfolding dies use_dies
    dies_both none_open e = neither
    dies_both (one_open {l = l} k o) e = both (agree_closed ds names s l (subst (Behind l) e k) o)

    part_both : (g : Part) → Both ds names (pass_part ds names g p) (use_part g u)
    unfolding pass_part use_part
    part_both brackets_open = both s
    part_both brackets_close = both s
    part_both args_open = both s
    part_both args_close = subst (λ l. Both ds names (closes 1 p p.dues) (use_closes 1 u l)) s.dues (closes_both 1 p.dues)
    part_both no_args_close = subst (λ l. Both ds names (closes 0 p p.dues) (use_closes 0 u l)) s.dues (closes_both 0 p.dues)
    part_both pars_open = both s
    part_both pars_close = both s
    part_both fix_open = both s
    part_both fix_close = both s
    part_both steps_open = both s
    part_both steps_close = both s
    part_both body_open = both s
    part_both body_close = both (agree_none ds names s)
    part_both then_open = both (agree_opened ds names s)
    part_both then_close = dies_both s.bodies refl
    part_both par_comma = both s
    part_both arg_comma = subst (λ l. Both ds names (goes_on p p.dues) (use_goes u l)) s.dues (goes_both p.dues)
    part_both barrier_sign = both s

    -- Tokens -----------------------------------------------------------------------------------------

    literal_both : (o : Option Expr) → Both ds names (then o (λ c. some p)) (then o (λ c. some u))
    unfolding then
    literal_both none = neither
    literal_both (some c) = both s

    sign_both : (g : Sign) → Both ds names (pass_token ds names (sign g) p) (use_token (sign g) u)
    unfolding pass_token use_token
    sign_both lpar = both s
    sign_both rpar = both s
    sign_both lbrace = both s
    sign_both rbrace = both s
    sign_both comma = both s
    sign_both colon = both s
    sign_both semicolon = both (agree_alive ds names s)
    sign_both assign = both s
    sign_both dot = both s
    sign_both bang = both s

    token_both : (t : Token) → Both ds names (pass_token ds names t p) (use_token t u)
    unfolding pass_token use_token
    token_both (word w) = both s
    token_both (sign g) = sign_both g
    token_both (op o) = both s
    token_both (name x) = both s
    token_both (int g l) = literal_both (literal_meaning (int_literal g l))
    token_both (nat l) = literal_both (literal_meaning (nat_literal l))

    role_both : (r : Role) → Both ds names (pass ds names r p) (use_role (book_of ds names) r u)
    unfolding pass use_role
    role_both (plain t) = token_both t
    role_both (naming n x) = name_both ds names s n x
    role_both (typed k t) = type_both ds names s k t
    role_both (part g) = part_both g

  -- All roles ------------------------------------------------------------------------------------------

  roles_both : {p : Pass} {u : Use} (rs : List Role) → Agrees ds names p u → Both ds names (passes ds names rs p) (uses (book_of ds names) rs u)
  unfolding passes uses then
  roles_both [] s = both s
  roles_both (r ∷ rs) s = go (role_both s r) (λ q w t. roles_both {p = q} {u = w} rs t)
    where
      go : {o : Option Pass} {v : Option Use} → Both ds names o v
          → ((q : Pass) (w : Use) → Agrees ds names q w → Both ds names (passes ds names rs q) (uses (book_of ds names) rs w))
          → Both ds names (then o (passes ds names rs)) (then v (uses (book_of ds names) rs))
      go neither rec = neither
      go (both {p = q} {u = w} t) rec = rec q w t

  start_agrees : Agrees ds names (pass_start ds) use_start
  unfolding byte_of own_row
  start_agrees =
      record {
        left = refl;
        own = refl;
        types = refl;
        met = refl;
        living = refl;
        numbers = refl;
        bytes = refl;
        fresh = refl;
        type = refl;
        dues = refl;
        bodies = none_open;
        out = refl;
      }

-- what the uses of a derivation leave, by tables
pub used_by_tables : (d : Defs) (s : Sched)
    → used (program d s) ≡ then (uses (book_of (structs_of d) (step_names (structs_of d))) (roles (program d s)) use_start) (λ u. some u.out)
unfolding used then
used_by_tables d s = go (roles_both (structs_of d) (step_names (structs_of d)) (roles (program d s)) (start_agrees (structs_of d) (step_names (structs_of d))))
  where
    go : {o : Option Pass} {v : Option Use} → Both (structs_of d) (step_names (structs_of d)) o v
        → then o (λ q. some q.out) ≡ then v (λ u. some u.out)
    go neither = refl
    go (both a) = ap (λ l. some l) a.out
