-- Derivation trees of program text: one constructor for each production of 000, section 3, under its names (02 §1: Int literals carry a sign, null is
-- followed by its type, String is no type). Rows of things (Pars, Steps, Exps, Stats) are lists; a schedule is a row of items. A name is its bytes.
use Rattle.std.specs.Prelude.{ℕ, Bool, List}
use Rattle.program.specs.Tree.{Op}
use Rattle.tokens.specs.Tokens.{Polarity}

abbrev pub Id : Type 0
Id = List ℕ

-- Type
pub data TypeName : Type 0 where
  int_type nat_type bool_type : TypeName
  id_type : Id → TypeName

-- digits as they are written
pub data Literal : Type 0 where
  int_literal : Polarity → List ℕ → Literal
  nat_literal : List ℕ → Literal
  bool_literal : Bool → Literal

-- Id | Id '.' Var
pub data Var : Type 0 where
  id : Id → Var
  dot : Id → Var → Var

mutual
  pub data Exp : Type 0 where
    -- Exp BOp Exp
    binary : Op → Exp → Exp → Exp
    -- '(' Exp ')'
    brackets : Exp → Exp
    -- '!' Exp
    negation : Exp → Exp
    -- Id '(' Exps ')'
    constructor : Id → Exps → Exp
    variable : Var → Exp
    literal : Literal → Exp
    -- 'null' Type
    null : TypeName → Exp
    this : Exp

  pub data Exps : Type 0 where
    no_exps : Exps
    exps : Exp → Exps → Exps

mutual
  pub data Stat : Type 0 where
    -- 'if' Exp 'then' '{' Stats '}'
    if_then : Exp → Stats → Stat
    -- Type Id ':=' Exp ';'
    assignment : TypeName → Id → Exp → Stat
    -- Var ':=' Exp ';'
    update : Var → Exp → Stat
    -- Id '(' Exps ')' ';'
    construct : Id → Exps → Stat

  pub data Stats : Type 0 where
    no_stats : Stats
    stats : Stat → Stats → Stats

-- Id ':' Type
pub data Par : Type 0 where
  par : Id → TypeName → Par

-- Id '{' Stats '}'
pub data Step : Type 0 where
  step : Id → Stats → Step

-- 'struct' Id '(' Pars ')' '{' Steps '}'
pub data Struct : Type 0 where
  struct : Id → List Par → List Step → Struct

-- Struct | Struct Defs
pub data Defs : Type 0 where
  last_struct : Struct → Defs
  defs : Struct → Defs → Defs

mutual
  pub data Item : Type 0 where
    -- Id; Id '.' Id; 'Fix' '(' Sched ')'
    execution : Id → Item
    typed_execution : Id → Id → Item
    fixpoint : Sched → Item

  pub data Sched : Type 0 where
    last_item : Item → Sched
    -- Item '<' Sched
    barrier : Item → Sched → Sched

-- Defs Sched
pub data Program : Type 0 where
  program : Defs → Sched → Program
