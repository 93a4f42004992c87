-- What a list holds at the places of the directory (01, 'Names, types, commands').
use Rattle.std.specs.Prelude.{ℕ, ◌+◌, ◌≤◌, ◌≡◌, List, ◌++◌, length, take, drop}
use Rattle.std.proofs.Math.Option.{Option, none, some}
use Rattle.program.specs.Tree.{Stmts}
use Rattle.commands.specs.Coding.{words}
use Rattle.commands.specs.Commands.{commands}
use Rattle.directory.specs.declared.Row.{Row}

-- the words ws stand in the list from a place on
pub record Holds (list : List ℕ) (a : ℕ) (ws : List ℕ) : Type 0 where
  pub front : List ℕ
  pub back : List ℕ
  pub is : list ≡ front ++ (ws ++ back)
  pub place : length front ≡ a

-- the part of a list that a row marks
abbrev pub part : List ℕ → Row → List ℕ
part list r = take r.size (drop r.start list)

-- a row that is found marks the words of the step that is found, and none is found where there is no step
abbrev pub Marks : List ℕ → Option Row → Option Stmts → Type 0
Marks list none none = Unit {0}
Marks list none (some b) = ⊥
Marks list (some r) none = ⊥
Marks list (some r) (some b) = (r.start + r.size ≤ length list) × (part list r ≡ words (commands b))
