-- Words that are those of one or two parts that are read, and a few behind them; and what is left to be written.
use Rattle.std.specs.Prelude.{ℕ, ◌≡◌, List, ◌++◌, length}
use Rattle.program.specs.Reader.{Result}
use Rattle.emit.specs.declared.Put.{Put}
use Rattle.emit.specs.Written.{Good, next_of, code_of, Ready, Wrote}

-- the words of R are those of r with ws behind them, and R ends where r does
pub record Part {A B : Type 0} (F : A → List ℕ) (R : Result A) (f : B → List ℕ) (r : Result B) (ws : List ℕ) : Type 0 where
  pub good : Good r
  pub code : code_of F R ≡ code_of f r ++ ws
  pub next : next_of R ≡ next_of r

-- the words of R are those of r and then of q, which is read behind r, with ws behind them
pub record Parts {A B C : Type 0} (F : A → List ℕ) (R : Result A) (f : B → List ℕ) (r : Result B) (g : C → List ℕ) (q : ℕ → Result C)
    (ws : List ℕ) : Type 0 where
  pub first : Good r
  pub second : Good (q (next_of r))
  pub code : code_of F R ≡ code_of f r ++ (code_of g (q (next_of r)) ++ ws)
  pub next : next_of R ≡ next_of (q (next_of r))

-- of R, which is written from k on, r is left at p: once it is written, R is
pub record Rest {A : Type 0} (F : A → List ℕ) (R : Result A) (out : List ℕ) (k : ℕ) (r : Result A) (p : Put) (out1 : List ℕ) : Type 0 where
  pub ready : Ready F r out1 p.at
  pub kept : length out1 ≡ length out
  pub whole : (q : Put) (out2 : List ℕ) → Wrote F r out1 p.at q out2 → Wrote F R out k q out2
