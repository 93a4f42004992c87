-- 4 and 5 of 'Numbers from the input' (01), as relations on the fronts of encodings: "stream ends early or goes on after its end" and
-- "a byte not allowed at its place", each with its place. The place of a 5 is the first byte with which no program goes on. Nothing here
-- speaks of reading.
use Rattle.std.specs.Prelude.{ℕ, suc, ◌<◌, ◌≤◌, ◌≡◌, List, [], ◌∷◌, ◌++◌, length, take}
use Rattle.types.specs.Limits.{expr_levels}
use Rattle.program.specs.Tree.{Program}
use Rattle.program.specs.Encoding.{enc_program}
use Rattle.program.specs.Levels.{levels_program}
use Rattle.program.specs.Counts.{CountsTo, Counts}

-- the bytes xs are a front of es, whose levels are ls, and none of xs stands deeper than d
pub data Front (d : ℕ) : List ℕ → List ℕ → List ℕ → Type 0 where
  front_none : {es ls : List ℕ} → Front d [] es ls
  front_byte : {x l : ℕ} {xs es ls : List ℕ} → l ≤ d → Front d xs es ls → Front d (x ∷ xs) (x ∷ es) (l ∷ ls)

-- each byte of s stands where it is allowed: some program goes on with s, and no byte of s stands deeper than 01's levels. Behind s the
-- program may go one level deeper: the byte that opens a level more offends, and not the operator in front of it.
pub record Allowed (s : List ℕ) : Type 0 where
  pub program : Program
  pub counts : CountsTo (suc expr_levels) program
  pub front : Front expr_levels s (enc_program program) (levels_program program)

-- s is the whole stream of a program
abbrev pub Whole : List ℕ → Type 0
Whole s = (p : Program) × (Counts p) × (s ≡ enc_program p)

-- 4: the stream s ends early, or goes on at place n after its end
pub data EndsAt (s : List ℕ) : ℕ → Type 0 where
  stops_short : Allowed s → (Whole s → ⊥) → EndsAt s (length s)
  runs_on : (p : Program) (b : ℕ) (bs : List ℕ) → Counts p → s ≡ enc_program p ++ b ∷ bs → EndsAt s (length (enc_program p))

-- 5: the byte at place n of s is not allowed, and those before it are, which are no program yet
pub record OffendsAt (s : List ℕ) (n : ℕ) : Type 0 where
  pub inside : n < length s
  pub before : Allowed (take n s)
  pub unfinished : Whole (take n s) → ⊥
  pub not_allowed : Allowed (take (suc n) s) → ⊥
