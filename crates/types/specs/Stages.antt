-- The stages of an entry (01, 'Numbers from the input'): each goes on with a value or stops with a number. An entry is one expression of them.
use Rattle.std.specs.Prelude.{ℕ, ◌≡◌, Bool, true, false}
use Rattle.std.proofs.Math.Option.{Option, none, some}
use Rattle.types.specs.Orders.{Order, Tells}

pub data Stage (A : Type 0) : Type 0 where
  went : A → Stage A
  stopped : ℕ → Stage A

-- one stage after another
unfoldable pub on : {A B : Type 0} → Stage A → (A → Stage B) → Stage B
on (went a) k = k a
on (stopped n) k = stopped n

-- a test: stopped with n where it is true
unfoldable pub asked : {A : Type 0} → Bool → ℕ → Stage A → Stage A
asked true n s = stopped n
asked false n s = s

-- a value that may lack: stopped with n where it does
unfoldable pub given : {A : Type 0} → Option A → ℕ → Stage A
given none n = stopped n
given (some a) n = went a

-- What a row of stages tells -----------------------------------------------------------

-- it went to its end, with a value of which D holds
abbrev pub Went : {A : Type 0} → (A → Type 0) → Stage A → Type 0
Went {A} D s = (a : A) × (s ≡ went a) × D a

-- it stopped with the number of the foremost condition, or none holds and it went to its end
abbrev pub Stages : {A : Type 0} → (A → Type 0) → Order → Stage A → Type 1
Stages D l s = Tells stopped (Went D) l s
