-- What commands carry beside types (01, 'Program stream'): literals in their range, null labels, the numbers of locals and structs.
use Rattle.std.specs.Prelude.{ℕ, ◌<◌, Bool, List, [], ◌∷◌, ℤ}
use Rattle.types.specs.Limits.{nat_end, max_locals}
use Rattle.types.specs.Types.{Ty, Ty.int, Ty.nat, Ty.bool, Ty.ref}
use Rattle.types.specs.Values.{Val, Val.int_val, Val.nat_val, Val.bool_val, Val.label, IntRange}
use Rattle.commands.specs.Noted.{Note, Note.n_push, Note.n_this, Note.n_not, Note.n_rd, Note.n_wr, Note.n_get, Note.n_set, Note.n_cons, Note.n_op, Note.n_if}

-- of its type whatever instances there are beside the null ones of S structs
pub data Lasting (S : ℕ) : Ty → Val → Type 0 where
  an_int : {z : ℤ} → IntRange z → Lasting S int (int_val z)
  a_nat : {n : ℕ} → n < nat_end → Lasting S nat (nat_val n)
  a_bool : {t : Bool} → Lasting S bool (bool_val t)
  a_null : {k : ℕ} → k < S → Lasting S (ref k) (label k)

-- a command that carries only what is in its range
abbrev pub Sized : ℕ → Note → Type 0
Sized S (n_push t v) = Lasting S t v
Sized S n_this = Unit {0}
Sized S n_not = Unit {0}
Sized S (n_rd k x) = Unit {0}
Sized S (n_wr k x) = Unit {0}
Sized S (n_get t x) = Unit {0}
Sized S (n_set d t x) = x < max_locals
Sized S (n_cons k) = k < S
Sized S (n_op o) = Unit {0}
Sized S (n_if n) = Unit {0}

-- so of every command
pub data SizedAll (S : ℕ) : List Note → Type 0 where
  none : SizedAll S []
  more : {n : Note} {c : List Note} → Sized S n → SizedAll S c → SizedAll S (n ∷ c)
