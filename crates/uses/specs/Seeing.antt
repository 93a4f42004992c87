-- What a name stands for (02 §1), as its number and the byte of a type, by what the pass over uses knows; and what is left of it.
use Rattle.std.specs.Prelude.{ℕ, ◌+◌, ◌-◌, ◌≡◌, List, [], length, get_or, set, drop, eqb, ltb, Some, None}
use Rattle.std.proofs.Math.Option.{Option, none, some}
use Rattle.types.specs.Limits.{first_local}
use Rattle.types.specs.Types.{struct_code}
use Rattle.syntax.specs.Syntax.{Id}
use Rattle.resolve.specs.Named.{sought}
use Rattle.resolve.specs.UsingAt.{use_at}
use Rattle.resolve.specs.Using.{Book, Use, chosen, own_row, leave}
use Rattle.uses.specs.declared.Scope.{Scope}
use Rattle.text_shape.specs.RoleNames.{called_struct_role}
use Rattle.uses.specs.Layout.{declared_end, living_end, numbers_end, bytes_end}
use Rattle.uses.specs.Passed.{Word, Seen, Passed, onward, leaves}

-- the names among which that of a struct or of a step is looked up, by its role
unfoldable pub called_among : Book → ℕ → List Id
unfolding chosen
called_among b c = chosen (eqb c called_struct_role) b.structs b.steps

unfoldable pub seen_listed : List Id → Id → ℕ → Seen
unfolding chosen sought
seen_listed l x b = chosen (ltb (sought x l) (length l)) (Some (sought x l, b)) None

unfoldable pub seen_par : List Id → List ℕ → Id → Seen
unfolding chosen sought
seen_par l ts x = chosen (ltb (sought x l) (length l)) (Some (sought x l, get_or ts (sought x l) 0)) None

unfoldable pub seen_local : List Id → List ℕ → List ℕ → Id → Seen
unfolding chosen sought
seen_local l ns bs x = chosen (ltb (sought x l) (length l)) (Some (first_local + get_or ns (sought x l) 0, get_or bs (sought x l) 0)) None

module _ (b : Book) where
  unfoldable pub seen_first : Id → Use → Seen
  unfolding chosen seen_par seen_local own_row sought
  seen_first x u =
      chosen (ltb (sought x (own_row b.rows u.begun)) (length (own_row b.rows u.begun)))
      (seen_par (own_row b.rows u.begun) (own_row b.types u.begun) x)
      (seen_local (drop u.fresh u.living) (drop u.fresh u.numbers) (drop u.fresh u.bytes) x)

  unfoldable pub seen_behind : ℕ → Id → Seen
  unfolding chosen seen_par
  seen_behind c x =
      chosen (ltb c struct_code) None
      (chosen (ltb (c - struct_code) (length b.structs)) (seen_par (get_or b.rows (c - struct_code) []) (get_or b.types (c - struct_code) []) x) None)

-- what is left of it
unfoldable pub seen_left : Use → Seen → Option Use
unfolding leave
seen_left u (Some (n, b)) = some (leave u b n)
seen_left u None = none

-- The pass with other counts -------------------------------------------------------------------

unfoldable pub retyped : Scope → ℕ → Scope
retyped c b = record { begun = c.begun; met = c.met; living = c.living; fresh = c.fresh; typ = b; dues = c.dues; bodies = c.bodies }

unfoldable pub dued : Scope → ℕ → Scope
dued c n = record { begun = c.begun; met = c.met; living = c.living; fresh = c.fresh; typ = c.typ; dues = n; bodies = c.bodies }

unfoldable pub lived : Scope → ℕ → ℕ → ℕ → Scope
lived c m n b = record { begun = c.begun; met = m; living = n; fresh = 0; typ = c.typ; dues = c.dues; bodies = b }

unfoldable pub seen_passed : Scope → Seen → Passed
unfolding retyped
seen_passed c (Some (n, b)) = leaves (retyped c b) n
seen_passed c None = None

-- by a literal's word
unfoldable pub word_passed : Word → Scope → Passed
word_passed (Some n) c = onward c
word_passed None c = None

-- a local in its table: n were alive, m declared
abbrev pub with_local : List ℕ → ℕ → ℕ → ℕ → ℕ → List ℕ
with_local l at m n b = set (set (set (set l (declared_end - (m + 1)) at) (living_end - (n + 1)) at) (numbers_end - (n + 1)) m) (bytes_end - (n + 1)) b

-- a role that leaves the pass as it is
abbrev pub Quiet : ℕ → Type 0
Quiet c = (b : Book) (s : List ℕ) (u : Use) → some u ≡ use_at b c s u
