-- An order followed by computation (02 §11): what it touches, whether that is apart, and where it leads.
use Rattle.std.specs.Prelude.{ℕ, Bool, true, false, ◌&&◌, List, [], ◌∷◌, ltb, eqb}
use Rattle.std.proofs.Math.Option.{Option, none, some}
use Rattle.std.proofs.Math.ListN.{get_elem?}
use Rattle.types.specs.Values.{Val.int_val, Val.nat_val, Val.bool_val, Val.label}
use Rattle.program.specs.Tree.{Program}
use Rattle.commands.specs.Noted.{Note, Note.n_push, Note.n_this, Note.n_not, Note.n_rd, Note.n_wr, Note.n_get, Note.n_set, Note.n_cons, Note.n_op, Note.n_if}
use Rattle.machine.specs.Published.{structs}
use Rattle.machine.specs.Machine.{Tagged, Instance, Machine, Out, Out.next, Out.refused, Out.stuck, command}
use Rattle.orders.specs.Touches.{Use, Use.reading, Use.writing}
use Rattle.orders.specs.Deeds.{Deed, Deed.nothing, Deed.reads, Deed.writes, Act}

-- of the label on top of a stack
unfoldable pub top_deed : (ℕ → Deed) → List Tagged → Deed
top_deed f [] = nothing
top_deed f (x ∷ χ) = elim x.is [ int_val z ↦ nothing | nat_val n ↦ nothing | bool_val b ↦ nothing | label q ↦ f q ]

-- a write to a null instance is none
unfoldable pub write_deed : Program → ℕ → ℕ → Deed
write_deed p v q = elim (ltb q (structs p)) [ true ↦ nothing | false ↦ writes q v ]

unfoldable pub code_deed : Program → List Tagged → List Note → Deed
code_deed p χ [] = nothing
code_deed p χ (n_push t v ∷ c) = nothing
code_deed p χ (n_this ∷ c) = nothing
code_deed p χ (n_not ∷ c) = nothing
code_deed p χ (n_rd k v ∷ c) = top_deed (λ q. reads q v) χ
code_deed p χ (n_wr k v ∷ c) = top_deed (write_deed p v) χ
code_deed p χ (n_get t x ∷ c) = nothing
code_deed p χ (n_set d t x ∷ c) = nothing
code_deed p χ (n_cons k ∷ c) = nothing
code_deed p χ (n_op o ∷ c) = nothing
code_deed p χ (n_if n ∷ c) = nothing

unfoldable pub deed_at : Program → Option Instance → Deed
deed_at p none = nothing
deed_at p (some i) = code_deed p i.stack i.code

-- on where a command leads
unfoldable pub onto : {A : Type 0} → (Machine → List A) → Out → List A
onto f (next m) = f m
onto f (refused n) = []
onto f stuck = []

-- the deeds of an order
unfoldable pub deeds_of : Program → Machine → List ℕ → List (Act Deed)
deeds_of p m [] = []
deeds_of p m (l ∷ ls) = record { actor = l; deed = deed_at p (get_elem? m.instances l) } ∷ onto (λ m'. deeds_of p m' ls) (command p l m)

-- the deed of a use
abbrev pub used : Use → ℕ → ℕ → Deed
used reading q v = reads q v
used writing q v = writes q v

-- Apart -------------------------------------------------------------------------------------

unfoldable pub every : {A : Type 0} → (A → Bool) → List A → Bool
every f [] = true
every f (x ∷ xs) = f x && every f xs

-- a deed touches parameter v of q
unfoldable pub touching : ℕ → ℕ → Deed → Bool
touching q v nothing = false
touching q v (reads r w) = eqb q r && eqb v w
touching q v (writes r w) = eqb q r && eqb v w

-- y does not touch what x writes, or is of the same actor
unfoldable pub clear_by : ℕ → Deed → Act Deed → Bool
clear_by a nothing y = true
clear_by a (reads q v) y = true
clear_by a (writes q v) y = elim (touching q v y.deed) [ true ↦ eqb a y.actor | false ↦ true ]

unfoldable pub all_clear : List (Act Deed) → Bool
all_clear ds = every (λ x. every (λ y. clear_by x.actor x.deed y) ds) ds

-- Where an order leads ---------------------------------------------------------------------------

unfoldable pub led : (Machine → Option Machine) → Out → Option Machine
led f (next m) = f m
led f (refused n) = none
led f stuck = none

unfoldable pub acted : Program → Machine → List ℕ → Option Machine
acted p m [] = some m
acted p m (l ∷ ls) = led (λ m'. acted p m' ls) (command p l m)
