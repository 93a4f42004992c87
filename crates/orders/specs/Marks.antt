-- What has been seen of each parameter while an order is followed, and whom a next touch meets there (02 §11).
use Rattle.std.specs.Prelude.{ℕ, true, false, ◌&&◌, eqb}
use Rattle.orders.specs.Deeds.{Deed, Deed.nothing, Deed.reads, Deed.writes}

-- nobody touched the parameter; one instance read it; two different ones did, or more; one wrote it, and nobody else touched it
pub data Mark : Type 0 where
  untouched : Mark
  read_by : ℕ → Mark
  read_by_two : ℕ → ℕ → Mark
  written_by : ℕ → Mark

-- the mark after a touch; or another instance, which it clashes with
pub data Met : Type 0 where
  passes : Mark → Met
  meets : ℕ → Met

-- instance l reads a parameter with this mark; writes it
unfoldable pub read_at : ℕ → Mark → Met
read_at l untouched = passes (read_by l)
read_at l (read_by a) = passes (elim (eqb l a) [ true ↦ read_by a | false ↦ read_by_two a l ])
read_at l (read_by_two a b) = passes (read_by_two a b)
read_at l (written_by a) = elim (eqb l a) [ true ↦ passes (written_by a) | false ↦ meets a ]

unfoldable pub write_at : ℕ → Mark → Met
write_at l untouched = passes (written_by l)
write_at l (read_by a) = elim (eqb l a) [ true ↦ passes (written_by a) | false ↦ meets a ]
write_at l (read_by_two a b) = meets (elim (eqb l a) [ true ↦ b | false ↦ a ])
write_at l (written_by a) = elim (eqb l a) [ true ↦ passes (written_by a) | false ↦ meets a ]

-- the marks of the parameters of all instances, by label and number; one of them changed; the first ones
abbrev pub Marks : Type 0
Marks = ℕ → ℕ → Mark

unfoldable pub marked : Marks → ℕ → ℕ → Mark → Marks
marked ms q v k r w = elim (eqb q r && eqb v w) [ true ↦ k | false ↦ ms r w ]

abbrev pub clean : Marks
clean q v = untouched

-- the marks after a deed of instance l; or the other instance, with the label and the parameter where they meet
pub data Noted : Type 0 where
  noted : Marks → Noted
  met : ℕ → ℕ → ℕ → Noted

unfoldable pub placed : Marks → ℕ → ℕ → Met → Noted
placed ms q v (passes k) = noted (marked ms q v k)
placed ms q v (meets a) = met a q v

unfoldable pub note : Marks → ℕ → Deed → Noted
note ms l nothing = noted ms
note ms l (reads q v) = placed ms q v (read_at l (ms q v))
note ms l (writes q v) = placed ms q v (write_at l (ms q v))
