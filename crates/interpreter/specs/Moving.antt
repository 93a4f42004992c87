-- How many moves of the schedule are left to memory without a turn (01, 'Table and turns'): an entry that is false stands for one
-- passage more through a part of the schedule, and what is behind the place is passed once.
use Rattle.std.specs.Prelude.{ℕ, zero, suc, ◌+◌, ◌-◌, ◌*◌, ◌/◌, ◌%◌, List, length}

-- how many of the n lowest bits of s are 0
unfoldable pub zeros : ℕ → ℕ → ℕ
zeros zero s = 0
zeros (suc n) s = (1 - s % 2) + zeros n (s / 2)

-- at a place, with so many open Fixes and their entries
unfoldable pub moves_left : List ℕ → ℕ → ℕ → ℕ → ℕ
moves_left items place fixes stable = zeros fixes stable * length items + (length items - place)
