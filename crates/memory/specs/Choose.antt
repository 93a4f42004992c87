-- Which instances hold commands, and which of them a turn byte picks, on memory (01, 'Table and turns').
use Rattle.std.specs.Prelude.{ℕ, zero, suc, ◌-◌, ◌≡◌, Bool, true, false, List, [], ◌∷◌}
use Rattle.run.specs.Turns.{round_from, chosen}
use Rattle.layout.specs.Layout.{holds}
use Rattle.layout.specs.State.{State}

-- how many of the n instances from l on hold commands
unfoldable pub holding : List ℕ → ℕ → ℕ → ℕ
holding heads l zero = 0
holding heads l (suc n) = elim (holds heads l) [ true ↦ suc (holding heads (suc l) n) | false ↦ holding heads (suc l) n ]

-- how many do behind a command, where n did before it, by whether its actor still does
unfoldable pub fewer : Bool → ℕ → ℕ
fewer true n = n
fewer false n = n - 1

-- the number of holders that the machine keeps is the one counted from its instances (02, 'Holders kept as a number')
abbrev pub Kept : State → Type 0
Kept z = z.machine.holding ≡ holding z.heads 0 z.machine.count

-- whether each of the n instances from l on holds commands
unfoldable pub flags : List ℕ → ℕ → ℕ → List Bool
flags heads l zero = []
flags heads l (suc n) = holds heads l ∷ flags heads (suc l) n

-- the holder that the byte e picks among those of n instances, counted from label s (02, 'Turns that go round')
unfoldable pub picked : List ℕ → ℕ → ℕ → ℕ → ℕ
picked heads s n e = chosen (round_from s (flags heads 0 n)) e
