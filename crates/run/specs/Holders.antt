-- The instances of a machine that hold commands (01, 'Table and turns'), in the order of turns (02, 'Turns that go round'); a byte picks one as
-- in Turns. Where nobody does, a move of the schedule is due.
use Rattle.std.specs.Prelude.{ℕ, Bool, true, false, List, [], ◌∷◌, map}
use Rattle.commands.specs.Noted.{Note}
use Rattle.machine.specs.Machine.{Instance, Machine}
use Rattle.run.specs.Turns.{round_from}

-- whether code is left
unfoldable pub holds_code : List Note → Bool
holds_code [] = false
holds_code (n ∷ c) = true

-- whether an instance holds commands, and of each of a list
abbrev pub flag : Instance → Bool
flag i = holds_code i.code

abbrev pub flags : List Instance → List Bool
flags is = map flag is

-- the holders of a machine, counted from its label
unfoldable pub holders : Machine → List ℕ
holders m = round_from m.from (flags m.instances)

-- whether no label is listed
unfoldable pub none_of : List ℕ → Bool
none_of [] = true
none_of (h ∷ hs) = false

-- a move of the schedule is due: nobody holds commands
unfoldable pub due : Machine → Bool
due m = none_of (holders m)
