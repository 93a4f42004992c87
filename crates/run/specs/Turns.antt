-- Turns (01, 'Table and turns'; 02, 'Turns that go round'): the instances of a published state that hold commands, and which of them a
-- byte picks.
use Rattle.std.specs.Prelude.{ℕ, suc, ◌%◌, Bool, true, false, List, [], ◌∷◌, ◌++◌, map, length, get_or, take, drop}
use Rattle.commands.specs.Commands.{Coms.nil, Coms.act, Coms.if_then}
use Rattle.machine.specs.Published.{Inst, Inst.inst}

-- the labels, from l on, at which true stands
unfoldable pub labels_from : ℕ → List Bool → List ℕ
labels_from l [] = []
labels_from l (true ∷ hs) = l ∷ labels_from (suc l) hs
labels_from l (false ∷ hs) = labels_from (suc l) hs

-- the same labels, counted from n and, past the highest, from 0
unfoldable pub round_from : ℕ → List Bool → List ℕ
round_from n hs = labels_from n (drop n hs) ++ labels_from 0 (take n hs)

-- the (e modulo R)th of the R holders, from 0, in the order in which they are counted
unfoldable pub chosen : List ℕ → ℕ → ℕ
chosen hs e = get_or hs (e % length hs) 0

-- whether an instance holds commands
abbrev pub holds_coms : Inst → Bool
holds_coms (inst k nil χ ξ) = false
holds_coms (inst k (act m c) χ ξ) = true
holds_coms (inst k (if_then b c) χ ξ) = true

-- the holders of a published state, counted from label n
unfoldable pub holders_of : ℕ → List Inst → List ℕ
holders_of n σ = round_from n (map holds_coms σ)
