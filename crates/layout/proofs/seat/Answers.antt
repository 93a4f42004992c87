-- `seat` meets its contract: six stores in a row.
use Rattle.std.proofs.Common.{ℕ, ◌+◌, ◌*◌, add-zero, add-one, arith, ◌≡◌, List, set, length-set}
use Rattle.std.proofs.Math.Numerals.{add-two, add-three}
use Rattle.std.proofs.lemmas.List.Edits.{sets}
use native.Mathlib.Numerals.{add-four, add_five}
use Rattle.layout.specs.Layout.{head_size, new_head}
use Rattle.layout.proofs.seat.Goals as goal

six : (h : List ℕ) (at k : ℕ)
    → set (set (set (set (set (set h (at + 0) k) (at + 1) 0) (at + 2) 0) (at + 3) 0) (at + 4) 0) (at + 5) 0 ≡ sets h at (new_head k)
six h at k = rw (add-zero at, add-one at, add-two at, add-three at, add-four at, add_five at)

pub bounds-heads-at-2 : goal.bounds-heads-at-2
bounds-heads-at-2 c = simp length-set (omega arith)

pub bounds-heads-at-3 : goal.bounds-heads-at-3
bounds-heads-at-3 c = simp length-set (omega arith)

pub bounds-heads-at-4 : goal.bounds-heads-at-4
bounds-heads-at-4 c = simp length-set (omega arith)

pub bounds-heads-at-5 : goal.bounds-heads-at-5
bounds-heads-at-5 c = simp length-set (omega arith)

pub bounds-heads-at-6 : goal.bounds-heads-at-6
bounds-heads-at-6 c = simp length-set (omega arith)

pub returns : goal.returns
returns c = let args = c.args in six args.heads.now (head_size * args.l) args.k
