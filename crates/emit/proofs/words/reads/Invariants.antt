use Rattle.std.proofs.Common.{◌+◌, ◌-◌, ◌≡◌, length}
use Rattle.std.proofs.lemmas.List.Edits.{sets}
use Rattle.emit.specs.Leaf.{rd_words}
use Rattle.emit.specs.Laws.LeafLaws.{ReadsLeft}
use Rattle.emit.proofs.words.reads.Given as goal

abbrev pub invariant-loop-x : goal.invariant-loop-x
invariant-loop-x l =
    (length l.out ≡ length l.initial.out) × (ReadsLeft l.s (l.at + l.x) (l.n - l.x) (l.k + l.x) l.out (sets l.initial.out l.k (rd_words l.s l.at l.n)))
