use Rattle.std.proofs.Common.{◌-◌, ◌≤◌, ◌≡◌, [], ◌∷◌, length}
use Rattle.program.specs.Reader.{many}
use Rattle.read_params.specs.ParamsTold.{read_list}
use Rattle.read_params.specs.ParamsLeft.{ListsLeft}
use Rattle.read_params.proofs.lists.Given as goal

abbrev pub invariant-loop-k : goal.invariant-loop-k
invariant-loop-k l =
    (l.at ≤ l.next)
    × (l.next ≤ length l.s)
    × (length l.counts ≡ length l.initial.counts)
    × (length l.types ≡ length l.initial.types)
    × (ListsLeft l.s l.n (many [] ◌∷◌ (read_list l.s l.n) l.n l.at) 0 l.initial.counts l.initial.types (l.n - l.k) l.next l.k l.counts l.types)
