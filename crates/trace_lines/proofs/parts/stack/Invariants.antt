use Rattle.std.proofs.Common.{◌+◌, ◌-◌, ◌*◌, ◌≤◌, ◌≡◌, ◌∙◌, length}
use Rattle.layout.specs.Layout.{head}
use Rattle.text.specs.Listing.{Placed}
use Rattle.trace_lines.specs.Parts.{cell_most, cells_text}
use Rattle.trace_lines.proofs.parts.stack.Given as goal

abbrev pub invariant-loop-h : goal.invariant-loop-h
invariant-loop-h l =
    (length l.out ≡ length l.initial.out) × (l.h ≤ l.high) × (l.at ≤ l.k + cell_most * l.h) × Placed (cells_text l.heads l.cells l.l l.h) l.initial.out l.k l.at l.out
