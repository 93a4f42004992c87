-- The kind of each command in its place of the lent list, which 01 leaves open, by name.
use Rattle.std.specs.Prelude.{ℕ}

abbrev pub push_kind : ℕ
push_kind = 1

abbrev pub this_kind : ℕ
this_kind = 2

abbrev pub rd_kind : ℕ
rd_kind = 3

abbrev pub wr_kind : ℕ
wr_kind = 4

abbrev pub cons_kind : ℕ
cons_kind = 5

abbrev pub if_kind : ℕ
if_kind = 6

abbrev pub not_kind : ℕ
not_kind = 7

abbrev pub op_kind : ℕ
op_kind = 8
