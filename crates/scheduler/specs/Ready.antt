-- What the code of a move may rely on, as plain bounds (01, 'Table and turns'): its places lie in the lists, and it stands at an item.
use Rattle.std.specs.Prelude.{ℕ, ◌*◌, ◌^◌, ◌<◌, ◌≤◌, ◌≡◌, List, length, get_or}
use Rattle.types.specs.Limits.{max_structs, step_names, fix_levels}
use Rattle.layout.specs.Layout.{head, head_size, struct_of, end_of}
use Rattle.layout.specs.declared.Numbers.{Numbers}
use Rattle.layout.specs.Codes.{fix_code, round_code}

-- two numbers for each struct and name
abbrev pub spans_size : ℕ
spans_size = 2 * (step_names * max_structs)

-- instance l stands in heads, of a struct that a program may have
pub record Row (heads : List ℕ) (l : ℕ) : Type 0 where
  pub long : head l end_of < length heads
  pub known : get_or heads (head l struct_of) 0 < max_structs

-- n of them
pub record Rows (heads : List ℕ) (n : ℕ) : Type 0 where
  pub long : head_size * n ≤ length heads
  pub known : (l : ℕ) → l < n → get_or heads (head l struct_of) 0 < max_structs

-- a machine by its numbers, with an entry for each open Fix, stands at an item that is not the end
pub record Movable (items spans heads : List ℕ) (n : Numbers) : Type 0 where
  pub spanned : spans_size ≤ length spans
  pub rows : Rows heads n.count
  pub within : n.place < length items
  pub item : fix_code < get_or items n.place 0 → round_code 0 ≤ get_or items n.place 0
  pub entries : n.stable < 2 ^ n.fixes
  -- where a Fix comes next, an entry is free
  pub free : get_or items n.place 0 ≡ fix_code → n.fixes < fix_levels
