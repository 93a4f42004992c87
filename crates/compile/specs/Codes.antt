-- The codes of items as a walk over the stream writes them (01, 'Table and turns'; `memory/specs/Plan.antt` says what they mean).
use Rattle.std.specs.Prelude.{ℕ, ◌≡◌, List, length, replicate}
use Rattle.types.specs.Limits.{max_structs, fix_levels}
use Rattle.program.specs.Tree.{Item, Items, Items.stop, Items.item}
use Rattle.program.specs.Reader.{Result, many, read_item, read_items}
use Rattle.machine.specs.Published.{Sched.done, of_item, of_items}
use Rattle.emit.specs.declared.Put.{Put}
use Rattle.emit.specs.Written.{Ready, Wrote}
use Rattle.memory.specs.Plan.{laid, laid_out}

-- of one item, and of items in a row, from a place on
unfoldable pub item_codes : ℕ → Item → List ℕ
item_codes at i = laid (of_item i done) at

unfoldable pub items_codes : ℕ → Items → List ℕ
items_codes at is = laid (of_items is) at

-- of the whole schedule, with the end behind them
unfoldable pub schedule_codes : Items → List ℕ
schedule_codes is = laid_out (of_items is)

-- Items are read as in a program with as many structs as there may be: the walk asks nothing of the structs.
unfoldable pub any_structs : List ℕ
any_structs = replicate max_structs 0

-- an item, n items in a row, a count and so many items, with at most d levels of Fix; and the schedule
abbrev pub item_at : List ℕ → ℕ → ℕ → Result Item
item_at s d at = read_item any_structs s d at

abbrev pub row_at : List ℕ → ℕ → ℕ → ℕ → Result Items
row_at s d n at = many stop item (λ m. item_at s d m) n at

abbrev pub items_at : List ℕ → ℕ → ℕ → Result Items
items_at s d at = read_items any_structs s (λ m. item_at s d m) at

abbrev pub schedule_at : List ℕ → ℕ → Result Items
schedule_at s at = items_at s fix_levels at

-- of items R, which are written from k on, n are left at p: once they are written, R is
pub record Left (s : List ℕ) (d n : ℕ) (R : Result Items) (out : List ℕ) (k : ℕ) (p : Put) (out1 : List ℕ) : Type 0 where
  pub ready : Ready (items_codes p.at) (row_at s d n p.next) out1 p.at
  pub kept : length out1 ≡ length out
  pub whole : (q : Put) (out2 : List ℕ) → Wrote (items_codes p.at) (row_at s d n p.next) out1 p.at q out2 → Wrote (items_codes k) R out k q out2
