-- Rows at the bounds of counts (02 §1): 13 at one byte less than the largest image has; a schedule of 65 items in all, which a stream holds and the checker
-- refuses with 6 (01, 'Numbers from the input'); a schedule of 33 items, which no stream holds.
use Rattle.std.specs.Prelude.{ℕ, zero, suc, ◌*◌, ◌≤◌, ◌≡◌, refl, List, [], ◌∷◌, length}
use Rattle.std.proofs.Common.{arith, le-ltb, lt-ltb}
use Rattle.std.proofs.Math.Option.{some}
use Rattle.types.specs.Limits.{program_blocks}
use Rattle.types.specs.Numbers.{no_room, no_program}
use Rattle.types.specs.Stages.{Stage.went as written, Stage.stopped as refused, on, asked, given}
use Rattle.block.specs.Block.{block_size}
use Rattle.program.specs.Tree.{Stmts.end, Item.call, Item.fix, Items, Items.stop, Items.item, Program}
use Rattle.program.specs.Unfold.{encodings}
use Rattle.commands.specs.Bounds.{item_count, items_count}
use Rattle.tokens.specs.Rows.{text_P, P-lexed}
use Rattle.syntax.specs.Syntax.{Stats.no_stats, Step.step, Struct.struct, Defs.last_struct, Item.execution, Item.fixpoint, Sched, Sched.last_item}
use Rattle.syntax.specs.Syntax.{Sched.barrier, Program as Derivation, Program.program}
use Rattle.syntax.specs.Letters.{A, s}
use Rattle.syntax.specs.Rows.{P-derived}
use Rattle.meaning.specs.Unfold.{meanings, holding}
use Rattle.source.specs.TextReader.{of_program, of_derivation, of_tokens, outcome}
use Rattle.source.specs.Rows.{short_P}

-- 32,767 bytes are one too few for 64 blocks, and 32,768 are enough (`P-text`)
pub room_less_one : (out : List ℕ) → length out ≡ 32767 → outcome text_P out ≡ refused no_room
unfolding outcome of_tokens of_derivation of_program holding meanings encodings on asked given
room_less_one out h = rw (short_P, P-lexed, P-derived, lt-ltb (length out) (block_size * program_blocks) (omega (arith, h))) refl

-- s < s < .. before a schedule, so many times
unfoldable pub calls : ℕ → Sched → Sched
calls zero t = t
calls (suc n) t = barrier (execution s) (calls n t)

unfoldable pub calls_meant : ℕ → Items → Items
calls_meant zero is = is
calls_meant (suc n) is = item (call 0) (calls_meant n is)

-- struct A() { s { } } and a schedule
unfoldable pub scheduled : Sched → Derivation
scheduled t = program (last_struct (struct A [] (step s no_stats ∷ []))) t

unfoldable pub scheduled_meant : Items → Program
scheduled_meant is = record { params = [] ∷ []; steps = (record { name = 0; body = end } ∷ []) ∷ []; schedule = is }

-- 31 calls and a Fix of 31 calls and a Fix of one: 65 items in all, at most 32 in a row
unfoldable pub items_65 : Items
items_65 = calls_meant 31 (item (fix (calls_meant 31 (item (fix (item (call 0) stop)) stop))) stop)

pub sixty_five : items_count items_65 ≡ 65
unfolding items_65 calls_meant item_count items_count
sixty_five = refl

pub sixty_five_written : (out : List ℕ) → block_size * program_blocks ≤ length out
    → of_derivation (some (scheduled (calls 31 (last_item (fixpoint (calls 31 (last_item (fixpoint (last_item (execution s)))))))))) out
    ≡ written (scheduled_meant items_65)
unfolding scheduled scheduled_meant calls calls_meant items_65 item_count items_count of_derivation of_program holding meanings encodings on asked given
sixty_five_written out h = rw (le-ltb (length out) (block_size * program_blocks) h) refl

-- 33 items in a row
pub thirty_three_refused : (out : List ℕ) → of_derivation (some (scheduled (calls 32 (last_item (execution s))))) out ≡ refused no_program
unfolding scheduled calls of_derivation of_program holding meanings encodings on asked given
thirty_three_refused out = refl
