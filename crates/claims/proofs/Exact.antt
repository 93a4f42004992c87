-- What the definitions compute is what they say (01, 'Program stream', 'Table and turns', 'Numbers from the input' and 'from the state';
-- 000, section 4): tests decide their conditions, readers read back what is written, and what is spoken of as one is one.
use Rattle.std.specs.Prelude.{ℕ, suc, ◌+◌, ◌*◌, ◌^◌, ◌<◌, ◌≤◌, ◌≡◌, ◌↔◌, Bool, true, false, ◌&&◌, List, [], ◌∷◌, ◌++◌, map, ℤ, length, get_or, take, drop, replicate}
use Rattle.std.proofs.Math.Option.{some}
use Rattle.std.proofs.Math.ListN.{get_elem?}
use Rattle.types.specs.Limits.{max_instances, max_commands, expr_levels}
use Rattle.types.specs.Reflects.{Reflects}
use Rattle.types.specs.Types.{Ty}
use Rattle.block.specs.Block.{block_size, payload_size}
use Rattle.block.specs.Sums.{wrap, Bytes as ByteList}
use Rattle.blocks.specs.Images.{most, fault, stream, image, pieces, read as read_image, read_into, write}
use Rattle.blocks.specs.Answers.{StreamRight, WriteSays}
use Rattle.blocks.proofs.AnswerLaws.{write_says, read_fits, write_fits, read_written_into}
use Rattle.blocks.proofs.ImageBytes.{image_bytes}
use Rattle.blocks.proofs.ImageRoundTrip.{one_image}
use Rattle.types.specs.TypeBytes.{TypeByte, is_type}
use Rattle.types.proofs.Laws.TypeLaws.{type_exact}
use Rattle.types.specs.Values.{Val, IntRange, in_int, int_word, default}
use Rattle.types.proofs.Laws.ValueLaws.{int_exact}
use Rattle.types.specs.Stages.{Stage.went as table}
use Rattle.program.specs.Tree.{Op, Expr, Program}
use Rattle.program.specs.Encoding.{enc_word, enc_program}
use Rattle.program.specs.Counts.{Counts, CountsTo}
use Rattle.program.specs.Levels.{levels_program}
use Rattle.program.specs.Reader.{Result.bad, read, wrong_end}
use Rattle.program.specs.Fronts.{Front, EndsAt, OffendsAt}
use Rattle.program.proofs.Laws.FrontLaws.{program_viable, ends_unique, offends_unique, levels_exactly}
use Rattle.commands.specs.Accepted.{Accepted}
use Rattle.commands.specs.Commands.{Coms, Coms.if_then, Flat.if_n, then, flatten}
use Rattle.commands.proofs.Laws.CommandLaws.{if_true, if_false}
use Rattle.commands.specs.Context.{Ctx}
use Rattle.commands.specs.Bounds.{Within}
use Rattle.commands.specs.Decide.BoundsDecide.{within}
use Rattle.commands.proofs.Decide.BoundsDecideLaws.{within_exact}
use Rattle.commands.specs.Names.{NamesRight}
use Rattle.commands.specs.Decide.NamesDecide.{stepped, names_right}
use Rattle.commands.proofs.Decide.NamesDecideLaws.{names_exact}
use Rattle.commands.specs.Typing.{Types, TypesRight}
use Rattle.commands.specs.Decide.TypingDecide.{types_right}
use Rattle.commands.proofs.Decide.TypingDecideLaws.{types_unique, types_exact}
use Rattle.operators.specs.Operators.{Applies, Exceeds}
use Rattle.operators.proofs.Laws.ApplyLaws.{applies_unique, applies_not_exceeds}
use Rattle.table.specs.Table.{Record, enc_table, HeldTable, TableRight}
use Rattle.table.specs.TableReader.{table_of_stream}
use Rattle.table.proofs.Laws.TableLaws.{table_back, table_injective}
use Rattle.table.proofs.Laws.SizeLaws.{Bytes, table_bytes}
use Rattle.table.specs.TableFaults.{Field, field_bytes, Allowed, Front as TableFront}
use Rattle.table.proofs.Laws.TableViable.{Viable, front_viable, offending_final}
use Rattle.machine.specs.Published.{StepCall, Sched, Sched.start, Inst, State, State.state, structs}
use Rattle.machine.specs.Rules.{meet, Actor, Actor.instance, Actor.schedule, Rule}
use Rattle.machine.proofs.Laws.RulesLaws.{meet_each}
use Rattle.machine.proofs.Laws.RuleUnique.{rule_unique, full_not_exceeded}
use Rattle.machine.specs.Stops.{Full, Exceeded}
use Rattle.machine.specs.Machine.{Instance, Machine, Out.stuck, Moved.stuck, command, move}
use Rattle.machine.specs.Represents.{Represents}
use Rattle.machine.proofs.Laws.RepresentsLaws.{Still}
use Rattle.machine.proofs.Laws.CommandAgrees.{command_stuck}
use Rattle.machine.proofs.Laws.MoveAgrees.{move_stuck}
use Rattle.run.specs.Turns.{labels_from, chosen}
use Rattle.run.specs.Holders.{holders, due}
use Rattle.run.proofs.Laws.TurnLaws.{labels_ascend, holder_chosen}
use Rattle.run.specs.Runs.{Config, Config.config, Runs, Passes}
use Rattle.run.proofs.Laws.RunAgreesVisits.{passes_bounded, all_taken}
use Rattle.run.specs.Run.{Outcome.jammed, run}
use Rattle.run.specs.Begin.{begin}
use Rattle.run.specs.Initial.{idle, of_record, first_insts, initially}
use Rattle.run.specs.Comes.{Comes}
use Rattle.run.proofs.Laws.BeginLaws.{null_at, record_at, first_length, begin_stands}
use Rattle.sound.specs.Invariant.{Good}
use Rattle.orders.specs.Orders.{Completes, Turns}
use Rattle.orders.specs.Touches.{Apart}
use Rattle.orders.specs.Constructing.{ConstructsNothing}
use Rattle.orders.specs.OrderFree.{OrderFree}
use Rattle.orders.specs.Meeting.{Meeting}
use Rattle.orders.specs.ZeroTurns.{Zeros, Answer.apart, Answer.together, Answer.unfinished}
use Rattle.orders.specs.StepAnswer.{alone, step_state, step_machine, constructing, StepAnswer.followed, step_answer}
use Rattle.orders.proofs.Laws.StepAnswerLaws.{step_apart_exact, step_free, step_meets, step_ends}
use Rattle.orders.proofs.Laws.OrderFreeLaws.{free_after}
use Rattle.claims.proofs.AnyRun.{run_jammed_exactly}
use Rattle.step_part.specs.StepPart.{step_place, step_part}
use Rattle.step_part.specs.StepPartLaws.{place_fits, place_part}
use Rattle.tokens.specs.Marking.{kinds_in}
use Rattle.text_shape.specs.CodeNames.{first_defs_code}
use Rattle.text_shape.specs.Shape.{Shape.shape, derived}
use Rattle.text_place.specs.Place.{stuck_from}
use Rattle.text_place.specs.DeadLaws.{stuck_underived}
use Rattle.table_words.specs.TableWords.{table_words}
use Rattle.table_stream.specs.TableStream.{stream_of}
use Rattle.table_stream.specs.StreamAgain.{Bytes as SmallBytes}
use Rattle.table_stream.specs.TableAgain.{table_again}
use Rattle.text.specs.Listing.{decimal, int_text}
use Rattle.text.specs.Decimals.{InDecimal, integer}
use Rattle.text.specs.DecimalLaws.{decimal_right, int_right}
use Rattle.std.specs.Prelude.{None, Ok}

-- Types and values ------------------------------------------------------------------------

-- "Types: 0 Int, 1 Nat, 2 Bool, 16 + k struct k, k below S"
pub type_byte_tested : (S b : ℕ) → Reflects (TypeByte S b) (is_type S b)
type_byte_tested = type_exact

pub int_range_tested : (z : ℤ) → Reflects (IntRange z) (in_int z)
int_range_tested = int_exact

-- an operator gives its operands one value at most, and none where 35 is due
pub result_one : {o : Op} {x y z w : Val} → Applies o x y z → Applies o x y w → z ≡ w
result_one a b = applies_unique a b

pub result_or_exceeded : {o : Op} {x y z : Val} → Applies o x y z → Exceeds o x y → ⊥
result_or_exceeded a b = applies_not_exceeds a b

-- Blocks ----------------------------------------------------------------------------------

-- "The used payloads, joined, are the stream": what is written of a stream is read back,
pub image_read_back : (max : ℕ) (s : List ℕ) → StreamRight max (length s) → (room : ℕ) → length s ≤ room → (buffer : List ℕ)
    → read_into (read_image max (image s) room) (stream (image s)) buffer ≡ s ++ drop (length s) buffer
image_read_back max s right room fits buffer = read_written_into max s right room fits buffer

-- what writing answers holds: a stream too long or empty, an output too short, or its blocks
pub write_answered : (max n room : ℕ) → WriteSays max n room (write max n room)
write_answered = write_says

-- a buffer as long as the payloads and an output as long as the blocks that are allowed are never too short
pub read_room : (max : ℕ) (x : List ℕ) (room : ℕ) → fault max x ≡ None → payload_size * most max ≤ room
    → read_image max x room ≡ Ok (length (stream x))
read_room = read_fits

pub write_room : (max n room : ℕ) → StreamRight max n → block_size * most max ≤ room → write max n room ≡ Ok (pieces n)
write_room = write_fits

-- its bytes are bytes,
pub image_bytes_small : (s : List ℕ) → ByteList s → length s ≤ payload_size * wrap → ByteList (image s)
image_bytes_small = image_bytes

-- and a stream has one accepted image
pub image_one : (max : ℕ) (x y : List ℕ) → ByteList x → ByteList y → fault max x ≡ None → fault max y ≡ None → stream x ≡ stream y → x ≡ y
image_one = one_image

-- Programs --------------------------------------------------------------------------------

-- 4 and 5 are told of one place each
pub end_one : (s : List ℕ) (n m : ℕ) → EndsAt s n → EndsAt s m → n ≡ m
end_one = ends_unique

pub offence_one : (s : List ℕ) (n m : ℕ) → OffendsAt s n → OffendsAt s m → n ≡ m
offence_one = offends_unique

-- a stream that ends early can be completed, at one level more at the most
pub stream_completed : (s : List ℕ) → read s ≡ bad (length s) wrong_end
    → (t : List ℕ) × (p : Program) × (CountsTo (suc expr_levels) p) × (s ++ t ≡ enc_program p)
stream_completed = program_viable

-- the level at which a byte stands is that of the counts
pub levels_counted : (p : Program) → CountsTo (suc expr_levels) p
    → Counts p ↔ Front expr_levels (enc_program p) (enc_program p) (levels_program p)
levels_counted = levels_exactly

-- 6, 7 and 8 are decided by their tests, and an expression has one type at most
pub limits_tested : (p : Program) → (within p ≡ true) ↔ Within p
limits_tested = within_exact

pub names_tested : (p : Program) → (names_right p ≡ true) ↔ NamesRight p
names_tested = names_exact

pub types_tested : (p : Program) → (types_right p ≡ true) ↔ TypesRight p
types_tested = types_exact

pub type_one : {G : Ctx} {e : Expr} {t u : Ty} → Types G e t → Types G e u → t ≡ u
type_one h l = types_unique h l

-- ComIfT and ComIfF on the list: after `if n` stand the body and then the rest, and without the n commands after it the rest
pub if_taken : (b c : Coms) → flatten (if_then b c) ≡ if_n (length (flatten b)) ∷ flatten (then b c)
if_taken = if_true

pub if_left_out : (b c : Coms) → drop (length (flatten b)) (flatten (then b c)) ≡ flatten c
if_left_out = if_false

-- "handed out as that part of the lent command list": the place and the length that are told mark the part, in the list and its first 1,024
-- places
module _ (x list : List ℕ) (k n : ℕ) where
  pub part_marked : take (step_place x list k n).len (drop (step_place x list k n).start list) ≡ step_part x list k n
  part_marked = place_part x list k n

  pub part_within : ((step_place x list k n).start + (step_place x list k n).len ≤ max_commands)
      × ((step_place x list k n).start + (step_place x list k n).len ≤ length list)
  part_within = place_fits x list k n

-- Tables ----------------------------------------------------------------------------------

module _ (pss : List (List Ty)) where
  -- a right table is read back from its bytes, which are no other's and below 256
  pub table_read_back : (rs : List Record) → TableRight pss rs → table_of_stream pss (enc_table rs) ≡ table rs
  table_read_back = table_back pss

  pub table_one : (qs rs : List Record) → HeldTable pss qs → HeldTable pss rs → enc_table qs ≡ enc_table rs → qs ≡ rs
  table_one = table_injective pss

  pub table_bytes_small : (rs : List Record) → HeldTable pss rs → Bytes (enc_table rs)
  table_bytes_small = table_bytes pss

  -- fields that are whole and allowed begin a table, and with one after them that is not allowed no table goes on
  pub fields_begin : 0 < length pss → length pss ≤ max_instances → {u : List ℕ} {f : Field} → TableFront pss u f → Viable pss u
  fields_begin s l h = front_viable pss s l h

  pub field_offends : {u : List ℕ} {f : Field} (w : ℕ) → TableFront pss u f → w < 256 ^ field_bytes f → (Allowed pss f w → ⊥)
      → Viable pss (u ++ enc_word (field_bytes f) w) → ⊥
  field_offends w h l n v = offending_final pss w h l n v

-- "A run starts with": label k below S is the null instance of struct k with its defaults, S + i is record i, and there are no others
module _ (p : Program) (rs : List Record) where
  pub first_null : (k : ℕ) → k < structs p → get_elem? (first_insts p rs) k ≡ some (idle k (map default (get_or p.params k [])))
  first_null = null_at p rs

  pub first_record : (i : ℕ) {r : Record} → get_elem? rs i ≡ some r → get_elem? (first_insts p rs) (structs p + i) ≡ some (of_record r)
  first_record i g = record_at p rs i g

  pub first_count : length (first_insts p rs) ≡ structs p + length rs
  first_count = first_length p rs

-- Rules -----------------------------------------------------------------------------------

-- sχ₁ ∧ su; ..; sχₙ ∧ su, as 000 prints it
pub entries_met : (su : Bool) (b : List Bool) → meet su b ≡ map (λ t. t && su) b
entries_met = meet_each

module _ (p : Program) where
  -- an instance's command gives a state one next state at most, and so does a move of the schedule; 34 and 35 are never due together
  pub next_one : (a : Actor) {st st' st'' : State} → Rule p a st st' → Rule p a st st'' → st' ≡ st''
  next_one a r q = rule_unique p a r q

  pub full_or_exceeded : {l : ℕ} {st : State} → Full l st → Exceeded l st → ⊥
  full_or_exceeded g h = full_not_exceeded p g h

  -- the machine is stuck exactly where no rule and no number's condition fits
  pub command_stuck_exactly : (l : ℕ) (m : Machine) (st : State) → Represents m st
      → (command p l m ≡ stuck) ↔ (((st' : State) → Rule p (instance l) st st' → ⊥) × (Full l st → ⊥) × (Exceeded l st → ⊥))
  command_stuck_exactly l m st R = command_stuck p l m st R

  pub move_stuck_exactly : (m : Machine) (st : State) → Represents m st → Still m.instances
      → (move p m ≡ stuck) ↔ ((st' : State) → Rule p schedule st st' → ⊥)
  move_stuck_exactly m st R t = move_stuck p m st R t

  -- a run is jammed exactly where the published rules come to nothing
  pub jammed_exactly : (rs : List Record) (es : List ℕ)
      → (run p (begin p rs) es ≡ jammed) ↔ ((n t k : ℕ) (rs' : List Record) → Comes p (initially p rs) es n t k rs' → ⊥)
  jammed_exactly rs es = run_jammed_exactly p (begin p rs) (begin_stands p rs) es

  -- a command is taken for each byte at most, and at 33 for every one
  pub turns_within : {c c' : Config} {es : List ℕ} {t : ℕ} → Passes p c es t c' → t ≤ length es
  turns_within v = passes_bounded p v

  pub turns_used_up : {c c' : Config} {es : List ℕ} {n t : ℕ} → Runs p c es n t c' → n ≡ 33 → t ≡ length es
  turns_used_up v e = all_taken p v e

-- "the (e modulo R)th holder, now counted from the label after the one that acted last, wrapping past the highest" (02 §5): each of the two parts
-- of a round ascends, and every holder is some byte's
pub labels_in_order : (l : ℕ) (bs : List Bool) (i : ℕ) → suc i < length (labels_from l bs)
    → get_or (labels_from l bs) i 0 < get_or (labels_from l bs) (suc i) 0
labels_in_order = labels_ascend

pub holder_picked : (m : Machine) (l : ℕ) {i : Instance} → get_elem? m.instances l ≡ some i → (i.code ≡ [] → ⊥)
    → (e : ℕ) × (e < length (holders m)) × (chosen (holders m) e ≡ l)
holder_picked m l g n = holder_chosen m l g n

-- where one order of a started step touches apart, its order does not matter (02 §11): from every machine with the invariant, so from wherever a
-- run may come to begin. `run_order_free` of Orders says it of the states of a run, by the published rules alone
pub order_free : {p : Program} → Accepted p → {m : Machine} → Good p m → {a : StepCall} {s : Sched} {σ : List Inst} {b : List Bool} {st z : State}
    → Represents m (state (start a s) σ b) → Rule p schedule (state (start a s) σ b) st → ConstructsNothing p a
    → {ls : List ℕ} → Completes p st ls z → Apart p st ls → OrderFree p st (length ls) z
order_free acc good R r makes c touch = free_after acc good R r makes c touch

-- whether a step is free of order on a table, as zero turn bytes show it (02 §11): 'apart' is answered exactly where some struct has the step, it
-- constructs nothing, and the order of zero bytes completes it and touches apart; then the step is free of order,
module _ (p : Program) (acc : Accepted p) (rs : List Record) (right : TableRight p.params rs) (n : ℕ) where
  pub step_apart_exactly : (t : ℕ)
      → (step_answer p rs n ≡ followed (apart t))
      ↔ ((stepped n p.steps ≡ true) × (constructing (step_machine (alone p n) rs n).instances ≡ false) × (ls : List ℕ) × (z : Machine)
      × (Zeros (alone p n) (step_machine (alone p n) rs n) ls z) × (due z ≡ true) × (length ls ≡ t) × (Apart p (step_state p rs n) ls))
  step_apart_exactly t = step_apart_exact p rs n acc right t

  pub step_apart_free : (t : ℕ) → step_answer p rs n ≡ followed (apart t)
      → (z : State) × (a : ℕ) × (Turns p (config 0 (step_state p rs n)) (replicate t 0) (config a z)) × (OrderFree p (step_state p rs n) t z)
  step_apart_free t e = step_free p rs n acc right t e

  -- where 'together' is answered two different instances meet, one of them by a write,
  pub step_together_meets : (t l a q v : ℕ) → step_answer p rs n ≡ followed (together t l a q v) → Meeting p (step_state p rs n) 0 t l a q v
  step_together_meets t l a q v e = step_meets p rs n acc right t l a q v e

  -- and following comes to an end
  pub step_followed : step_answer p rs n ≡ followed unfinished → ⊥
  step_followed e = step_ends p rs n acc right e

-- Listings --------------------------------------------------------------------------------

-- "value in decimal, a minus sign before a negative Int"
pub number_listed : (n : ℕ) → n < 2 ^ 64 → InDecimal n (decimal n)
number_listed = decimal_right

pub int_listed : (z : ℤ) → IntRange z → integer (int_text (int_word z)) ≡ z
int_listed = int_right

-- Messages, and inputs as numbers ------------------------------------------------------------

-- the place that is told beside 16 (02 asks for none): no derivation goes on with the token that stands there, whatever follows
pub stuck_told : (kinds more : List ℕ) → stuck_from (shape first_defs_code []) kinds < length kinds
    → derived (kinds_in (take (suc (stuck_from (shape first_defs_code []) kinds)) kinds) ++ more) ≡ false
stuck_told = stuck_underived

-- a table that is accepted, as numbers and these as a stream, is the stream that it was; cs are the counts of the structs' parameters
pub numbers_read_back : (pss : List (List Ty)) (cs ts : List ℕ) → ((k : ℕ) → k < length pss → get_or cs k 0 ≡ length (get_or pss k []))
    → (S : ℕ) (s : List ℕ) (rs : List Record) → SmallBytes s → table_of_stream pss s ≡ table rs → stream_of (table_words cs ts S s) ≡ s
numbers_read_back = table_again
